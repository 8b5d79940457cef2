use Rattle.std.proofs.Common.{◌≡◌, drop}
use Rattle.pe_fields.specs.Space.{rest_at}
use Rattle.pe_fields.proofs.space.rest_at.Given as goal

abbrev pub invariant-loop-s : goal.invariant-loop-s
invariant-loop-s l = rest_at (drop l.s-index l.sections) l.rva ≡ rest_at l.sections l.rva
