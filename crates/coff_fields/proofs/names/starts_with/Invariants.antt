use Rattle.std.proofs.Common.{◌≡◌, drop}
use Rattle.coff_write.specs.Valid.{has_from}
use Rattle.coff_fields.proofs.names.starts_with.Given as goal

abbrev pub invariant-loop-k : goal.invariant-loop-k
invariant-loop-k l = has_from l.name l.k (drop l.k l.front) ≡ has_from l.name 0 l.front
