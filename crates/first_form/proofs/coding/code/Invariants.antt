use Rattle.std.proofs.Common.{◌≡◌, ◌++◌, drop}
use Rattle.first_form.specs.FirstCode.{body_of, spelled, code_of}
use Rattle.first_form.proofs.coding.code.Given as goal

-- the code so far is followed by that of the calls that are left
abbrev pub invariant-loop-put : goal.invariant-loop-put
invariant-loop-put l = l.code.items ++ spelled (body_of (drop l.put-index l.unit.puts.items) l.unit.status) ≡ code_of l.unit.puts.items l.unit.status
