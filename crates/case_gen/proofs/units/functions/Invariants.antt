-- The lines so far, and the draws that they took.
use Rattle.std.proofs.Common.{◌≡◌, ◌*◌, ◌-◌}
use Rattle.case_gen.specs.Numbers.{state_at}
use Rattle.case_gen.specs.Units.{functions_of}
use Rattle.case_gen.proofs.units.functions.Given as goal

abbrev pub invariant-loop-k : goal.invariant-loop-k
invariant-loop-k l = record { text : l.text.items ≡ functions_of l.number l.k; state : l.numbers.state ≡ state_at l.number (3 * (l.k - 1)) }
