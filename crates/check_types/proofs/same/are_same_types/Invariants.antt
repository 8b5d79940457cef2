use Rattle.std.proofs.Common.{◌≡◌, drop}
use Rattle.c_typing.specs.TypeForms.{same_types}
use Rattle.check_types.proofs.same.are_same_types.Given as goal

abbrev pub invariant-loop-k : goal.invariant-loop-k
invariant-loop-k l = same_types (drop l.k l.left) (drop l.k l.right) ≡ same_types l.left l.right
