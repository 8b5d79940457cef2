use Rattle.std.proofs.Common.{◌≡◌, drop}
use Rattle.c_typing.specs.Structs.{same_fields}
use Rattle.check_decls.proofs.structs.are_same_fields.Given as goal

abbrev pub invariant-loop-k : goal.invariant-loop-k
invariant-loop-k l = same_fields (drop l.k l.left) (drop l.k l.right) ≡ same_fields l.left l.right
