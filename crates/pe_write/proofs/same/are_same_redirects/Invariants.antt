use Rattle.std.proofs.Common.{◌≡◌, drop}
use Rattle.pe_write_laws.specs.Places.{same_lists, same_redirect}
use Rattle.pe_write.proofs.same.are_same_redirects.Given as goal

abbrev pub invariant-loop-k : goal.invariant-loop-k
invariant-loop-k l = same_lists same_redirect (drop l.k l.left) (drop l.k l.right) ≡ same_lists same_redirect l.left l.right
