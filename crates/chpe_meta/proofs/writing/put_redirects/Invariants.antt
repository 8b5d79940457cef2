use Rattle.std.proofs.Common.{◌≡◌, ◌++◌, drop}
use Rattle.chpe_meta.specs.Format.{redirect_rows}
use Rattle.chpe_meta.proofs.writing.put_redirects.Given as goal

abbrev pub invariant-loop-r : goal.invariant-loop-r
invariant-loop-r l = l.out.items ++ redirect_rows (drop l.r-index l.redirects) ≡ l.initial.out.items ++ redirect_rows l.redirects
