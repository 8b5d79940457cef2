use Rattle.std.proofs.Common.{◌≡◌, ◌||◌, drop}
use Rattle.std.specs.List.{list_any}
use Rattle.pe_fields.specs.Hybrid.{is_astray}
use Rattle.pe_fields.proofs.hybrid.any_astray.Given as goal

abbrev pub invariant-loop-redirect : goal.invariant-loop-redirect
invariant-loop-redirect l = (l.found || list_any (is_astray l.meta.ranges) (drop l.redirect-index l.meta.redirects)) ≡ list_any (is_astray l.meta.ranges) l.meta.redirects
