use Rattle.std.proofs.Common.{◌≡◌, ◌+◌, ◌<◌, ◌^◌, drop}
use Rattle.link_resolve.specs.Symbols.{section_total}
use Rattle.link_resolve.proofs.listing.are_few.Given as goal

abbrev pub invariant-loop-object : goal.invariant-loop-object
invariant-loop-object l = record { total : l.total + section_total (drop l.object-index l.objects) ≡ section_total l.objects; few : l.total < 2 ^ 31 }
