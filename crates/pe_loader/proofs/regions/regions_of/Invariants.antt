use Rattle.std.proofs.Common.{◌≡◌, ◌++◌, drop}
use Rattle.machine_rules.specs.Loads.{segments_of}
use Rattle.pe_loader.specs.Loading.{HoldNoMore}
use Rattle.pe_loader.proofs.regions.regions_of.Given as goal

abbrev pub invariant-loop-s : goal.invariant-loop-s
invariant-loop-s l = record {
  items : l.regions.items ++ segments_of l.base (drop l.s-index l.sections) ≡ segments_of l.base l.fn.sections;
  sizes : HoldNoMore (drop l.s-index l.sections);
}
