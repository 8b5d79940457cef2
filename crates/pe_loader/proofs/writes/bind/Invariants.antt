use Rattle.std.proofs.Common.{◌≡◌, drop}
use Rattle.machine_rules.specs.Loads.{bound}
use Rattle.pe_loader.specs.Loading.{SlotsHold}
use Rattle.pe_loader.proofs.writes.bind.Given as goal

abbrev pub invariant-loop-slot : goal.invariant-loop-slot
invariant-loop-slot l = record {
  bound : bound l.base (drop l.slot-index l.imports) l.regions ≡ bound l.base l.fn.imports l.fn.regions;
  slots : SlotsHold l.base (drop l.slot-index l.imports) l.regions;
}
