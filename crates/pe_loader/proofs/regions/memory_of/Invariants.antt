use Rattle.std.proofs.Common.{◌≡◌, length}
use Rattle.std.specs.Vec.Iter.{into_iter_items, into_iter_len}
use Rattle.machine_rules.specs.Loads.{mapped, no_memory}
use Rattle.pe_loader.proofs.Mapped.{IsReady}
use Rattle.pe_loader.proofs.regions.memory_of.Given as goal

abbrev pub invariant-loop-region : goal.invariant-loop-region
invariant-loop-region l = record {
  mem : mapped (into_iter_items l.region-iterator) l.mem ≡ mapped (into_iter_items l.initial.region-iterator) no_memory;
  ready : IsReady l.mem (into_iter_items l.region-iterator);
  count : into_iter_len l.region-iterator ≡ length (into_iter_items l.region-iterator);
}
