-- As many entries as turns, of none of which anything is known.
use Rattle.std.proofs.Common.{◌≡◌, length}
use Rattle.measured_types.specs.Measures.{AreUnknown}
use Rattle.type_sizes.proofs.sizes.unknown_entries.Given as goal

abbrev pub invariant-loop-place : goal.invariant-loop-place
invariant-loop-place l = record {
  places : length l.entries.items ≡ l._place;
  none : AreUnknown l.entries.items;
}
