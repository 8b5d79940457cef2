-- Nothing is known before the entry that comes next.
use Rattle.std.proofs.Common.{◌≡◌, ℕ, ◌<◌, Some, slice_get}
use Rattle.measured_types.specs.declared.measure.Measured.{Measured}
use Rattle.measured_types.proofs.table.forget.Given as goal

abbrev pub invariant-loop-entry : goal.invariant-loop-entry
invariant-loop-entry l = (k : ℕ) (m : Measured) → k < l.entry-index → slice_get l.entries k ≡ Some (Some m) → ⊥
