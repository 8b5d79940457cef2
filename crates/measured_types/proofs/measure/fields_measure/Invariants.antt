-- The part of the struct so far, and the fields that are left, come to what all the fields come to.
use Rattle.std.proofs.Common.{◌≡◌, ℕ, ◌≤◌, drop}
use Rattle.c_types.specs.Layout.{fields_from, extent_within, empty_struct, IsSmall}
use Rattle.measured_types.proofs.measure.fields_measure.Given as goal

abbrev pub invariant-loop-field : goal.invariant-loop-field
invariant-loop-field l = record {
  rest : (d : ℕ) → l.so_far.height ≤ d → fields_from (extent_within d l.types) empty_struct l.fields ≡ fields_from (extent_within d l.types) l.so_far.extent (drop l.field-index l.fields);
  small : IsSmall l.so_far.extent;
}
