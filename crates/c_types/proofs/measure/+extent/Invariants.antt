use Rattle.std.proofs.Common.{◌≡◌, ◌+◌, ◌*◌, drop}
use Rattle.c_types.specs.Layout.{fields_from, extent_within, empty_struct, IsSmall}
use Rattle.c_types.proofs.measure.+extent.Given as goal

-- one type within its depth, its element, and then the list of parts that it reads one level below
abbrev pub decreases-extent_at : goal.decreases-extent_at
decreases-extent_at l = 4 * l.depth + 1

abbrev pub decreases-element_extent : goal.decreases-element_extent
decreases-element_extent l = 4 * l.depth

abbrev pub decreases-fields_extent : goal.decreases-fields_extent
decreases-fields_extent l = 4 * l.depth + 2

abbrev pub decreases-struct_extent : goal.decreases-struct_extent
decreases-struct_extent l = 4 * l.depth + 3

abbrev pub invariant-fields_extent-loop-field : goal.invariant-fields_extent-loop-field
invariant-fields_extent-loop-field l = record {
  rest : fields_from (extent_within l.depth l.types) l.so_far (drop l.field-index l.fields) ≡ fields_from (extent_within l.depth l.types) empty_struct l.fields;
  small : IsSmall l.so_far;
}
