use Rattle.std.proofs.Common.{◌≡◌, ◌+◌}
use Rattle.c_types.specs.Layout.{extent_within}
use Rattle.c_types.specs.Rows.{row_extent, IsRows}
use Rattle.c_types.proofs.measure.rows_of.Given as goal

abbrev pub invariant-loop-turn : goal.invariant-loop-turn
invariant-loop-turn l = record {
  left : l.rows.depth + l._turn ≡ l.depth;
  rows : IsRows l.rows;
  extent : extent_within l.depth l.types l.fn.ty ≡ row_extent l.rows.count l.rows.most (extent_within l.rows.depth l.types l.rows.element);
}
