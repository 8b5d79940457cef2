use Rattle.std.proofs.Common.{◌∙◌, arith}
use Rattle.c_types.proofs.RowLaws.{no_bracket, no_depth}
use Rattle.c_types.proofs.measure.rows_of.Goals as goal

pub loop-turn-init : goal.loop-turn-init
loop-turn-init c = record {
  left = omega arith;
  rows = record { some = omega arith; capped = omega arith; within = omega arith };
  extent = no_bracket c.args.depth c.args.types.now c.args.ty;
}

pub returns-clause-none : goal.returns-clause-none
returns-clause-none c = λ e. c.loop-turn.invariant.extent ∙ no_depth c.loop-turn.rows.depth c.loop-turn.rows.count c.loop-turn.rows.most c.args.types.now c.loop-turn.rows.element (omega (arith, c.loop-turn.invariant.left, c.loop-turn-test.false))
