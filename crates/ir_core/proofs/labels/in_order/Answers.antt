use Rattle.std.proofs.Common.{sym, ◌∙◌, arith}
use Rattle.ir_core.proofs.LabelLaws.{one_more, none_more}
use Rattle.ir_core.proofs.labels.in_order.Goals as goal
use Rattle.ir_core.proofs.labels.in_order.Goals.{in-Some+else-from-next, in_default}

pub loop-op-preserved : goal.loop-op-preserved
loop-op-preserved c =
    let few = c.loop-op.invariant.few in
    elim c.match-label_of.branch [
      | in-Some+else-from-next w ↦ record {
        counts = one_more c.args.ops.now c.loop-op.op-index c.loop-op.next w.in-Some.label c.match-label_of.next c.op-item.result c.loop-op-test.true c.op-item.is (sym w.in-Some.is ∙ c.label_of.ensures) (sym w.from.ensures ∙ w.if-from-next.false) w.next-is c.loop-op.invariant.counts;
        few = omega (arith, few, w.next-is);
      }
      | in_default w ↦ record {
        counts = none_more c.args.ops.now c.loop-op.op-index c.loop-op.next c.match-label_of.next c.op-item.result c.loop-op-test.true c.op-item.is (sym w.in_default.is ∙ c.label_of.ensures) w.next-is c.loop-op.invariant.counts;
        few = omega (arith, few, w.next-is);
      }
    ]
