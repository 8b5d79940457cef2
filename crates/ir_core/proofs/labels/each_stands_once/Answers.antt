use Rattle.std.proofs.Common.{sym, ◌∙◌, below_more}
use Rattle.ir_core.proofs.labels.each_stands_once.Goals as goal

pub loop-label-preserved : goal.loop-label-preserved
loop-label-preserved c = below_more _ _ c.loop-label.invariant (sym c.count.ensures ∙ c.if-count-ne1.false)
