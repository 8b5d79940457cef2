use Rattle.std.proofs.Common.{◌≡◌, max, drop}
use Rattle.ir_core.specs.Within.{small, most_need}
use Rattle.ir_core.proofs.work.most_need.Given as goal

abbrev pub invariant-loop-op : goal.invariant-loop-op
invariant-loop-op l = max l.most (small (most_need (drop l.op-index l.ops))) ≡ small (most_need l.ops)
