use Rattle.std.proofs.Common.{◌≡◌, take}
use Rattle.std.specs.List.{sum_by}
use Rattle.ir_core.specs.Within.{small, call_args}
use Rattle.ir_core.proofs.work.all_call_args.Given as goal

abbrev pub invariant-loop-op : goal.invariant-loop-op
invariant-loop-op l = l.total ≡ small (sum_by call_args (take l.op-index l.ops))
