use Rattle.std.proofs.Common.{◌≡◌, take}
use Rattle.std.specs.List.{sum_by}
use Rattle.ir_core.specs.Within.{small, aggregate_bytes}
use Rattle.ir_core.proofs.work.all_aggregates.Given as goal

abbrev pub invariant-loop-class : goal.invariant-loop-class
invariant-loop-class l = l.total ≡ small (sum_by aggregate_bytes (take l.class-index l.classes))
