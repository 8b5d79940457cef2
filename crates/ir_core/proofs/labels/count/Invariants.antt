use Rattle.std.proofs.Common.{◌≡◌, ◌≤◌, take}
use Rattle.std.specs.List.{count_by}
use Rattle.ir_core.specs.Steps.{is_label}
use Rattle.ir_core.proofs.labels.count.Given as goal

abbrev pub invariant-loop-op : goal.invariant-loop-op
invariant-loop-op l = record {
  counts : l.n ≡ count_by (is_label l.label) (take l.op-index l.ops);
  few : l.n ≤ l.op-index;
}
