-- The labels so far are those below `next`, each once.
use Rattle.std.proofs.Common.{◌≡◌, ℕ, ◌≤◌, take}
use Rattle.std.specs.Prelude.{nat_lt, if◌then◌else◌}
use Rattle.std.specs.List.{count_by}
use Rattle.ir_core.specs.Steps.{is_label}
use Rattle.ir_core.proofs.labels.in_order.Given as goal

abbrev pub invariant-loop-op : goal.invariant-loop-op
invariant-loop-op l = record {
  counts : (x : ℕ) → count_by (is_label x) (take l.op-index l.ops) ≡ (if nat_lt x l.next then 1 else 0);
  few : l.next ≤ l.op-index;
}
