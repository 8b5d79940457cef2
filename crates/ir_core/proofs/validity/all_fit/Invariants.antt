use Rattle.std.proofs.Common.{◌≡◌, drop}
use Rattle.std.specs.List.{list_all}
use Rattle.ir_core.specs.Operands.{fits}
use Rattle.ir_core.proofs.validity.all_fit.Given as goal

abbrev pub invariant-loop-op : goal.invariant-loop-op
invariant-loop-op l = list_all (fits l.f) (drop l.op-index l.ops) ≡ list_all (fits l.f) l.f.ops
