use Rattle.ir_core.specs.Valid.{StandOnce}
use Rattle.ir_core.proofs.labels.each_stands_once.Given as goal

abbrev pub invariant-loop-label : goal.invariant-loop-label
invariant-loop-label l = StandOnce l.label l.ops
