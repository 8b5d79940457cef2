use Rattle.std.proofs.Common.{◌≡◌, drop}
use Rattle.std.specs.List.{list_all}
use Rattle.ir_core.specs.Operands.{is_argument}
use Rattle.ir_core.proofs.signatures.are_arguments.Given as goal

abbrev pub invariant-loop-class : goal.invariant-loop-class
invariant-loop-class l = list_all is_argument (drop l.class-index l.classes) ≡ list_all is_argument l.classes
