use Rattle.std.proofs.Common.{◌≡◌, drop, reverse, length}
use Rattle.c_typing.specs.Expressions.{converted_arguments}
use Rattle.check_expr.specs.Calls.{arguments_behind}
use Rattle.check_expr.proofs.arguments.convert_arguments.Given as goal

abbrev pub invariant-loop-value : goal.invariant-loop-value
invariant-loop-value l = arguments_behind l.arguments (converted_arguments (drop (length l.arguments) l.params) (reverse l.left)) ≡ converted_arguments l.params l.fn.values

abbrev pub decreases-loop-value : goal.decreases-loop-value
decreases-loop-value l = length l.left
