use Rattle.parse_expr.proofs.ExprViable.{expr_completes}
use Rattle.parse_expr.proofs.laws.completes_expressions.Goals as goal

pub returns : goal.returns
returns c = expr_completes
