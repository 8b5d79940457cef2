use Rattle.parse_expr.proofs.ExprComplete.{expr_complete, effect_complete}
use Rattle.parse_expr.proofs.ExprSound.{expr_sound}
use Rattle.parse_expr.proofs.laws.reads_expressions.Goals as goal

pub returns : goal.returns
returns c = record { whole = expr_complete; effect = effect_complete; sound = λ n low e st p t z a d q. expr_sound n low e z st p t a d q }
