-- The meaning of each part of a program, and what it is once its units are paid.
use Rattle.std.specs.Prelude.{List, Option}
use Rattle.c_program.specs.declared.expressions.Target.{Target}
use Rattle.c_program.specs.declared.expressions.Place.{Place, out-Place}
use Rattle.c_program.specs.declared.expressions.TypedExpr.{TypedExpr, out-TypedExpr}
use Rattle.c_program.specs.declared.statements.Declared.{Declared}
use Rattle.c_program.specs.declared.statements.ForBegin.{ForBegin}
use Rattle.c_program.specs.declared.statements.TypedItem.{TypedItem, out-TypedItem}
use Rattle.c_program.specs.declared.statements.TypedStmt.{TypedStmt, out-TypedStmt}
use Rattle.c_values.specs.declared.value.Object.{Object}
use Rattle.c_values.specs.declared.value.Value.{Value}
use Rattle.c_meaning.specs.Rules.{Act, Flow, Setting, meaning, place_rule, expr_rule, stmt_rule, item_rule, items_rule, declare, declare_all, begin_rule}

unfoldable pub value_of : Setting → TypedExpr → Act Value
value_of m e = (meaning m).value e

unfoldable pub object_of : Setting → Place → Act Object
object_of m p = (meaning m).object p

unfoldable pub statement_of : Setting → TypedStmt → Act Flow
statement_of m x = (meaning m).statement x

unfoldable pub loop_of : Setting → Option TypedExpr → Option TypedExpr → TypedStmt → Act Flow
loop_of m c n x = (meaning m).loop c n x

unfoldable pub call_of : Setting → Target → List Value → Act Value
call_of m t vs = (meaning m).call t vs

unfoldable pub item_of : Setting → TypedItem → Act Flow
item_of m x = item_rule m.types (meaning m) (out-TypedItem x)

unfoldable pub items_of : Setting → List TypedItem → Act Flow
items_of m xs = items_rule m.types (meaning m) xs

unfoldable pub declare_of : Setting → Declared → Act Flow
declare_of m d = declare m.types (meaning m).value d

unfoldable pub declares_of : Setting → List Declared → Act Flow
declares_of m ds = declare_all m.types (meaning m).value ds

unfoldable pub begin_of : Setting → ForBegin → Act Flow
begin_of m b = begin_rule m.types (meaning m).value b

-- after the units are paid

unfoldable pub paid_value : Setting → TypedExpr → Act Value
paid_value m e = expr_rule (meaning m) (out-TypedExpr e)

unfoldable pub paid_object : Setting → Place → Act Object
paid_object m p = place_rule (meaning m) (out-Place p)

unfoldable pub paid_statement : Setting → TypedStmt → Act Flow
paid_statement m x = stmt_rule m.types (meaning m) (out-TypedStmt x)
