use Rattle.std.proofs.Common.{rules, Err, map, arith}
use Rattle.c_tree.specs.declared.expressions.Expr.{Expr}
use Rattle.c_typing.specs.Visits.{Leaves, each_in_order}
use Rattle.c_typing.specs.Expressions.{value, visit_expr, visit_values}
use Rattle.c_typing.proofs.LoopLaws.{each_kept, each_left, each_whole}
use Rattle.check_expr.proofs.visits.+expressions.Goals as goal

pub visit_values-returns-in_err-value : goal.visit_values-returns-in_err-value
unfolding visit_values
visit_values-returns-in_err-value t c =
    let visit = λ (e : Expr). value (visit_expr c.args.unit.now c.args.locals.now e) in
    let whole = each_in_order (map visit c.args.es.now) c.args.tables.now in
    let w : Leaves whole (Err c.in_err-value.field-0.0) c.visit_value.new.tables =
    each_left visit c.args.es.now c.loop-e.e-index c.e-item.result c.loop-e.values c.loop-e.tables c.visit_value.new.tables c.in_err-value.field-0.0 whole (omega arith) c.e-item.is c.in_err-value.ensures c.loop-e.invariant in
    search rules

pub visit_values-loop-e-preserved : goal.visit_values-loop-e-preserved
visit_values-loop-e-preserved t c =
    let visit = λ (e : Expr). value (visit_expr c.args.unit.now c.args.locals.now e) in
    each_kept visit c.args.es.now c.loop-e.e-index c.e-item.result c.loop-e.values c.push.new.self c.loop-e.tables c.visit_value.new.tables c.in_ok-value.value (each_in_order (map visit c.args.es.now) c.args.tables.now) (omega arith) c.e-item.is c.in_ok-value.ensures c.in_ok-push.ensures.ok c.loop-e.invariant

pub visit_values-returns : goal.visit_values-returns
unfolding visit_values
visit_values-returns t c =
    let visit = λ (e : Expr). value (visit_expr c.args.unit.now c.args.locals.now e) in
    each_whole visit c.args.es.now c.loop-e.e-index c.loop-e.values c.loop-e.tables (each_in_order (map visit c.args.es.now) c.args.tables.now) (omega arith) c.loop-e.invariant
