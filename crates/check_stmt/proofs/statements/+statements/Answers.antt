use Rattle.std.proofs.Common.{Ok, Err, ◌∙◌, arith, rules}
use Rattle.c_tree.specs.declared.statements.BlockItem.{BlockItem}
use Rattle.c_program.specs.declared.statements.TypedItem.{TypedItem}
use Rattle.c_program.specs.declared.statements.TypedStmt.{TypedStmt}
use Rattle.c_typing.specs.Visits.{Leaves}
use Rattle.c_typing.specs.Statements.{visit_block, visit_block_item, visit_stmt}
use Rattle.c_typing.proofs.LoopLaws.{scopes_kept, scopes_whole}
use Rattle.check_decls.specs.Steps.{LeavesAll}
use Rattle.check_stmt.proofs.BlockLaws.{scopes_refused_all, left_again, for_entered, else_rest}
use Rattle.check_stmt.proofs.statements.+statements.Goals as goal

pub type_items-loop-item-preserved : goal.type_items-loop-item-preserved
type_items-loop-item-preserved t c =
    let visit = λ (x : BlockItem). visit_block_item c.args.unit.now c.args.f x c.args.in_loop in
    record {
      left = scopes_kept visit c.args.items.now c.loop-item.item-index c.item-item.result c.loop-item.typed c.append.new.self c.loop-item.locals c.loop-item.tables c.type_item.new.tables (record { part = c.in_ok-more.more; locals = c.type_item.new.locals }) (visit_block c.args.unit.now c.args.f c.args.in_loop c.args.items.now c.args.locals.now c.args.tables.now) (omega arith) c.item-item.is c.in_ok-more.ensures.rule c.in_ok-append.ensures c.loop-item.invariant.left;
      outer = c.in_ok-more.ensures.outer ∙ c.loop-item.invariant.outer;
    }

pub type_items-returns-clause-rule : goal.type_items-returns-clause-rule
type_items-returns-clause-rule t c =
    let visit = λ (x : BlockItem). visit_block_item c.args.unit.now c.args.f x c.args.in_loop in
    scopes_whole visit c.args.items.now c.loop-item.item-index c.loop-item.typed c.loop-item.locals c.loop-item.tables (visit_block c.args.unit.now c.args.f c.args.in_loop c.args.items.now c.args.locals.now c.args.tables.now) (omega arith) c.loop-item.invariant.left

pub type_items-returns-in_err-more-clause-rule : goal.type_items-returns-in_err-more-clause-rule
type_items-returns-in_err-more-clause-rule t c =
    let visit = λ (x : BlockItem). visit_block_item c.args.unit.now c.args.f x c.args.in_loop in
    let whole = visit_block c.args.unit.now c.args.f c.args.in_loop c.args.items.now c.args.locals.now c.args.tables.now in
    let w : LeavesAll {A = TypedItem} whole (Err c.in_err-more.field-0.0) c.type_item.new.locals c.type_item.new.tables =
    scopes_refused_all visit c.args.items.now c.loop-item.item-index c.item-item.result c.loop-item.typed c.loop-item.locals c.type_item.new.locals c.loop-item.tables c.type_item.new.tables c.in_err-more.field-0.0 whole (omega arith) c.item-item.is c.in_err-more.ensures.rule c.loop-item.invariant.left in
    search rules

pub type_inner-returns-clause-kept : goal.type_inner-returns-clause-kept
type_inner-returns-clause-kept t c =
    left_again c.enter_block.new.locals c.type_items.new.locals c.leave_block.new.locals c.args.locals.now c.in_ok-enter_block.ensures c.in_ok-typed.ensures.outer c.leave_block.ensures

pub type_for-returns-clause-kept : goal.type_for-returns-clause-kept
type_for-returns-clause-kept t c =
    left_again c.enter_block.new.locals c.type_for_inside.new.locals c.leave_block.new.locals c.args.locals.now c.in_ok-enter_block.ensures c.in_ok-typed.ensures.outer c.leave_block.ensures

pub type_for-returns-clause-rule : goal.type_for-returns-clause-rule
type_for-returns-clause-rule t c =
    for_entered c.args.unit.now c.args.at c.args.start.now c.args.test.now c.args.step.now (visit_stmt c.args.unit.now c.args.f c.args.body.now) c.enter_block.new.locals c.args.locals.now c.args.tables.now c.type_for_inside.new.tables (Ok c.in_ok-typed.typed) c.in_ok-enter_block.ensures c.in_ok-typed.ensures.rule

pub type_stmt-returns-in_err-either-in-IfElse-clause-rule : goal.type_stmt-returns-in_err-either-in-IfElse-clause-rule
type_stmt-returns-in_err-either-in-IfElse-clause-rule t c =
    let w : Leaves {A = TypedStmt} (visit_stmt c.args.unit.now c.args.f c.args.x.now c.args.in_loop c.args.locals.now c.args.tables.now) (Err c.in_err-either-in-IfElse.field-0.0) c.type_stmt-in-IfElse.new.tables =
    else_rest c.args.unit.now c.args.f c.args.in_loop c.args.locals.now c.type_stmt.new.locals c.args.x.now c.in-IfElse.at c.get-in-IfElse.result.now c.get-in-IfElse-2.result.now c.get-in-IfElse-3.result.now c.args.tables.now c.visit_value.new.tables c.type_stmt.new.tables c.type_stmt-in-IfElse.new.tables c.type_stmt-in-IfElse.new.tables c.in_ok-value-in-IfElse.value c.in_ok-yes-in-IfElse.yes c.in_ok-no-in-IfElse.no (Err c.in_err-either-in-IfElse.field-0.0) (cc) c.in_ok-value-in-IfElse.ensures c.in_ok-yes-in-IfElse.ensures.rule c.in_ok-yes-in-IfElse.ensures.kept c.in_ok-no-in-IfElse.ensures.rule c.in_err-either-in-IfElse.ensures in
    search rules

pub type_stmt-returns-in_ok-either-in-IfElse-clause-rule : goal.type_stmt-returns-in_ok-either-in-IfElse-clause-rule
type_stmt-returns-in_ok-either-in-IfElse-clause-rule t c =
    else_rest c.args.unit.now c.args.f c.args.in_loop c.args.locals.now c.type_stmt.new.locals c.args.x.now c.in-IfElse.at c.get-in-IfElse.result.now c.get-in-IfElse-2.result.now c.get-in-IfElse-3.result.now c.args.tables.now c.visit_value.new.tables c.type_stmt.new.tables c.type_stmt-in-IfElse.new.tables c.type_stmt-in-IfElse.new.tables c.in_ok-value-in-IfElse.value c.in_ok-yes-in-IfElse.yes c.in_ok-no-in-IfElse.no (Ok c.in_ok-either-in-IfElse.field-0) (cc) c.in_ok-value-in-IfElse.ensures c.in_ok-yes-in-IfElse.ensures.rule c.in_ok-yes-in-IfElse.ensures.kept c.in_ok-no-in-IfElse.ensures.rule c.in_ok-either-in-IfElse.ensures
