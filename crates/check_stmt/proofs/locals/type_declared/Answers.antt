use Rattle.std.proofs.Common.{[], ◌∙◌, arith}
use Rattle.c_typing.specs.Statements.{visit_declarator, visit_declarators}
use Rattle.check_stmt.specs.Blocks.{items_behind}
use Rattle.check_stmt.proofs.BlockLaws.{items_more, items_whole}
use Rattle.check_stmt.proofs.locals.type_declared.Goals as goal

pub loop-decl-preserved : goal.loop-decl-preserved
loop-decl-preserved c =
    let visit = visit_declarator c.args.unit.now c.args.base.now in
    record {
      left = items_more visit c.args.decls.now c.loop-decl.decl-index c.decl-item.result c.loop-decl.items c.push.new.self c.loop-decl.locals c.declare_variable.new.locals c.loop-decl.tables c.declare_variable.new.tables c.in_ok-declared.declared (items_behind [] (visit_declarators c.args.unit.now c.args.base.now c.args.decls.now c.args.locals.now c.args.tables.now)) (omega arith) c.decl-item.is c.in_ok-declared.ensures.rule c.in_ok-push.ensures.ok c.loop-decl.invariant.left;
      outer = c.in_ok-declared.ensures.outer ∙ c.loop-decl.invariant.outer;
    }

pub returns-clause-rule : goal.returns-clause-rule
returns-clause-rule c =
    let visit = visit_declarator c.args.unit.now c.args.base.now in
    items_whole visit c.args.decls.now c.loop-decl.decl-index c.loop-decl.items c.loop-decl.locals c.loop-decl.tables (items_behind [] (visit_declarators c.args.unit.now c.args.base.now c.args.decls.now c.args.locals.now c.args.tables.now)) (omega arith) c.loop-decl.invariant.left
