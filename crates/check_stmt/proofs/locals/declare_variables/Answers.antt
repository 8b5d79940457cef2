use Rattle.std.proofs.Common.{◌∙◌, arith}
use Rattle.c_typing.specs.Statements.{visit_declarator, visit_declarators}
use Rattle.c_typing.proofs.LoopLaws.{scopes_whole}
use Rattle.check_decls.proofs.LoopEnds.{scopes_pushed}
use Rattle.check_stmt.proofs.locals.declare_variables.Goals as goal

pub loop-decl-preserved : goal.loop-decl-preserved
loop-decl-preserved c =
    let visit = visit_declarator c.args.unit.now c.args.base.now in
    record {
      left = scopes_pushed visit c.args.decls.now c.loop-decl.decl-index c.decl-item.result c.loop-decl.declared c.push.new.self c.loop-decl.locals c.declare_variable.new.locals c.loop-decl.tables c.declare_variable.new.tables c.in_ok-declare_variable.field-0 (visit_declarators c.args.unit.now c.args.base.now c.args.decls.now c.args.locals.now c.args.tables.now) (omega arith) c.decl-item.is c.in_ok-declare_variable.ensures.rule c.in_ok-push.ensures.ok c.loop-decl.invariant.left;
      outer = c.in_ok-declare_variable.ensures.outer ∙ c.loop-decl.invariant.outer;
    }

pub returns-clause-rule : goal.returns-clause-rule
returns-clause-rule c =
    let visit = visit_declarator c.args.unit.now c.args.base.now in
    scopes_whole visit c.args.decls.now c.loop-decl.decl-index c.loop-decl.declared c.loop-decl.locals c.loop-decl.tables (visit_declarators c.args.unit.now c.args.base.now c.args.decls.now c.args.locals.now c.args.tables.now) (omega arith) c.loop-decl.invariant.left
