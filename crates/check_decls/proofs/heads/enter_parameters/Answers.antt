use Rattle.std.proofs.Common.{map, arith}
use Rattle.c_typing.specs.Statements.{in_scopes}
use Rattle.c_typing.specs.Heads.{visit_parameter}
use Rattle.c_typing.proofs.LoopLaws.{scopes_whole}
use Rattle.check_decls.proofs.LoopEnds.{scopes_pushed}
use Rattle.check_decls.proofs.heads.enter_parameters.Goals as goal

pub loop-p-preserved : goal.loop-p-preserved
loop-p-preserved c =
    let visit = visit_parameter c.args.unit.now in
    scopes_pushed visit c.args.params.now c.loop-p.p-index c.p-item.result c.loop-p.types c.push.new.self c.loop-p.locals c.enter_parameter.new.locals c.loop-p.tables c.enter_parameter.new.tables c.in_ok-enter_parameter.field-0 (in_scopes (map visit c.args.params.now) c.args.locals.now c.args.tables.now) (omega arith) c.p-item.is c.in_ok-enter_parameter.ensures c.in_ok-push.ensures.ok c.loop-p.invariant

pub returns : goal.returns
returns c =
    let visit = visit_parameter c.args.unit.now in
    scopes_whole visit c.args.params.now c.loop-p.p-index c.loop-p.types c.loop-p.locals c.loop-p.tables (in_scopes (map visit c.args.params.now) c.args.locals.now c.args.tables.now) (omega arith) c.loop-p.invariant
