use Rattle.std.proofs.Common.{arith}
use Rattle.c_typing.specs.Heads.{bare_param_type, param_types}
use Rattle.c_typing.proofs.LoopLaws.{each_whole, each_left}
use Rattle.check_decls.proofs.heads.types_of_params.Goals as goal

pub returns : goal.returns
returns c = each_whole (bare_param_type c.args.unit.now) c.args.params.now c.loop-p.p-index c.loop-p.types c.loop-p.tables (param_types c.args.unit.now c.args.params.now c.args.tables.now) (omega arith) c.loop-p.invariant

pub returns-in_err-type_of_bare_param : goal.returns-in_err-type_of_bare_param
returns-in_err-type_of_bare_param c =
    let left = each_left (bare_param_type c.args.unit.now) c.args.params.now c.loop-p.p-index c.p-item.result c.loop-p.types c.loop-p.tables c.type_of_bare_param.new.tables _ (param_types c.args.unit.now c.args.params.now c.args.tables.now) (omega arith) c.p-item.is c.in_err-type_of_bare_param.ensures c.loop-p.invariant in
    grind (arith, left)
