use Rattle.std.proofs.Common.{sym, ◌∙◌, arith}
use Rattle.c_typing.specs.Externals.{no_new_global}
use Rattle.check_decls.proofs.TakenLaws.{global_tested}
use Rattle.check_decls.proofs.globals.declare_new.Goals as goal

pub returns : goal.returns
returns c =
    let test = global_tested no_new_global c.is_no_new_global-taken.result c.args.base.now c.args.decl.now c.args.state.now (cc) in
    sym test ∙ c.in_ok-declared.ensures

pub returns-in_err-declared : goal.returns-in_err-declared
returns-in_err-declared c =
    let test = global_tested no_new_global c.is_no_new_global-taken.result c.args.base.now c.args.decl.now c.args.state.now (cc) in
    rw (← test) (grind arith)
