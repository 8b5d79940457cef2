use Rattle.std.proofs.Common.{sym, ◌∙◌, arith}
use Rattle.c_typing.specs.Externals.{no_new_function}
use Rattle.check_decls.proofs.TakenLaws.{function_tested}
use Rattle.check_decls.proofs.functions.declare_new_head.Goals as goal

pub returns : goal.returns
returns c =
    let test = function_tested no_new_function c.is_no_new_function-taken.result c.args.head.now c.args.params c.args.state.now (cc) in
    sym test ∙ c.in_ok-declared.ensures

pub returns-in_err-declared : goal.returns-in_err-declared
returns-in_err-declared c =
    let test = function_tested no_new_function c.is_no_new_function-taken.result c.args.head.now c.args.params c.args.state.now (cc) in
    rw (← test) (grind arith)
