use Rattle.std.proofs.Common.{ap, sym, ◌∙◌, refl, arith}
use Rattle.c_program.specs.declared.statements.TypedItem.TheVariants as item
use Rattle.c_meaning.specs.Rules.{Normal}
use Rattle.c_meaning.specs.Start.{setting_of}
use Rattle.c_state.specs.Seen.{state_of}
use Rattle.c_interp_steps.specs.Stack.{finish, resume, total}
use Rattle.c_interp_laws.proofs.StepLaws.{item_Declare, item_Stmt, item_VaList, item_stops}
use Rattle.c_interp_acts.proofs.entering.begin_item.Goals as goal

pub returns-in_default-clause-same : goal.returns-in_default-clause-same
returns-in_default-clause-same c h = let m = setting_of c.args.p.now in let x = c.args.machine.now in
    item_stops m x.stack.items (state_of x.store h) x.left c.args.item c.in-VaList.is (c.in_default.ensures 1 refl)

pub returns-in_ok-next-in-Declare-clause-same : goal.returns-in_ok-next-in-Declare-clause-same
returns-in_ok-next-in-Declare-clause-same c h = let m = setting_of c.args.p.now in let x = c.args.machine.now in
    c.in_ok-next-in-Declare.ensures.same h ∙ item_Declare m x.stack.items (state_of x.store h) x.left c.args.item _ c.in-Declare.is

pub returns-in_ok-next-in-Stmt-clause-same : goal.returns-in_ok-next-in-Stmt-clause-same
returns-in_ok-next-in-Stmt-clause-same c h = let m = setting_of c.args.p.now in let x = c.args.machine.now in
    c.in_ok-next-in-Stmt.ensures.same m h ∙ item_Stmt m x.stack.items (state_of x.store h) x.left c.args.item c.get.result (c.in-Stmt.is ∙ ap item.Stmt (sym c.get.ensures))

pub returns-in-Some-clause-same : goal.returns-in-Some-clause-same
unfolding total finish
returns-in-Some-clause-same c h =
    let m = setting_of c.args.p.now in let x = c.args.machine.now in let w = c.in-Some.ensures 1 refl in
    ap (λ z. (resume m x.stack.items).flow Normal z c.in-Some.left) (c.end_extras.ensures h) ∙ item_VaList m x.stack.items (state_of x.store h) x.left c.args.item c.in-Some.left c.in-VaList.is w.0 w.1

pub returns-in-Some-clause-less : goal.returns-in-Some-clause-less
returns-in-Some-clause-less c = λ going. let w = c.in-Some.ensures 1 refl in omega (arith, w.0, w.1)

pub returns-in-Some-clause-left : goal.returns-in-Some-clause-left
returns-in-Some-clause-left c = let w = c.in-Some.ensures 1 refl in omega (arith, w.0, w.1)
