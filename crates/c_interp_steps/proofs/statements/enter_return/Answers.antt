use Rattle.std.proofs.Common.{◌≡◌, ap, ◌∙◌, arith}
use Rattle.c_program.specs.declared.statements.TypedStmt.TheVariants as stmt
use Rattle.c_interp_steps.specs.Stack.{turned, turn_load}
use Rattle.c_interp_steps.proofs.TurnLaws.{stmt-Return, stmt-ReturnNone}
use Rattle.c_interp_steps.proofs.statements.enter_return.Goals as goal

pub returns-in-Some-clause-gives : goal.returns-in-Some-clause-gives
returns-in-Some-clause-gives c m ps s k = ap (λ t. turned m t ps s k) c.value_then.ensures ∙ stmt-Return m ps s k _ _ _ c.get.ensures (ap stmt.Return c.in-Some.is)

pub returns-in-Some-clause-within : goal.returns-in-Some-clause-within
returns-in-Some-clause-within c = let e : turn_load c.value_then.result ≡ 3 = ap turn_load c.value_then.ensures in omega arith

pub returns-in-None-clause-gives : goal.returns-in-None-clause-gives
returns-in-None-clause-gives c m ps s k = stmt-ReturnNone m ps s k _ (ap stmt.Return c.in-None.is)
