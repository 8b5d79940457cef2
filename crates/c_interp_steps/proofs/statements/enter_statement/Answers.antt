use Rattle.std.proofs.Common.{◌≡◌, ap, refl, sym, ◌∙◌, arith}
use Rattle.c_interp_steps.specs.Parts.{paid_statement}
use Rattle.c_interp_steps.specs.Stack.{finish, resume, turned, turn_load}
use Rattle.c_interp_steps.proofs.TurnLaws.{stmt-Block, stmt-Empty, stmt-Effect, stmt-Break, stmt-Continue, stmt-If, stmt-IfElse, stmt-While, stmt-Do, stmt-For, stmt-VaStart, stmt-VaEnd}
use Rattle.c_interp_steps.proofs.statements.enter_statement.Goals as goal

pub returns-in-Block-clause-gives : goal.returns-in-Block-clause-gives
returns-in-Block-clause-gives c m ps s k = c.enter_items.ensures.gives m ps s k ∙ stmt-Block m ps s k _ _ _ c.as_slice.ensures c.in-Block.is

pub returns-in-Empty-clause-gives : goal.returns-in-Empty-clause-gives
returns-in-Empty-clause-gives c m ps s k = stmt-Empty m ps s k _ c.in-Empty.is

pub returns-in-Effect-clause-gives : goal.returns-in-Effect-clause-gives
returns-in-Effect-clause-gives c m ps s k = ap (λ t. turned m t ps s k) c.value_then.ensures ∙ stmt-Effect m ps s k _ _ _ c.get.ensures c.in-Effect.is

pub returns-in-Effect-clause-within : goal.returns-in-Effect-clause-within
returns-in-Effect-clause-within c = let e : turn_load c.value_then.result ≡ 3 = ap turn_load c.value_then.ensures in omega arith

pub returns-in-Break-clause-gives : goal.returns-in-Break-clause-gives
returns-in-Break-clause-gives c m ps s k = stmt-Break m ps s k _ c.in-Break.is

pub returns-in-Continue-clause-gives : goal.returns-in-Continue-clause-gives
returns-in-Continue-clause-gives c m ps s k = stmt-Continue m ps s k _ c.in-Continue.is

pub returns-in-If-clause-gives : goal.returns-in-If-clause-gives
returns-in-If-clause-gives c m ps s k = ap (λ t. turned m t ps s k) c.value_then-in-If.ensures ∙ stmt-If m ps s k _ _ _ _ _ c.get-in-If-2.ensures c.get-in-If.ensures c.in-If.is

pub returns-in-If-clause-within : goal.returns-in-If-clause-within
returns-in-If-clause-within c = let e : turn_load c.value_then-in-If.result ≡ 3 = ap turn_load c.value_then-in-If.ensures in omega arith

pub returns-in-IfElse-clause-gives : goal.returns-in-IfElse-clause-gives
returns-in-IfElse-clause-gives c m ps s k = ap (λ t. turned m t ps s k) c.value_then-in-IfElse.ensures ∙ stmt-IfElse m ps s k _ _ _ _ _ _ _ c.get-in-IfElse-3.ensures c.get-in-IfElse.ensures c.get-in-IfElse-2.ensures c.in-IfElse.is

pub returns-in-IfElse-clause-within : goal.returns-in-IfElse-clause-within
returns-in-IfElse-clause-within c = let e : turn_load c.value_then-in-IfElse.result ≡ 3 = ap turn_load c.value_then-in-IfElse.ensures in omega arith

pub returns-in-While-clause-gives : goal.returns-in-While-clause-gives
returns-in-While-clause-gives c m ps s k = stmt-While m ps s k _ _ _ _ _ c.get-in-While.ensures c.get-in-While-2.ensures c.in-While.is

pub returns-in-Do-clause-gives : goal.returns-in-Do-clause-gives
returns-in-Do-clause-gives c m ps s k = stmt-Do m ps s k _ _ _ _ _ c.get-body.ensures c.get-in-Do.ensures c.in-Do.is

pub returns-in-For-clause-gives : goal.returns-in-For-clause-gives
returns-in-For-clause-gives c m ps s k = stmt-For m ps s k _ _ _ _ _ _ _ refl c.part.ensures c.part-in-For.ensures c.get-in-For.ensures c.in-For.is

pub returns-in-Return-clause-gives : goal.returns-in-Return-clause-gives
returns-in-Return-clause-gives c m ps s k = c.enter_return.ensures.gives m ps s k ∙ ap (λ z. finish (paid_statement m z s k) (resume m ps).flow) (sym c.in-Return.is)

pub returns-in-VaStart-clause-gives : goal.returns-in-VaStart-clause-gives
returns-in-VaStart-clause-gives c m ps s k = stmt-VaStart m ps s k _ c.in-VaStart.is

pub returns-in-VaEnd-clause-gives : goal.returns-in-VaEnd-clause-gives
returns-in-VaEnd-clause-gives c m ps s k = stmt-VaEnd m ps s k _ c.in-VaEnd.is
