use Rattle.std.proofs.Common.{◌≡◌, ap, ◌∙◌, arith}
use Rattle.c_interp_steps.specs.Stack.{turned, turn_load}
use Rattle.c_interp_steps.proofs.StackLaws.{no_items}
use Rattle.c_interp_steps.proofs.LoopLaws.{arguments-next, arguments-done}
use Rattle.c_interp_steps.proofs.values.arguments.Goals as goal

pub returns-in-Some-clause-gives : goal.returns-in-Some-clause-gives
returns-in-Some-clause-gives c m ps s k = ap (λ t. turned m t ps s k) c.value_then.ensures ∙ arguments-next m ps s k _ _ _ _ _ c.in-Some.ensures.cases.0

pub returns-in-Some-clause-within : goal.returns-in-Some-clause-within
returns-in-Some-clause-within c = let e : turn_load c.value_then.result ≡ 3 = ap turn_load c.value_then.ensures in omega arith

pub returns-in-None-clause-gives : goal.returns-in-None-clause-gives
returns-in-None-clause-gives c m ps s k = arguments-done m ps s k _ _ _ (no_items _ c.in-None.ensures.cases)
