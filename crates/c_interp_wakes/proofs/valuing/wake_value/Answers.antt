use Rattle.std.proofs.Common.{◌≡◌, ap, ◌∙◌, arith}
use Rattle.c_interp_steps.specs.Stack.{turn_load}
use Rattle.c_interp_wakes.proofs.WakeLaws.{value-Negate, value-Complement, value-Not, value-Convert, value-BinaryThen, value-work, value-CompareThen, value-CompareWith, value-Truth, value-StoreAt, value-ElementThen, value-CallThen, value-LeaveAdjustor}
use Rattle.c_interp_wakes.proofs.valuing.wake_value.Goals as goal

pub returns-in-Negate-clause-gives : goal.returns-in-Negate-clause-gives
returns-in-Negate-clause-gives c m ps s k = value-Negate m ps s k _ _ _ _ c.negated_value.ensures c.in-Negate.is

pub returns-in-Complement-clause-gives : goal.returns-in-Complement-clause-gives
returns-in-Complement-clause-gives c m ps s k = value-Complement m ps s k _ _ _ _ c.complemented_value.ensures c.in-Complement.is

pub returns-in-Not-clause-gives : goal.returns-in-Not-clause-gives
returns-in-Not-clause-gives c m ps s k = value-Not m ps s k _ _ _ c.not_value.ensures c.in-Not.is

pub returns-in-Convert-clause-gives : goal.returns-in-Convert-clause-gives
returns-in-Convert-clause-gives c m ps s k = value-Convert m ps s k _ _ _ _ c.converted_value.ensures c.in-Convert.is

pub returns-in-BinaryThen-clause-gives : goal.returns-in-BinaryThen-clause-gives
returns-in-BinaryThen-clause-gives c m ps s k = value-BinaryThen m ps s k _ _ _ _ _ _ c.value_then.ensures c.in-BinaryThen.is

pub returns-in-BinaryThen-clause-within : goal.returns-in-BinaryThen-clause-within
returns-in-BinaryThen-clause-within c = let e : turn_load c.value_then.result ≡ 3 = ap turn_load c.value_then.ensures in omega arith

pub returns-in-BinaryWith-clause-gives : goal.returns-in-BinaryWith-clause-gives
returns-in-BinaryWith-clause-gives c m ps s k = c.computed.ensures.gives m ps s k ∙ value-work m ps s k _ _ _ c.in-BinaryWith.is

pub returns-in-BinaryWith-clause-within : goal.returns-in-BinaryWith-clause-within
returns-in-BinaryWith-clause-within c = let e = c.computed.ensures.within in omega arith

pub returns-in-CompareThen-clause-gives : goal.returns-in-CompareThen-clause-gives
returns-in-CompareThen-clause-gives c m ps s k = value-CompareThen m ps s k _ _ _ _ _ c.value_then-in-CompareThen.ensures c.in-CompareThen.is

pub returns-in-CompareThen-clause-within : goal.returns-in-CompareThen-clause-within
returns-in-CompareThen-clause-within c = let e : turn_load c.value_then-in-CompareThen.result ≡ 3 = ap turn_load c.value_then-in-CompareThen.ensures in omega arith

pub returns-in-CompareWith-clause-gives : goal.returns-in-CompareWith-clause-gives
returns-in-CompareWith-clause-gives c m ps s k = value-CompareWith m ps s k _ _ _ _ _ c.compared_value.ensures c.in-CompareWith.is

pub returns-in-AndThen-clause-gives : goal.returns-in-AndThen-clause-gives
returns-in-AndThen-clause-gives c m ps s k = c.and_then.ensures.gives m ps s k ∙ value-work m ps s k _ _ _ c.in-AndThen.is

pub returns-in-AndThen-clause-within : goal.returns-in-AndThen-clause-within
returns-in-AndThen-clause-within c = let e = c.and_then.ensures.within in omega arith

pub returns-in-OrThen-clause-gives : goal.returns-in-OrThen-clause-gives
returns-in-OrThen-clause-gives c m ps s k = c.or_then.ensures.gives m ps s k ∙ value-work m ps s k _ _ _ c.in-OrThen.is

pub returns-in-OrThen-clause-within : goal.returns-in-OrThen-clause-within
returns-in-OrThen-clause-within c = let e = c.or_then.ensures.within in omega arith

pub returns-in-Truth-clause-gives : goal.returns-in-Truth-clause-gives
returns-in-Truth-clause-gives c m ps s k = value-Truth m ps s k _ _ _ c.truth_value.ensures c.in-Truth.is

pub returns-in-Choose-clause-gives : goal.returns-in-Choose-clause-gives
returns-in-Choose-clause-gives c m ps s k = c.choose_then.ensures.gives m ps s k ∙ value-work m ps s k _ _ _ c.in-Choose.is

pub returns-in-Choose-clause-within : goal.returns-in-Choose-clause-within
returns-in-Choose-clause-within c = let e = c.choose_then.ensures.within in omega arith

pub returns-in-StoreAt-clause-gives : goal.returns-in-StoreAt-clause-gives
returns-in-StoreAt-clause-gives c m ps s k = value-StoreAt m ps s k _ _ _ c.in-StoreAt.is

pub returns-in-UpdateAt-clause-gives : goal.returns-in-UpdateAt-clause-gives
returns-in-UpdateAt-clause-gives c m ps s k = c.update.ensures.gives m ps s k ∙ value-work m ps s k _ _ _ c.in-UpdateAt.is

pub returns-in-UpdateAt-clause-within : goal.returns-in-UpdateAt-clause-within
returns-in-UpdateAt-clause-within c = let e = c.update.ensures.within in omega arith

pub returns-in-FieldOf-clause-gives : goal.returns-in-FieldOf-clause-gives
returns-in-FieldOf-clause-gives c = rw c.in-FieldOf.is c.field.ensures.gives

pub returns-in-ElementThen-clause-gives : goal.returns-in-ElementThen-clause-gives
returns-in-ElementThen-clause-gives c m ps s k = value-ElementThen m ps s k _ _ _ _ _ c.value_then-in-ElementThen.ensures c.in-ElementThen.is

pub returns-in-ElementThen-clause-within : goal.returns-in-ElementThen-clause-within
returns-in-ElementThen-clause-within c = let e : turn_load c.value_then-in-ElementThen.result ≡ 3 = ap turn_load c.value_then-in-ElementThen.ensures in omega arith

pub returns-in-ElementWith-clause-gives : goal.returns-in-ElementWith-clause-gives
returns-in-ElementWith-clause-gives c = rw c.in-ElementWith.is c.element.ensures.gives

pub returns-in-CallThen-clause-gives : goal.returns-in-CallThen-clause-gives
returns-in-CallThen-clause-gives c m ps s k = c.arguments.ensures.gives m ps s k ∙ value-CallThen m ps s k _ _ _ _ c.new.ensures c.in-CallThen.is

pub returns-in-CallThen-clause-within : goal.returns-in-CallThen-clause-within
returns-in-CallThen-clause-within c = let e = c.arguments.ensures.within in omega arith

pub returns-in-Arguments-clause-gives : goal.returns-in-Arguments-clause-gives
returns-in-Arguments-clause-gives c = rw c.in-Arguments.is c.argument.ensures.gives

pub returns-in-LeaveAdjustor-clause-gives : goal.returns-in-LeaveAdjustor-clause-gives
returns-in-LeaveAdjustor-clause-gives c m ps s k = value-LeaveAdjustor m ps s k _ _ c.in-LeaveAdjustor.is
