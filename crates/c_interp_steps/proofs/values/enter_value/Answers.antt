use Rattle.std.proofs.Common.{◌≡◌, ap, sym, ◌∙◌, arith}
use Rattle.std.proofs.Common.{rules, to_z-of_z}
use mir.Syntax.{w32}
use mir.Val.{SFits}
use Rattle.c_program.specs.declared.expressions.TypedExpr.TheVariants as expr
use Rattle.c_interp_steps.specs.Stack.{turned, turn_load}
use Rattle.c_interp_steps.proofs.TurnLaws.{value-Number, value-Char, value-Null, value-Function, value-VaArg, value-Load, value-Address, value-Same, value-Negate, value-Complement, value-Not, value-Convert, value-Binary, value-Compare, value-And, value-Or, value-Conditional, value-Assign, value-Update, value-Before, value-After, value-Call, value-CallPointer, value-CallService, value-FieldOf, value-ElementOf}
use Rattle.c_interp_steps.proofs.values.enter_value.Goals as goal

pub returns-in-Number-clause-gives : goal.returns-in-Number-clause-gives
returns-in-Number-clause-gives c m ps s k = value-Number m ps s k _ _ _ _ c.constant.ensures c.in-Number.is

pub returns-in-Char-clause-gives : goal.returns-in-Char-clause-gives
returns-in-Char-clause-gives c m ps s k = let fits : SFits w32 c.in-Char.z = search rules in
    value-Char m ps s k _ _ _ c.character.ensures (c.in-Char.is ∙ ap expr.Char (sym (to_z-of_z fits)))

pub returns-in-Null-clause-gives : goal.returns-in-Null-clause-gives
returns-in-Null-clause-gives c m ps s k = value-Null m ps s k _ _ c.in-Null.is

pub returns-in-Function-clause-gives : goal.returns-in-Function-clause-gives
returns-in-Function-clause-gives c m ps s k = value-Function m ps s k _ _ _ c.in-Function.is

pub returns-in-VaArg-clause-gives : goal.returns-in-VaArg-clause-gives
returns-in-VaArg-clause-gives c m ps s k = value-VaArg m ps s k _ _ c.in-VaArg.is

pub returns-in-Load-clause-gives : goal.returns-in-Load-clause-gives
returns-in-Load-clause-gives c m ps s k = value-Load m ps s k _ _ _ _ c.get.ensures c.in-Load.is

pub returns-in-Address-clause-gives : goal.returns-in-Address-clause-gives
returns-in-Address-clause-gives c m ps s k = ap (λ t. turned m t ps s k) c.place_then.ensures ∙ value-Address m ps s k _ _ _ _ c.get-in-Address.ensures c.in-Address.is

pub returns-in-Address-clause-within : goal.returns-in-Address-clause-within
returns-in-Address-clause-within c = let e : turn_load c.place_then.result ≡ 3 = ap turn_load c.place_then.ensures in omega arith

pub returns-in-Same-clause-gives : goal.returns-in-Same-clause-gives
returns-in-Same-clause-gives c m ps s k = value-Same m ps s k _ _ _ c.get-in-Same.ensures c.in-Same.is

pub returns-in-Negate-clause-gives : goal.returns-in-Negate-clause-gives
returns-in-Negate-clause-gives c m ps s k = ap (λ t. turned m t ps s k) c.value_then.ensures ∙ value-Negate m ps s k _ _ _ _ c.get-in-Negate.ensures c.in-Negate.is

pub returns-in-Negate-clause-within : goal.returns-in-Negate-clause-within
returns-in-Negate-clause-within c = let e : turn_load c.value_then.result ≡ 3 = ap turn_load c.value_then.ensures in omega arith

pub returns-in-Complement-clause-gives : goal.returns-in-Complement-clause-gives
returns-in-Complement-clause-gives c m ps s k = ap (λ t. turned m t ps s k) c.value_then-in-Complement.ensures ∙ value-Complement m ps s k _ _ _ _ c.get-in-Complement.ensures c.in-Complement.is

pub returns-in-Complement-clause-within : goal.returns-in-Complement-clause-within
returns-in-Complement-clause-within c = let e : turn_load c.value_then-in-Complement.result ≡ 3 = ap turn_load c.value_then-in-Complement.ensures in omega arith

pub returns-in-Not-clause-gives : goal.returns-in-Not-clause-gives
returns-in-Not-clause-gives c m ps s k = ap (λ t. turned m t ps s k) c.value_then-in-Not.ensures ∙ value-Not m ps s k _ _ _ c.get-in-Not.ensures c.in-Not.is

pub returns-in-Not-clause-within : goal.returns-in-Not-clause-within
returns-in-Not-clause-within c = let e : turn_load c.value_then-in-Not.result ≡ 3 = ap turn_load c.value_then-in-Not.ensures in omega arith

pub returns-in-Convert-clause-gives : goal.returns-in-Convert-clause-gives
returns-in-Convert-clause-gives c m ps s k = ap (λ t. turned m t ps s k) c.value_then-in-Convert.ensures ∙ value-Convert m ps s k _ _ _ _ c.get-in-Convert.ensures c.in-Convert.is

pub returns-in-Convert-clause-within : goal.returns-in-Convert-clause-within
returns-in-Convert-clause-within c = let e : turn_load c.value_then-in-Convert.result ≡ 3 = ap turn_load c.value_then-in-Convert.ensures in omega arith

pub returns-in-Binary-clause-gives : goal.returns-in-Binary-clause-gives
returns-in-Binary-clause-gives c m ps s k = ap (λ t. turned m t ps s k) c.value_then-in-Binary.ensures ∙ value-Binary m ps s k _ _ _ _ _ _ _ c.get-in-Binary-2.ensures c.get-in-Binary.ensures c.in-Binary.is

pub returns-in-Binary-clause-within : goal.returns-in-Binary-clause-within
returns-in-Binary-clause-within c = let e : turn_load c.value_then-in-Binary.result ≡ 3 = ap turn_load c.value_then-in-Binary.ensures in omega arith

pub returns-in-Compare-clause-gives : goal.returns-in-Compare-clause-gives
returns-in-Compare-clause-gives c m ps s k = ap (λ t. turned m t ps s k) c.value_then-in-Compare.ensures ∙ value-Compare m ps s k _ _ _ _ _ _ _ c.get-in-Compare-2.ensures c.get-in-Compare.ensures c.in-Compare.is

pub returns-in-Compare-clause-within : goal.returns-in-Compare-clause-within
returns-in-Compare-clause-within c = let e : turn_load c.value_then-in-Compare.result ≡ 3 = ap turn_load c.value_then-in-Compare.ensures in omega arith

pub returns-in-And-clause-gives : goal.returns-in-And-clause-gives
returns-in-And-clause-gives c m ps s k = ap (λ t. turned m t ps s k) c.value_then-in-And.ensures ∙ value-And m ps s k _ _ _ _ _ c.get-in-And-2.ensures c.get-in-And.ensures c.in-And.is

pub returns-in-And-clause-within : goal.returns-in-And-clause-within
returns-in-And-clause-within c = let e : turn_load c.value_then-in-And.result ≡ 3 = ap turn_load c.value_then-in-And.ensures in omega arith

pub returns-in-Or-clause-gives : goal.returns-in-Or-clause-gives
returns-in-Or-clause-gives c m ps s k = ap (λ t. turned m t ps s k) c.value_then-in-Or.ensures ∙ value-Or m ps s k _ _ _ _ _ c.get-in-Or-2.ensures c.get-in-Or.ensures c.in-Or.is

pub returns-in-Or-clause-within : goal.returns-in-Or-clause-within
returns-in-Or-clause-within c = let e : turn_load c.value_then-in-Or.result ≡ 3 = ap turn_load c.value_then-in-Or.ensures in omega arith

pub returns-in-Conditional-clause-gives : goal.returns-in-Conditional-clause-gives
returns-in-Conditional-clause-gives c m ps s k = ap (λ t. turned m t ps s k) c.value_then-in-Conditional.ensures ∙ value-Conditional m ps s k _ _ _ _ _ _ _ _ c.get-in-Conditional-3.ensures c.get-in-Conditional.ensures c.get-in-Conditional-2.ensures c.in-Conditional.is

pub returns-in-Conditional-clause-within : goal.returns-in-Conditional-clause-within
returns-in-Conditional-clause-within c = let e : turn_load c.value_then-in-Conditional.result ≡ 3 = ap turn_load c.value_then-in-Conditional.ensures in omega arith

pub returns-in-Assign-clause-gives : goal.returns-in-Assign-clause-gives
returns-in-Assign-clause-gives c m ps s k = ap (λ t. turned m t ps s k) c.place_then-in-Assign.ensures ∙ value-Assign m ps s k _ _ _ _ _ _ c.get-in-Assign-2.ensures c.get-in-Assign.ensures c.in-Assign.is

pub returns-in-Assign-clause-within : goal.returns-in-Assign-clause-within
returns-in-Assign-clause-within c = let e : turn_load c.place_then-in-Assign.result ≡ 3 = ap turn_load c.place_then-in-Assign.ensures in omega arith

pub returns-in-Update-clause-gives : goal.returns-in-Update-clause-gives
returns-in-Update-clause-gives c m ps s k = ap (λ t. turned m t ps s k) c.place_then-in-Update.ensures ∙ value-Update m ps s k _ _ _ _ _ _ _ _ c.get-in-Update-2.ensures c.get-in-Update.ensures c.in-Update.is

pub returns-in-Update-clause-within : goal.returns-in-Update-clause-within
returns-in-Update-clause-within c = let e : turn_load c.place_then-in-Update.result ≡ 3 = ap turn_load c.place_then-in-Update.ensures in omega arith

pub returns-in-Before-clause-gives : goal.returns-in-Before-clause-gives
returns-in-Before-clause-gives c m ps s k = ap (λ t. turned m t ps s k) c.place_then-in-Before.ensures ∙ value-Before m ps s k _ _ _ _ _ c.get-in-Before.ensures c.in-Before.is

pub returns-in-Before-clause-within : goal.returns-in-Before-clause-within
returns-in-Before-clause-within c = let e : turn_load c.place_then-in-Before.result ≡ 3 = ap turn_load c.place_then-in-Before.ensures in omega arith

pub returns-in-After-clause-gives : goal.returns-in-After-clause-gives
returns-in-After-clause-gives c m ps s k = ap (λ t. turned m t ps s k) c.place_then-in-After.ensures ∙ value-After m ps s k _ _ _ _ _ c.get-in-After.ensures c.in-After.is

pub returns-in-After-clause-within : goal.returns-in-After-clause-within
returns-in-After-clause-within c = let e : turn_load c.place_then-in-After.result ≡ 3 = ap turn_load c.place_then-in-After.ensures in omega arith

pub returns-in-Call-clause-gives : goal.returns-in-Call-clause-gives
returns-in-Call-clause-gives c m ps s k = c.arguments.ensures.gives m ps s k ∙ value-Call m ps s k _ _ _ _ _ _ c.new.ensures c.as_slice.ensures c.in-Call.is

pub returns-in-Call-clause-within : goal.returns-in-Call-clause-within
returns-in-Call-clause-within c = let e = c.arguments.ensures.within in omega arith

pub returns-in-CallPointer-clause-gives : goal.returns-in-CallPointer-clause-gives
returns-in-CallPointer-clause-gives c m ps s k = ap (λ t. turned m t ps s k) c.value_then-in-CallPointer.ensures ∙ value-CallPointer m ps s k _ _ _ _ _ _ _ c.get-in-CallPointer.ensures c.as_slice-in-CallPointer.ensures c.in-CallPointer.is

pub returns-in-CallPointer-clause-within : goal.returns-in-CallPointer-clause-within
returns-in-CallPointer-clause-within c = let e : turn_load c.value_then-in-CallPointer.result ≡ 3 = ap turn_load c.value_then-in-CallPointer.ensures in omega arith

pub returns-in-CallService-clause-gives : goal.returns-in-CallService-clause-gives
returns-in-CallService-clause-gives c m ps s k = c.arguments-in-CallService.ensures.gives m ps s k ∙ value-CallService m ps s k _ _ _ _ _ c.new-in-CallService.ensures c.as_slice-in-CallService.ensures c.in-CallService.is

pub returns-in-CallService-clause-within : goal.returns-in-CallService-clause-within
returns-in-CallService-clause-within c = let e = c.arguments-in-CallService.ensures.within in omega arith

pub returns-in-FieldOf-clause-gives : goal.returns-in-FieldOf-clause-gives
returns-in-FieldOf-clause-gives c m ps s k = ap (λ t. turned m t ps s k) c.value_then-in-FieldOf.ensures ∙ value-FieldOf m ps s k _ _ _ _ _ _ c.get-in-FieldOf.ensures c.in-FieldOf.is

pub returns-in-FieldOf-clause-within : goal.returns-in-FieldOf-clause-within
returns-in-FieldOf-clause-within c = let e : turn_load c.value_then-in-FieldOf.result ≡ 3 = ap turn_load c.value_then-in-FieldOf.ensures in omega arith

pub returns-in-ElementOf-clause-gives : goal.returns-in-ElementOf-clause-gives
returns-in-ElementOf-clause-gives c m ps s k = ap (λ t. turned m t ps s k) c.value_then-in-ElementOf.ensures ∙ value-ElementOf m ps s k _ _ _ _ _ _ _ c.get-in-ElementOf-2.ensures c.get-in-ElementOf.ensures c.in-ElementOf.is

pub returns-in-ElementOf-clause-within : goal.returns-in-ElementOf-clause-within
returns-in-ElementOf-clause-within c = let e : turn_load c.value_then-in-ElementOf.result ≡ 3 = ap turn_load c.value_then-in-ElementOf.ensures in omega arith
