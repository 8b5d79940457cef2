-- The type of each form.
use Rattle.std.proofs.Common.{◌≡◌, ℕ, Bool, List, sym, ap, ◌∙◌}
use Rattle.std.specs.Prelude.{ℤ}
use Rattle.c_types.specs.declared.types.IntTy.{IntTy}
use Rattle.c_types.specs.declared.types.Ty.{Ty}
use Rattle.c_program.specs.declared.expressions.Service.{Service}
use Rattle.c_program.specs.declared.expressions.Target.{Target}
use Rattle.c_program.specs.declared.expressions.Arithmetic.{Arithmetic}
use Rattle.c_program.specs.declared.expressions.Comparison.{Comparison}
use Rattle.c_program.specs.declared.expressions.Place.{Place}
use Rattle.c_program.specs.declared.expressions.TypedExpr.{TypedExpr}
use Rattle.c_program.specs.declared.expressions.Place.TheOpen.{TypedExpr-F}
use Rattle.c_program.specs.declared.expressions.Place.TheFolds.{fold-TypedExpr, fold-roll-TypedExpr}
use Rattle.c_program.specs.declared.expressions.TypedExpr.TheVariants as expr
use Rattle.c_program.specs.declared.expressions.TypedExpr.TheVariants.{rolls-Number as rolls-TypedExpr-Number, rolls-Char as rolls-TypedExpr-Char, rolls-Null as rolls-TypedExpr-Null, rolls-Function as rolls-TypedExpr-Function, rolls-Load as rolls-TypedExpr-Load, rolls-Address as rolls-TypedExpr-Address, rolls-Same as rolls-TypedExpr-Same, rolls-Negate as rolls-TypedExpr-Negate, rolls-Complement as rolls-TypedExpr-Complement, rolls-Not as rolls-TypedExpr-Not, rolls-Convert as rolls-TypedExpr-Convert, rolls-Binary as rolls-TypedExpr-Binary, rolls-Compare as rolls-TypedExpr-Compare, rolls-And as rolls-TypedExpr-And, rolls-Or as rolls-TypedExpr-Or, rolls-Conditional as rolls-TypedExpr-Conditional, rolls-Assign as rolls-TypedExpr-Assign, rolls-Update as rolls-TypedExpr-Update, rolls-Before as rolls-TypedExpr-Before, rolls-After as rolls-TypedExpr-After, rolls-Call as rolls-TypedExpr-Call, rolls-CallPointer as rolls-TypedExpr-CallPointer, rolls-CallService as rolls-TypedExpr-CallService, rolls-VaArg as rolls-TypedExpr-VaArg, rolls-FieldOf as rolls-TypedExpr-FieldOf, rolls-ElementOf as rolls-TypedExpr-ElementOf}
use Rattle.c_types.specs.declared.types.IntTy.TheVariants.{I32}
use Rattle.c_types.specs.declared.types.Ty.TheVariants.{Int}
use Rattle.c_program.specs.ValueTypes.{service_type, no_type_at, type_at, value_type}

pub value_type-Number : (i : IntTy) (n : ℕ) → value_type (expr.Number i n) ≡ Int i
unfolding value_type
value_type-Number i n = ap (fold-TypedExpr (Unit {0}) Ty no_type_at type_at) (sym (rolls-TypedExpr-Number i n)) ∙ fold-roll-TypedExpr (Unit {0}) Ty no_type_at type_at (TypedExpr-F.Number i n)

pub value_type-Char : (c : ℤ) → value_type (expr.Char c) ≡ Int I32
unfolding value_type
value_type-Char c = ap (fold-TypedExpr (Unit {0}) Ty no_type_at type_at) (sym (rolls-TypedExpr-Char c)) ∙ fold-roll-TypedExpr (Unit {0}) Ty no_type_at type_at (TypedExpr-F.Char c)

pub value_type-Null : (t : Ty) → value_type (expr.Null t) ≡ t
unfolding value_type
value_type-Null t = ap (fold-TypedExpr (Unit {0}) Ty no_type_at type_at) (sym (rolls-TypedExpr-Null t)) ∙ fold-roll-TypedExpr (Unit {0}) Ty no_type_at type_at (TypedExpr-F.Null t)

pub value_type-Function : (t : Ty) (f : Target) → value_type (expr.Function t f) ≡ t
unfolding value_type
value_type-Function t f = ap (fold-TypedExpr (Unit {0}) Ty no_type_at type_at) (sym (rolls-TypedExpr-Function t f)) ∙ fold-roll-TypedExpr (Unit {0}) Ty no_type_at type_at (TypedExpr-F.Function t f)

pub value_type-Load : (t : Ty) (p : Place) → value_type (expr.Load t p) ≡ t
unfolding value_type
value_type-Load t p = ap (fold-TypedExpr (Unit {0}) Ty no_type_at type_at) (sym (rolls-TypedExpr-Load t p)) ∙ fold-roll-TypedExpr (Unit {0}) Ty no_type_at type_at (TypedExpr-F.Load t p)

pub value_type-Address : (t : Ty) (p : Place) → value_type (expr.Address t p) ≡ t
unfolding value_type
value_type-Address t p = ap (fold-TypedExpr (Unit {0}) Ty no_type_at type_at) (sym (rolls-TypedExpr-Address t p)) ∙ fold-roll-TypedExpr (Unit {0}) Ty no_type_at type_at (TypedExpr-F.Address t p)

pub value_type-Same : (e : TypedExpr) → value_type (expr.Same e) ≡ value_type e
unfolding value_type
value_type-Same e = ap (fold-TypedExpr (Unit {0}) Ty no_type_at type_at) (sym (rolls-TypedExpr-Same e)) ∙ fold-roll-TypedExpr (Unit {0}) Ty no_type_at type_at (TypedExpr-F.Same e)

pub value_type-Negate : (i : IntTy) (e : TypedExpr) → value_type (expr.Negate i e) ≡ Int i
unfolding value_type
value_type-Negate i e = ap (fold-TypedExpr (Unit {0}) Ty no_type_at type_at) (sym (rolls-TypedExpr-Negate i e)) ∙ fold-roll-TypedExpr (Unit {0}) Ty no_type_at type_at (TypedExpr-F.Negate i e)

pub value_type-Complement : (i : IntTy) (e : TypedExpr) → value_type (expr.Complement i e) ≡ Int i
unfolding value_type
value_type-Complement i e = ap (fold-TypedExpr (Unit {0}) Ty no_type_at type_at) (sym (rolls-TypedExpr-Complement i e)) ∙ fold-roll-TypedExpr (Unit {0}) Ty no_type_at type_at (TypedExpr-F.Complement i e)

pub value_type-Not : (e : TypedExpr) → value_type (expr.Not e) ≡ Int I32
unfolding value_type
value_type-Not e = ap (fold-TypedExpr (Unit {0}) Ty no_type_at type_at) (sym (rolls-TypedExpr-Not e)) ∙ fold-roll-TypedExpr (Unit {0}) Ty no_type_at type_at (TypedExpr-F.Not e)

pub value_type-Convert : (i : IntTy) (e : TypedExpr) → value_type (expr.Convert i e) ≡ Int i
unfolding value_type
value_type-Convert i e = ap (fold-TypedExpr (Unit {0}) Ty no_type_at type_at) (sym (rolls-TypedExpr-Convert i e)) ∙ fold-roll-TypedExpr (Unit {0}) Ty no_type_at type_at (TypedExpr-F.Convert i e)

pub value_type-Binary : (op : Arithmetic) (i : IntTy) (l : TypedExpr) (r : TypedExpr) → value_type (expr.Binary op i l r) ≡ Int i
unfolding value_type
value_type-Binary op i l r = ap (fold-TypedExpr (Unit {0}) Ty no_type_at type_at) (sym (rolls-TypedExpr-Binary op i l r)) ∙ fold-roll-TypedExpr (Unit {0}) Ty no_type_at type_at (TypedExpr-F.Binary op i l r)

pub value_type-Compare : (op : Comparison) (t : Ty) (l : TypedExpr) (r : TypedExpr) → value_type (expr.Compare op t l r) ≡ Int I32
unfolding value_type
value_type-Compare op t l r = ap (fold-TypedExpr (Unit {0}) Ty no_type_at type_at) (sym (rolls-TypedExpr-Compare op t l r)) ∙ fold-roll-TypedExpr (Unit {0}) Ty no_type_at type_at (TypedExpr-F.Compare op t l r)

pub value_type-And : (l : TypedExpr) (r : TypedExpr) → value_type (expr.And l r) ≡ Int I32
unfolding value_type
value_type-And l r = ap (fold-TypedExpr (Unit {0}) Ty no_type_at type_at) (sym (rolls-TypedExpr-And l r)) ∙ fold-roll-TypedExpr (Unit {0}) Ty no_type_at type_at (TypedExpr-F.And l r)

pub value_type-Or : (l : TypedExpr) (r : TypedExpr) → value_type (expr.Or l r) ≡ Int I32
unfolding value_type
value_type-Or l r = ap (fold-TypedExpr (Unit {0}) Ty no_type_at type_at) (sym (rolls-TypedExpr-Or l r)) ∙ fold-roll-TypedExpr (Unit {0}) Ty no_type_at type_at (TypedExpr-F.Or l r)

pub value_type-Conditional : (t : Ty) (c : TypedExpr) (l : TypedExpr) (r : TypedExpr) → value_type (expr.Conditional t c l r) ≡ t
unfolding value_type
value_type-Conditional t c l r = ap (fold-TypedExpr (Unit {0}) Ty no_type_at type_at) (sym (rolls-TypedExpr-Conditional t c l r)) ∙ fold-roll-TypedExpr (Unit {0}) Ty no_type_at type_at (TypedExpr-F.Conditional t c l r)

pub value_type-Assign : (t : Ty) (p : Place) (e : TypedExpr) → value_type (expr.Assign t p e) ≡ t
unfolding value_type
value_type-Assign t p e = ap (fold-TypedExpr (Unit {0}) Ty no_type_at type_at) (sym (rolls-TypedExpr-Assign t p e)) ∙ fold-roll-TypedExpr (Unit {0}) Ty no_type_at type_at (TypedExpr-F.Assign t p e)

pub value_type-Update : (op : Arithmetic) (i : IntTy) (j : IntTy) (p : Place) (e : TypedExpr) → value_type (expr.Update op i j p e) ≡ Int i
unfolding value_type
value_type-Update op i j p e = ap (fold-TypedExpr (Unit {0}) Ty no_type_at type_at) (sym (rolls-TypedExpr-Update op i j p e)) ∙ fold-roll-TypedExpr (Unit {0}) Ty no_type_at type_at (TypedExpr-F.Update op i j p e)

pub value_type-Before : (i : IntTy) (up : Bool) (p : Place) → value_type (expr.Before i up p) ≡ Int i
unfolding value_type
value_type-Before i up p = ap (fold-TypedExpr (Unit {0}) Ty no_type_at type_at) (sym (rolls-TypedExpr-Before i up p)) ∙ fold-roll-TypedExpr (Unit {0}) Ty no_type_at type_at (TypedExpr-F.Before i up p)

pub value_type-After : (i : IntTy) (up : Bool) (p : Place) → value_type (expr.After i up p) ≡ Int i
unfolding value_type
value_type-After i up p = ap (fold-TypedExpr (Unit {0}) Ty no_type_at type_at) (sym (rolls-TypedExpr-After i up p)) ∙ fold-roll-TypedExpr (Unit {0}) Ty no_type_at type_at (TypedExpr-F.After i up p)

pub value_type-Call : (t : Ty) (f : Target) (args : List TypedExpr) → value_type (expr.Call t f args) ≡ t
unfolding value_type
value_type-Call t f args = ap (fold-TypedExpr (Unit {0}) Ty no_type_at type_at) (sym (rolls-TypedExpr-Call t f args)) ∙ fold-roll-TypedExpr (Unit {0}) Ty no_type_at type_at (TypedExpr-F.Call t f args)

pub value_type-CallPointer : (t : Ty) (k : ℕ) (f : TypedExpr) (args : List TypedExpr) → value_type (expr.CallPointer t k f args) ≡ t
unfolding value_type
value_type-CallPointer t k f args = ap (fold-TypedExpr (Unit {0}) Ty no_type_at type_at) (sym (rolls-TypedExpr-CallPointer t k f args)) ∙ fold-roll-TypedExpr (Unit {0}) Ty no_type_at type_at (TypedExpr-F.CallPointer t k f args)

pub value_type-CallService : (s : Service) (args : List TypedExpr) → value_type (expr.CallService s args) ≡ service_type s
unfolding value_type
value_type-CallService s args = ap (fold-TypedExpr (Unit {0}) Ty no_type_at type_at) (sym (rolls-TypedExpr-CallService s args)) ∙ fold-roll-TypedExpr (Unit {0}) Ty no_type_at type_at (TypedExpr-F.CallService s args)

pub value_type-VaArg : (i : IntTy) → value_type (expr.VaArg i) ≡ Int i
unfolding value_type
value_type-VaArg i = ap (fold-TypedExpr (Unit {0}) Ty no_type_at type_at) (sym (rolls-TypedExpr-VaArg i)) ∙ fold-roll-TypedExpr (Unit {0}) Ty no_type_at type_at (TypedExpr-F.VaArg i)

pub value_type-FieldOf : (t : Ty) (e : TypedExpr) (s : ℕ) (f : ℕ) → value_type (expr.FieldOf t e s f) ≡ t
unfolding value_type
value_type-FieldOf t e s f = ap (fold-TypedExpr (Unit {0}) Ty no_type_at type_at) (sym (rolls-TypedExpr-FieldOf t e s f)) ∙ fold-roll-TypedExpr (Unit {0}) Ty no_type_at type_at (TypedExpr-F.FieldOf t e s f)

pub value_type-ElementOf : (t : Ty) (a : TypedExpr) (i : TypedExpr) (n : ℕ) → value_type (expr.ElementOf t a i n) ≡ t
unfolding value_type
value_type-ElementOf t a i n = ap (fold-TypedExpr (Unit {0}) Ty no_type_at type_at) (sym (rolls-TypedExpr-ElementOf t a i n)) ∙ fold-roll-TypedExpr (Unit {0}) Ty no_type_at type_at (TypedExpr-F.ElementOf t a i n)

pub ruleset value_types = (value_type-Number, value_type-Char, value_type-Null, value_type-Function, value_type-Load, value_type-Address, value_type-Same, value_type-Negate, value_type-Complement, value_type-Not, value_type-Convert, value_type-Binary, value_type-Compare, value_type-And, value_type-Or, value_type-Conditional, value_type-Assign, value_type-Update, value_type-Before, value_type-After, value_type-Call, value_type-CallPointer, value_type-CallService, value_type-VaArg, value_type-FieldOf, value_type-ElementOf)
