-- Types are the same where their numbers are, so one is found at the same place by either.
use Rattle.std.proofs.Common.{◌≡◌, Bool, true, false, ◌&&◌, List, [], ◌∷◌, position, bytes_eq, refl, ap, ◌∙◌}
use Rattle.std.specs.Prelude.{nat_eq}
use Rattle.std.specs.Cmp.Lexicographic.{nat_list_eq_equiv}
use Rattle.c_types.specs.declared.types.IntTy.{IntTy}
use Rattle.c_types.specs.declared.types.IntTy.TheVariants.{I8, U8, I16, U16, I32, U32, I64, U64}
use Rattle.c_types.specs.declared.types.Ty.{Ty}
use Rattle.c_types.specs.declared.types.Ty.TheVariants.{Void, Int, Ptr, Fun, Struct, Array}
use Rattle.c_types.specs.declared.types.FunTy.{FunTy}
use Rattle.type_table.specs.TypeKeys.{int_number, form_of, named_by, count_in, ty_key, keys_of, mark, fun_key, is_ty, is_fun}
use Rattle.c_typing.specs.TypeForms.{same_bool, same_int, same_type, same_types, same_function}

and_true : (b : Bool) → (b && true) ≡ b
and_true true = refl
and_true false = refl

same_numbers : (i j : IntTy) → (nat_eq (int_number i) (int_number j) && true) ≡ same_int i j
same_numbers I8 I8 = refl
same_numbers I8 U8 = refl
same_numbers I8 I16 = refl
same_numbers I8 U16 = refl
same_numbers I8 I32 = refl
same_numbers I8 U32 = refl
same_numbers I8 I64 = refl
same_numbers I8 U64 = refl
same_numbers U8 I8 = refl
same_numbers U8 U8 = refl
same_numbers U8 I16 = refl
same_numbers U8 U16 = refl
same_numbers U8 I32 = refl
same_numbers U8 U32 = refl
same_numbers U8 I64 = refl
same_numbers U8 U64 = refl
same_numbers I16 I8 = refl
same_numbers I16 U8 = refl
same_numbers I16 I16 = refl
same_numbers I16 U16 = refl
same_numbers I16 I32 = refl
same_numbers I16 U32 = refl
same_numbers I16 I64 = refl
same_numbers I16 U64 = refl
same_numbers U16 I8 = refl
same_numbers U16 U8 = refl
same_numbers U16 I16 = refl
same_numbers U16 U16 = refl
same_numbers U16 I32 = refl
same_numbers U16 U32 = refl
same_numbers U16 I64 = refl
same_numbers U16 U64 = refl
same_numbers I32 I8 = refl
same_numbers I32 U8 = refl
same_numbers I32 I16 = refl
same_numbers I32 U16 = refl
same_numbers I32 I32 = refl
same_numbers I32 U32 = refl
same_numbers I32 I64 = refl
same_numbers I32 U64 = refl
same_numbers U32 I8 = refl
same_numbers U32 U8 = refl
same_numbers U32 I16 = refl
same_numbers U32 U16 = refl
same_numbers U32 I32 = refl
same_numbers U32 U32 = refl
same_numbers U32 I64 = refl
same_numbers U32 U64 = refl
same_numbers I64 I8 = refl
same_numbers I64 U8 = refl
same_numbers I64 I16 = refl
same_numbers I64 U16 = refl
same_numbers I64 I32 = refl
same_numbers I64 U32 = refl
same_numbers I64 I64 = refl
same_numbers I64 U64 = refl
same_numbers U64 I8 = refl
same_numbers U64 U8 = refl
same_numbers U64 I16 = refl
same_numbers U64 U16 = refl
same_numbers U64 I32 = refl
same_numbers U64 U32 = refl
same_numbers U64 I64 = refl
same_numbers U64 U64 = refl

key_same : (s t : Ty) → bytes_eq (ty_key s) (ty_key t) ≡ same_type s t
key_same Void Void = refl
key_same Void (Int j) = refl
key_same Void (Ptr m) = refl
key_same Void (Fun m) = refl
key_same Void (Struct m) = refl
key_same Void (Array m l) = refl
key_same (Int i) Void = refl
key_same (Int i) (Int j) = same_numbers i j
key_same (Int i) (Ptr m) = refl
key_same (Int i) (Fun m) = refl
key_same (Int i) (Struct m) = refl
key_same (Int i) (Array m l) = refl
key_same (Ptr k) Void = refl
key_same (Ptr k) (Int j) = refl
key_same (Ptr k) (Ptr m) = and_true (nat_eq k m)
key_same (Ptr k) (Fun m) = refl
key_same (Ptr k) (Struct m) = refl
key_same (Ptr k) (Array m l) = refl
key_same (Fun k) Void = refl
key_same (Fun k) (Int j) = refl
key_same (Fun k) (Ptr m) = refl
key_same (Fun k) (Fun m) = and_true (nat_eq k m)
key_same (Fun k) (Struct m) = refl
key_same (Fun k) (Array m l) = refl
key_same (Struct k) Void = refl
key_same (Struct k) (Int j) = refl
key_same (Struct k) (Ptr m) = refl
key_same (Struct k) (Fun m) = refl
key_same (Struct k) (Struct m) = and_true (nat_eq k m)
key_same (Struct k) (Array m l) = refl
key_same (Array k n) Void = refl
key_same (Array k n) (Int j) = refl
key_same (Array k n) (Ptr m) = refl
key_same (Array k n) (Fun m) = refl
key_same (Array k n) (Struct m) = refl
key_same (Array k n) (Array m l) = ap (λ b. nat_eq k m && b) (and_true (nat_eq n l))

three_and : (a b c d : Bool) → (a && (b && (c && d))) ≡ ((a && (b && (c && true))) && d)
three_and false b c d = refl
three_and true false c d = refl
three_and true true false d = refl
three_and true true true d = refl

keys_same : (ss ts : List Ty) → bytes_eq (keys_of ss) (keys_of ts) ≡ same_types ss ts
keys_same [] [] = refl
keys_same [] (t ∷ ts) = refl
keys_same (s ∷ ss) [] = refl
keys_same (s ∷ ss) (t ∷ ts) =
    three_and (nat_eq (form_of s) (form_of t)) (nat_eq (named_by s) (named_by t)) (nat_eq (count_in s) (count_in t)) (bytes_eq (keys_of ss) (keys_of ts))
    ∙ (λ j. key_same s t j && keys_same ss ts j)

same_marks : (v w : Bool) → nat_eq (mark v) (mark w) ≡ same_bool v w
same_marks true true = refl
same_marks true false = refl
same_marks false true = refl
same_marks false false = refl

mark_last : (m r p : Bool) → (m && (r && p)) ≡ (r && p && m)
mark_last true true true = refl
mark_last true true false = refl
mark_last true false p = refl
mark_last false true true = refl
mark_last false true false = refl
mark_last false false p = refl

function_same : (f g : FunTy) → bytes_eq (fun_key f) (fun_key g) ≡ same_function f g
function_same f g =
    ap (λ b. nat_eq (mark f.variadic) (mark g.variadic) && b)
    (three_and (nat_eq (form_of f.result) (form_of g.result)) (nat_eq (named_by f.result) (named_by g.result)) (nat_eq (count_in f.result) (count_in g.result)) (bytes_eq (keys_of f.params) (keys_of g.params)))
    ∙ (λ j. same_marks f.variadic g.variadic j && (key_same f.result g.result j && keys_same f.params g.params j))
    ∙ mark_last (same_bool f.variadic g.variadic) (same_type f.result g.result) (same_types f.params g.params)

pub type_place : (ty : Ty) (tys : List Ty) → position (is_ty ty) tys ≡ position (same_type ty) tys
type_place ty tys = λ j. position (λ other. (nat_list_eq_equiv.symm (ty_key other) (ty_key ty) ∙ key_same ty other) j) tys

pub function_place : (f : FunTy) (funs : List FunTy) → position (is_fun f) funs ≡ position (same_function f) funs
function_place f funs = λ j. position (λ other. (nat_list_eq_equiv.symm (fun_key other) (fun_key f) ∙ function_same f other) j) funs
