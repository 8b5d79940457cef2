-- The values of digits grow as more of them come.
use Rattle.std.proofs.Common.{◌≡◌, ℕ, zero, suc, ◌+◌, ◌*◌, ◌^◌, ◌<◌, ◌≤◌, Bool, true, false, eqb, ltb, List, [], ◌∷◌, length, get_or, take, Option, Some, None, find, refl, arith, lit≤, le-ltb}
use Rattle.std.proofs.Math.Nat.{mul-le-mul_left}
use Rattle.std.specs.Char.{digit_value}
use Rattle.std.specs.Str.Parse.{digits_value, digits_value_after}
use Rattle.c_types.specs.declared.types.IntTy.{IntTy}
use Rattle.c_types.specs.declared.types.IntTy.TheVariants as int
use Rattle.c_lex.specs.declared.numbers.Suffix.{Suffix}
use Rattle.c_lex.specs.Numbers.{is_x, base_of, prefix_of, end_of, types_of, type_of}
use Rattle.c_lex.proofs.QuoteLaws.{present, by_test}

pub digits_grow : (radix n : ℕ) (ds : List ℕ) → 0 < radix → n ≤ digits_value_after radix n ds
digits_grow radix n [] h = omega arith
digits_grow radix n (c ∷ cs) h =
    let more = digits_grow radix (n * radix + digit_value c) cs h in
    let times : n * 1 ≤ n * radix = mul-le-mul_left n h in
    omega (arith, more, times)

pub digits_from : (radix n i : ℕ) (ds : List ℕ) → 0 < radix → digits_value_after radix n (take i ds) ≤ digits_value_after radix n ds
digits_from radix n zero ds h = digits_grow radix n ds h
digits_from radix n (suc i) [] h = omega arith
digits_from radix n (suc i) (c ∷ cs) h = digits_from radix (n * radix + digit_value c) i cs h

-- the digits so far write no more than all of them
pub digits_so_far : (radix i : ℕ) (ds : List ℕ) → 0 < radix → digits_value radix (take i ds) ≤ digits_value radix ds
digits_so_far radix i ds h = digits_from radix 0 i ds h

-- no type holds a number from 2^64 on
end_small : (ty : IntTy) → end_of ty ≤ 2 ^ 64
unfolding end_of
end_small int.I8 = lit≤ tt
end_small int.U8 = lit≤ tt
end_small int.I16 = lit≤ tt
end_small int.U16 = lit≤ tt
end_small int.I32 = lit≤ tt
end_small int.U32 = lit≤ tt
end_small int.I64 = lit≤ tt
end_small int.U64 = lit≤ tt

none_holds : (value : ℕ) (tys : List IntTy) → 2 ^ 64 ≤ value → find (λ ty. ltb value (end_of ty)) tys ≡ None
none_holds value [] h = refl
none_holds value (ty ∷ tys) h =
    let past : ltb value (end_of ty) ≡ false = le-ltb _ _ (omega (arith, end_small ty)) in
    rw past (none_holds value tys h)

pub type_of_large : (value base : ℕ) (suffix : Suffix) → 2 ^ 64 ≤ value → type_of value base suffix ≡ None
unfolding type_of
type_of_large value base suffix h = none_holds value (types_of base suffix) h

pub base_positive : (word : List ℕ) → 0 < base_of word
unfolding base_of
base_positive word =
    by_test (λ n. 0 < n) (eqb (get_or word 0 0) 48) _ 10 (λ _. by_test (λ n. 0 < n) (is_x (get_or word 1 0)) 16 8 (λ _. omega arith) (λ _. omega arith)) (λ _. omega arith)

-- `0x` takes two bytes
pub prefix_within : (word : List ℕ) → prefix_of (base_of word) ≤ length word
unfolding base_of prefix_of is_x
prefix_within word =
    by_test (λ n. prefix_of n ≤ length word) (eqb (get_or word 0 0) 48) _ 10
    (λ _. by_test (λ n. prefix_of n ≤ length word) (is_x (get_or word 1 0)) 16 8
    (λ x. let some : 1 < length word = present is_x word 1 refl x in omega arith) (λ _. omega arith))
    (λ _. omega arith)
