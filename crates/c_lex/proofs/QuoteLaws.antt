-- Characters and string literals lie within their text.
use Rattle.std.proofs.Common.{◌≡◌, ℕ, zero, suc, ◌+◌, ◌-◌, ◌*◌, ◌<◌, ◌≤◌, Bool, true, false, cond, ◌&&◌, ◌||◌, not, List, [], ◌∷◌, ◌++◌, length, get_or, drop, Option, Some, None, is_some, refl, sym, ◌∙◌, ap, subst, ◌⊎◌, inl, inr, arith, eqb, ltb, leb}
use Rattle.std.specs.Char.{digit_value}
use Rattle.c_lex.specs.declared.quotes.Quoted.{Quoted}
use Rattle.c_lex.specs.Quotes.{escape_value, hex_escape, escape_at, is_plain, quoted_at, Literal, spelled, with_byte, with_quoted, literal_from}

-- what a test that fails past the end finds stands in the text
pub present : (p : ℕ → Bool) (text : List ℕ) (k : ℕ) → p 0 ≡ false → p (get_or text k 0) ≡ true → k < length text
present p [] k fails passes = cc
present p (x ∷ xs) zero fails passes = omega arith
present p (x ∷ xs) (suc k) fails passes = omega (arith, present p xs k fails passes)

-- a choice, with what its test says
pub by_test : {A : Type 0} (P : A → Type 0) (b : Bool) (x y : A) → (b ≡ true → P x) → (b ≡ false → P y) → P (cond b x y)
by_test P true x y passed failed = passed refl
by_test P false x y passed failed = failed refl

-- a character takes a byte at least, and lies within its text
abbrev pub IsWithin : ℕ → Option Quoted → Type 0
IsWithin n None = Unit {0}
IsWithin n (Some q) = (0 < q.length) × (q.length ≤ n)

pub and_left : (a b : Bool) → (a && b) ≡ true → a ≡ true
and_left true b h = refl
and_left false b h = h

pub and_right : (a b : Bool) → (a && b) ≡ true → b ≡ true
and_right true b h = h
and_right false b h = cc

hex_within : (text : List ℕ) → IsWithin (length text) (hex_escape text)
unfolding hex_escape
hex_within text =
    by_test (IsWithin (length text)) (ltb (digit_value (get_or text 2 0)) 16 && ltb (digit_value (get_or text 3 0)) 16) _ None
    (λ both. let low : 3 < length text = present (λ b. ltb (digit_value b) 16) text 3 refl (and_right (ltb (digit_value (get_or text 2 0)) 16) (ltb (digit_value (get_or text 3 0)) 16) both) in (omega arith, omega arith))
    (λ _. tt)

simple_within : (text : List ℕ) (value : Option ℕ) → value ≡ escape_value (get_or text 1 0) → IsWithin (length text) (Rattle.std.specs.Option.option_map (λ v. record { value = v; length = 2 }) value)
unfolding escape_value
simple_within text None e = tt
simple_within text (Some v) e =
    let in_text : 1 < length text = present (λ b. is_some (escape_value b)) text 1 refl (ap is_some (sym e)) in
    (omega arith, omega arith)

escape_within : (text : List ℕ) → IsWithin (length text) (escape_at text)
unfolding escape_at
escape_within text =
    by_test (IsWithin (length text)) (eqb (get_or text 1 0) 120) _ _ (λ _. hex_within text) (λ _. simple_within text _ refl)

pub quoted_within : (quote : ℕ) (text : List ℕ) → IsWithin (length text) (quoted_at quote text)
unfolding quoted_at is_plain
quoted_within quote text =
    by_test (IsWithin (length text)) (eqb (get_or text 0 0) 92) _ _
    (λ _. escape_within text)
    (λ _. by_test (IsWithin (length text)) (is_plain quote (get_or text 0 0)) _ None
    (λ plain. let some : 0 < length text = present (is_plain quote) text 0 refl plain in (omega arith, omega arith))
    (λ _. tt))

-- the same of a character that is found
pub quoted_bounds : (quote : ℕ) (text : List ℕ) (q : Quoted) → quoted_at quote text ≡ Some q → (0 < q.length) × (q.length ≤ length text)
quoted_bounds quote text q e = subst (IsWithin (length text)) e (quoted_within quote text)
