-- Names in their fields and in the string table are read as they were written.
use Rattle.std.proofs.Common.{◌≡◌, ℕ, suc, ◌+◌, ◌/◌, ◌%◌, ◌≤◌, Bool, true, false, cond, not, ◌&&◌, eqb, ltb, leb, List, [], ◌∷◌, ◌++◌, length, get_or, take, drop, refl, ap, ◌∙◌, arith}
use Rattle.std.proofs.lemmas.Bool.{and_parts, not-true, ne_eqb, le-ltb, lt-ltb, le-leb}
use Rattle.std.proofs.lemmas.List.{length-append}
use Rattle.coff_write.specs.Format.{long_text, eight, digit, slash_field}
use Rattle.coff_write.specs.Valid.{no_zero}
use Rattle.file_words.specs.Fields.{byte_of, until_zero}
use Rattle.file_words.specs.Below.{any_below}
use Rattle.file_words.specs.Standing.{Has}
use Rattle.file_words.proofs.HasLaws.{has_right, has_within, part_has, byte_has}
use Rattle.file_words.proofs.BelowLaws.{any_found}
use Rattle.coff_fields.specs.Names.{field_text, strings, string_at, is_zero, bad_string, bad_digits, decimal}

-- ---- the bytes before a zero

until_step : (b : Bool) (c m : ℕ) (xs ys : List ℕ) → b ≡ false → take m xs ≡ ys → take (cond (not b) (1 + m) 0) (c ∷ xs) ≡ c ∷ ys
until_step true c m xs ys e h = absurd cc
until_step false c m xs ys e h = let s : 1 + m ≡ suc m = omega arith in rw s (ap (λ (zs : List ℕ). c ∷ zs) h)

head_not : (c : ℕ) (n : List ℕ) → no_zero (c ∷ n) ≡ true → (eqb c 0 ≡ false) × (no_zero n ≡ true)
head_not c n e = let h = and_parts (not (eqb c 0)) (no_zero n) e in (not-true (eqb c 0) h.0, h.1)

pub until_closed : (n rest : List ℕ) → no_zero n ≡ true → until_zero (n ++ 0 ∷ rest) ≡ n
until_closed [] rest e = refl
until_closed (c ∷ n) rest e = let h = head_not c n e in until_step (eqb c 0) c _ (n ++ 0 ∷ rest) n h.0 (until_closed n rest h.1)

pub until_all : (n : List ℕ) → no_zero n ≡ true → until_zero n ≡ n
until_all [] e = refl
until_all (c ∷ n) e = let h = head_not c n e in until_step (eqb c 0) c _ n n h.0 (until_all n h.1)

eight_again : (n : List ℕ) → length n ≤ 8 → no_zero n ≡ true → until_zero (eight n) ≡ n
eight_again [] le e = refl
eight_again (a ∷ []) le e = until_closed (a ∷ []) (0 ∷ 0 ∷ 0 ∷ 0 ∷ 0 ∷ 0 ∷ []) e
eight_again (a ∷ b ∷ []) le e = until_closed (a ∷ b ∷ []) (0 ∷ 0 ∷ 0 ∷ 0 ∷ 0 ∷ []) e
eight_again (a ∷ b ∷ c ∷ []) le e = until_closed (a ∷ b ∷ c ∷ []) (0 ∷ 0 ∷ 0 ∷ 0 ∷ []) e
eight_again (a ∷ b ∷ c ∷ d ∷ []) le e = until_closed (a ∷ b ∷ c ∷ d ∷ []) (0 ∷ 0 ∷ 0 ∷ []) e
eight_again (a ∷ b ∷ c ∷ d ∷ f ∷ []) le e = until_closed (a ∷ b ∷ c ∷ d ∷ f ∷ []) (0 ∷ 0 ∷ []) e
eight_again (a ∷ b ∷ c ∷ d ∷ f ∷ g ∷ []) le e = until_closed (a ∷ b ∷ c ∷ d ∷ f ∷ g ∷ []) (0 ∷ []) e
eight_again (a ∷ b ∷ c ∷ d ∷ f ∷ g ∷ h ∷ []) le e = until_closed (a ∷ b ∷ c ∷ d ∷ f ∷ g ∷ h ∷ []) [] e
eight_again (a ∷ b ∷ c ∷ d ∷ f ∷ g ∷ h ∷ i ∷ []) le e = until_all (a ∷ b ∷ c ∷ d ∷ f ∷ g ∷ h ∷ i ∷ []) e
eight_again (a ∷ b ∷ c ∷ d ∷ f ∷ g ∷ h ∷ i ∷ j ∷ n) le e = absurd (omega arith)

-- a name that its field holds
pub field_short : (b : List ℕ) (p : ℕ) (n : List ℕ) → length n ≤ 8 → no_zero n ≡ true → Has b p (eight n) → field_text b p ≡ n
unfolding field_text
field_short b p n le e h = ap (λ (xs : List ℕ). until_zero xs) (part_has b p 8 (eight n) h refl) ∙ eight_again n le e

-- ---- decimal digits

no_digit_zero : (x : ℕ) → eqb (48 + x) 0 ≡ false
no_digit_zero x = ne_eqb (48 + x) 0 (λ e. omega (arith, e))

slash_kept : (v : ℕ) → no_zero (slash_field v) ≡ true
unfolding slash_field
slash_kept v = rw (no_digit_zero (v / 1000000 % 10), no_digit_zero (v / 100000 % 10), no_digit_zero (v / 10000 % 10), no_digit_zero (v / 1000 % 10), no_digit_zero (v / 100 % 10), no_digit_zero (v / 10 % 10), no_digit_zero (v / 1 % 10)) refl

slash_long : (v : ℕ) → length (slash_field v) ≡ 8
unfolding slash_field
slash_long v = refl

abbrev seven : ℕ → List ℕ
seven v = digit v 1000000 ∷ digit v 100000 ∷ digit v 10000 ∷ digit v 1000 ∷ digit v 100 ∷ digit v 10 ∷ digit v 1 ∷ []

slash_is : (v : ℕ) → slash_field v ≡ 47 ∷ seven v
unfolding slash_field
slash_is v = refl

pub slash_digits : (b : List ℕ) (p v : ℕ) → Has b p (slash_field v) → drop 1 (field_text b p) ≡ seven v
unfolding field_text
slash_digits b p v h = ap (λ (xs : List ℕ). drop 1 (until_zero xs)) (part_has b p 8 (slash_field v) h (slash_long v)) ∙ ap (drop 1) (until_all (slash_field v) (slash_kept v) ∙ slash_is v)

pub slash_first : (b : List ℕ) (p v : ℕ) → Has b p (slash_field v) → byte_of b p ≡ 47
unfolding slash_field
slash_first b p v h = byte_has b p 0 p _ h (omega arith) (omega arith)

pub seven_again : (v : ℕ) → v ≤ 9999999 → decimal (seven v) (length (seven v)) ≡ v
unfolding decimal
seven_again v le = omega arith

digit_good : (x : ℕ) → (leb 48 (48 + x % 10) && ltb (48 + x % 10) 58) ≡ true
digit_good x = rw (le-leb 48 (48 + x % 10) (omega arith), lt-ltb (48 + x % 10) 58 (omega arith)) refl

pub seven_good : (v : ℕ) → bad_digits (seven v) ≡ false
unfolding bad_digits any_below
seven_good v = rw (digit_good (v / 1000000), digit_good (v / 100000), digit_good (v / 10000), digit_good (v / 1000), digit_good (v / 100), digit_good (v / 10), digit_good (v / 1)) refl

-- ---- names in the string table

pub long_is : (n : List ℕ) → long_text false n ≡ n ++ 0 ∷ []
unfolding long_text
long_is n = refl

pub string_is : (b : List ℕ) (o : ℕ) (n : List ℕ) → no_zero n ≡ true → Has (strings b) o (n ++ 0 ∷ []) → string_at b o ≡ n
unfolding string_at
string_is b o n e h =
    ap (λ (xs : List ℕ). until_zero xs) (h.is ∙ append_one n h.rest) ∙ until_closed n h.rest e
  where
    append_one : (xs rest : List ℕ) → (xs ++ 0 ∷ []) ++ rest ≡ xs ++ 0 ∷ rest
    append_one [] rest = refl
    append_one (x ∷ xs) rest = ap (λ (ys : List ℕ). x ∷ ys) (append_one xs rest)

zero_there : (t : List ℕ) (o : ℕ) (n : List ℕ) → Has t o (n ++ 0 ∷ []) → get_or t (o + length n) 0 ≡ 0
unfolding byte_of
zero_there t o n h = byte_has t (o + length n) 0 (o + length n) (0 ∷ []) (has_right t o n (0 ∷ []) h) (omega arith) (omega arith)

closed : (t : List ℕ) (o : ℕ) (n : List ℕ) → Has t o (n ++ 0 ∷ []) → any_below (λ k. leb o k && is_zero t k) (length t) ≡ true
unfolding is_zero
closed t o n h =
    let long : length (n ++ 0 ∷ []) ≡ length n + 1 = length-append n (0 ∷ []) in
    let within : o + length (n ++ 0 ∷ []) ≤ length t = has_within t o (n ++ 0 ∷ []) (omega (arith, long)) h in
    any_found (λ k. leb o k && is_zero t k) (length t) (o + length n) (omega (arith, long, within)) (rw (le-leb o (o + length n) (omega arith), zero_there t o n h) refl)

pub string_good : (b : List ℕ) (o : ℕ) (n : List ℕ) → 4 ≤ o → Has (strings b) o (n ++ 0 ∷ []) → bad_string b o ≡ false
unfolding bad_string
string_good b o n le h = rw (le-ltb o 4 le, closed (strings b) o n h) refl
