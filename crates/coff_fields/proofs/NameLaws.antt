-- Names and the parts of them that tests look at.
use Rattle.std.proofs.Common.{◌≡◌, ◌≢◌, ℕ, zero, suc, ◌+◌, ◌-◌, ◌*◌, ◌^◌, ◌<◌, ◌≤◌, Bool, true, false, cond, not, ◌&&◌, ◌||◌, List, [], ◌∷◌, length, get_or, take, drop, eqb, ltb, leb, refl, sym, ap, ◌∙◌, arith, add-one, inl, inr, length-drop}
use Rattle.std.specs.List.{position_or_len}
use Rattle.std.proofs.Math.Nat.{pow-suc, pow-le-pow_right}
use Rattle.std.proofs.lemmas.Bool.{cases_lt, ne_eqb, lt-ltb, le-ltb, le-leb, lt-leb}
use Rattle.std.proofs.lemmas.List.{take_all, length-take, get_or-take}
use Rattle.file_words.specs.Fields.{byte_of, part_of, until_zero}
use Rattle.file_words.specs.Below.{past_last}
use Rattle.file_words.proofs.BelowLaws.{from_last}
use Rattle.coff_write.specs.Valid.{has_from, begins, is_reserved}
use Rattle.coff_write.specs.Format.{hybrid_name}
use Rattle.coff_fields.specs.Names.{field_text, strings, is_zero, bad_string, string_at, digits, decimal}

-- ---- cuts

pub part_rest : (xs : List ℕ) (o n : ℕ) → n ≡ length xs → part_of xs o n ≡ drop o xs
unfolding part_of
part_rest xs o n e = take_all n (drop o xs) (omega (arith, length-drop o xs))

until_case : (n x m k : ℕ) (xs : List ℕ) (b : Bool) → take m (take n xs) ≡ take n (take k xs) → take (cond (not b) (1 + m) 0) (x ∷ take n xs) ≡ take (suc n) (take (cond (not b) (1 + k) 0) (x ∷ xs))
until_case n x m k xs true e = refl
until_case n x m k xs false e =
    let s : 1 + m ≡ suc m = omega arith in
    let t : 1 + k ≡ suc k = omega arith in
    rw (s, t) (ap (λ (ys : List ℕ). x ∷ ys) e)

-- a cut before the first zero and one at n
until_take : (n : ℕ) (xs : List ℕ) → until_zero (take n xs) ≡ take n (until_zero xs)
until_take zero xs = refl
until_take (suc n) [] = refl
until_take (suc n) (x ∷ xs) = until_case n x (position_or_len (λ c. eqb c 0) (take n xs)) (position_or_len (λ c. eqb c 0) xs) xs (eqb x 0) (until_take n xs)

until_short : (xs : List ℕ) → length (until_zero xs) ≤ length xs
until_short xs = omega (arith, length-take (position_or_len (λ c. eqb c 0) xs) xs)

pub string_in_size : (b : List ℕ) (o : ℕ) → o < 4 → true ≡ bad_string b o
unfolding bad_string
string_in_size b o lt = rw (lt-ltb o 4 lt) refl

out_case : (o end : ℕ) → leb end o ≡ not (ltb o end)
out_case o end = elim (cases_lt o end) [ inl lt ↦ lt-leb end o lt ∙ sym (ap not (lt-ltb o end lt)) | inr le ↦ le-leb end o le ∙ sym (ap not (le-ltb o end le)) ]

pub string_out : (b : List ℕ) (end o : ℕ) → end ≡ past_last (is_zero (strings b)) (length (strings b)) → 4 ≤ o → leb end o ≡ bad_string b o
unfolding bad_string
string_out b end o e le = rw (le-ltb o 4 le, from_last (is_zero (strings b)) o (length (strings b)), sym e) (out_case o end)

-- nine bytes of a name in the string table
pub front_string : (b : List ℕ) (o : ℕ) → until_zero (part_of (strings b) o 9) ≡ take 9 (string_at b o)
unfolding part_of string_at
front_string b o = until_take 9 (drop o (strings b))

field_short : (b : List ℕ) (p : ℕ) → length (field_text b p) ≤ 8
unfolding field_text part_of
field_short b p = omega (arith, until_short (take 8 (drop p b)), length-take 8 (drop p b))

-- a name field has fewer
pub front_field : (b : List ℕ) (p : ℕ) → field_text b p ≡ take 9 (field_text b p)
front_field b p = sym (take_all 9 (field_text b p) (omega (arith, field_short b p)))

pub few_digits : (b : List ℕ) (i : ℕ) → length (digits b i) ≤ 7
unfolding digits
few_digits b i = omega (arith, length-drop 1 (field_text b (20 + 40 * i)), field_short b (20 + 40 * i))

pub head_is : (xs : List ℕ) → byte_of xs 0 ≡ get_or xs 0 0
unfolding byte_of
head_is xs = refl

pub head_front : (xs : List ℕ) → byte_of (take 9 xs) 0 ≡ get_or xs 0 0
unfolding byte_of
head_front xs = get_or-take 9 xs 0 0 (omega arith)

-- ---- decimal numbers

pub decimal_none : (text : List ℕ) → 0 ≡ decimal text 0
unfolding decimal
decimal_none text = refl

pub decimal_step : (text : List ℕ) (n v : ℕ) → v ≡ decimal text n → 10 * v + (get_or text n 0 - 48) ≡ decimal text (n + 1)
unfolding decimal
decimal_step text n v e = rw (add-one n, e) refl

pub small_step : (v d k : ℕ) → v < 256 ^ k → d < 256 → 10 * v + (d - 48) < 256 ^ (k + 1)
small_step v d k lt few = rw add-one (rw (pow-suc 256 k) (omega (arith, lt)))

pub small : (v k : ℕ) → v < 256 ^ k → k ≤ 7 → v < 72057594037927936
small v k lt le = let positive : 0 < 256 = omega arith in omega (arith, lt, pow-le-pow_right {n = 256} positive {i = k} {j = 7} le)

-- ---- names that are dropped

begins_front : (n front : List ℕ) (k : ℕ) → k + length front ≤ 9 → has_from (take 9 n) k front ≡ has_from n k front
begins_front n [] k le = refl
begins_front n (c ∷ cs) k le = rw (get_or-take 9 n k 0 (omega arith), begins_front n cs (k + 1) (omega arith)) refl

not_eight : (n : List ℕ) → 9 < length n → (eqb (length (take 9 n)) 8 ≡ false) × (eqb (length n) 8 ≡ false)
not_eight n lt = (ne_eqb (length (take 9 n)) 8 (λ e. omega (arith, length-take 9 n, e)), ne_eqb (length n) 8 (λ e. omega (arith, e)))

long_reserved : (n : List ℕ) → 9 < length n → is_reserved (take 9 n) ≡ is_reserved n
unfolding is_reserved
long_reserved n lt =
    let h = not_eight n lt in
    rw (
      h.0,
      h.1,
      begins_front n (46 ∷ 112 ∷ 100 ∷ 97 ∷ 116 ∷ 97 ∷ []) 0 (omega arith),
      begins_front n (46 ∷ 120 ∷ 100 ∷ 97 ∷ 116 ∷ 97 ∷ []) 0 (omega arith),
      begins_front n (46 ∷ 100 ∷ 101 ∷ 98 ∷ 117 ∷ 103 ∷ []) 0 (omega arith),
    ) refl

pub reserved_front : (n : List ℕ) → is_reserved (take 9 n) ≡ is_reserved n
reserved_front n = elim (cases_lt 9 (length n)) [ inl lt ↦ long_reserved n lt | inr le ↦ ap is_reserved (take_all 9 n le) ]

pub hybrid_front : (n : List ℕ) → ((eqb (length (take 9 n)) 8) && begins (take 9 n) hybrid_name) ≡ ((eqb (length n) 8) && begins n hybrid_name)
hybrid_front n = elim (cases_lt 9 (length n)) [
  | inl lt ↦ let h = not_eight n lt in rw (h.0, h.1) refl
  | inr le ↦ ap (λ (m : List ℕ). (eqb (length m) 8) && begins m hybrid_name) (take_all 9 n le)
]
