-- Parts of a file, and the bytes before a zero.
use Rattle.std.proofs.Common.{◌≡◌, ℕ, ◌+◌, ◌<◌, ◌≤◌, cond, not, List, [], ◌∷◌, ◌++◌, length, take, drop, eqb, ltb, Option, Some, None, refl, sym, ap, ◌∙◌, arith, inl, inr, ◌⊎◌}
use Rattle.std.specs.List.{position, position_or_len}
use Rattle.std.proofs.lemmas.List.Sums.{prefix_len-le-length}
use Rattle.std.proofs.lemmas.Bool.{le-ltb, cases_lt, lt-ltb}
use Rattle.std.proofs.lemmas.List.{take_all, drop_all}
use Rattle.file_words.specs.Fields.{part_of, until_zero}

take_nothing : (n : ℕ) → take n [] ≡ (let none : List ℕ = [] in none)
take_nothing n = take_all n [] (omega arith)

pub part_none : (xs : List ℕ) (place len : ℕ) → length xs ≤ place → take 0 xs ≡ part_of xs place len
unfolding part_of
part_none xs place len le = sym (ap (take len) (drop_all place xs le) ∙ take_nothing len)

pub part_all : (xs : List ℕ) (place len : ℕ) → length (drop place xs) ≤ len → drop place xs ≡ part_of xs place len
unfolding part_of
part_all xs place len le = sym (take_all len (drop place xs) le)

some_is : (a b : ℕ) → Some a ≡ Some b → a ≡ b
some_is a b e = cc

cut_cases : (xs : List ℕ) (n : ℕ) (o : Option ℕ) → n ≤ length xs → o ≡ cond (ltb n (length xs)) (Some n) None → ((o ≡ Some n) × (n < length xs)) ⊎ ((o ≡ None) × (n ≡ length xs))
cut_cases xs n o le e = elim (cases_lt n (length xs)) [
  | inl lt ↦ inl (e ∙ rw (lt-ltb n (length xs) lt) refl, lt)
  | inr ge ↦ inr (e ∙ rw (le-ltb n (length xs) ge) refl, omega arith)
]

cut_case : (xs : List ℕ) (o : Option ℕ) → o ≡ position (λ c. eqb c 0) xs → ((o ≡ Some (position_or_len (λ c. eqb c 0) xs)) × (position_or_len (λ c. eqb c 0) xs < length xs)) ⊎ ((o ≡ None) × (position_or_len (λ c. eqb c 0) xs ≡ length xs))
cut_case xs o e = cut_cases xs (position_or_len (λ c. eqb c 0) xs) o (prefix_len-le-length (λ c. not (eqb c 0)) xs) e

none_is_some : (n : ℕ) → Some n ≡ None → ⊥
none_is_some n e = cc

-- what `position` says of the bytes before the first zero
pub cut_some : (xs : List ℕ) (n : ℕ) → Some n ≡ position (λ c. eqb c 0) xs → take n xs ≡ until_zero xs
cut_some xs n e = elim (cut_case xs (Some n) e) [
  | inl h ↦ let same : n ≡ position_or_len (λ c. eqb c 0) xs = some_is n _ h.0 in ap (λ k. take k xs) same
  | inr h ↦ absurd (none_is_some n h.0)
]

pub cut_none : (xs : List ℕ) → (let o : Option ℕ = None in o) ≡ position (λ c. eqb c 0) xs → xs ≡ until_zero xs
cut_none xs e = elim (cut_case xs None e) [
  | inl h ↦ absurd (none_is_some _ (sym h.0))
  | inr h ↦ sym (take_all (position_or_len (λ c. eqb c 0) xs) xs (omega (arith, h.1)))
]
