-- Fronts of lists, tables and words.
use Rattle.std.proofs.Common.{◌≡◌, ◌≢◌, ℕ, zero, suc, ◌+◌, ◌-◌, ◌<◌, ◌≤◌, Bool, true, false, cond, ◌&&◌, ◌||◌, eqb, List, [], ◌∷◌, ◌++◌, length, get_or, take, drop, Option, Some, None, refl, sym, ap, subst, ◌∙◌, arith, position, zero-add}
use Rattle.std.proofs.Math.Numerals.{one-add}
use Rattle.std.specs.List.{prefix_len, list_all}
use Rattle.std.specs.Str.{bytes_eq}
use Rattle.std.proofs.lemmas.List.Quantifiers.{position-Some}
use Rattle.std.proofs.lemmas.Slice.Eq.{bytes_eq-Decides}
use Rattle.c_lex.specs.Numbering.{words, word_text, marks, mark_text}
use Rattle.c_lex.specs.Bytes.{is_blank, is_letter, is_decimal, is_word_byte}
use Rattle.c_lex.specs.Spelling.{number_of_word, number_of_mark}
use Rattle.c_lex.specs.Grammar.{is_name}
use Rattle.c_lex.proofs.QuoteLaws.{and_left, and_right}

-- where each of the front passes, the passing front goes on behind it
pub prefix_len-passing : (p : ℕ → Bool) (xs ys : List ℕ) → list_all p xs ≡ true → prefix_len p (xs ++ ys) ≡ length xs + prefix_len p ys
prefix_len-passing p [] ys h = omega arith
prefix_len-passing p (x ∷ xs) ys h =
    let rest = prefix_len-passing p xs ys (and_right (p x) _ h) in
    rw (and_left (p x) _ h, rest) (omega arith)

pub prefix_len-stopping : (p : ℕ → Bool) (ys : List ℕ) → p (get_or ys 0 0) ≡ false → prefix_len p ys ≡ 0
prefix_len-stopping p [] h = refl
prefix_len-stopping p (y ∷ ys) h = rw h

pub prefix_len-going : (p : ℕ → Bool) (ys : List ℕ) → p 0 ≡ false → p (get_or ys 0 0) ≡ true → 0 < prefix_len p ys
prefix_len-going p [] fails h = cc
prefix_len-going p (y ∷ ys) fails h = rw h (omega arith)

-- the passing front passes
passes_on : (p : ℕ → Bool) (x : ℕ) (xs : List ℕ) (b : Bool) → p x ≡ b → list_all p (take (prefix_len p xs) xs) ≡ true → list_all p (take (cond b (1 + prefix_len p xs) 0) (x ∷ xs)) ≡ true
passes_on p x xs true e rest = rw (one-add, e) rest
passes_on p x xs false e rest = refl

pub front_passes : (p : ℕ → Bool) (xs : List ℕ) → list_all p (take (prefix_len p xs) xs) ≡ true
front_passes p [] = refl
front_passes p (x ∷ xs) = passes_on p x xs (p x) refl (front_passes p xs)

pub take-add : (m n : ℕ) (xs : List ℕ) → take (m + n) xs ≡ take m xs ++ take n (drop m xs)
take-add zero n xs = rw zero-add
take-add (suc m) zero [] = let counts : suc m + 0 ≡ suc m = omega arith in rw counts
take-add (suc m) (suc n) [] = let counts : suc m + suc n ≡ suc (m + suc n) = omega arith in rw counts
take-add (suc m) n (x ∷ xs) = let counts : suc m + n ≡ suc (m + n) = omega arith in rw counts (ap (λ l. x ∷ l) (take-add m n xs))

entry_passes : {X : Type 0} (test : X → Bool) (entries : List X) (i : ℕ) (d : X) → list_all test entries ≡ true → i < length entries → test (get_or entries i d) ≡ true
entry_passes test [] i d each within = absurd (omega arith)
entry_passes test (x ∷ xs) zero d each within = and_left (test x) _ each
entry_passes test (x ∷ xs) (suc i) d each within = entry_passes test xs i d (and_right (test x) _ each) (omega arith)

-- what holds of the spelling of each entry holds of a text in the table
pub in_table : {X : Type 0} (spelling : X → List ℕ) (test : List ℕ → Bool) (entries : List X) (text : List ℕ) (i : ℕ) → X → list_all (λ x. test (spelling x)) entries ≡ true →
    position (λ x. bytes_eq text (spelling x)) entries ≡ Some i → test text ≡ true
in_table spelling test entries text i d each at =
    let found = position-Some (λ x. bytes_eq text (spelling x)) entries i d at in
    let same = (bytes_eq-Decides text (spelling (get_or entries i d))).0 found.1 in
    subst (λ t. test t ≡ true) (sym same) (entry_passes (λ x. test (spelling x)) entries i d each found.0)
