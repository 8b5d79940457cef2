-- The first end of a comment, place by place.
use Rattle.std.proofs.Common.{◌≡◌, ℕ, zero, suc, ◌+◌, ◌<◌, ◌≤◌, Bool, true, false, eqb, List, [], ◌∷◌, length, drop, Option, Some, None, refl, sym, ap, ◌∙◌, arith, add-one}
use Rattle.std.specs.Prelude.{option_map}
use Rattle.c_lex.specs.Reading.{closes, close_of}
use Rattle.c_lex.proofs.QuoteLaws.{present, by_test, and_right}

-- the end that is found behind so many bytes
abbrev pub later : ℕ → Option ℕ → Option ℕ
later k o = option_map (λ n. k + n) o

close_here : (text : List ℕ) (i : ℕ) → i < length text → closes (drop i text) ≡ true → close_of (drop i text) ≡ Some 2
unfolding close_of
close_here [] i h t = absurd (omega arith)
close_here (b ∷ bs) zero h t = rw t
close_here (b ∷ bs) (suc i) h t = close_here bs i (omega arith) t

close_next : (text : List ℕ) (i : ℕ) → i < length text → closes (drop i text) ≡ false → close_of (drop i text) ≡ option_map suc (close_of (drop (suc i) text))
unfolding close_of
close_next [] i h t = absurd (omega arith)
close_next (b ∷ bs) zero h t = rw t
close_next (b ∷ bs) (suc i) h t = close_next bs i (omega arith) t

close_end : (text : List ℕ) (i : ℕ) → length text ≤ i → close_of (drop i text) ≡ None
unfolding close_of
close_end [] zero h = refl
close_end [] (suc i) h = refl
close_end (b ∷ bs) zero h = absurd (omega arith)
close_end (b ∷ bs) (suc i) h = close_end bs i (omega arith)

later_suc : (i : ℕ) (o : Option ℕ) → later (suc i) o ≡ later i (option_map suc o)
later_suc i None = refl
later_suc i (Some n) = ap Some (omega arith)

pub close_found : (text : List ℕ) (i : ℕ) → i < length text → closes (drop i text) ≡ true → later i (close_of (drop i text)) ≡ Some (i + 2)
close_found text i h t = ap (later i) (close_here text i h t)

pub close_on : (text : List ℕ) (i : ℕ) → i < length text → closes (drop i text) ≡ false → later (i + 1) (close_of (drop (i + 1) text)) ≡ later i (close_of (drop i text))
close_on text i h t = rw add-one (later_suc i (close_of (drop (suc i) text)) ∙ ap (later i) (sym (close_next text i h t)))

pub close_none : (text : List ℕ) (i : ℕ) → length text ≤ i → later i (close_of (drop i text)) ≡ None
close_none text i h = ap (later i) (close_end text i h)

-- an end lies within the text
abbrev pub EndsWithin : ℕ → Option ℕ → Type 0
EndsWithin length None = Unit {0}
EndsWithin length (Some n) = (2 ≤ n) × (n ≤ length)

one_more : (k : ℕ) (o : Option ℕ) → EndsWithin k o → EndsWithin (suc k) (option_map suc o)
one_more k None h = tt
one_more k (Some n) h = (omega (arith, h), omega (arith, h))

pub close_within : (text : List ℕ) → EndsWithin (length text) (close_of text)
unfolding close_of closes
close_within [] = tt
close_within (b ∷ bs) =
    by_test (EndsWithin (length (b ∷ bs))) (closes (b ∷ bs)) (Some 2) _
    (λ t. let two : 1 < length (b ∷ bs) = present (λ c. eqb c 47) (b ∷ bs) 1 refl (and_right (eqb b 42) _ t) in (omega arith, omega arith))
    (λ _. one_more (length bs) _ (close_within bs))
