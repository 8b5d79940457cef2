-- The names of definitions, from a number on.
use Rattle.std.proofs.Common.{◌≡◌, ℕ, suc, ◌+◌, ◌-◌, ◌<◌, List, [], ◌∷◌, ◌++◌, refl, sym, ap, ◌∙◌, arith, append-nil, append_assoc, map, Some, None, Option}
use Rattle.std.proofs.lemmas.List.{map-append}
use Rattle.c_program.specs.declared.program.Program.{Program}
use Rattle.ec_driver.specs.Definitions.{name_and, name_numbered, names_from, most_definitions}

names_from-zero : (p : Program) (number : ℕ) → names_from p number 0 ≡ []
unfolding names_from
names_from-zero p number = refl

names_from-suc : (p : Program) (number most : ℕ) → names_from p number (suc most) ≡ name_and (name_numbered p number) (names_from p (number + 1) most)
unfolding names_from
names_from-suc p number most = refl

unrolled : (p : Program) (number : ℕ) → number < most_definitions → names_from p number (most_definitions - number) ≡ name_and (name_numbered p number) (names_from p (number + 1) (most_definitions - (number + 1)))
unrolled p number h = ap (names_from p number) (let e : most_definitions - number ≡ suc (most_definitions - (number + 1)) = omega arith in e) ∙ names_from-suc p number (most_definitions - (number + 1))

-- one more name
pub name_more : (p : Program) (number : ℕ) (name : List ℕ) (names all : List (List ℕ)) → number < most_definitions → name_numbered p number ≡ Some name → names ++ names_from p number (most_definitions - number) ≡ all
    → (names ++ name ∷ []) ++ names_from p (number + 1) (most_definitions - (number + 1)) ≡ all
name_more p number name names all h is so_far =
    append_assoc names (name ∷ []) (names_from p (number + 1) (most_definitions - (number + 1)))
    ∙ ap (λ (o : Option (List ℕ)). names ++ name_and o (names_from p (number + 1) (most_definitions - (number + 1)))) (sym is)
    ∙ ap (λ (xs : List (List ℕ)). names ++ xs) (sym (unrolled p number h))
    ∙ so_far

pub name_pushed : (A : Type 0) (f : A → List ℕ) (p : Program) (number : ℕ) (x : A) (xs new : List A) (all : List (List ℕ)) → number < most_definitions → Some (f x) ≡ name_numbered p number → new ≡ xs ++ x ∷ [] → map f xs ++ names_from p number (most_definitions - number) ≡ all
    → map f new ++ names_from p (number + 1) (most_definitions - (number + 1)) ≡ all
name_pushed A f p number x xs new all h is pushed so_far =
    ap (λ (ys : List A). map f ys ++ names_from p (number + 1) (most_definitions - (number + 1))) pushed
    ∙ ap (λ (ys : List (List ℕ)). ys ++ names_from p (number + 1) (most_definitions - (number + 1))) (map-append f xs (x ∷ []))
    ∙ name_more p number (f x) (map f xs) all h (sym is) so_far

-- no more names
pub names_end : (p : Program) (number : ℕ) (names all : List (List ℕ)) → number < most_definitions → None ≡ name_numbered p number → names ++ names_from p number (most_definitions - number) ≡ all → names ≡ all
names_end p number names all h is so_far =
    sym (append-nil names)
    ∙ ap (λ (o : Option (List ℕ)). names ++ name_and o (names_from p (number + 1) (most_definitions - (number + 1)))) is
    ∙ ap (λ (xs : List (List ℕ)). names ++ xs) (sym (unrolled p number h))
    ∙ so_far

pub names_full : (p : Program) (number : ℕ) (names all : List (List ℕ)) → number ≡ most_definitions → names ++ names_from p number (most_definitions - number) ≡ all → names ≡ all
names_full p number names all at so_far =
    sym (append-nil names)
    ∙ ap (λ (xs : List (List ℕ)). names ++ xs) (sym (ap (names_from p number) (let e : most_definitions - number ≡ 0 = omega arith in e) ∙ names_from-zero p number))
    ∙ so_far
