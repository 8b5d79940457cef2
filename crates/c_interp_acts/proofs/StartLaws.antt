-- The function of a name among those of a program.
use Rattle.std.proofs.Common.{◌≡◌, ℕ, ◌+◌, Bool, true, false, List, [], ◌∷◌, refl, ap, ◌∙◌, subst}
use Rattle.std.specs.Prelude.{nat_eq, ◌&&◌, if◌then◌else◌}
use Rattle.std.proofs.lemmas.Bool.{eq-eqb, eqb-true}
use Rattle.c_program.specs.declared.program.FunDef.{FunDef}
use Rattle.c_meaning.specs.Start.{same_name, named}

same_itself : (a : List ℕ) → same_name a a ≡ true
same_itself [] = refl
same_itself (x ∷ xs) = ap (λ b. b && same_name xs xs) (eq-eqb x x refl) ∙ same_itself xs

pub same_is : (a b : List ℕ) → a ≡ b → same_name a b ≡ true
same_is a b e = let P : List ℕ → Type 0 = λ c. same_name a c ≡ true in subst P e (same_itself a)

same_heads : (b : Bool) (x y : ℕ) (xs ys : List ℕ) → nat_eq x y ≡ b → (same_name xs ys ≡ true → xs ≡ ys) → (b && same_name xs ys) ≡ true → x ∷ xs ≡ y ∷ ys
same_heads true x y xs ys e h g = ap (λ z. z ∷ xs) (eqb-true x y e) ∙ ap (λ z. y ∷ z) (h g)
same_heads false x y xs ys e h g = cc

is_same : (a b : List ℕ) → same_name a b ≡ true → a ≡ b
is_same [] [] e = refl
is_same [] (y ∷ ys) e = cc
is_same (x ∷ xs) [] e = cc
is_same (x ∷ xs) (y ∷ ys) e = same_heads (nat_eq x y) x y xs ys refl (is_same xs ys) e

pub same_not : (a b : List ℕ) → (a ≡ b → ⊥) → same_name a b ≡ false
same_not a b h = by (same_name a b) refl
  where
    by : (t : Bool) → same_name a b ≡ t → same_name a b ≡ false
    by true e = absurd (h (is_same a b e))
    by false e = e

pub named_here : (name : List ℕ) (k : ℕ) (f : FunDef) (fs : List FunDef) → name ≡ f.name → named name k (f ∷ fs) ≡ k
named_here name k f fs e = ap (λ b. if b then k else named name (k + 1) fs) (same_is name f.name e)

pub named_further : (name : List ℕ) (k : ℕ) (f : FunDef) (fs : List FunDef) → (name ≡ f.name → ⊥) → named name k (f ∷ fs) ≡ named name (k + 1) fs
named_further name k f fs e = ap (λ b. if b then k else named name (k + 1) fs) (same_not name f.name e)
