-- The front of a list that passes a test.
use Rattle.std.proofs.Common.{◌≡◌, ℕ, suc, ◌+◌, Bool, true, false, cond, List, [], ◌∷◌, ◌++◌, length, take, refl, ap, ◌∙◌, arith}
use Rattle.std.proofs.Math.Numerals.{one-add}
use Rattle.std.proofs.lemmas.Bool.{cases_Bool, and_parts, and_from}
use Rattle.std.proofs.Common.{inl, inr}
use Rattle.std.specs.List.{prefix_len, list_all}

-- one that passes, and one that does not
prefix_len-pass : (p : ℕ → Bool) (b : ℕ) (bs : List ℕ) → p b ≡ true → prefix_len p (b ∷ bs) ≡ suc (prefix_len p bs)
prefix_len-pass p b bs h = ap (λ c. cond c (1 + prefix_len p bs) 0) h ∙ one-add (prefix_len p bs)

pub prefix_len-stop : (p : ℕ → Bool) (b : ℕ) (bs : List ℕ) → p b ≡ false → prefix_len p (b ∷ bs) ≡ 0
prefix_len-stop p b bs h = ap (λ c. cond c (1 + prefix_len p bs) 0) h

pub front_passes : (p : ℕ → Bool) (xs : List ℕ) → list_all p (take (prefix_len p xs) xs) ≡ true
front_passes p [] = refl
front_passes p (b ∷ bs) = elim (cases_Bool (p b)) [
  | inl h ↦ ap (λ k. list_all p (take k (b ∷ bs))) (prefix_len-pass p b bs h) ∙ and_from (p b) _ h (front_passes p bs)
  | inr h ↦ ap (λ k. list_all p (take k (b ∷ bs))) (prefix_len-stop p b bs h)
]

-- past a list that passes
pub prefix_len-append_passes : (p : ℕ → Bool) (xs ys : List ℕ) → list_all p xs ≡ true → prefix_len p (xs ++ ys) ≡ length xs + prefix_len p ys
prefix_len-append_passes p [] ys h = omega arith
prefix_len-append_passes p (x ∷ xs) ys h =
    let parts = and_parts (p x) (list_all p xs) h in
    let here = prefix_len-pass p x (xs ++ ys) parts.0 in
    let more = prefix_len-append_passes p xs ys parts.1 in
    omega arith
