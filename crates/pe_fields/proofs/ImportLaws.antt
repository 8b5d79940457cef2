-- The first entry that passes.
use Rattle.std.proofs.Common.{◌≡◌, ℕ, zero, suc, ◌<◌, Bool, true, Some, None, sym, subst, ◌∙◌, arith, add-one, inl, inr}
use Rattle.std.proofs.lemmas.Bool.{cases_eq}
use Rattle.file_words.specs.Below.{first_below}
use Rattle.file_words.proofs.BelowLaws.{first_found, first_stays}

-- one that is found below a greater bound
pub first_is : (p : ℕ → Bool) (k n : ℕ) → None ≡ first_below p k → p k ≡ true → k < n → Some k ≡ first_below p n
first_is p k zero e t lt = absurd (omega arith)
first_is p k (suc n) e t lt =
    elim (cases_eq k n) [
      | inl same ↦ subst (λ (j : ℕ). Some k ≡ first_below p j) (omega arith) (first_found p k (sym e) t)
      | inr other ↦ subst (λ (j : ℕ). Some k ≡ first_below p j) (add-one n) (let before : Some k ≡ first_below p n = first_is p k n e t (omega (arith, other)) in before ∙ first_stays p n k (sym before))
    ]
