-- Zeros one by one.
use Rattle.std.proofs.Common.{◌≡◌, ℕ, ◌+◌, List, [], ◌∷◌, ◌++◌, sym, ap, ◌∙◌}
use Rattle.std.proofs.lemmas.List.{replicate_more, append-nil, append_assoc}
use Rattle.pe_write_laws.specs.Format.{zeros}

pub zeros_none : (xs : List ℕ) → xs ≡ xs ++ zeros 0
unfolding zeros
zeros_none xs = sym (append-nil xs)

pub zeros_step : (xs ys : List ℕ) (i : ℕ) → ys ≡ xs ++ zeros i → ys ++ 0 ∷ [] ≡ xs ++ zeros (i + 1)
unfolding zeros
zeros_step xs ys i e = ap (λ zs. zs ++ 0 ∷ []) e ∙ append_assoc xs (zeros i) (0 ∷ []) ∙ ap (λ zs. xs ++ zs) (replicate_more i 0)
