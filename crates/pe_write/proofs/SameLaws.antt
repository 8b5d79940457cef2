-- Lists of different lengths differ.
use Rattle.std.proofs.Common.{◌≡◌, ◌≢◌, suc, Bool, false, List, [], ◌∷◌, length, refl, sym, ap}
use Rattle.std.proofs.lemmas.Bool.{and_right}
use Rattle.pe_write_laws.specs.Places.{same_lists}

lengths : {X : Type 0} (same : X → X → Bool) (xs ys : List X) → length xs ≢ length ys → same_lists same xs ys ≡ false
lengths same [] [] ne = absurd (ne refl)
lengths same [] (y ∷ ys) ne = refl
lengths same (x ∷ xs) [] ne = refl
lengths same (x ∷ xs) (y ∷ ys) ne = and_right (same x y) (same_lists same xs ys) (lengths same xs ys (λ e. ne (ap (λ n. suc n) e)))

pub same_lengths : {X : Type 0} (same : X → X → Bool) (xs ys : List X) → length xs ≢ length ys → false ≡ same_lists same xs ys
same_lengths same xs ys ne = sym (lengths same xs ys ne)
