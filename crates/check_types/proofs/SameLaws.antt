-- Lists of types that are the same have one length.
use Rattle.std.proofs.Common.{◌≡◌, ◌≢◌, suc, false, ◌&&◌, List, [], ◌∷◌, length, refl, ap, ◌∙◌}
use Rattle.std.proofs.Math.Bool.{and-false}
use Rattle.c_types.specs.declared.types.Ty.{Ty}
use Rattle.c_typing.specs.TypeForms.{same_type, same_types}

pub same_lengths : (ss ts : List Ty) → length ss ≢ length ts → same_types ss ts ≡ false
same_lengths [] [] h = absurd (h refl)
same_lengths [] (t ∷ ts) h = refl
same_lengths (s ∷ ss) [] h = refl
same_lengths (s ∷ ss) (t ∷ ts) h = ap (λ b. same_type s t && b) (same_lengths ss ts (λ e. h (ap suc e))) ∙ and-false (same_type s t)
