-- The numbers of types in order.
use Rattle.std.proofs.Common.{◌≡◌, ℕ, List, [], ◌∷◌, ◌++◌, refl, ap, append_assoc, ◌∙◌}
use Rattle.c_types.specs.declared.types.Ty.{Ty}
use Rattle.type_table.specs.TypeKeys.{form_of, named_by, count_in, ty_key, keys_of}

keys_push : (ts : List Ty) (t : Ty) → keys_of ts ++ ty_key t ≡ keys_of (ts ++ t ∷ [])
keys_push [] t = refl
keys_push (x ∷ ts) t = ap (λ (ks : List ℕ). form_of x ∷ named_by x ∷ count_in x ∷ ks) (keys_push ts t)

pub keys_more : (front : List ℕ) (ts : List Ty) (t : Ty) → (front ++ keys_of ts) ++ ty_key t ≡ front ++ keys_of (ts ++ t ∷ [])
keys_more front ts t = append_assoc front (keys_of ts) (ty_key t) ∙ ap (λ (ks : List ℕ). front ++ ks) (keys_push ts t)
