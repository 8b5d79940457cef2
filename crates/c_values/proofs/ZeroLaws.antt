-- The zeros of types.
use Rattle.std.proofs.Common.{◌≡◌, ℕ, zero, suc, ◌+◌, ◌-◌, ◌<◌, [], ◌∷◌, ◌++◌, refl, ap, ◌∙◌, arith}
use Rattle.std.specs.Prelude.{replicate}
use Rattle.c_types.specs.declared.types.Ty.{Ty}
use Rattle.c_types.specs.declared.types.Types.{Types}
use Rattle.c_values.specs.declared.value.Value.{Value}
use Rattle.c_values.specs.Objects.{nothing, zero_by, zero_within}

-- a type's zero comes from those of its parts
pub zero_step : (d : ℕ) (t : Types) (a : Ty) → 0 < d → zero_within d t a ≡ zero_by t (zero_within (d - 1) t) a
unfolding zero_within
zero_step zero t a h = let never : ⊥ = omega arith in absurd never
zero_step (suc d) t a h = let e : d ≡ suc d - 1 = omega arith in ap (λ n. zero_by t (zero_within n t) a) e

pub zero_base : (d : ℕ) (t : Types) (a : Ty) → d ≡ 0 → zero_within d t a ≡ nothing
unfolding zero_within
zero_base zero t a h = refl
zero_base (suc d) t a h = cc

pub one_more : (n : ℕ) (v : Value) → replicate n v ++ v ∷ [] ≡ replicate (n + 1) v
one_more zero v = refl
one_more (suc n) v = let e : suc (n + 1) ≡ suc n + 1 = omega arith in ap (λ l. v ∷ l) (one_more n v) ∙ ap (λ k. replicate k v) e
