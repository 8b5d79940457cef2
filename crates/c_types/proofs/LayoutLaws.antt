-- Laws of the layout.
use Rattle.std.proofs.Common.{◌≡◌, ℕ, zero, suc, ◌-◌, ◌<◌, None, refl, ap, arith}
use Rattle.c_types.specs.declared.types.Ty.{Ty}
use Rattle.c_types.specs.declared.types.Types.{Types}
use Rattle.c_types.specs.Layout.{extent_within, extent_by}

-- a type's extent comes from those of its parts
pub within_step : (d : ℕ) (t : Types) (ty : Ty) → 0 < d → extent_within d t ty ≡ extent_by t (extent_within (d - 1) t) ty
unfolding extent_within
within_step zero t ty h = let never : ⊥ = omega arith in absurd never
within_step (suc d) t ty h = let e : d ≡ suc d - 1 = omega arith in ap (λ n. extent_by t (extent_within n t) ty) e

pub within_zero : (d : ℕ) (t : Types) (ty : Ty) → d ≡ 0 → extent_within d t ty ≡ None
unfolding extent_within
within_zero zero t ty h = refl
within_zero (suc d) t ty h = cc
