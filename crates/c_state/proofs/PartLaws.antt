-- Parts of values, where a path leads to one.
use Rattle.std.proofs.Common.{◌≡◌, ℕ, zero, suc, List, [], ◌∷◌, refl, ap, ◌∙◌, pos}
use Rattle.std.specs.Prelude.{get_or, slice_get, slice_set, Option, Some, None}
use Rattle.std.proofs.lemmas.Option.{none-some}
use Rattle.c_program.specs.declared.program.PathStep.{PathStep}
use Rattle.c_values.specs.declared.value.Value.{Value}
use Rattle.c_values.specs.declared.value.Value.TheVariants.{outs-Number}
use Rattle.c_values.specs.Objects.{nothing, parts_at, parts_of, place_in, read_path}

pub part_put : (vs : List Value) (k : ℕ) (u v : Value) → slice_set (slice_set vs k u) k v ≡ slice_set vs k v
part_put [] k u v = refl
part_put (x ∷ xs) zero u v = refl
part_put (x ∷ xs) (suc k) u v = ap (λ l. x ∷ l) (part_put xs k u v)

abbrev value_in : Option Value → Value
value_in None = nothing
value_in (Some v) = v

pub part_found : (vs : List Value) (k : ℕ) (v : Value) → slice_get vs k ≡ Some v → get_or vs k nothing ≡ v
part_found [] k v e = absurd (none-some v e)
part_found (x ∷ xs) zero v e = ap value_in e
part_found (x ∷ xs) (suc k) v e = part_found xs k v e

no_parts : parts_of nothing ≡ []
unfolding parts_of
no_parts = ap parts_at (outs-Number (pos 0))

pub read_nothing : (ps : List PathStep) → read_path nothing ps ≡ nothing
unfolding read_path
read_nothing [] = refl
read_nothing (p ∷ ps) = ap (λ l. read_path (get_or l (place_in p) nothing) ps) no_parts ∙ read_nothing ps
