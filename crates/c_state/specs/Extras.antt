-- The extra arguments of a call, as `va_arg` takes them.
use Rattle.std.specs.Prelude.{◌≡◌, ℕ, List, [], ◌∷◌, drop, Option, Some, None, ℤ}
use Rattle.c_types.specs.declared.types.IntTy.{IntTy}
use Rattle.c_values.specs.declared.value.Value.{Value}
use Rattle.c_values.specs.Numbers.{wrapped}
use Rattle.c_values.specs.Objects.{number_in}

-- those that are left to take, where so many were taken
abbrev pub rest_of : Option ℕ → List Value → Option (List Value)
rest_of None vs = None
rest_of (Some n) vs = Some (drop n vs)

-- the next one as a number of a type, where one is left, and those that are left after it
abbrev pub ExtraGiven : IntTy → Option (List Value) → Option ℤ → Option (List Value) → Type 0
ExtraGiven i None given after = (given ≡ None) × (after ≡ None)
ExtraGiven i (Some []) given after = (given ≡ None) × (after ≡ Some [])
ExtraGiven i (Some (v ∷ vs)) given after = (given ≡ Some (wrapped i (number_in v))) × (after ≡ Some vs)
