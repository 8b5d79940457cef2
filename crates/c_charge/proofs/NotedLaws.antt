-- The charge at a place is that of what stands there.
use Rattle.std.proofs.Common.{◌≡◌, ℕ, zero, suc, List, [], ◌∷◌, map, slice_get, Some, refl}
use Rattle.c_program.specs.declared.program.FunDef.{FunDef}
use Rattle.c_program.specs.declared.program.AdjustDef.{AdjustDef}
use Rattle.c_program.specs.declared.program.Program.{Program}
use Rattle.c_program.specs.Nodes.{small}
use Rattle.c_meaning.specs.Charge.{function_charge, adjustor_charge}
use Rattle.c_charge.specs.Noted.{noted}

pub function_noted : (p : Program) (fs : List FunDef) (k : ℕ) → noted (slice_get (map (λ (f : FunDef). small (function_charge p (Some f))) fs) k) ≡ small (function_charge p (slice_get fs k))
function_noted p [] k = refl
function_noted p (f ∷ fs) zero = refl
function_noted p (f ∷ fs) (suc k) = function_noted p fs k

pub adjustor_noted : (p : Program) (xs : List AdjustDef) (k : ℕ) → noted (slice_get (map (λ (a : AdjustDef). small (adjustor_charge p (Some a))) xs) k) ≡ small (adjustor_charge p (slice_get xs k))
adjustor_noted p [] k = refl
adjustor_noted p (a ∷ xs) zero = refl
adjustor_noted p (a ∷ xs) (suc k) = adjustor_noted p xs k
