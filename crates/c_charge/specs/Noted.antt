-- The charges of a program's functions and adjustors, each at its place (this project's own note beside the charge).
use Rattle.std.specs.Prelude.{◌≡◌, ℕ, map, Option, Some, None}
use Rattle.c_program.specs.declared.program.FunDef.{FunDef}
use Rattle.c_program.specs.declared.program.AdjustDef.{AdjustDef}
use Rattle.c_program.specs.declared.program.Program.{Program}
use Rattle.c_program.specs.Nodes.{small}
use Rattle.c_meaning.specs.Charge.{function_charge, adjustor_charge}
use Rattle.c_charge.specs.declared.charges.Charges.{Charges}

-- the charge at a place
abbrev pub noted : Option ℕ → ℕ
noted None = 0
noted (Some n) = n

pub record AreCharges (p : Program) (c : Charges) : Type 0 where
  pub functions : c.functions.items ≡ map (λ (f : FunDef). small (function_charge p (Some f))) p.functions
  pub adjustors : c.adjustors.items ≡ map (λ (a : AdjustDef). small (adjustor_charge p (Some a))) p.adjustors
