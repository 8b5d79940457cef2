-- What a call says of a rule for whole units: it gives what the rule gives, or refuses with the rule's
-- fault. Want of memory says nothing.
use Rattle.std.specs.Prelude.{◌≡◌, ℕ, Option, Some, None, Result, Ok, Err}
use Rattle.c_program.specs.declared.program.Program.{Program}
use Rattle.c_typing.specs.declared.faults.UnitFault.{UnitFault}
use Rattle.c_typing.specs.declared.faults.Refusal.{Refusal}
use Rattle.c_typing.specs.declared.faults.Refusal.TheVariants as refusal
use Rattle.c_typing.specs.declared.faults.TypeKind.TheVariants as kind
use Rattle.c_typing.specs.declared.tables.Progress.{Progress}
use Rattle.c_typing.specs.Units.{unit_fault}
use Rattle.c_check.specs.declared.refusals.CheckRefusal.{CheckRefusal}
use Rattle.c_check.specs.declared.refusals.CheckRefusal.TheVariants.{Bad, NoMemory}

-- the program, or the first fault
abbrev pub Answers : Result Program UnitFault → Result Program CheckRefusal → Type 0
Answers rule (Ok p) = rule ≡ Ok p
Answers rule (Err (Bad unit kind at)) = rule ≡ Err (unit_fault kind unit at)
Answers rule (Err NoMemory) = Unit {0}

-- what is given of this program, unless it was refused
abbrev pub settled : Result (Unit {0}) CheckRefusal → Program → Result Program CheckRefusal
settled (Ok u) p = Ok p
settled (Err refusal) p = Err refusal

-- the program so far, which the call leaves, or the first fault
abbrev pub LeavesUnits : Result Progress UnitFault → Result (Unit {0}) CheckRefusal → Progress → Type 0
LeavesUnits rule (Ok u) p = rule ≡ Ok p
LeavesUnits rule (Err (Bad unit kind at)) p = rule ≡ Err (unit_fault kind unit at)
LeavesUnits rule (Err NoMemory) p = Unit {0}

-- that nothing is missing, or what is
abbrev pub TellsMissing : Option UnitFault → Result (Unit {0}) CheckRefusal → Type 0
TellsMissing rule (Ok u) = rule ≡ None
TellsMissing rule (Err (Bad unit kind at)) = rule ≡ Some (unit_fault kind unit at)
TellsMissing rule (Err NoMemory) = Unit {0}

-- an undefined name, by its unit and its place
abbrev pub undefined_fault : Option (ℕ × ℕ) → Option UnitFault
undefined_fault None = None
undefined_fault (Some x) = Some (unit_fault kind.Undefined x.0 x.1)

-- a refusal of a part of this unit
abbrev pub refusal_in : ℕ → Refusal → CheckRefusal
refusal_in unit (refusal.Fault f) = Bad unit f.kind f.at
refusal_in unit refusal.NoMemory = NoMemory
