-- Visits of a part of a unit inside a visit of the whole program.
use Rattle.std.specs.Prelude.{Result, Ok, Err}
use Rattle.c_typing.specs.declared.faults.Fault.{Fault}
use Rattle.c_typing.specs.declared.scopes.UnitScope.{UnitScope}
use Rattle.c_typing.specs.declared.tables.Tables.{Tables}
use Rattle.c_typing.specs.declared.tables.Progress.{Progress}
use Rattle.c_typing.specs.Visits.{Visit}

abbrev pub carried : {A : Type 0} → Progress → Result (A × Tables) Fault → Result (A × Progress) Fault
carried p (Ok x) = Ok (x.0, record p { tables = x.1 })
carried p (Err e) = Err e

-- a visit that sees what the unit has declared
unfoldable pub with_scope : {A : Type 0} → (UnitScope → Visit Tables A) → Visit Progress A
with_scope v p = carried p (v p.scope p.tables)
