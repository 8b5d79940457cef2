-- The rules' word for a type as it is written, of the code's.
use Rattle.std.specs.Prelude.{Result, Ok, Err}
use Rattle.c_typing.specs.TypeForms.{Formed}
use Rattle.c_typing.specs.declared.faults.Refusal.{Refusal}
use Rattle.check_types.specs.declared.forms.FormedType.{FormedType}

abbrev pub as_formed : FormedType → Formed
as_formed f = record { ty = f.ty; complete = f.complete }

abbrev pub formed_or : Result FormedType Refusal → Result Formed Refusal
formed_or (Ok f) = Ok (as_formed f)
formed_or (Err e) = Err e
