-- Parts of the rules' conversions that the code has calls of its own for.
use Rattle.std.specs.Prelude.{Option, Some, None, if◌then◌else◌}
use Rattle.c_types.specs.declared.types.Ty.{Ty}
use Rattle.c_typing.specs.declared.operands.Value.{Value}
use Rattle.c_typing.specs.TypeForms.{same_type}
use Rattle.c_typing.specs.Conversions.{is_null}

-- the type in which two values meet that aren't both integers
abbrev pub unlike_joined : Value → Value → Option Ty
unlike_joined l r =
    if same_type l.ty r.ty then Some l.ty
    else (if is_null l.ty r then Some l.ty
    else (if is_null r.ty l then Some r.ty else None))
