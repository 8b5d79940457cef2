use Rattle.std.proofs.Common.{◌≡◌, drop}
use Rattle.c_typing.specs.TypeForms.{field_from}
use Rattle.check_types.proofs.scopes.first_field.Given as goal

abbrev pub invariant-loop-number : goal.invariant-loop-number
invariant-loop-number l = field_from l.number (drop l.number l.fields) l.name ≡ field_from 0 l.fields l.name
