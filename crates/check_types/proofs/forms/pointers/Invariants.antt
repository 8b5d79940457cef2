use Rattle.std.proofs.Common.{◌≡◌, drop}
use Rattle.c_typing.specs.TypeForms.{pointer_type}
use Rattle.check_types.proofs.forms.pointers.Given as goal

abbrev pub invariant-loop-star : goal.invariant-loop-star
invariant-loop-star l = pointer_type (drop l._star-index l.stars) l.ty l.tables ≡ pointer_type l.stars l.fn.ty l.initial.tables
