use Rattle.std.proofs.Common.{◌≡◌, ◌≤◌, length, drop, Ok}
use Rattle.c_typing.specs.TypeForms.{array_types}
use Rattle.check_types.proofs.forms.length_types.Given as goal

abbrev pub invariant-loop-left : goal.invariant-loop-left
invariant-loop-left l = (l.left ≤ length l.lengths) × (array_types l.at (drop l.left l.lengths) l.fn.ty l.initial.tables ≡ Ok (l.ty, l.tables))

abbrev pub decreases-loop-left : goal.decreases-loop-left
decreases-loop-left l = l.left
