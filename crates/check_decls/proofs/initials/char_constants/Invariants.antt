use Rattle.std.proofs.Common.{◌≡◌, take}
use Rattle.c_typing.specs.Initials.{chars}
use Rattle.check_decls.proofs.initials.char_constants.Given as goal

abbrev pub invariant-loop-b : goal.invariant-loop-b
invariant-loop-b l = l.constants ≡ chars l.i (take l.b-index l.text)
