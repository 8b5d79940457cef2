use Rattle.std.proofs.Common.{◌≤◌, sym, arith}
use Rattle.std.proofs.lemmas.Option.{slice_get_past}
use Rattle.c_lex.specs.Numbering.{marks}
use Rattle.c_lex.proofs.marks.known_mark.Goals as goal

pub returns-in-46-to-255 : goal.returns-in-46-to-255
returns-in-46-to-255 c = let far : 46 ≤ c.args.number = omega arith in sym (slice_get_past marks c.args.number far)
