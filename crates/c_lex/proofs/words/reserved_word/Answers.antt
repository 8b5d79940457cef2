use Rattle.std.proofs.Common.{◌≤◌, sym, arith}
use Rattle.std.proofs.lemmas.Option.{slice_get_past}
use Rattle.c_lex.specs.Numbering.{words}
use Rattle.c_lex.proofs.words.reserved_word.Goals as goal

pub returns-in-39-to-255 : goal.returns-in-39-to-255
returns-in-39-to-255 c = let far : 39 ≤ c.args.number = omega arith in sym (slice_get_past words c.args.number far)
