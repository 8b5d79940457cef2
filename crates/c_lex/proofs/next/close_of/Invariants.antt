-- no end before the place
use Rattle.std.proofs.Common.{◌≡◌, drop}
use Rattle.c_lex.specs.Reading.{close_of}
use Rattle.c_lex.proofs.CommentLaws.{later}
use Rattle.c_lex.proofs.next.close_of.Given as goal

abbrev pub invariant-loop-place : goal.invariant-loop-place
invariant-loop-place l = later l.place (close_of (drop l.place l.text)) ≡ close_of l.text
