use Rattle.std.proofs.Common.{◌≡◌, take}
use Rattle.c_parser.specs.Texts.{terminals}
use Rattle.c_parser.proofs.reading.terminals_of.Given as goal

abbrev pub invariant-loop-token : goal.invariant-loop-token
invariant-loop-token l = l.seen.items ≡ terminals (take l.token-index l.tokens)
