use Rattle.std.proofs.Common.{◌≡◌, drop, map, ◌++◌, []}
use Rattle.ec_words.specs.Markings.{pieces_after}
use Rattle.ec_words.proofs.markings.pieces.Given as goal

abbrev pub invariant-loop-byte : goal.invariant-loop-byte
invariant-loop-byte l = map (λ piece. piece.items) l.done.items ++ pieces_after l.front.items (drop l.byte-index l.text) ≡ pieces_after [] l.text
