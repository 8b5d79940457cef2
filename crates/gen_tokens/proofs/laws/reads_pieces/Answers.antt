use Rattle.gen_tokens.proofs.PieceLaws.{reads_pieces}
use Rattle.gen_tokens.proofs.laws.reads_pieces.Goals as goal

pub returns : goal.returns
returns c = reads_pieces
