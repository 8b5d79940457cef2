use Rattle.fast_forward.specs.Sequence.{distance}
use Rattle.fast_forward.proofs.Parts.{made}
use Rattle.fast_forward.proofs.shape.sequence.Goals as goal

pub returns : goal.returns
returns c = made (distance c.args.at c.args.target) c.distance_bits.result c.to_le_bytes.result c.distance_bits.ensures c.to_le_bytes.ensures
