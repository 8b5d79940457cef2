use Rattle.hx_bits.proofs.Bytes.{number_at_from}
use Rattle.hx_bits.proofs.numbers.le_u32_at.Goals as goal

pub returns : goal.returns
returns c =
    number_at_from 4 c.args.at _ c.args.bytes.now c.in_ok-rest.rest.now c.read_u32.ensures c.in_ok-rest.ensures.within c.in_ok-rest.ensures.rest
