use Rattle.std.proofs.Common.{arith}
use Rattle.pe_fields.proofs.PageLaws.{walk_done}
use Rattle.pe_fields.proofs.hybrid.any_shares.Goals as goal

pub returns : goal.returns
returns c = walk_done c.loop-range.found c.loop-range.last c.args.ranges.now c.loop-range.range-index c.requires (omega (arith, c.loop-range-test.false, c.loop-range.auto.range-index-end)) c.loop-range.invariant
