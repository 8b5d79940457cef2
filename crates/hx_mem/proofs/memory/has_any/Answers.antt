use Rattle.std.proofs.Math.Facts.{Fits-lt-pow}
use Rattle.hx_bits.proofs.LowBytes.{AreBytes-from_items}
use Rattle.hx_mem.proofs.memory.has_any.Goals as goal

pub returns-clause-items : goal.returns-clause-items
returns-clause-items c = AreBytes-from_items c.args.bytes.now (λ k. Fits-lt-pow (c.type_inv.bytes k))
