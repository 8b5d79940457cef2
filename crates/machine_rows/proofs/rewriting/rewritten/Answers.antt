use Rattle.std.proofs.Common.{◌∙◌, sym, arith}
use Rattle.hx_bits.proofs.LowBytes.{AreBytes-from_items}
use Rattle.machine_rows.proofs.rewriting.rewritten.Goals as goal

pub write-requires : goal.write-requires
write-requires c = (c.allowed.ensures c.in_ok-image.image).0 (c.args.bytes.now, AreBytes-from_items c.args.bytes.now (λ k. omega (arith, c.type_inv.bytes k)), c.in_ok-image.ensures.exact)

pub returns : goal.returns
returns c = c.in_ok-file.ensures.read_back ∙ sym c.in_ok-image.ensures.exact
