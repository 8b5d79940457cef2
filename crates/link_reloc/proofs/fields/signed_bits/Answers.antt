use Rattle.std.proofs.Common.{arith}
use Rattle.std.proofs.lemmas.Int.{ints}
use Rattle.link_reloc.proofs.Signed.{half_le, negative}
use Rattle.link_reloc.proofs.fields.signed_bits.Goals as goal

pub returns-then-value-lt0-clause-value : goal.returns-then-value-lt0-clause-value
returns-then-value-lt0-clause-value g c =
    let small = half_le g.row.LEN c.requires.in_word in
    negative g.row.LEN c.args.value _ c.requires.some (omega (arith, ints, small, c.if-value-half.false)) (omega (arith, ints, c.if-value-lt0.true)) (omega (arith, ints, small, c.if-value-half.false, c.if-value-lt0.true))
