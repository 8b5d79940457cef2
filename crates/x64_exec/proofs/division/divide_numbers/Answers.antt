use Rattle.std.proofs.Common.{◌≡◌, ℤ, w64, FitsSigned, sym, ap, ◌∙◌}
use Rattle.std.specs.Prelude.{int_div, int_rem}
use Rattle.std.specs.Int.{w128}
use Rattle.hx_words.specs.TwosComplement.{bits_of}
use Rattle.x64_exec.specs.Words.{fits_signed}
use Rattle.x64_exec.proofs.Divisions.{range64, range128, remainder_is, remainder_bits, quotient_is, divided_is, whole}
use Rattle.x64_exec.proofs.division.divide_numbers.Goals as goal

pub bits-requires-2 : goal.bits-requires-2
bits-requires-2 c = remainder_bits c.args.n c.args.d (range128 c.args.n c.ranges.n.sfits) (range64 c.args.d c.ranges.d.sfits) c.requires

pub returns : goal.returns
returns c =
    let n : ℤ = c.args.n in
    let d : ℤ = c.args.d in
    let nf : FitsSigned w128 n = range128 n c.ranges.n.sfits in
    let df : FitsSigned w64 d = range64 d c.ranges.d.sfits in
    let q : ℤ = c.in_ok-quotient.quotient in
    let quotient : q ≡ int_div n d = quotient_is n d q nf df c.in_ok-quotient.ensures.1 in
    let same = whole n d q nf df c.in_ok-quotient.ensures.0.1 c.in_ok-quotient.ensures.1 in
    divided_is n d q c.bits.result c.bits-2.result quotient
    (sym (c.if-not-fits.ensures ∙ ap fits_signed same))
    (c.bits.ensures ∙ ap (bits_of 64) same)
    (c.bits-2.ensures ∙ ap (bits_of 64) (remainder_is n d nf df))
