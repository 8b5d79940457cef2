use Rattle.hx_bits.proofs.WidthLaws.{truncated-sign_extended, signed_of-sign_extended, truncated-truncated, sign_extended_lt}
use Rattle.hx_bits.proofs.theorems.width_laws.Goals as goal

pub returns : goal.returns
returns c = record {
  low = truncated-sign_extended;
  signed = signed_of-sign_extended;
  zero = truncated-truncated;
  bound = sign_extended_lt;
}
