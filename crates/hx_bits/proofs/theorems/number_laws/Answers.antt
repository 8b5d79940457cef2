use Rattle.hx_words.proofs.LittleEndianLaws.{number_of-bytes_of, bytes_of-number_of}
use Rattle.hx_bits.proofs.NumberLaws.{number_at-bytes_of, bytes_of-number_at}
use Rattle.hx_bits.proofs.theorems.number_laws.Goals as goal

pub returns : goal.returns
returns c = record {
  number = number_of-bytes_of;
  bytes = bytes_of-number_of;
  found = number_at-bytes_of;
  stands = λ n at v xs h e. bytes_of-number_at n xs at v h e;
}
