use Rattle.std.proofs.Common.{refl}
use Rattle.hx_words.specs.LittleEndian.{number_of, bytes_of}
use Rattle.ir_core.specs.Integers.{low_bits, wrapped}
use Rattle.ir_core.specs.Cells.{number_in}
use Rattle.ir_core.specs.Access.{binary_of, converted}
use Rattle.ir_core.proofs.laws.number_rows.Goals as goal

pub returns-clause-least : goal.returns-clause-least
unfolding number_of bytes_of low_bits wrapped number_in binary_of converted
returns-clause-least c = λ g. refl

pub returns-clause-rest : goal.returns-clause-rest
unfolding number_of bytes_of low_bits wrapped number_in binary_of converted
returns-clause-rest c = λ g. refl

pub returns-clause-zero : goal.returns-clause-zero
unfolding number_of bytes_of low_bits wrapped number_in binary_of converted
returns-clause-zero c = λ g. refl

pub returns-clause-toward_zero : goal.returns-clause-toward_zero
unfolding number_of bytes_of low_bits wrapped number_in binary_of converted
returns-clause-toward_zero c = λ g. refl

pub returns-clause-left : goal.returns-clause-left
unfolding number_of bytes_of low_bits wrapped number_in binary_of converted
returns-clause-left c = λ g. refl

pub returns-clause-shift : goal.returns-clause-shift
unfolding number_of bytes_of low_bits wrapped number_in binary_of converted
returns-clause-shift c = λ g. refl

pub returns-clause-sign : goal.returns-clause-sign
unfolding number_of bytes_of low_bits wrapped number_in binary_of converted
returns-clause-sign c = λ g. refl

pub returns-clause-signed : goal.returns-clause-signed
unfolding number_of bytes_of low_bits wrapped number_in binary_of converted
returns-clause-signed c = λ g. refl

pub returns-clause-unsigned : goal.returns-clause-unsigned
unfolding number_of bytes_of low_bits wrapped number_in binary_of converted
returns-clause-unsigned c = λ g. refl

pub returns-clause-wide : goal.returns-clause-wide
unfolding number_of bytes_of low_bits wrapped number_in binary_of converted
returns-clause-wide c = refl

pub returns-clause-plain : goal.returns-clause-plain
unfolding number_of bytes_of low_bits wrapped number_in binary_of converted
returns-clause-plain c = refl
