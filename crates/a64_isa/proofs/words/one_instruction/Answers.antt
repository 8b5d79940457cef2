use Rattle.a64_isa.proofs.TableLaws.{encode_of-injective}
use Rattle.a64_isa.proofs.words.one_instruction.Goals as goal

pub returns : goal.returns
returns c = encode_of-injective
