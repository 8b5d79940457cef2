use Rattle.std.proofs.Common.{subst, sym, ◌≡◌, ◌↔◌, Option, Some}
use Rattle.a64_isa.specs.declared.instruction.AInstr.{AInstr}
use Rattle.a64_isa.specs.Forms.{encode_of, Valid}
use Rattle.a64_isa.proofs.TableLaws.{decode_of-exact}
use Rattle.a64_isa.proofs.words.decode.Goals as goal

pub returns-clause-exact : goal.returns-clause-exact
returns-clause-exact c i =
    subst (λ (o : Option AInstr). (o ≡ Some i) ↔ (Valid i × (encode_of i ≡ c.args.word))) (sym c.read.ensures)
    (decode_of-exact c.args.word c.ranges.word.fits i)
