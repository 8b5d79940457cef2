use Rattle.std.proofs.Common.{refl}
use Rattle.parse_terms.proofs.TypeLaws.{type_complete, type_sound}
use Rattle.parse_terms.proofs.laws.reads_types.Goals as goal

pub returns : goal.returns
returns c = record {
  complete = λ n t a b d h. type_complete t b refl d h;
  sound = λ n x t m a d e. type_sound x n t m a d e;
}
