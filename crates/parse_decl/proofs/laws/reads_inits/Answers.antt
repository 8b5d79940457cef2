use Rattle.std.proofs.Common.{refl}
use Rattle.parse_decl.proofs.InitLaws.{init_complete, init_sound}
use Rattle.parse_decl.proofs.laws.reads_inits.Goals as goal

pub returns : goal.returns
returns c = record {
  complete = λ n low i t a b d h. init_complete n low t b refl d h;
  sound = λ n low st p t z a c e. init_sound n low z st p t a c e;
}
