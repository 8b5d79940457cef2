use Rattle.std.proofs.Common.{refl}
use Rattle.parse_terms.specs.TypeNames.{no_stars}
use Rattle.parse_decl.proofs.DeclLaws.{decl_complete, decl_sound}
use Rattle.parse_decl.proofs.laws.reads_declarators.Goals as goal

pub returns : goal.returns
returns c = record {
  complete = λ d t a b x h. decl_complete t b refl x h;
  sound = λ d st t m a x e. decl_sound no_stars st d t a x e;
}
