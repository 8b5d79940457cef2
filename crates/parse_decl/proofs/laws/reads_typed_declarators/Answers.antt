use Rattle.std.proofs.Common.{refl}
use Rattle.parse_decl.proofs.DeclLaws.{typed_complete, typed_sound}
use Rattle.parse_decl.proofs.laws.reads_typed_declarators.Goals as goal

pub returns : goal.returns
returns c = record { complete = λ y d t a b x h. typed_complete t b refl x h; sound = typed_sound }
