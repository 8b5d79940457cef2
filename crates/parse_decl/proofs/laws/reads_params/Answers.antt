use Rattle.std.proofs.Common.{refl}
use Rattle.parse_decl.proofs.ParamsLaws.{params_complete, params_sound, params_end}
use Rattle.parse_decl.proofs.laws.reads_params.Goals as goal

pub returns : goal.returns
returns c = record { complete = λ ps s a b d. params_complete s b refl d; sound = λ ps st t m a d e. params_sound ps st t m a d e; ends = params_end }
