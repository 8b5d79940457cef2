use Rattle.gen_tokens.proofs.UnitLaws.{reads_unit}
use Rattle.gen_tokens.proofs.laws.reads_generated.Goals as goal

pub returns : goal.returns
returns c = reads_unit
