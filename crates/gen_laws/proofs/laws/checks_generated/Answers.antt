use Rattle.gen_laws.proofs.GeneratedLaws.{generated_passes, generated_verdict}
use Rattle.gen_laws.proofs.laws.checks_generated.Goals as goal

pub returns : goal.returns
returns c = record { text = generated_passes; file = generated_verdict }
