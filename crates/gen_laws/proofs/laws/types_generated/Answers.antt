use Rattle.gen_laws.proofs.GeneratedLaws.{generated_typed}
use Rattle.gen_laws.proofs.LimitLaws.{unit_within}
use Rattle.gen_laws.proofs.laws.types_generated.Goals as goal

pub returns : goal.returns
returns c = record { program = generated_typed; limits = unit_within }
