use Rattle.machine_rules.proofs.Stepping.{step_keeps}
use Rattle.machine_rules.proofs.laws.step_laws.Goals as goal

pub returns : goal.returns
returns c = record { keeps = step_keeps }
