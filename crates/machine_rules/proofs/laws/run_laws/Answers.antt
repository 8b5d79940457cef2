use Rattle.machine_rules.proofs.Running.{ended, joined_runs}
use Rattle.machine_rules.proofs.laws.run_laws.Goals as goal

pub returns : goal.returns
returns c = record { joined = joined_runs; ended = ended }
