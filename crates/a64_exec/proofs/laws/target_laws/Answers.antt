use Rattle.a64_exec.proofs.Parts.{with_target-other}
use Rattle.a64_exec.proofs.laws.target_laws.Goals as goal

pub returns : goal.returns
returns c = with_target-other
