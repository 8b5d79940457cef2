use Rattle.a64_exec.proofs.Parts.{quarters}
use Rattle.a64_exec.proofs.laws.quarter_laws.Goals as goal

pub returns : goal.returns
returns c = quarters
