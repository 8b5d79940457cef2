use Rattle.c_meaning.proofs.Examples.{seven_runs, endless_runs}
use Rattle.c_meaning.proofs.laws.worked_programs.Goals as goal

pub returns : goal.returns
returns c = record { seven = seven_runs; endless = endless_runs }
