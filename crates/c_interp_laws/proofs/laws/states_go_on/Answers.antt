use Rattle.c_interp_laws.proofs.Ends.{goes_on_to}
use Rattle.c_interp_laws.proofs.laws.states_go_on.Goals as goal

pub returns : goal.returns
returns c = goes_on_to
