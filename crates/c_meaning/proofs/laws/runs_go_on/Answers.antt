use Rattle.c_meaning.proofs.Grows.{stays_over, goes_on}
use Rattle.c_meaning.proofs.laws.runs_go_on.Goals as goal

pub returns : goal.returns
returns c = record { over = stays_over; further = goes_on }
