use Rattle.ir_core.proofs.Growth.{steps_go_on}
use Rattle.ir_core.proofs.Runs.{stays_ended, stays_wrong, sum_of_steps, sum_of_counts}
use Rattle.ir_core.proofs.laws.run_laws.Goals as goal

pub returns-clause-ended : goal.returns-clause-ended
returns-clause-ended c = λ p n o w. stays_ended p n o w

pub returns-clause-wrong : goal.returns-clause-wrong
returns-clause-wrong c = λ p n w. stays_wrong p n w

pub returns-clause-sums : goal.returns-clause-sums
returns-clause-sums c = λ p m n k. sum_of_steps p m n k

pub returns-clause-accounts : goal.returns-clause-accounts
returns-clause-accounts c = λ cost p m n k. sum_of_counts cost p m n k

pub returns-clause-grows : goal.returns-clause-grows
returns-clause-grows c = λ p n k. steps_go_on p n k
