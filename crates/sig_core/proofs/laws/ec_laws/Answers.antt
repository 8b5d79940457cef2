use Rattle.sig_core.proofs.RegisterLaws.{ec_apart, ec_within, ec_after, ec_stack, ec_stack_few}
use Rattle.sig_core.proofs.laws.ec_laws.Goals as goal

pub returns-clause-apart : goal.returns-clause-apart
returns-clause-apart c = λ s. ec_apart s.args

pub returns-clause-within : goal.returns-clause-within
returns-clause-within c = λ s. ec_within s.args

pub returns-clause-after : goal.returns-clause-after
returns-clause-after c = λ s. ec_after s.args

pub returns-clause-stack : goal.returns-clause-stack
returns-clause-stack c = λ s. ec_stack s.args

pub returns-clause-few : goal.returns-clause-few
returns-clause-few c = λ s. ec_stack_few s.args
