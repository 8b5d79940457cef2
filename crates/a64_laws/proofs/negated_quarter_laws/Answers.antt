use Rattle.a64_laws.proofs.Quarters.{negated_quarters, negated_quarter_alone}
use Rattle.a64_laws.proofs.negated_quarter_laws.Goals as goal

pub returns-clause-any : goal.returns-clause-any
returns-clause-any c = negated_quarters

pub returns-clause-alone : goal.returns-clause-alone
returns-clause-alone c = negated_quarter_alone
