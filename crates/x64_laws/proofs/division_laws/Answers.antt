use Rattle.x64_laws.proofs.Quotients.{quotient_of-extended, zero_divisor, least_by_minus_one}
use Rattle.x64_laws.proofs.division_laws.Goals as goal

pub returns-clause-quotient : goal.returns-clause-quotient
returns-clause-quotient c = quotient_of-extended

pub returns-clause-by_zero : goal.returns-clause-by_zero
returns-clause-by_zero c = zero_divisor

pub returns-clause-least : goal.returns-clause-least
returns-clause-least c = least_by_minus_one
