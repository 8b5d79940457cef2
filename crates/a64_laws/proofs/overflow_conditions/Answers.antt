use Rattle.a64_laws.proofs.Sums.{subs_decides_overflow, subs_decides_no_overflow}
use Rattle.a64_laws.proofs.overflow_conditions.Goals as goal

pub returns-clause-overflow : goal.returns-clause-overflow
returns-clause-overflow c = subs_decides_overflow

pub returns-clause-no_overflow : goal.returns-clause-no_overflow
returns-clause-no_overflow c = subs_decides_no_overflow
