use Rattle.a64_laws.proofs.Sums.{adds_decides_equal, adds_decides_not_equal, adds_decides_carry_set, adds_decides_carry_clear, adds_decides_minus, adds_decides_plus, adds_decides_overflow, adds_decides_no_overflow, adds_decides_higher, adds_decides_lower_or_same, adds_decides_greater_or_equal, adds_decides_less, adds_decides_greater, adds_decides_less_or_equal}
use Rattle.a64_laws.proofs.sum_laws.Goals as goal

pub returns-clause-equal : goal.returns-clause-equal
returns-clause-equal c = adds_decides_equal

pub returns-clause-not_equal : goal.returns-clause-not_equal
returns-clause-not_equal c = adds_decides_not_equal

pub returns-clause-carry_set : goal.returns-clause-carry_set
returns-clause-carry_set c = adds_decides_carry_set

pub returns-clause-carry_clear : goal.returns-clause-carry_clear
returns-clause-carry_clear c = adds_decides_carry_clear

pub returns-clause-minus : goal.returns-clause-minus
returns-clause-minus c = adds_decides_minus

pub returns-clause-plus : goal.returns-clause-plus
returns-clause-plus c = adds_decides_plus

pub returns-clause-overflow : goal.returns-clause-overflow
returns-clause-overflow c = adds_decides_overflow

pub returns-clause-no_overflow : goal.returns-clause-no_overflow
returns-clause-no_overflow c = adds_decides_no_overflow

pub returns-clause-higher : goal.returns-clause-higher
returns-clause-higher c = adds_decides_higher

pub returns-clause-lower_or_same : goal.returns-clause-lower_or_same
returns-clause-lower_or_same c = adds_decides_lower_or_same

pub returns-clause-greater_or_equal : goal.returns-clause-greater_or_equal
returns-clause-greater_or_equal c = adds_decides_greater_or_equal

pub returns-clause-less : goal.returns-clause-less
returns-clause-less c = adds_decides_less

pub returns-clause-greater : goal.returns-clause-greater
returns-clause-greater c = adds_decides_greater

pub returns-clause-less_or_equal : goal.returns-clause-less_or_equal
returns-clause-less_or_equal c = adds_decides_less_or_equal
