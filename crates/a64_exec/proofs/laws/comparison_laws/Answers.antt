use Rattle.a64_exec.proofs.Comparisons.{subs_decides_equal, subs_decides_not_equal, subs_decides_carry_set, subs_decides_carry_clear, subs_decides_higher, subs_decides_lower_or_same, subs_decides_greater_or_equal, subs_decides_less, subs_decides_greater, subs_decides_less_or_equal, subs_decides_minus, subs_decides_plus}
use Rattle.a64_exec.proofs.laws.comparison_laws.Goals as goal

pub returns-clause-equal : goal.returns-clause-equal
returns-clause-equal c = subs_decides_equal

pub returns-clause-not_equal : goal.returns-clause-not_equal
returns-clause-not_equal c = subs_decides_not_equal

pub returns-clause-carry_set : goal.returns-clause-carry_set
returns-clause-carry_set c = subs_decides_carry_set

pub returns-clause-carry_clear : goal.returns-clause-carry_clear
returns-clause-carry_clear c = subs_decides_carry_clear

pub returns-clause-higher : goal.returns-clause-higher
returns-clause-higher c = subs_decides_higher

pub returns-clause-lower_or_same : goal.returns-clause-lower_or_same
returns-clause-lower_or_same c = subs_decides_lower_or_same

pub returns-clause-greater_or_equal : goal.returns-clause-greater_or_equal
returns-clause-greater_or_equal c = subs_decides_greater_or_equal

pub returns-clause-less : goal.returns-clause-less
returns-clause-less c = subs_decides_less

pub returns-clause-greater : goal.returns-clause-greater
returns-clause-greater c = subs_decides_greater

pub returns-clause-less_or_equal : goal.returns-clause-less_or_equal
returns-clause-less_or_equal c = subs_decides_less_or_equal

pub returns-clause-minus : goal.returns-clause-minus
returns-clause-minus c = subs_decides_minus

pub returns-clause-plus : goal.returns-clause-plus
returns-clause-plus c = subs_decides_plus
