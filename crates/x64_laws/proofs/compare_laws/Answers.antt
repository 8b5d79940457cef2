use Rattle.x64_laws.proofs.Compares.{decides_equals, decides_not_equals, decides_above_or_equal, decides_below, decides_above, decides_below_or_equal, decides_greater_or_equal, decides_less_than, decides_greater_than, decides_less_or_equal, decides_sign, decides_not_sign, decides_not_overflow, decides_overflow}
use Rattle.x64_laws.proofs.compare_laws.Goals as goal

pub returns-clause-equals : goal.returns-clause-equals
returns-clause-equals c = decides_equals

pub returns-clause-not_equals : goal.returns-clause-not_equals
returns-clause-not_equals c = decides_not_equals

pub returns-clause-above_or_equal : goal.returns-clause-above_or_equal
returns-clause-above_or_equal c = decides_above_or_equal

pub returns-clause-below : goal.returns-clause-below
returns-clause-below c = decides_below

pub returns-clause-above : goal.returns-clause-above
returns-clause-above c = decides_above

pub returns-clause-below_or_equal : goal.returns-clause-below_or_equal
returns-clause-below_or_equal c = decides_below_or_equal

pub returns-clause-greater_or_equal : goal.returns-clause-greater_or_equal
returns-clause-greater_or_equal c = decides_greater_or_equal

pub returns-clause-less_than : goal.returns-clause-less_than
returns-clause-less_than c = decides_less_than

pub returns-clause-greater_than : goal.returns-clause-greater_than
returns-clause-greater_than c = decides_greater_than

pub returns-clause-less_or_equal : goal.returns-clause-less_or_equal
returns-clause-less_or_equal c = decides_less_or_equal

pub returns-clause-sign : goal.returns-clause-sign
returns-clause-sign c = decides_sign

pub returns-clause-not_sign : goal.returns-clause-not_sign
returns-clause-not_sign c = decides_not_sign

pub returns-clause-not_overflow : goal.returns-clause-not_overflow
returns-clause-not_overflow c = decides_not_overflow

pub returns-clause-overflow : goal.returns-clause-overflow
returns-clause-overflow c = decides_overflow
