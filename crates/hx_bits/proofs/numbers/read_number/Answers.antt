use Rattle.std.proofs.Common.{◌∙◌, rules}
use Rattle.hx_bits.proofs.Bytes.{little_from-number_of, first_number}
use Rattle.hx_bits.proofs.numbers.read_number.Goals as goal

pub returns-in-W8-clause-value : goal.returns-in-W8-clause-value
returns-in-W8-clause-value c = rw c.in-W8.is (c.from.ensures ∙ first_number _ (search rules))

pub returns-in-W16-clause-value : goal.returns-in-W16-clause-value
returns-in-W16-clause-value c = rw c.in-W16.is (c.from-in-W16.ensures ∙ c.read_u16.ensures ∙ little_from-number_of 2 _ (search rules))

pub returns-in-W32-clause-value : goal.returns-in-W32-clause-value
returns-in-W32-clause-value c = rw c.in-W32.is (c.from-in-W32.ensures ∙ c.read_u32.ensures ∙ little_from-number_of 4 _ (search rules))

pub returns-in-W64-clause-value : goal.returns-in-W64-clause-value
returns-in-W64-clause-value c = rw c.in-W64.is (c.read_u64.ensures ∙ little_from-number_of 8 _ (search rules))
