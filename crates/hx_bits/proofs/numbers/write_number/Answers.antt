use Rattle.std.proofs.Common.{◌∙◌, refl, rules, ap, ◌++◌, drop}
use Rattle.hx_bits.proofs.Bytes.{bytes_low_first-bytes_of, low_first_of_low, set_first}
use Rattle.hx_bits.proofs.numbers.write_number.Goals as goal

pub returns-in-W8 : goal.returns-in-W8
returns-in-W8 c = rw c.in-W8.is (set_first _ _ (search rules))

pub returns-in-W16 : goal.returns-in-W16
returns-in-W16 c = rw c.in-W16.is (c.write_u16.ensures ∙ low_first_of_low 2 _ _ _ refl)

pub returns-in-W32 : goal.returns-in-W32
returns-in-W32 c = rw c.in-W32.is (c.write_u32.ensures ∙ low_first_of_low 4 _ _ _ refl)

pub returns-in-W64 : goal.returns-in-W64
returns-in-W64 c = rw c.in-W64.is (c.write_u64.ensures ∙ ap (λ bs. bs ++ drop 8 c.args.bytes.now) (bytes_low_first-bytes_of 8 _))
