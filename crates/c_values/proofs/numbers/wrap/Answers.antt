use Rattle.std.proofs.Common.{arith, sym, subst, ℤ}
use Rattle.std.proofs.lemmas.Int.{to_z-of_z}
use Rattle.c_values.specs.Numbers.{Holds}
use Rattle.c_values.proofs.NumberLaws.{wrapped_signed, wrapped_unsigned, wrapped_holds}
use Rattle.c_values.proofs.numbers.wrap.Goals as goal

pub returns-then-signed-clause-value : goal.returns-then-signed-clause-value
returns-then-signed-clause-value c = grind (arith, to_z-of_z, wrapped_signed c.args.ty c.args.z)

pub returns-then-signed-clause-holds : goal.returns-then-signed-clause-holds
returns-then-signed-clause-holds c = let P : ℤ → Type 0 = Holds c.args.ty in subst P (sym (returns-then-signed-clause-value c)) (wrapped_holds c.args.ty c.args.z)

pub returns-else-signed-clause-value : goal.returns-else-signed-clause-value
returns-else-signed-clause-value c = grind (arith, to_z-of_z, wrapped_unsigned c.args.ty c.args.z)
