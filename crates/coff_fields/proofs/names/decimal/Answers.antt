use Rattle.std.proofs.Common.{arith}
use Rattle.coff_fields.proofs.NameLaws.{small}
use Rattle.coff_fields.proofs.names.decimal.Goals as goal

pub overflow_mul-value : goal.overflow_mul-value
overflow_mul-value c = omega (arith, small c.loop-c.value c.loop-c.c-index c.loop-c.invariant.small (omega arith))

pub returns-clause-bound : goal.returns-clause-bound
returns-clause-bound c = small c.loop-c.value c.loop-c.c-index c.loop-c.invariant.small (omega arith)
