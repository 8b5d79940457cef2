use Rattle.std.proofs.Common.{length, arith}
use Rattle.sig_core.specs.Signatures.{all_args}
use Rattle.sig_core.specs.Slots.{hidden_slots}
use Rattle.sig_core.proofs.SlotLaws.{slots_apart, slots_within, variadic_stack}
use Rattle.sig_core.proofs.laws.variadic_laws.Goals as goal

pub returns-clause-apart : goal.returns-clause-apart
returns-clause-apart c = λ s extras. slots_apart 4 (length (all_args s extras)) (hidden_slots s.result) (all_args s extras) (omega arith)

pub returns-clause-within : goal.returns-clause-within
returns-clause-within c = λ s extras. slots_within 4 (length (all_args s extras)) (hidden_slots s.result) 0 (all_args s extras) (omega arith) (omega arith)

pub returns-clause-stack : goal.returns-clause-stack
returns-clause-stack c = λ s extras. variadic_stack (all_args s extras) s.result (length (all_args s extras))
