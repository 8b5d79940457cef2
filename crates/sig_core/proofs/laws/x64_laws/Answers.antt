use Rattle.std.proofs.Common.{length, arith}
use Rattle.sig_core.specs.Signatures.{all_args}
use Rattle.sig_core.specs.Slots.{hidden_slots}
use Rattle.sig_core.proofs.SlotLaws.{slots_apart, slots_within, hidden_apart, x64_stack, x64_stack_few}
use Rattle.sig_core.proofs.laws.x64_laws.Goals as goal

pub returns-clause-apart : goal.returns-clause-apart
returns-clause-apart c = λ s extras. slots_apart 0 (length (all_args s extras)) (hidden_slots s.result) (all_args s extras) (omega arith)

pub returns-clause-within : goal.returns-clause-within
returns-clause-within c = λ s extras. slots_within 0 (length (all_args s extras)) (hidden_slots s.result) 32 (all_args s extras) (omega arith) (omega arith)

pub returns-clause-hidden : goal.returns-clause-hidden
returns-clause-hidden c = λ s extras i r a. hidden_apart (all_args s extras) s.result (length (all_args s extras)) i r a

pub returns-clause-stack : goal.returns-clause-stack
returns-clause-stack c = λ s extras. x64_stack (all_args s extras) s.result (length (all_args s extras))

pub returns-clause-few : goal.returns-clause-few
returns-clause-few c = λ s extras. x64_stack_few (all_args s extras) s.result (length (all_args s extras))
