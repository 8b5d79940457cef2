use Rattle.a64_laws.proofs.Forms.{effect-registers, effect-memory, act-flags, act-other_flags, act-goes_on, act-event}
use Rattle.a64_laws.proofs.register_form_laws.Goals as goal

pub returns-clause-registers : goal.returns-clause-registers
returns-clause-registers c = effect-registers

pub returns-clause-memory : goal.returns-clause-memory
returns-clause-memory c = effect-memory

pub returns-clause-flags : goal.returns-clause-flags
returns-clause-flags c = act-flags

pub returns-clause-other_flags : goal.returns-clause-other_flags
returns-clause-other_flags c = act-other_flags

pub returns-clause-goes_on : goal.returns-clause-goes_on
returns-clause-goes_on c = act-goes_on

pub returns-clause-event : goal.returns-clause-event
returns-clause-event c = act-event
