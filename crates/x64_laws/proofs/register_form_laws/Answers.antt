use Rattle.x64_laws.proofs.Forms.{form-registers, form-memory, form-flags, form-other_flags, form-goes_on, form-event}
use Rattle.x64_laws.proofs.register_form_laws.Goals as goal

pub returns-clause-registers : goal.returns-clause-registers
returns-clause-registers c = form-registers

pub returns-clause-memory : goal.returns-clause-memory
returns-clause-memory c = form-memory

pub returns-clause-flags : goal.returns-clause-flags
returns-clause-flags c = form-flags

pub returns-clause-other_flags : goal.returns-clause-other_flags
returns-clause-other_flags c = form-other_flags

pub returns-clause-goes_on : goal.returns-clause-goes_on
returns-clause-goes_on c = form-goes_on

pub returns-clause-event : goal.returns-clause-event
returns-clause-event c = form-event
