use Rattle.mixed_machine.proofs.instructions.x64_in.Goals as goal

pub returns-in-Ok-clause-valid : goal.returns-in-Ok-clause-valid
returns-in-Ok-clause-valid c = ((c.decode.ensures.read c.in-Ok.found.0 c.in-Ok.found.1).0 c.in-Ok.is).valid
