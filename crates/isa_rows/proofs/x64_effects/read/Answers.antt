use Rattle.isa_rows.proofs.x64_effects.read.Goals as goal

pub returns-in-Ok : goal.returns-in-Ok
returns-in-Ok c = ((c.decode.ensures.read c.in-Ok.i c.in-Ok.n).0 c.in-Ok.is).valid
