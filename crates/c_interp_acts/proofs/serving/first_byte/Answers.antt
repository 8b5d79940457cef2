use Rattle.std.proofs.Common.{◌≡◌}
use Rattle.std.specs.Prelude.{slice_get, None}
use Rattle.c_interp_acts.proofs.MachineLaws.{no_number}
use Rattle.c_interp_acts.proofs.serving.first_byte.Goals as goal

pub returns-in-None : goal.returns-in-None
returns-in-None c = let e : slice_get c.args.arguments.now 0 ≡ None = cc (c.in-None.ensures.value, c.as_slice.ensures) in no_number c.args.arguments.now e
