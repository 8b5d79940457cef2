use Rattle.std.proofs.Common.{arith}
use Rattle.std.proofs.lemmas.Int.{to_z-of_z}
use Rattle.c_values.specs.Objects.{number_in}
use Rattle.c_interp_acts.proofs.MachineLaws.{byte_is}
use Rattle.c_interp_acts.proofs.serving.low_byte.Goals as goal

pub returns : goal.returns
returns c = grind (arith, to_z-of_z, byte_is (number_in c.args.v.now))
