use Rattle.std.proofs.Common.{ap}
use Rattle.c_typing.specs.Units.{is_main_type}
use Rattle.c_check.proofs.missing.is_main_of.Goals as goal

pub returns-in-None : goal.returns-in-None
returns-in-None c = ap is_main_type c.in-None.ensures
