-- The first name of the block tells what it means.
use Rattle.check_types.proofs.ScopeLaws.{found_local, no_local}
use Rattle.check_types.proofs.scopes.first_local.Goals as goal

pub returns-in-Some : goal.returns-in-Some
returns-in-Some c = found_local c.args.block.now c.args.name.now c.in-Some.n.now c.in-Some.ensures

pub returns-in-None : goal.returns-in-None
returns-in-None c = no_local c.args.block.now c.args.name.now c.in-None.ensures
