-- The first name tells what it means.
use Rattle.check_types.proofs.ScopeLaws.{found_meaning, no_meaning}
use Rattle.check_types.proofs.scopes.find_meaning.Goals as goal

pub returns-in-Some : goal.returns-in-Some
returns-in-Some c = found_meaning c.args.unit.now.names c.args.name.now c.in-Some.n.now c.in-Some.ensures

pub returns-in-None : goal.returns-in-None
returns-in-None c = no_meaning c.args.unit.now.names c.args.name.now c.in-None.ensures
