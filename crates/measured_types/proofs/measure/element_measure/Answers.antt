-- What is noted at the place itself.
use Rattle.measured_types.proofs.measure.element_measure.Goals as goal

pub returns-in-Some : goal.returns-in-Some
returns-in-Some c = c.requires.elements_known c.args.place c.in-Some.measure c.in-Some.ensures
