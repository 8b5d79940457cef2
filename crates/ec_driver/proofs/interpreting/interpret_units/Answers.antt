use Rattle.std.proofs.Common.{ap}
use Rattle.ec_driver.specs.Courses.{interp_course}
use Rattle.ec_driver.proofs.InterpLaws.{run_passes}
use Rattle.ec_driver.proofs.interpreting.interpret_units.Goals as goal

pub returns-in-Ok-clause-passes : goal.returns-in-Ok-clause-passes
returns-in-Ok-clause-passes g c = run_passes _ c.args.fuel _ _ _ _ c.run_source.result c.run_source.ensures.kind (record {
  program = _;
  wanted = λ t. ap interp_course (c.in-Ok.ensures.exact t);
  leaves = c.run_source.ensures.leaves;
})
