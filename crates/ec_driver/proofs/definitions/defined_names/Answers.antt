use Rattle.std.proofs.Common.{arith}
use Rattle.ec_driver.proofs.Names.{name_pushed, names_end, names_full}
use Rattle.ec_driver.proofs.definitions.defined_names.Goals as goal

pub returns-in-None : goal.returns-in-None
returns-in-None c = names_end c.args.program.now c.loop-number.number _ _ c.loop-number-test.true c.in-None.ensures c.loop-number.invariant

pub loop-number-preserved : goal.loop-number-preserved
loop-number-preserved c = name_pushed _ (λ name. name.now) c.args.program.now c.loop-number.number c.in-Some.name c.loop-number.names.items c.push.new.self.items _ c.loop-number-test.true c.in-Some.ensures c.in_ok-push-in-Some.ensures.items c.loop-number.invariant

pub returns : goal.returns
returns c = names_full c.args.program.now c.loop-number.number _ _ (omega arith) c.loop-number.invariant
