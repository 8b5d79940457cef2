use Rattle.ec_driver.proofs.Ended.{no_trap, no_spent, no_stuck}
use Rattle.ec_driver.proofs.building.run_image.Goals as goal

pub returns-in-Ok-Trap-clause-stands : goal.returns-in-Ok-Trap-clause-stands
returns-in-Ok-Trap-clause-stands g c = λ puts status runs. absurd (no_trap c.args.image.now puts status c.args.fuel _ c.in-Ok-Trap.field-0 c.in-Ok-Trap.field-0-is c.in-Ok-Trap.ensures.ends runs)

pub returns-in-Ok-StackSpent-clause-stands : goal.returns-in-Ok-StackSpent-clause-stands
returns-in-Ok-StackSpent-clause-stands g c = λ puts status runs. absurd (no_spent c.args.image.now puts status c.args.fuel c.in-Ok-StackSpent.field-0 c.in-Ok-StackSpent.field-0-is c.in-Ok-StackSpent.ensures.ends runs)

pub returns-in-Ok-Stuck-clause-stands : goal.returns-in-Ok-Stuck-clause-stands
returns-in-Ok-Stuck-clause-stands g c = λ puts status runs. absurd (no_stuck c.args.image.now puts status c.args.fuel _ _ c.in-Ok-Stuck.field-0 c.in-Ok-Stuck.field-0-is c.in-Ok-Stuck.ensures.ends runs)
