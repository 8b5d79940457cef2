use Rattle.ec_driver.proofs.BuildLaws.{saved_and_run}
use Rattle.ec_driver.proofs.building.save.Goals as goal

pub returns-in-Ok : goal.returns-in-Ok
returns-in-Ok g c = λ course puts status built. saved_and_run course c.args.name.now c.args.fuel _ _ c.args.image.now puts status c.run_image.result built (record { others = c.in-Ok.ensures.others; whole = c.in-Ok.ensures.saves }) (c.run_image.ensures.stands puts status built.image_runs) c.run_image.ensures.failed
