use Rattle.std.proofs.Common.{◌∙◌, ◌<◌, ◌^◌, length, arith}
use Rattle.std.proofs.lemmas.Grind.{common_steps}
use Rattle.ec_driver.proofs.BuildLaws.{built_from}
use Rattle.ec_driver.proofs.building.build.Goals as goal

pub returns-in-Ok : goal.returns-in-Ok
returns-in-Ok g c =
    let short : length c.deref.result.now < 2 ^ 28 = grind (arith, common_steps) in
    λ course source wanted reads. c.save.ensures course c.args.unit.now.puts.items c.args.unit.now.status (built_from _ course source c.deref.result.now c.args.unit.now.puts.items c.args.unit.now.status wanted reads (c.deref.ensures.value ∙ c.in-Ok.ensures) short)
