use Rattle.std.proofs.Common.{true, IsTrue, map, string_bytes, refl, subst}
use Rattle.ec_words.specs.Markings.{marks_of}
use Rattle.ec_units.specs.Verdicts.{verdict}
use Rattle.ec_driver.specs.Courses.{Course, exec_course}
use Rattle.ec_driver.proofs.Later.{stands_later}
use Rattle.ec_driver.proofs.PlanLaws.{built_stands}
use Rattle.ec_driver.proofs.driver.exec.Goals as goal

pub returns-in-Ok : goal.returns-in-Ok
returns-in-Ok g c =
    let course : Course = exec_course (marks_of c.args.words.marking.now) c.args.words.base (verdict (g.S.Store.file c.args.store.now) (map string_bytes c.args.words.units.now) true) in
    let plans = c.in-Ok.ensures.plans in
    λ stack passed. built_stands (map string_bytes c.args.words.units.now) c.args.words.image.now (marks_of c.args.words.marking.now) stack c.args.words.base c.args.words.fuel plans.0 _ passed _ c.build.result plans.1
    (stands_later _ _ course c.args.words.image.now c.args.words.fuel _ c.build.result
    (record { told = c.in-Ok.ensures.told; same = c.in-Ok.ensures.same; end = refl; counted = c.in-Ok.ensures.counted; faults = refl })
    (c.build.ensures course plans.0 (λ t. plans.1 (subst IsTrue c.in-Ok.ensures.told t)) plans.2))
