use Rattle.std.proofs.Common.{◌∙◌, arith}
use Rattle.check_decls.proofs.PartLaws.{path_more}
use Rattle.check_decls.proofs.paths.part_by_path.Goals as goal

pub loop-step-preserved : goal.loop-step-preserved
loop-step-preserved c =
    path_more c.args.types.now c.args.steps.now c.loop-step.step-index c.step-item.result c.loop-step.path c.push.new.self c.loop-step.inside _ c.loop-step.ty c.in_ok-found.found (omega arith) c.step-item.is c.in_ok-found.ensures c.in_ok-push.ensures.ok (grind arith) ∙ c.loop-step.invariant
