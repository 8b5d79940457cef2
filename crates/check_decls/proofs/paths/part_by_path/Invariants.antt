use Rattle.std.proofs.Common.{◌≡◌, drop}
use Rattle.c_typing.specs.Initials.{part_by_steps}
use Rattle.check_decls.specs.Steps.{path_behind}
use Rattle.check_decls.proofs.paths.part_by_path.Given as goal

abbrev pub invariant-loop-step : goal.invariant-loop-step
invariant-loop-step l = path_behind l.path l.inside (part_by_steps l.types (drop l.step-index l.steps) l.ty) ≡ part_by_steps l.types l.steps l.initial.ty
