use Rattle.std.proofs.Common.{◌≡◌, sum_by, take}
use Rattle.c_types.specs.Layout.{size_of}
use Rattle.c_program.specs.declared.program.GlobalDef.{GlobalDef}
use Rattle.c_program.specs.Nodes.{small}
use Rattle.ec_limits.proofs.limits.global_bytes.Given as goal

abbrev pub invariant-loop-global : goal.invariant-loop-global
invariant-loop-global l = l.total ≡ small (sum_by (λ (g : GlobalDef). size_of l.types g.ty) (take l.global-index l.globals))
