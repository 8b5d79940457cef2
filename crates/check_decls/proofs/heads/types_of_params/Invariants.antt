use Rattle.std.proofs.Common.{◌≡◌, drop, map}
use Rattle.c_typing.specs.Visits.{each_in_order, behind}
use Rattle.c_typing.specs.Heads.{bare_param_type, param_types}
use Rattle.check_decls.proofs.heads.types_of_params.Given as goal

abbrev pub invariant-loop-p : goal.invariant-loop-p
invariant-loop-p l = behind l.types (each_in_order (map (bare_param_type l.unit) (drop l.p-index l.params)) l.tables) ≡ param_types l.unit l.params l.initial.tables
