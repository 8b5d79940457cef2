use Rattle.std.proofs.Common.{◌≡◌, drop, map}
use Rattle.c_typing.specs.Initials.{visit_init, for_parts}
use Rattle.check_decls.specs.Steps.{list_behind}
use Rattle.check_decls.proofs.initials.+inits.Given as goal

abbrev pub invariant-part_constants-loop-k : goal.invariant-part_constants-loop-k
invariant-part_constants-loop-k l = list_behind l.constants (for_parts l.types l.ty l.k (map (visit_init l.unit l.types) (drop l.k l.inits))) ≡ for_parts l.types l.ty 0 (map (visit_init l.unit l.types) l.inits)
