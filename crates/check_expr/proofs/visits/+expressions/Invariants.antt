use Rattle.std.proofs.Common.{◌≡◌, drop, map}
use Rattle.c_typing.specs.Visits.{behind, each_in_order}
use Rattle.c_typing.specs.Expressions.{value, visit_expr}
use Rattle.check_expr.proofs.visits.+expressions.Given as goal

abbrev pub invariant-visit_values-loop-e : goal.invariant-visit_values-loop-e
invariant-visit_values-loop-e l = behind l.values (each_in_order (map (λ e. value (visit_expr l.unit l.locals e)) (drop l.e-index l.es)) l.tables) ≡ each_in_order (map (λ e. value (visit_expr l.unit l.locals e)) l.es) l.initial.tables
