use Rattle.std.proofs.Common.{◌≡◌, drop, map}
use Rattle.c_typing.specs.Statements.{in_scopes, scoped_behind}
use Rattle.c_typing.specs.Heads.{visit_parameter}
use Rattle.check_decls.proofs.heads.enter_parameters.Given as goal

abbrev pub invariant-loop-p : goal.invariant-loop-p
invariant-loop-p l = scoped_behind l.types (in_scopes (map (visit_parameter l.unit) (drop l.p-index l.params)) l.locals l.tables) ≡ in_scopes (map (visit_parameter l.unit) l.params) l.initial.locals l.initial.tables
