use Rattle.std.proofs.Common.{◌≡◌, drop, map}
use Rattle.c_typing.specs.Statements.{in_scopes, scoped_behind, visit_declarator, visit_declarators}
use Rattle.check_stmt.proofs.locals.declare_variables.Given as goal

abbrev pub invariant-loop-decl : goal.invariant-loop-decl
invariant-loop-decl l = record {
  left : scoped_behind l.declared (in_scopes (map (visit_declarator l.unit l.base) (drop l.decl-index l.decls)) l.locals l.tables) ≡ visit_declarators l.unit l.base l.decls l.initial.locals l.initial.tables;
  outer : l.locals.outer ≡ l.initial.locals.outer;
}
