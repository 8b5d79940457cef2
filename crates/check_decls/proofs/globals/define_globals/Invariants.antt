use Rattle.std.proofs.Common.{◌≡◌, drop}
use Rattle.c_typing.specs.Externals.{visit_globals}
use Rattle.check_decls.proofs.globals.define_globals.Given as goal

abbrev pub invariant-loop-decl : goal.invariant-loop-decl
invariant-loop-decl l = visit_globals l.unit l.base (drop l.decl-index l.decls) l.state ≡ visit_globals l.unit l.base l.decls l.initial.state
