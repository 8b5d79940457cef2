use Rattle.std.proofs.Common.{◌≡◌, drop}
use Rattle.c_typing.specs.Structs.{visit_field_decls}
use Rattle.check_decls.proofs.structs.with_field_decls.Given as goal

abbrev pub invariant-loop-decl : goal.invariant-loop-decl
invariant-loop-decl l = visit_field_decls l.unit l.base l.fields (drop l.decl-index l.decls) l.tables ≡ visit_field_decls l.unit l.base l.initial.fields l.decls l.initial.tables
