use Rattle.std.proofs.Common.{◌≡◌, drop, []}
use Rattle.c_typing.specs.Structs.{visit_fields}
use Rattle.check_decls.proofs.structs.struct_fields.Given as goal

abbrev pub invariant-loop-group : goal.invariant-loop-group
invariant-loop-group l = visit_fields l.unit l.fields (drop l.group-index l.groups) l.tables ≡ visit_fields l.unit [] l.groups l.initial.tables
