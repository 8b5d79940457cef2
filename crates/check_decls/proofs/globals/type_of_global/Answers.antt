use Rattle.std.proofs.Common.{is_some, arith}
use Rattle.c_typing.specs.declared.tables.Progress.{Progress}
use Rattle.c_typing.specs.TypeForms.{declared_type}
use Rattle.c_typing.specs.UnitVisits.{with_scope}
use Rattle.c_typing.specs.Externals.{global_named}
use Rattle.check_decls.proofs.TakenLaws.{where_refused}
use Rattle.check_decls.proofs.globals.type_of_global.Goals as goal

pub returns-in-Err : goal.returns-in-Err
returns-in-Err c =
    where_refused (λ (p : Progress). is_some (global_named p.globals c.args.decl.now.name.text)) (with_scope (λ unit. declared_type unit c.args.base.now c.args.decl.now)) c.args.state.now c.scoped_type.new.state c.is_some-stands.result c.in-Err.r c.with_standing.result (grind arith) c.in-Err.ensures c.with_standing.ensures
