use Rattle.std.proofs.Common.{is_some, arith}
use Rattle.c_typing.specs.declared.tables.Progress.{Progress}
use Rattle.c_typing.specs.Heads.{head_type}
use Rattle.c_typing.specs.UnitVisits.{with_scope}
use Rattle.c_typing.specs.Externals.{function_named}
use Rattle.check_decls.proofs.TakenLaws.{where_refused}
use Rattle.check_decls.proofs.functions.type_of_function.Goals as goal

pub returns-in-Err : goal.returns-in-Err
returns-in-Err c =
    where_refused (λ (p : Progress). is_some (function_named p.functions c.args.head.now.name.text)) (with_scope (λ unit. head_type unit c.args.head.now c.args.params)) c.args.state.now c.scoped_head.new.state c.is_some-stands.result c.in-Err.r c.with_standing.result (grind arith) c.in-Err.ensures c.with_standing.ensures
