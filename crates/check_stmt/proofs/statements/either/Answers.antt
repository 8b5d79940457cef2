use Rattle.std.proofs.Common.{Err, rules}
use Rattle.c_program.specs.declared.statements.TypedStmt.{TypedStmt}
use Rattle.c_typing.specs.Visits.{Leaves}
use Rattle.check_stmt.specs.Blocks.{either_of}
use Rattle.check_stmt.proofs.BlockLaws.{either_left, either_done}
use Rattle.check_stmt.proofs.statements.either.Goals as goal

pub returns-in_err-test : goal.returns-in_err-test
returns-in_err-test c =
    let w : Leaves {A = TypedStmt} (either_of c.args.at c.args.value c.args.yes c.args.no c.args.tables.now) (Err c.in_err-test.field-0.0) c.args.tables.now =
    either_left c.args.at c.args.value c.args.yes c.args.no c.args.tables.now c.args.tables.now c.in_err-test.field-0.0 c.in_err-test.ensures in
    search rules

pub returns : goal.returns
returns c =
    either_done c.args.at c.args.value c.args.yes c.args.no c.in_ok-yes.yes c.in_ok-no.no c.in_ok-test.test c.args.tables.now c.in_ok-test.ensures c.in_ok-yes.ensures c.in_ok-no.ensures
