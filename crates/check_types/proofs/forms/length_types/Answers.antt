use Rattle.std.proofs.Common.{rules, ◌-◌, Err, arith}
use Rattle.c_typing.specs.Visits.{Leaves}
use Rattle.c_typing.specs.TypeForms.{array_types}
use Rattle.check_types.proofs.forms.length_types.Goals as goal
use Rattle.check_types.proofs.FormLaws.{arrays_begun, arrays_more, arrays_left}

pub loop-left-init : goal.loop-left-init
loop-left-init c = (omega arith, arrays_begun c.args.at c.args.lengths.now c.args.ty c.args.tables.now)

pub returns-in_err-ty : goal.returns-in_err-ty
returns-in_err-ty c =
    let w : Leaves (array_types c.args.at c.args.lengths.now c.args.ty c.args.tables.now) (Err c.in_err-ty.field-0.0) c.array_of.new.tables =
    arrays_left c.args.at c.args.lengths.now (c.loop-left.left - 1) c.loop-left.left _ c.args.ty c.loop-left.ty c.args.tables.now c.loop-left.tables _ _ (omega arith) (omega arith) c.loop-left.invariant.1 c.in_err-ty.ensures in
    search rules

pub loop-left-preserved : goal.loop-left-preserved
loop-left-preserved c =
    (omega arith, arrays_more c.args.at c.args.lengths.now (c.loop-left.left - 1) c.loop-left.left _ c.args.ty c.loop-left.ty c.args.tables.now c.loop-left.tables _ (omega arith) (omega arith) c.loop-left.invariant.1 c.in_ok-ty.ensures)
