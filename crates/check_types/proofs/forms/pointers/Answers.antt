use Rattle.std.proofs.Common.{rules, Err, arith}
use Rattle.c_typing.specs.Visits.{Leaves}
use Rattle.c_typing.specs.TypeForms.{pointer_type}
use Rattle.check_types.proofs.forms.pointers.Goals as goal
use Rattle.check_types.proofs.FormLaws.{pointers_kept, pointers_left}

pub returns-in_err-enter_ty : goal.returns-in_err-enter_ty
returns-in_err-enter_ty c =
    let w : Leaves (pointer_type c.args.stars.now c.args.ty c.args.tables.now) (Err c.in_err-enter_ty.field-0.0) c.enter_ty.new.tables =
    pointers_left c.args.stars.now c.loop-star._star-index c.loop-star.ty c.loop-star.tables _ _ _ (omega arith) c.in_err-enter_ty.ensures c.loop-star.invariant in
    search rules

pub loop-star-preserved : goal.loop-star-preserved
loop-star-preserved c =
    pointers_kept c.args.stars.now c.loop-star._star-index c.loop-star.ty c.loop-star.tables _ _ _ (omega arith) c.in_ok-enter_ty.ensures c.loop-star.invariant
