use Rattle.std.proofs.Common.{◌≡◌, map, Option, Ok, Err, sym, subst, ◌∙◌, arith}
use Rattle.c_types.specs.declared.types.Ty.{Ty}
use Rattle.c_program.specs.declared.program.Constant.{Constant}
use Rattle.c_typing.specs.Visits.{Tells}
use Rattle.c_typing.specs.Initials.{visit_init, for_parts}
use Rattle.check_decls.proofs.PartLaws.{parts_more, parts_left, parts_ended}
use Rattle.check_decls.proofs.initials.+inits.Goals as goal

pub part_constants-loop-k-preserved : goal.part_constants-loop-k-preserved
part_constants-loop-k-preserved t c =
    parts_more c.args.types.now c.args.ty (visit_init c.args.unit.now c.args.types.now) c.args.inits.now c.loop-k.k c.index-inits-k.result c.loop-k.constants c.push.new.self c.in_ok-constant_of.field-0 (omega arith) c.index-inits-k.is (subst (λ (o : Option Ty). visit_init c.args.unit.now c.args.types.now c.index-inits-k.result o ≡ Ok c.in_ok-constant_of.field-0) c.type_of_part-part.ensures c.in_ok-constant_of.ensures) c.in_ok-push.ensures.ok ∙ c.loop-k.invariant

pub part_constants-returns : goal.part_constants-returns
part_constants-returns t c =
    sym c.loop-k.invariant ∙ parts_ended c.args.types.now c.args.ty (visit_init c.args.unit.now c.args.types.now) c.args.inits.now c.loop-k.k c.loop-k.constants (omega arith)

pub part_constants-returns-in_err-constant_of : goal.part_constants-returns-in_err-constant_of
part_constants-returns-in_err-constant_of t c =
    let left = parts_left c.args.types.now c.args.ty (visit_init c.args.unit.now c.args.types.now) c.args.inits.now c.loop-k.k c.index-inits-k.result c.loop-k.constants _ (for_parts c.args.types.now c.args.ty 0 (map (visit_init c.args.unit.now c.args.types.now) c.args.inits.now)) (omega arith) c.index-inits-k.is (subst (λ (o : Option Ty). Tells {A = Constant} (visit_init c.args.unit.now c.args.types.now c.index-inits-k.result o) (Err c.in_err-constant_of.field-0.0)) c.type_of_part-part.ensures c.in_err-constant_of.ensures) c.loop-k.invariant in
    grind (arith, left)
