use Rattle.std.proofs.Common.{◌≡◌, ℕ, List, Ok, subst, arith}
use Rattle.c_typing.specs.Adjustors.{target_named}
use Rattle.check_decls.proofs.AdjustorLaws.{adjustor_placed}
use Rattle.check_decls.proofs.adjustors.define_adjustment.Goals as goal

pub returns : goal.returns
returns c =
    let same = adjustor_placed c.args.unit c.args.name.now c.args.target.now c.args.parameter.now c.args.minus c.args.n.now c.args.state.now c.in_ok-target.target c.in_ok-adjustment.adjustment c.is_no_adjustor-taken.result (cc) c.in_ok-check_untaken.ensures (subst (λ (x : List ℕ). target_named c.args.name.now.span.start c.args.state.now.scope x ≡ Ok c.in_ok-target.target) c.as_slice-2.ensures c.in_ok-target.ensures) c.in_ok-adjustment.ensures.fits c.in_ok-adjustment.ensures.value in
    rw same (grind arith)

pub returns-in_err-place_adjustor : goal.returns-in_err-place_adjustor
returns-in_err-place_adjustor c =
    let same = adjustor_placed c.args.unit c.args.name.now c.args.target.now c.args.parameter.now c.args.minus c.args.n.now c.args.state.now c.in_ok-target.target c.in_ok-adjustment.adjustment c.is_no_adjustor-taken.result (cc) c.in_ok-check_untaken.ensures (subst (λ (x : List ℕ). target_named c.args.name.now.span.start c.args.state.now.scope x ≡ Ok c.in_ok-target.target) c.as_slice-2.ensures c.in_ok-target.ensures) c.in_ok-adjustment.ensures.fits c.in_ok-adjustment.ensures.value in
    rw same (grind arith)
