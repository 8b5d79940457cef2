use Rattle.std.proofs.Common.{◌≡◌, ◌∙◌, sym, arith}
use Rattle.pe_fields.specs.Space.{rest_at}
use Rattle.pe_write.proofs.BlockWalk.{walk_other}
use Rattle.pe_write.proofs.SiteLaws.{walk_begun, walk_on}
use Rattle.pe_write.proofs.places.size_at.Goals as goal

pub loop-k-init : goal.loop-k-init
loop-k-init c = walk_begun c.args.image.now c.args.place c.rest_at-blocks.result.now c.as_slice-left.result.now c.as_slice-left.ensures

pub loop-k-preserved : goal.loop-k-preserved
loop-k-preserved c =
    let r = c.rest_at-blocks.result.now in
    let known : r ≡ rest_at c.args.image.now.sections c.args.place = cc in
    walk_on c.args.image.now c.args.place c.loop-k._k c.loop-k.end r c.loop-k.left.now c.loop-k.invariant known
    (sym c.if-is_whole.false ∙ c.is_whole.ensures) (omega (arith, c.if-end-image.false)) (sym c.if-block_fails.false ∙ c.block_fails.ensures)
    c.as_slice-in-loop-k.result.now c.in-Some.rest.now c.block_size-end.result c.block_size-end.ensures (c.as_slice-in-loop-k.ensures ∙ c.in_ok-found.ensures) c.in-Some.ensures.some

pub returns-in-None : goal.returns-in-None
returns-in-None c =
    let r = c.rest_at-blocks.result.now in
    let known : r ≡ rest_at c.args.image.now.sections c.args.place = cc in
    walk_other c.args.image.now c.args.place c.loop-k._k c.loop-k.end r c.loop-k.left.now c.loop-k.invariant known
    (sym c.if-is_whole.false ∙ c.is_whole.ensures) (omega (arith, c.if-end-image.false)) (sym c.if-block_fails.false ∙ c.block_fails.ensures)
    c.as_slice-in-loop-k.result.now (c.as_slice-in-loop-k.ensures ∙ c.in_ok-found.ensures) c.in-None.ensures.none
