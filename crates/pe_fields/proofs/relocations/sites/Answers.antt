use Rattle.std.proofs.Common.{ℕ, ◌+◌, ◌-◌, ◌∙◌, ap, arith}
use Rattle.pe_fields.specs.Relocations.{sites}
use Rattle.pe_fields.proofs.BlockLaws.{fits, aligned, good_block, next_place, sites_more, sites_later}
use Rattle.pe_fields.proofs.relocations.sites.Goals as goal

pub returns-then-place-size : goal.returns-then-place-size
unfolding sites
returns-then-place-size c = sites_later c.args.bytes.now c.args.size c.loop-k._k c.loop-k.place c.loop-k.found c.loop-k.invariant.place_is (omega (arith, c.if-place-size.true)) (omega (arith, c.loop-k-test.true)) c.loop-k.invariant.found_is

pub block_sites-requires : goal.block_sites-requires
block_sites-requires c =
    let r = c.args.bytes.now in
    let p = c.loop-k.place in
    aligned r p (c.args.size - p) (good_block r c.args.size c.loop-k._k p c.requires c.loop-k.invariant.place_is (omega (arith, c.if-place-size.false)) (omega (arith, c.loop-k-test.true)))

pub overflow_add-place : goal.overflow_add-place
overflow_add-place c =
    let r = c.args.bytes.now in
    let p = c.loop-k.place in
    omega (arith, c.block_size.ensures, c.if-place-size.false, c.ranges.size.fits, fits r p (c.args.size - p) (good_block r c.args.size c.loop-k._k p c.requires c.loop-k.invariant.place_is (omega (arith, c.if-place-size.false)) (omega (arith, c.loop-k-test.true))))

pub loop-k-preserved : goal.loop-k-preserved
loop-k-preserved c =
    let r = c.args.bytes.now in
    let p = c.loop-k.place in
    let k = c.loop-k._k in
    let there = c.loop-k.invariant.place_is in
    record {
      place_is = ap (λ (n : ℕ). p + n) c.block_size.ensures ∙ next_place r k p there;
      found_is = c.in_ok-append.ensures ∙ sites_more r c.args.size k p c.loop-k.found c.in_ok-block_sites.field-0 there (omega (arith, c.if-place-size.false)) c.loop-k.invariant.found_is c.in_ok-block_sites.ensures;
      within = omega (arith, c.block_size.ensures, c.if-place-size.false, fits r p (c.args.size - p) (good_block r c.args.size k p c.requires there (omega (arith, c.if-place-size.false)) (omega (arith, c.loop-k-test.true))));
    }
