use Rattle.std.proofs.Common.{◌≡◌, ◌∷◌, length, sym, ap, subst, ◌∙◌, arith}
use Rattle.std.specs.Vec.Iter.{into_iter_items}
use Rattle.machine_rules.specs.Loads.{mapped}
use Rattle.hx_mem.proofs.Places.{EndBy-later}
use Rattle.pe_loader.proofs.Mapped.{IsReady, room_for, ready_then}
use Rattle.pe_loader.proofs.regions.memory_of.Goals as goal

pub add-requires : goal.add-requires
add-requires c =
    let steps : into_iter_items c.loop-region.region-iterator ≡ c.in-Some.region ∷ into_iter_items c.next.new.self = c.in-Some.ensures.steps.0 in
    room_for c.loop-region.mem c.in-Some.region (into_iter_items c.next.new.self) (subst (λ rs. IsReady c.loop-region.mem rs) steps c.loop-region.invariant.ready)

pub loop-region-preserved : goal.loop-region-preserved
loop-region-preserved c =
    let steps : into_iter_items c.loop-region.region-iterator ≡ c.in-Some.region ∷ into_iter_items c.next.new.self = c.in-Some.ensures.steps.0 in
    record {
      mem = ap (mapped (into_iter_items c.next.new.self)) c.in_ok-add.ensures.ok ∙ sym (ap (λ rs. mapped rs c.loop-region.mem) steps) ∙ c.loop-region.invariant.mem;
      ready = subst (λ m. IsReady m (into_iter_items c.next.new.self)) (sym c.in_ok-add.ensures.ok) (ready_then c.loop-region.mem c.in-Some.region (into_iter_items c.next.new.self) (subst (λ rs. IsReady c.loop-region.mem rs) steps c.loop-region.invariant.ready));
      count = (let was = c.loop-region.invariant.count in let gone = c.in-Some.ensures.steps.1 in let short = ap length steps in omega arith);
    }

pub returns-clause-low : goal.returns-clause-low
returns-clause-low c = EndBy-later _ _ _ c.loop-region.invariant.ready.low c.loop-region.invariant.ready.ends
