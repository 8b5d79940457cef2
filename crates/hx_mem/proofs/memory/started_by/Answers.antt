use Rattle.std.proofs.Common.{arith, ◌≤◌, ◌<◌, subst}
use Rattle.hx_mem.proofs.First.{started_more, past_more}
use Rattle.hx_mem.proofs.memory.started_by.Goals as goal

pub loop-low-preserved-then-region-at : goal.loop-low-preserved-then-region-at
loop-low-preserved-then-region-at c = record {
  order = omega arith;
  within = c.loop-low.invariant.within;
  started = started_more c.args.regions.now c.args.at _ c.index-regions-middle.result c.requires (omega arith) c.index-regions-middle.is (subst (λ r. r.start ≤ c.args.at) c.region.view_is c.if-region-at.true);
  others = c.loop-low.invariant.others;
}

pub loop-low-preserved : goal.loop-low-preserved
loop-low-preserved c = record {
  order = omega arith;
  within = omega arith;
  started = c.loop-low.invariant.started;
  others = past_more c.args.regions.now c.args.at _ c.index-regions-middle.result c.requires (omega arith) c.index-regions-middle.is (subst (λ r. c.args.at < r.start) c.region.view_is c.if-region-at.false);
}
