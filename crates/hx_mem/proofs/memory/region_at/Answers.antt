use Rattle.std.proofs.Common.{sym, ap, ◌∙◌, arith}
use Rattle.hx_mem.specs.Space.{has}
use Rattle.hx_mem.specs.Found.{no_segment}
use Rattle.hx_mem.proofs.First.{none_at_zero, found_before, none_there}
use Rattle.hx_mem.proofs.memory.region_at.Goals as goal

pub returns-then-i-eq0 : goal.returns-then-i-eq0
returns-then-i-eq0 c = none_at_zero c.args.regions.now c.args.at _ c.requires c.started_by-i.ensures.started c.started_by-i.ensures.others no_segment c.if-i-eq0.true

pub returns-then-has : goal.returns-then-has
returns-then-has c =
    found_before c.args.regions.now c.args.at _ c.requires c.started_by-i.ensures.started c.started_by-i.ensures.others c.index-regions-i.result (omega arith) c.started_by-i.ensures.bound
    (ap (λ r. has r c.args.at) (sym c.index-regions-i.is) ∙ sym c.if-has.ensures)

pub returns-else-has : goal.returns-else-has
returns-else-has c =
    none_there c.args.regions.now c.args.at _ c.requires c.started_by-i.ensures.started c.started_by-i.ensures.others c.index-regions-i.result (omega arith) c.started_by-i.ensures.bound
    (ap (λ r. has r c.args.at) (sym c.index-regions-i.is) ∙ sym c.if-has.ensures)
