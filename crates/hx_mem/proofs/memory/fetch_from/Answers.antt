use Rattle.std.proofs.Common.{sym, ap, ◌∙◌, Err}
use Rattle.hx_mem.specs.Space.{fetched}
use Rattle.hx_mem.proofs.First.{region_none, found_in, region_at_place}
use Rattle.hx_mem.proofs.memory.fetch_from.Goals as goal

pub fetch-requires-clause-from : goal.fetch-requires-clause-from
fetch-requires-clause-from c = rw c.index-regions-i.is (found_in _ _ _ c.in-Some.ensures _).0

pub fetch-requires-clause-before : goal.fetch-requires-clause-before
fetch-requires-clause-before c = rw c.index-regions-i.is (found_in _ _ _ c.in-Some.ensures _).1

pub returns-in-None : goal.returns-in-None
returns-in-None c = ap Err c.bad_at.ensures ∙ sym (ap (λ r. fetched r c.args.guard.now c.args.at c.args.most) (region_none _ _ c.in-None.ensures))

pub returns-in-Some : goal.returns-in-Some
returns-in-Some c = rw (region_at_place c.args.regions.now c.args.at c.in-Some.i c.in-Some.ensures c.index-regions-i.result) (rw (← c.index-regions-i.is) c.fetch.ensures)
