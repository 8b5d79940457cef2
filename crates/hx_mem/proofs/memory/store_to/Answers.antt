use Rattle.std.proofs.Common.{sym, ap, ◌∙◌, set, Err}
use Rattle.hx_bits.specs.Widths.{bytes_in}
use Rattle.hx_mem.specs.Space.{stored}
use Rattle.hx_mem.proofs.First.{region_none, put_none, found_in, placed_at, put_at_place, region_at_place}
use Rattle.hx_mem.proofs.memory.store_to.Goals as goal

pub store-requires-clause-from : goal.store-requires-clause-from
store-requires-clause-from c = (found_in _ _ _ c.in-Some.ensures _).0

pub store-requires-clause-before : goal.store-requires-clause-before
store-requires-clause-before c = (found_in _ _ _ c.in-Some.ensures _).1

pub store-requires-clause-low : goal.store-requires-clause-low
store-requires-clause-low c = (placed_at c.args.regions.now c.in-Some.i _ c.requires c.in-Some.ensures.0).low

pub returns-in-None-clause-answer : goal.returns-in-None-clause-answer
returns-in-None-clause-answer c = ap Err c.bad_at.ensures ∙ sym (ap (λ r. stored r c.args.guard.now c.args.at (bytes_in c.args.w)) (region_none _ _ c.in-None.ensures))

pub returns-in-None-clause-after : goal.returns-in-None-clause-after
returns-in-None-clause-after c = sym (put_none _ _ _ (region_none _ _ c.in-None.ensures))

pub returns-in-Some-clause-answer : goal.returns-in-Some-clause-answer
returns-in-Some-clause-answer c = c.store.ensures.answer ∙ sym (ap (λ r. stored r c.args.guard.now c.args.at (bytes_in c.args.w)) (region_at_place _ _ _ c.in-Some.ensures _))

pub returns-in-Some-clause-after : goal.returns-in-Some-clause-after
returns-in-Some-clause-after c = ap (set c.args.regions.now c.in-Some.i) c.store.ensures.after ∙ sym (put_at_place _ _ _ c.in-Some.ensures _ _)
