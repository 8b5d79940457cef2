use Rattle.std.proofs.Common.{sym, ap, ◌∙◌, Err}
use Rattle.hx_bits.specs.Widths.{bytes_in}
use Rattle.hx_mem.specs.Space.{stored, stored_in}
use Rattle.hx_mem.proofs.First.{region_none, found_in, placed_at, region_at_place}
use Rattle.hx_mem.proofs.memory.check_store_to.Goals as goal

pub check_store-requires-clause-from : goal.check_store-requires-clause-from
check_store-requires-clause-from c = rw c.index-regions-i.is (found_in _ _ _ c.in-Some.ensures _).0

pub check_store-requires-clause-before : goal.check_store-requires-clause-before
check_store-requires-clause-before c = rw c.index-regions-i.is (found_in _ _ _ c.in-Some.ensures _).1

pub check_store-requires-clause-low : goal.check_store-requires-clause-low
check_store-requires-clause-low c = rw c.index-regions-i.is (placed_at c.args.regions.now c.in-Some.i _ c.requires c.in-Some.ensures.0).low

pub returns-in-None : goal.returns-in-None
returns-in-None c = ap Err c.bad_at.ensures ∙ sym (ap (λ r. stored r c.args.guard.now c.args.at (bytes_in c.args.w)) (region_none _ _ c.in-None.ensures))

pub returns-in-Some : goal.returns-in-Some
returns-in-Some c = c.check_store.ensures ∙ ap (λ r. stored_in r c.args.at (bytes_in c.args.w)) c.index-regions-i.is ∙ sym (ap (λ r. stored r c.args.guard.now c.args.at (bytes_in c.args.w)) (region_at_place _ _ _ c.in-Some.ensures _))
