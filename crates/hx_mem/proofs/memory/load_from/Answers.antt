use Rattle.std.proofs.Common.{sym, ap, ◌∙◌, Err}
use Rattle.hx_bits.specs.Widths.{bytes_in}
use Rattle.hx_mem.specs.declared.fault.MemBad.TheVariants.{Unmapped}
use Rattle.hx_mem.specs.Space.{end_of, loaded, read_in}
use Rattle.hx_mem.proofs.First.{found_in, placed_at, load_at_place, load_nowhere}
use Rattle.hx_mem.proofs.memory.load_from.Goals as goal

pub load-requires-clause-from : goal.load-requires-clause-from
load-requires-clause-from c = rw c.index-regions-i.is (found_in _ _ _ c.in-Some.ensures _).0

pub load-requires-clause-before : goal.load-requires-clause-before
load-requires-clause-before c = rw c.index-regions-i.is (found_in _ _ _ c.in-Some.ensures _).1

pub load-requires-clause-low : goal.load-requires-clause-low
load-requires-clause-low c = rw c.index-regions-i.is (placed_at c.args.regions.now c.in-Some.i _ c.requires c.in-Some.ensures.0).low

pub returns-in-None : goal.returns-in-None
returns-in-None c = ap Err c.bad_at.ensures ∙ sym (load_nowhere _ _ c.in-None.ensures _ _)

pub returns-in-Some : goal.returns-in-Some
returns-in-Some c = c.load.ensures ∙ ap (λ r. loaded (read_in r c.args.at (bytes_in c.args.w)) (Unmapped (end_of r))) c.index-regions-i.is ∙ sym (load_at_place _ _ _ c.in-Some.ensures _ _ _)
