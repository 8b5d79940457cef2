use Rattle.std.proofs.Common.{ap, ◌∙◌, rules}
use Rattle.std.proofs.lemmas.List.{with_items_is}
use Rattle.hx_words.specs.LittleEndian.{bytes_of}
use Rattle.hx_bits.specs.Widths.{bytes_in}
use Rattle.hx_mem.specs.Space.{put}
use Rattle.hx_mem.proofs.Places.{IsMemory-written}
use Rattle.hx_mem.proofs.memory.Memory.store.Goals as goal

pub invariant_of-self : goal.invariant_of-self
invariant_of-self c =
    IsMemory-written (record { regions = c.self.inside.regions.items; guard = c.self.inside.guard }) _ c.store_to.new.regions c.args.at (bytes_in c.args.w) c.args.v
    (with_items_is c.self.inside.regions c.store_to.new.regions (search rules))
    (c.store_to.ensures.after ∙ ap (λ rs. put rs c.args.at (bytes_of (bytes_in c.args.w) c.args.v)) c.deref_mut.ensures.value) c.self.invariant
