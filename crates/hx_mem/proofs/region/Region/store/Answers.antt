use Rattle.std.proofs.Common.{arith, rules, sym, ap, ◌∙◌}
use Rattle.hx_bits.specs.Widths.{bytes_in}
use Rattle.std.proofs.lemmas.List.{with_items_is}
use Rattle.hx_mem.proofs.Stored.{refused_past, refused_right, store_as}
use Rattle.hx_mem.proofs.region.Region.store.Goals as goal

pub returns-then-length-end-clause-after : goal.returns-then-length-end-clause-after
returns-then-length-end-clause-after c =
    sym (refused_past c.args.self.now c.args.at (bytes_in c.args.w) c.args.v (omega arith))

pub returns-then-not-self-clause-after : goal.returns-then-not-self-clause-after
returns-then-not-self-clause-after c = sym (refused_right c.args.self.now c.args.at _ (ap (λ r. r.write) (sym c.self.view_is) ∙ c.if-not-self.true))

pub returns-clause-after : goal.returns-clause-after
returns-clause-after c =
    store_as (record { start = c.self.inside.start; bytes = c.self.inside.bytes.items; write = c.self.inside.write; exec = c.self.inside.exec }) c.args.self.now c.args.at (bytes_in c.args.w) c.args.v _ c.write_at.new.bytes _ c.self.view_is (with_items_is c.self.inside.bytes c.write_at.new.bytes (search rules)) c.write_at.ensures c.deref_mut.ensures.value c.if-not-self.false (omega arith)
