-- What the index holds of the name.
use Rattle.std.proofs.Common.{◌≡◌, List, Some, slice_get, ap, sym, ◌∙◌}
use Rattle.link_resolve.specs.Symbols.{Symbol}
use Rattle.link_resolve.specs.Index.{known}
use Rattle.link_resolve.proofs.IndexLaws.{first_known}
use Rattle.link_resolve.proofs.table.Table.definition_of.Goals as goal

pub returns-in-Some : goal.returns-in-Some
returns-in-Some c =
    let e : known c.args.self.now c.args.name.now ≡ Some c.in-Some.known.now =
    ap (λ (v : List Symbol). known v c.args.name.now) (sym c.self.view_is) ∙ sym (c.self.invariant c.args.name.now) ∙ sym c.in-Some.ensures.value in
    c.symbol_at.ensures ∙ ap (λ (v : List Symbol). slice_get v c.in-Some.known.now.first) c.self.view_is ∙ first_known c.args.self.now c.args.name.now c.in-Some.known.now e
