-- What the index holds of the name.
use Rattle.std.proofs.Common.{◌≡◌, List, Option, Some, Bool, ◌&&◌, ap, sym, ◌∙◌}
use Rattle.link_resolve.specs.declared.table.Known.{Known}
use Rattle.link_resolve.specs.Symbols.{Symbol}
use Rattle.link_resolve.specs.Index.{known}
use Rattle.link_resolve.proofs.IndexLaws.{clash_known}
use Rattle.link_resolve.proofs.table.Table.has_clash.Goals as goal

pub returns-then-known : goal.returns-then-known
returns-then-known c =
    let e : known c.args.self.now c.args.name.now ≡ Some c.in-Some.known.now =
    ap (λ (v : List Symbol). known v c.args.name.now) (sym c.self.view_is) ∙ sym (c.self.invariant c.args.name.now) ∙ sym c.in-Some.ensures.value in
    sym (clash_known c.args.self.now c.args.name.now c.in-Some.known.now e ∙ ap (λ (b : Bool). b && c.in-Some.known.now.alone) c.if-known.true)

pub returns-else-known : goal.returns-else-known
returns-else-known c =
    let e : known c.args.self.now c.args.name.now ≡ Some c.in-Some.known.now =
    ap (λ (v : List Symbol). known v c.args.name.now) (sym c.self.view_is) ∙ sym (c.self.invariant c.args.name.now) ∙ sym c.in-Some.ensures.value in
    c.if-known.false ∙ sym (clash_known c.args.self.now c.args.name.now c.in-Some.known.now e ∙ ap (λ (b : Bool). b && c.in-Some.known.now.alone) c.if-known.false)
