-- A row of the same name leaves the index as it is.
use Rattle.std.proofs.Common.{List, slice_get, ap, sym, subst, ◌∙◌}
use Rattle.named_rows.specs.Places.{IsIndexed}
use Rattle.named_rows.proofs.PlaceLaws.{indexed_set}
use Rattle.named_rows.proofs.rows.NamedRows.set.Goals as goal

pub invariant_of-self : goal.invariant_of-self
invariant_of-self g c =
    subst (λ (xs : List g.row.T.Denot). IsIndexed g.T.Named.name c.self.inside.places c.self.inside.distinct xs) (sym c.set.ensures)
    (indexed_set g.T.Named.name c.self.inside.places c.self.inside.distinct c.self.inside.rows c.args.at c.args.row
    (λ x e. c.requires.named x (ap (λ (xs : List g.row.T.Denot). slice_get xs c.args.at) (sym c.self.view_is) ∙ e)) c.self.invariant)
