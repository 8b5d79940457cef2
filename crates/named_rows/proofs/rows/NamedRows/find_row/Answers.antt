-- The row at the first place of the name.
use Rattle.std.proofs.Common.{List, slice_get, bytes_eq, ap, sym, ◌∙◌}
use Rattle.named_rows.proofs.PlaceLaws.{found_at, found_none}
use Rattle.named_rows.proofs.rows.NamedRows.find_row.Goals as goal

pub returns-in-Some : goal.returns-in-Some
returns-in-Some g c =
    c.get.ensures.value ∙ ap (λ (xs : List g.row.T.Denot). slice_get xs c.in-Some.at) c.self.view_is
    ∙ found_at (λ row. bytes_eq (g.T.Named.name row) c.args.name.now) c.args.self.now c.in-Some.at (sym c.in-Some.ensures)

pub returns-in-None : goal.returns-in-None
returns-in-None g c = found_none (λ row. bytes_eq (g.T.Named.name row) c.args.name.now) c.args.self.now (sym c.in-None.ensures)
