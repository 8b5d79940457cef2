use Rattle.std.proofs.Common.{sym, subst}
use Rattle.pe_loader.specs.Loading.{SlotsHold}
use Rattle.pe_loader.proofs.Shapes.{Slots-shape, shape-relocated}
use Rattle.pe_loader.proofs.writes.settle.Goals as goal

pub bind-requires-clause-slots : goal.bind-requires-clause-slots
bind-requires-clause-slots c =
    subst (λ rs. SlotsHold c.args.base c.args.imports.now rs) (sym c.relocate.ensures)
    (Slots-shape c.args.base c.args.imports.now c.args.regions.now _ (shape-relocated c.args.base c.args.delta c.args.sites.now c.args.regions.now) c.requires.slots)
