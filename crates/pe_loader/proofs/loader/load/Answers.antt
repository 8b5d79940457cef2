use Rattle.std.proofs.Common.{◌≡◌, ◌^◌, true, sym, subst, rules}
use Rattle.machine_rules.specs.Loads.{base_allowed}
use Rattle.pe_loader.specs.Loading.{StandFrom}
use Rattle.pe_loader.proofs.Shapes.{image_stands}
use Rattle.pe_loader.proofs.loader.load.Goals as goal

pub memory_of-requires : goal.memory_of-requires
memory_of-requires c =
    let allowed : base_allowed c.args.i.now.size c.args.base ≡ true = search rules in
    subst (λ rs. StandFrom 0 (2 ^ 46) rs) (sym c.in_ok-regions.ensures) (image_stands c.args.i.now c.args.base c.requires allowed)
