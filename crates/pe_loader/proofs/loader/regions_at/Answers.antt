use Rattle.std.proofs.Common.{◌≡◌, sym, subst, rules, arith}
use Rattle.machine_rules.specs.Loads.{segments_of}
use Rattle.pe_loader.specs.Loading.{SlotsHold}
use Rattle.pe_loader.proofs.Shapes.{ends_low, image_slots}
use Rattle.pe_loader.proofs.loader.regions_at.Goals as goal

pub regions_of-requires-clause-base : goal.regions_of-requires-clause-base
regions_of-requires-clause-base c = omega (arith, ends_low c.args.i.now.size c.args.base c.requires.base)

pub settle-requires-clause-base : goal.settle-requires-clause-base
settle-requires-clause-base c = omega (arith, ends_low c.args.i.now.size c.args.base c.requires.base)

pub settle-requires-clause-slots : goal.settle-requires-clause-slots
settle-requires-clause-slots c =
    let slots : c.as_slice-3.result.now ≡ c.args.i.now.imports = search rules in
    let regions : c.deref_mut.result.now ≡ segments_of c.args.base c.args.i.now.sections = search rules in
    subst (λ rs. SlotsHold c.args.base c.as_slice-3.result.now rs) (sym regions)
    (subst (λ ss. SlotsHold c.args.base ss (segments_of c.args.base c.args.i.now.sections)) (sym slots) (image_slots c.args.i.now c.args.base c.requires.image))
