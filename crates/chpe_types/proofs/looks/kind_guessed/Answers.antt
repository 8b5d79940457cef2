use Rattle.std.proofs.Common.{length, refl, sym}
use Rattle.std.proofs.lemmas.Bool.{ltb-true}
use Rattle.std.proofs.lemmas.Option.{slice_get_read}
use Rattle.chpe_types.proofs.Points.{kind_got}
use Rattle.chpe_types.proofs.looks.kind_guessed.Goals as goal

pub returns-in-Some : goal.returns-in-Some
returns-in-Some c =
    let read = slice_get_read c.args.ranges.now (length c.args.ranges.now) c.args.near.now c.in-Some.range.now refl (ltb-true _ _ (sym c.in-Some.ensures.lookup.0)) c.in-Some.ensures.lookup.1 in
    kind_got c.args.ranges.now c.args.rva c.args.near.now c.in-Some.range.now c.requires read (sym c.if-has.ensures)
