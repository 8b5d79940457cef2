use Rattle.std.proofs.Common.{sym}
use Rattle.mixed_machine.specs.States.{guest_of}
use Rattle.mixed_machine.proofs.Returning.{ec_barred, ec_returned}
use Rattle.mixed_machine.proofs.guest.Guest.ec_back.Goals as goal

pub returns-then-is_across : goal.returns-then-is_across
returns-then-is_across c = ec_barred c.args.code.now (guest_of c.args.self.now) c.value-to.result c.place_at.result c.value-to.ensures c.place_at.ensures (sym c.if-is_across.ensures)

pub returns : goal.returns
returns c = ec_returned c.args.code.now (guest_of c.args.self.now) c.value-to.result c.place_at.result c.value-to.ensures c.place_at.ensures (sym c.if-is_across.ensures)
