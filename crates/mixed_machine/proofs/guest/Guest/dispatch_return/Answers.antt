use Rattle.std.proofs.Common.{sym}
use Rattle.mixed_machine.specs.States.{guest_of}
use Rattle.mixed_machine.proofs.Returning.{returned_to}
use Rattle.mixed_machine.proofs.guest.Guest.dispatch_return.Goals as goal

pub returns : goal.returns
returns c = returned_to c.args.code.now (guest_of c.args.self.now) c.value-target.result c.place_at.result c.value-target.ensures c.place_at.ensures (guest_of c.clear.new.self) (sym c.if-not-is_code.ensures) c.clear.ensures
