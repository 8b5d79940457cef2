use Rattle.std.proofs.Common.{sym, arith}
use Rattle.reg_map.specs.Registers.{registers_of}
use Rattle.mixed_machine.specs.States.{guest_of}
use Rattle.mixed_machine.proofs.Returning.{entered_at}
use Rattle.mixed_machine.proofs.guest.Guest.enter_thunk.Goals as goal

pub returns : goal.returns
returns c =
    entered_at c.args.code.now c.args.distance c.args.back c.args.pc (registers_of c.args.self.now.cpu) c.args.self.now.mem c.thunk_of-thunk.result c.value-sp.result c.place_at.result
    (registers_of c.set_value.new.self) (registers_of c.set_value-2.new.self) (registers_of c.set_value-3.new.self) (registers_of c.set_value-4.new.self) (guest_of c.clear.new.self)
    c.thunk_of-thunk.ensures (omega arith) c.place_at.ensures (sym c.if-not-is_ec.ensures) c.value-sp.ensures c.set_value.ensures c.set_value-2.ensures c.set_value-3.ensures c.set_value-4.ensures c.clear.ensures
