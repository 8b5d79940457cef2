use Rattle.std.proofs.Common.{sym, ◌∙◌}
use Rattle.reg_map.specs.Registers.{registers_of}
use Rattle.mixed_machine.specs.States.{guest_of}
use Rattle.mixed_machine.proofs.Returning.{x64_refused, x64_entered, x64_barred, x64_returned}
use Rattle.mixed_machine.proofs.guest.Guest.x64_back.Goals as goal

pub returns-in-Err : goal.returns-in-Err
returns-in-Err c = x64_refused c.args.code.now (guest_of c.args.self.now) c.value-sp.result c.in-Err.bad c.refused.result c.value-sp.ensures (sym c.load.ensures ∙ c.in-Err.is) c.refused.ensures

pub returns-then-is_ec : goal.returns-then-is_ec
returns-then-is_ec c = x64_entered c.args.code.now (guest_of c.args.self.now) c.value-sp.result c.in-Ok.to (registers_of c.set_value.new.self) c.place_at-place.result c.value-sp.ensures (sym c.load.ensures ∙ c.in-Ok.is) c.set_value.ensures c.place_at-place.ensures (sym c.if-is_ec.ensures) (registers_of c.clear_flags.new.cpu) c.clear_flags.ensures

pub returns-then-is_across : goal.returns-then-is_across
returns-then-is_across c = x64_barred c.args.code.now (guest_of c.args.self.now) c.value-sp.result c.in-Ok.to (registers_of c.set_value.new.self) c.place_at-place.result c.value-sp.ensures (sym c.load.ensures ∙ c.in-Ok.is) c.set_value.ensures c.place_at-place.ensures (sym c.if-is_ec.ensures) (sym c.if-is_across.ensures)

pub returns-else-is_across : goal.returns-else-is_across
returns-else-is_across c = x64_returned c.args.code.now (guest_of c.args.self.now) c.value-sp.result c.in-Ok.to (registers_of c.set_value.new.self) c.place_at-place.result c.value-sp.ensures (sym c.load.ensures ∙ c.in-Ok.is) c.set_value.ensures c.place_at-place.ensures (sym c.if-is_ec.ensures) (sym c.if-is_across.ensures)
