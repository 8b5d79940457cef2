use Rattle.std.proofs.Common.{sym, ap, ◌∙◌}
use Rattle.x64_exec.specs.Words.{minus}
use Rattle.reg_map.specs.Registers.{registers_of}
use Rattle.mixed_machine.specs.States.{guest_of}
use Rattle.mixed_machine.proofs.Returning.{called}
use Rattle.mixed_machine.proofs.guest.Guest.dispatch_call.Goals as goal

pub returns : goal.returns
returns c =
    called c.args.code.now (guest_of c.args.self.now) (minus c.value-sp.result 8) c.value-target.result c.value.result c.place_at.result c.in_default.field-0 c.store.new.self (registers_of c.set_value.new.self) (guest_of c.clear.new.self)
    (ap (λ a. minus a 8) c.value-sp.ensures) (sym c.check_store.ensures ∙ c.in_default.is) c.value-target.ensures c.place_at.ensures (sym c.if-not-is_x64.ensures) c.value.ensures c.store.ensures.after c.set_value.ensures c.clear.ensures
