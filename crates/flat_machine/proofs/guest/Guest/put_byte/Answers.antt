use Rattle.std.proofs.Common.{refl, sym, ◌∙◌}
use Rattle.reg_map.specs.Registers.{registers_of}
use Rattle.flat_machine.specs.States.{guest_of}
use Rattle.flat_machine.proofs.Returns.{returns-after}
use Rattle.flat_machine.proofs.guest.Guest.put_byte.Goals as goal

pub returns-else-is_err-clause-moves : goal.returns-else-is_err-clause-moves
returns-else-is_err-clause-moves g c = returns-after _ _ c.in-Ok.target (registers_of c.args.self.now.cpu) (registers_of c.set64.new.self) (guest_of c.args.self.now) c.get64-sp.ensures refl (sym c.load.ensures ∙ c.in-Ok.is) c.set64.ensures
