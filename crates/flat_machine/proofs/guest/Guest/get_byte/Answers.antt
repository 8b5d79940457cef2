use Rattle.std.proofs.Common.{◌+◌, refl, sym, ap, ◌∙◌}
use Rattle.reg_map.specs.declared.registers.X64Reg.TheVariants.{Rax, Rsp}
use Rattle.reg_map.specs.Registers.{Registers, registers_of, with_x64}
use Rattle.x64_exec.specs.Words.{word}
use Rattle.flat_machine.specs.States.{guest_of}
use Rattle.flat_machine.proofs.Returns.{returns-after}
use Rattle.flat_machine.proofs.guest.Guest.get_byte.Goals as goal

pub returns-in-Ok-clause-moves : goal.returns-in-Ok-clause-moves
returns-in-Ok-clause-moves c = returns-after _ _ c.in-Ok.target (with_x64 (registers_of c.args.self.now.cpu) Rax 18446744073709551615) (registers_of c.set64-in-Ok.new.self) (guest_of c.args.self.now) c.get64-sp.ensures refl (sym c.load.ensures ∙ c.in-Ok.is) (c.set64-in-Ok.ensures ∙ ap (λ (s : Registers). with_x64 s Rsp (word (c.get64-sp.result + 8))) c.set64.ensures)
