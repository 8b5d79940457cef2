-- The state that the code keeps, as the definition has it.
use Rattle.std.specs.Prelude.{◌≡◌, ℕ, List, Option, Some, None, Result, Ok, Err}
use Rattle.reg_map.specs.Registers.{Registers, registers_of}
use Rattle.reg_map.specs.declared.registers.Cpu.{Cpu}
use Rattle.machine_rules.specs.declared.ends.GuestEnd.{GuestEnd}
use Rattle.pe_loader.specs.declared.loader.Loaded.{Loaded}
use Rattle.machine_rules.specs.Loads.{start_registers, with_stack}
use Rattle.machine_rules.specs.State.{Guest, Way, On, Off, After, Goes, Ends}
use Rattle.mixed_machine.specs.Maps.{code_of}
use Rattle.mixed_machine.specs.declared.guest.Guest.{Guest as KeptGuest}
use Rattle.mixed_machine.specs.declared.machine.Machine.{Machine as Kept}

abbrev pub guest_of : KeptGuest → Guest
guest_of g = record { cpu = registers_of g.cpu; mem = g.mem }

-- what an end or none, and the guest that is left, say of the way on
abbrev pub way_of : Option GuestEnd → Guest → Way
way_of None g = On g
way_of (Some end) g = Off end g

-- registers that a service returns with, or the end that it has
abbrev pub registers_or : Result Cpu GuestEnd → Result Registers GuestEnd
registers_or (Ok cpu) = Ok (registers_of cpu)
registers_or (Err end) = Err end

-- a machine with so much input left: it goes on, or it ended
abbrev pub after_with : Option GuestEnd → Guest → List ℕ → After
after_with None g input = Goes (record { guest = g; input = input })
after_with (Some end) g input = Ends end (record { guest = g; input = input })

abbrev pub after_of : Kept → List ℕ → After
after_of m input = after_with m.end (guest_of m.guest) input

-- a machine at its start
pub record IsStartOf (l : Loaded) (m : Kept) : Type 0 where
  pub guest : guest_of m.guest ≡ record { cpu = start_registers l.entry; mem = with_stack l.mem l.stack }
  pub code : m.code ≡ code_of l.meta l.base
  pub end : m.end ≡ None
