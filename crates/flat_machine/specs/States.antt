-- The state that the code keeps, as the definition has it.
use Rattle.reg_map.specs.Registers.{registers_of}
use Rattle.flat_machine.specs.declared.guest.Guest.{Guest as Kept}
use Rattle.flat_machine.specs.Steps.{Guest}

abbrev pub guest_of : Kept → Guest
guest_of g = record { cpu = registers_of g.cpu; mem = g.mem }
