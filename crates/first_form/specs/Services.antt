-- The services that x64 code calls, by the places where they stand in the machine: four functions of
-- `ecrt.dll`, in the order of its imports, 16 bytes apart.
use Rattle.std.specs.Prelude.{ℕ, ◌+◌}
use Rattle.first_form.specs.declared.services.Service.{Service}
use Rattle.first_form.specs.declared.services.Service.TheVariants.{PutByte, GetByte, Exit, Trap}

-- where the services of x64 code begin
abbrev pub services_at : ℕ
services_at = 0x7FFF00000000

abbrev pub address_of : Service → ℕ
address_of PutByte = services_at + 48
address_of GetByte = services_at + 64
address_of Exit = services_at + 80
address_of Trap = services_at + 96
