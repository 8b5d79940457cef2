-- Where things stand beside the image. All places here are this project's own; the services for EC code that an
-- Arm64EC image imports are those of Windows (Microsoft, "Overview of ARM64EC ABI conventions": the checker, the
-- dispatcher of calls to x64 code and that of returns).
use Rattle.std.specs.Prelude.{ℕ, ◌+◌, ◌==◌, List, codes, if◌then◌else◌, Option, Some, None}
use Rattle.std.specs.Str.{bytes_eq}
use Rattle.machine_rules.specs.declared.places.Side.{Side}
use Rattle.machine_rules.specs.declared.places.Side.TheVariants.{X64, Ec}
use Rattle.machine_rules.specs.declared.places.Service.{Service}
use Rattle.machine_rules.specs.declared.places.Service.TheVariants.{PutByte, GetByte, ExitGuest, TrapGuest, CheckCall, DispatchCall, DispatchReturn}

-- the stack ends here; below it lies the guard, which is so long
abbrev pub stack_top : ℕ
stack_top = 0x7FFE00000000

abbrev pub guard_size : ℕ
guard_size = 16777216

-- the services for x64 code stand from the first place on, those for EC code from the second
abbrev pub x64_services : ℕ
x64_services = 0x7FFF00000000

abbrev pub ec_services : ℕ
ec_services = 0x7FFF00001000

-- the address of a service
abbrev pub services_of : Side → ℕ
services_of X64 = x64_services
services_of Ec = ec_services

abbrev pub address_of : Service → ℕ
address_of (PutByte side) = services_of side + 48
address_of (GetByte side) = services_of side + 64
address_of (ExitGuest side) = services_of side + 80
address_of (TrapGuest side) = services_of side + 96
address_of CheckCall = ec_services
address_of DispatchCall = ec_services + 16
address_of DispatchReturn = ec_services + 32

-- the side whose code a service is for
abbrev pub side_of : Service → Side
side_of (PutByte side) = side
side_of (GetByte side) = side
side_of (ExitGuest side) = side
side_of (TrapGuest side) = side
side_of CheckCall = Ec
side_of DispatchCall = Ec
side_of DispatchReturn = Ec

-- the service that stands at an address
abbrev pub service_at : ℕ → Option Service
service_at a =
    if a == address_of (PutByte X64) then Some (PutByte X64) else
    if a == address_of (GetByte X64) then Some (GetByte X64) else
    if a == address_of (ExitGuest X64) then Some (ExitGuest X64) else
    if a == address_of (TrapGuest X64) then Some (TrapGuest X64) else
    if a == address_of (PutByte Ec) then Some (PutByte Ec) else
    if a == address_of (GetByte Ec) then Some (GetByte Ec) else
    if a == address_of (ExitGuest Ec) then Some (ExitGuest Ec) else
    if a == address_of (TrapGuest Ec) then Some (TrapGuest Ec) else
    if a == address_of CheckCall then Some CheckCall else
    if a == address_of DispatchCall then Some DispatchCall else
    if a == address_of DispatchReturn then Some DispatchReturn else None

-- the service that an image imports by a name
abbrev pub service_named : List ℕ → Option Service
service_named name =
    if bytes_eq name (codes "put_byte") then Some (PutByte X64) else
    if bytes_eq name (codes "get_byte") then Some (GetByte X64) else
    if bytes_eq name (codes "exit") then Some (ExitGuest X64) else
    if bytes_eq name (codes "trap") then Some (TrapGuest X64) else
    if bytes_eq name (codes "#put_byte") then Some (PutByte Ec) else
    if bytes_eq name (codes "#get_byte") then Some (GetByte Ec) else
    if bytes_eq name (codes "#exit") then Some (ExitGuest Ec) else
    if bytes_eq name (codes "#trap") then Some (TrapGuest Ec) else
    if bytes_eq name (codes "__os_arm64x_check_icall") then Some CheckCall else
    if bytes_eq name (codes "__os_arm64x_dispatch_call_no_redirect") then Some DispatchCall else
    if bytes_eq name (codes "__os_arm64x_dispatch_ret") then Some DispatchReturn else None
