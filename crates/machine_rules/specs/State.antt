-- What a machine is.
use Rattle.std.specs.Prelude.{ℕ, ◌+◌, ◌-◌, ◌^◌, ◌==◌, ◌&&◌, nat_le, nat_lt, Bool, true, false, List, [], if◌then◌else◌, Option, Some, None}
use Rattle.hx_mem.specs.Space.{Space}
use Rattle.reg_map.specs.Registers.{Registers}
use Rattle.chpe_types.specs.declared.image.CodeRange.{CodeRange}
use Rattle.chpe_types.specs.declared.image.Redirect.{Redirect}
use Rattle.chpe_types.specs.Looks.{kind_in, redirect_in}
use Rattle.x64_exec.specs.Words.{word}
use Rattle.machine_rules.specs.declared.ends.GuestEnd.{GuestEnd}
use Rattle.machine_rules.specs.declared.places.Side.{Side}
use Rattle.machine_rules.specs.declared.places.Side.TheVariants.{X64, Ec}
use Rattle.machine_rules.specs.declared.places.Service.{Service}
use Rattle.machine_rules.specs.declared.places.Place.{Place}
use Rattle.machine_rules.specs.declared.places.Place.TheVariants.{AtService, InRange, Nowhere}
use Rattle.machine_rules.specs.Layout.{service_at, side_of}

-- the registers with pc and both flag sets, and the memory with its guard
pub record Guest : Type 0 where
  pub cpu : Registers
  pub mem : Space

-- these, and the input that is left
pub record Machine : Type 0 where
  pub guest : Guest
  pub input : List ℕ

-- the code map of the image that runs, its redirections, and where the image stands. No step changes them
pub record Code : Type 0 where
  pub ranges : List CodeRange
  pub redirects : List Redirect
  pub base : ℕ

-- where a guest comes to that neither puts nor gets: it goes on, or it ended so
pub data Way : Type 0 where
  On : Guest → Way
  Off : GuestEnd → Guest → Way

-- what a step comes to: a machine that goes on, or one that ended so
pub data After : Type 0 where
  Goes : Machine → After
  Ends : GuestEnd → Machine → After

-- a step: the bytes that it puts, and what it comes to
pub record Act : Type 0 where
  pub put : List ℕ
  pub after : After

abbrev pub after_way : Way → List ℕ → After
after_way (On g) input = Goes (record { guest = g; input = input })
after_way (Off end g) input = Ends end (record { guest = g; input = input })

-- a step that puts nothing and gets nothing, and one that puts nothing
abbrev pub quiet : Way → List ℕ → Act
quiet way input = record { put = []; after = after_way way input }

abbrev pub silent : After → Act
silent after = record { put = []; after = after }

-- ---- addresses

-- the side of a kind of the code map (winnt.h, IMAGE_CHPE_RANGE_ENTRY: 1 is Arm64EC, 2 is x64)
abbrev pub side_of_kind : Option ℕ → Option Side
side_of_kind None = None
side_of_kind (Some kind) = if kind == 1 then Some Ec else if kind == 2 then Some X64 else None

-- an address lies in the image's part of the address space: its distance from the base is one of 32 bits
abbrev pub is_near : ℕ → ℕ → Bool
is_near base a = nat_le base a && nat_lt (a - base) (2 ^ 32)

-- the side of the range that the code map has of an address
abbrev pub mapped_at : Code → ℕ → Option Side
mapped_at code a = if is_near code.base a then side_of_kind (kind_in code.ranges (a - code.base)) else None

-- what stands at an address
abbrev pub place_in : Option Side → Place
place_in (Some side) = InRange side
place_in None = Nowhere

abbrev pub place_or : Option Service → Option Side → Place
place_or (Some service) side = AtService service
place_or None side = place_in side

unfoldable pub place_at : Code → ℕ → Place
place_at code a = place_or (service_at a) (mapped_at code a)

-- the EC address that a redirection gives for an address
abbrev pub placed : Code → Option ℕ → Option ℕ
placed code (Some rva) = Some (word (code.base + rva))
placed code None = None

unfoldable pub redirected : Code → ℕ → Option ℕ
redirected code a = if is_near code.base a then placed code (redirect_in code.redirects (a - code.base)) else None

-- ---- sides

abbrev pub is_other : Side → Side → Bool
is_other X64 X64 = false
is_other X64 Ec = true
is_other Ec X64 = true
is_other Ec Ec = false

-- control of code of a side that comes to a place without a switch comes to the other side: to its code, or to
-- a service for it
abbrev pub is_across : Side → Place → Bool
is_across side (AtService service) = is_other side (side_of service)
is_across side (InRange there) = is_other side there
is_across side Nowhere = false

-- the place is a range of EC code; of x64 code; of code
abbrev pub is_ec : Place → Bool
is_ec (AtService service) = false
is_ec (InRange X64) = false
is_ec (InRange Ec) = true
is_ec Nowhere = false

abbrev pub is_x64 : Place → Bool
is_x64 (AtService service) = false
is_x64 (InRange X64) = true
is_x64 (InRange Ec) = false
is_x64 Nowhere = false

abbrev pub is_code : Place → Bool
is_code (AtService service) = false
is_code (InRange side) = true
is_code Nowhere = false
