-- What is loaded, and of which images.
use Rattle.std.specs.Prelude.{◌≡◌, ℕ, ◌+◌, ◌%◌, ◌^◌, ◌≤◌, true, List, [], ◌∷◌, length, None, is_some}
use Rattle.hx_mem.specs.Segments.{Segment}
use Rattle.hx_mem.specs.Space.{end_of, read}
use Rattle.hx_mem.specs.Refusals.{EndBy}
use Rattle.chpe_types.specs.declared.image.Image.{Image}
use Rattle.chpe_types.specs.declared.image.ImageSection.{ImageSection}
use Rattle.chpe_types.specs.declared.image.ImportSlot.{ImportSlot}
use Rattle.chpe_types.specs.Looks.{valid_meta_of}
use Rattle.machine_rules.specs.Loads.{loaded}
use Rattle.pe_loader.specs.declared.loader.Loaded.{Loaded}
use Rattle.pe_loader.specs.Refusals.{lies_in_one}

-- no section has more contents than bytes
abbrev pub HoldNoMore : List ImageSection → Type 0
HoldNoMore [] = Unit {0}
HoldNoMore (s ∷ ss) = (length s.bytes ≤ s.size) × HoldNoMore ss

-- the sections stand in order from a place on, share none and end by another
abbrev pub InOrder : ℕ → ℕ → List ImageSection → Type 0
InOrder from to [] = Unit {0}
InOrder from to (s ∷ ss) = (from ≤ s.rva) × (s.rva + s.size ≤ to) × InOrder (s.rva + s.size) to ss

-- so do regions
abbrev pub StandFrom : ℕ → ℕ → List Segment → Type 0
StandFrom from to [] = Unit {0}
StandFrom from to (r ∷ rs) = (from ≤ r.start) × (end_of r ≤ to) × StandFrom (end_of r) to rs

-- the 8 bytes of each import slot lie in one section
abbrev pub SlotsLie : List ImageSection → List ImportSlot → Type 0
SlotsLie sections [] = Unit {0}
SlotsLie sections (slot ∷ slots) = (lies_in_one sections slot.rva ≡ true) × SlotsLie sections slots

-- one region has the 8 bytes at an address
abbrev pub Holds : List Segment → ℕ → Type 0
Holds rs a = is_some (read rs a 8) ≡ true

abbrev pub SlotsHold : ℕ → List ImportSlot → List Segment → Type 0
SlotsHold base [] rs = Unit {0}
SlotsHold base (slot ∷ slots) rs = Holds rs (base + slot.rva) × SlotsHold base slots rs

-- a stack has whole pages, and at most 256 MiB
pub record IsStack (stack : ℕ) : Type 0 where
  pub pages : stack % 4096 ≡ 0
  pub most : stack ≤ 268435456

-- the images that may be loaded
pub record CanLoad (i : Image) : Type 0 where
  pub stack : IsStack i.stack
  pub order : InOrder 0 i.size i.sections
  pub contents : HoldNoMore i.sections
  pub slots : SlotsLie i.sections i.imports
  pub meta : valid_meta_of i.meta ≡ true

-- what is loaded of an image at a base
pub record IsLoadedOf (i : Image) (base : ℕ) (l : Loaded) : Type 0 where
  pub mem : l.mem ≡ loaded i base
  pub meta : l.meta ≡ i.meta
  pub at : l.base ≡ base
  pub entry : l.entry ≡ base + i.entry
  pub stack : l.stack ≡ i.stack

-- what a machine starts from: a memory below 2^46 without a guard, metadata in order, and a stack that fits above
pub record IsWhole (l : Loaded) : Type 0 where
  pub low : EndBy l.mem.regions (2 ^ 46)
  pub guard : l.mem.guard ≡ None
  pub meta : valid_meta_of l.meta ≡ true
  pub stack : IsStack l.stack
