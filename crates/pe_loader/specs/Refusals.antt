-- Which images aren't loaded at a base, and why: the first of these. This project's own.
use Rattle.std.specs.Prelude.{◌≡◌, ℕ, ◌+◌, ◌&&◌, Bool, true, false, nat_le, List, [], ◌∷◌, if◌then◌else◌, Option, Some, None, is_none}
use Rattle.std.specs.List.{list_any}
use Rattle.chpe_types.specs.declared.image.Image.{Image}
use Rattle.chpe_types.specs.declared.image.ImageSection.{ImageSection}
use Rattle.chpe_types.specs.declared.image.ImportSlot.{ImportSlot}
use Rattle.machine_rules.specs.Layout.{service_named}
use Rattle.machine_rules.specs.Loads.{base_allowed}
use Rattle.pe_loader.specs.declared.refusal.LoadRefusal.{LoadRefusal}
use Rattle.pe_loader.specs.declared.refusal.LoadRefusal.TheVariants.{BadBase, UnknownImport, BadRelocation, NoMemory}

-- the first import that is no service of the machine
abbrev pub unknown_import : List ImportSlot → Option (List ℕ)
unknown_import [] = None
unknown_import (slot ∷ slots) = if is_none (service_named slot.name) then Some slot.name else unknown_import slots

-- the 8 bytes at a place lie in the section
abbrev pub lies_in : ℕ → ImageSection → Bool
lies_in rva s = nat_le s.rva rva && nat_le (rva + 8) (s.rva + s.size)

abbrev pub lies_in_one : List ImageSection → ℕ → Bool
lies_in_one sections rva = list_any (lies_in rva) sections

-- the first place to be relocated whose 8 bytes lie in no section
abbrev pub bad_site : List ImageSection → List ℕ → Option ℕ
bad_site sections [] = None
bad_site sections (site ∷ sites) = if lies_in_one sections site then bad_site sections sites else Some site

-- an image is loaded
pub record Loads (i : Image) (base : ℕ) : Type 0 where
  pub allowed : base_allowed i.size base ≡ true
  pub imports : unknown_import i.imports ≡ None
  pub sites : bad_site i.sections i.sites ≡ None

-- it is refused so; want of memory is free
abbrev pub Refuses : Image → ℕ → LoadRefusal → Type 0
Refuses i base BadBase = base_allowed i.size base ≡ false
Refuses i base (UnknownImport name) = (base_allowed i.size base ≡ true) × (unknown_import i.imports ≡ Some name.items)
Refuses i base (BadRelocation rva) = (base_allowed i.size base ≡ true) × (unknown_import i.imports ≡ None) × (bad_site i.sections i.sites ≡ Some rva)
Refuses i base NoMemory = Unit {0}
