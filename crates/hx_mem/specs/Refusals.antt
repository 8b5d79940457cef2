-- When an access is refused, and with which address, in plain words.
use Rattle.std.specs.Prelude.{◌≡◌, ℕ, ◌+◌, ◌≤◌, ◌<◌, false, List, [], ◌∷◌, ◌&&◌, Option, Some, None}
use Rattle.hx_mem.specs.Segments.{Segment}
use Rattle.hx_mem.specs.Space.{Space, end_of, region_of}

-- the byte lies in the region, if there is one
abbrev pub IsIn : Option Segment → ℕ → Type 0
IsIn None b = ⊥
IsIn (Some r) b = (r.start ≤ b) × (b < end_of r)

-- b is the first of the n bytes from a that lies outside the region of a
pub record IsFirstOutside (m : Space) (a n b : ℕ) : Type 0 where
  pub from : a ≤ b
  pub before : b < a + n
  pub outside : ¬ IsIn (region_of m.regions a) b
  pub inside : (c : ℕ) → a ≤ c → c < b → IsIn (region_of m.regions a) c

-- all n bytes from a lie in a region that may not be written
abbrev pub IsReadOnly : Space → ℕ → ℕ → Type 0
IsReadOnly m a n = (r : Segment) × (region_of m.regions a ≡ Some r) × (a + n ≤ end_of r) × (r.write ≡ false)

-- the address lies in a region that may not be executed
abbrev pub IsNoCode : Space → ℕ → Type 0
IsNoCode m a = (r : Segment) × (region_of m.regions a ≡ Some r) × (r.exec ≡ false)

-- no region may be both written and executed
abbrev pub IsWriteOrExec : List Segment → Type 0
IsWriteOrExec [] = Unit {0}
IsWriteOrExec (r ∷ rs) = ((r.write && r.exec) ≡ false) × IsWriteOrExec rs

-- every region ends by an address
abbrev pub EndBy : List Segment → ℕ → Type 0
EndBy [] a = Unit {0}
EndBy (r ∷ rs) a = (end_of r ≤ a) × EndBy rs a
