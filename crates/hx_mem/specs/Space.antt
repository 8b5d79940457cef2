-- Memory as contracts see it: regions with rights, as both a process's address space and the tables of
-- an image have them (PE/COFF, section flags; Intel SDM volume 3, 4.6), and what a load, a store and a
-- fetch make of them.
use Rattle.std.specs.Prelude.{◌≡◌, ℕ, ◌+◌, ◌-◌, ◌^◌, ◌≤◌, ◌<◌, ◌⊎◌, min, max, Bool, true, false, not, ◌&&◌, nat_le, nat_lt, if◌then◌else◌, List, [], ◌∷◌, ◌++◌, length, take, drop, Option, Some, None, Result, Ok, Err}
use Rattle.hx_words.specs.LittleEndian.{number_of, bytes_of, AreBytes}
use Rattle.hx_mem.specs.declared.fault.MemBad.{MemBad}
use Rattle.hx_mem.specs.declared.fault.MemBad.TheVariants.{Guard, Unmapped, Protected}
use Rattle.hx_mem.specs.declared.memory.GuardRange.{GuardRange}
use Rattle.hx_mem.specs.Segments.{Segment}

-- the whole memory
pub record Space : Type 0 where
  pub regions : List Segment
  pub guard : Option GuardRange

-- the first address past a region
abbrev pub end_of : Segment → ℕ
end_of r = r.start + length r.bytes

-- the address lies in the region
unfoldable pub has : Segment → ℕ → Bool
has r a = nat_le r.start a && nat_lt a (end_of r)

-- bytes over a part of a list
unfoldable pub splice : List ℕ → ℕ → List ℕ → List ℕ
splice xs i bs = take i xs ++ (bs ++ drop (i + length bs) xs)

-- n bytes at an address of the region, if the region holds them all
unfoldable pub read_in : Segment → ℕ → ℕ → Option (List ℕ)
read_in r a n = if nat_le (a + n) (end_of r) then Some (take n (drop (a - r.start) r.bytes)) else None

-- n bytes may be written at an address of the region
unfoldable pub writable_in : Segment → ℕ → ℕ → Bool
writable_in r a n = r.write && nat_le (a + n) (end_of r)

-- the region's bytes after a write at an address of it, or as they were where it may not be
unfoldable pub bytes_after : Segment → ℕ → List ℕ → List ℕ
bytes_after r a bs = if writable_in r a (length bs) then splice r.bytes (a - r.start) bs else r.bytes

abbrev pub put_in : Segment → ℕ → List ℕ → Segment
put_in r a bs = record r { bytes = bytes_after r a bs }

-- up to n bytes from an address of the region, where they may be executed and not written
unfoldable pub code_in : Segment → ℕ → ℕ → Option (List ℕ)
code_in r a n = if r.exec && not r.write then Some (take n (drop (a - r.start) r.bytes)) else None

-- the same over all regions: the region that has the address decides
abbrev pub read : List Segment → ℕ → ℕ → Option (List ℕ)
read [] a n = None
read (r ∷ rs) a n = if has r a then read_in r a n else read rs a n

abbrev pub writable : List Segment → ℕ → ℕ → Bool
writable [] a n = false
writable (r ∷ rs) a n = if has r a then writable_in r a n else writable rs a n

abbrev pub put : List Segment → ℕ → List ℕ → List Segment
put [] a bs = []
put (r ∷ rs) a bs = if has r a then put_in r a bs ∷ rs else r ∷ put rs a bs

abbrev pub code_of : List Segment → ℕ → ℕ → Option (List ℕ)
code_of [] a n = None
code_of (r ∷ rs) a n = if has r a then code_in r a n else code_of rs a n

abbrev pub region_of : List Segment → ℕ → Option Segment
region_of [] a = None
region_of (r ∷ rs) a = if has r a then Some r else region_of rs a

-- the address lies in the guard range
abbrev pub guarded : Option GuardRange → ℕ → Bool
guarded None a = false
guarded (Some g) a = nat_le g.start a && nat_lt a (g.start + g.length)

-- why an access at an address of no region is refused
abbrev pub no_region : Option GuardRange → ℕ → MemBad
no_region g a = if guarded g a then Guard a else Unmapped a

-- why a load is refused, where it is
abbrev pub load_bad : Option Segment → Option GuardRange → ℕ → MemBad
load_bad None g a = no_region g a
load_bad (Some r) g a = Unmapped (end_of r)

abbrev pub loaded : Option (List ℕ) → MemBad → Result ℕ MemBad
loaded None bad = Err bad
loaded (Some bs) bad = Ok (number_of bs)

-- what a load of n bytes gives
abbrev pub load_of : Space → ℕ → ℕ → Result ℕ MemBad
load_of m a n = loaded (read m.regions a n) (load_bad (region_of m.regions a) m.guard a)

-- what a store of n bytes at an address of a region answers
abbrev pub stored_in : Segment → ℕ → ℕ → Result (Unit {0}) MemBad
stored_in r a n = if nat_le (a + n) (end_of r) then (if r.write then Ok tt else Err (Protected a)) else Err (Unmapped (end_of r))

abbrev pub stored : Option Segment → Option GuardRange → ℕ → ℕ → Result (Unit {0}) MemBad
stored None g a n = Err (no_region g a)
stored (Some r) g a n = stored_in r a n

-- what a store of n bytes answers, and the memory after it
abbrev pub store_of : Space → ℕ → ℕ → Result (Unit {0}) MemBad
store_of m a n = stored (region_of m.regions a) m.guard a n

abbrev pub after_store : Space → ℕ → ℕ → ℕ → Space
after_store m a n v = record m { regions = put m.regions a (bytes_of n v) }

-- up to n bytes from an address of a region
abbrev pub fetched_in : Segment → ℕ → ℕ → Result (List ℕ) MemBad
fetched_in r a n = if r.exec then Ok (take n (drop (a - r.start) r.bytes)) else Err (Protected a)

abbrev pub fetched : Option Segment → Option GuardRange → ℕ → ℕ → Result (List ℕ) MemBad
fetched None g a n = Err (no_region g a)
fetched (Some r) g a n = fetched_in r a n

-- what a fetch of up to n bytes gives
abbrev pub fetch_of : Space → ℕ → ℕ → Result (List ℕ) MemBad
fetch_of m a n = fetched (region_of m.regions a) m.guard a n

-- one of the two stretches of addresses ends before the other starts
abbrev pub Apart : ℕ → ℕ → ℕ → ℕ → Type 0
Apart a n b k = (a + n ≤ b) ⊎ (b + k ≤ a)

-- the n addresses from a and the k from b have none in common
abbrev pub shares_none : ℕ → ℕ → ℕ → ℕ → Bool
shares_none a n b k = nat_le (min (a + n) (b + k)) (max a b)

abbrev pub misses_guard : Option GuardRange → ℕ → ℕ → Bool
misses_guard None a n = true
misses_guard (Some g) a n = shares_none a n g.start g.length

-- the n addresses from a share none with any region
abbrev pub misses : List Segment → ℕ → ℕ → Bool
misses [] a n = true
misses (r ∷ rs) a n = shares_none a n r.start (length r.bytes) && misses rs a n

-- a region of n bytes may be added at a
abbrev pub has_room : Space → ℕ → ℕ → Bool
has_room m a n = nat_le (a + n) (2 ^ 63) && (misses_guard m.guard a n && misses m.regions a n)

-- the guard range may lie there
abbrev pub has_room_for_guard : Space → ℕ → ℕ → Bool
has_room_for_guard m a n = nat_le (a + n) (2 ^ 63) && misses m.regions a n

-- one more region, at its place in the order of starts
abbrev pub with_region : Segment → List Segment → List Segment
with_region r [] = r ∷ []
with_region r (s ∷ rs) = if nat_le s.start r.start then s ∷ with_region r rs else r ∷ (s ∷ rs)

-- a region with no byte has no address, and is not kept
abbrev pub after_add : Space → Segment → Space
after_add m r = if nat_lt 0 (length r.bytes) then record m { regions = with_region r m.regions } else m

-- a region has bytes, and ends by 2^63
pub record IsPlaced (r : Segment) : Type 0 where
  pub some : 0 < length r.bytes
  pub low : end_of r ≤ 2 ^ 63
  pub bytes : AreBytes r.bytes

-- it ends before any of the others starts
abbrev pub IsBelow : Segment → List Segment → Type 0
IsBelow r [] = Unit {0}
IsBelow r (s ∷ rs) = (end_of r ≤ s.start) × IsBelow r rs

-- regions in the order of their places, which share no address
abbrev pub IsLaidOut : List Segment → Type 0
IsLaidOut [] = Unit {0}
IsLaidOut (r ∷ rs) = IsPlaced r × (IsBelow r rs × IsLaidOut rs)

-- a memory: its regions so, and the guard range beside them
pub record IsMemory (m : Space) : Type 0 where
  pub regions : IsLaidOut m.regions
  pub guard : (a : ℕ) → guarded m.guard a ≡ true → region_of m.regions a ≡ None
