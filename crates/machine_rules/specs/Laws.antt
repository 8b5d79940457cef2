-- What holds of the machine, whatever runs on it.
use Rattle.std.specs.Prelude.{◌≡◌, false, List, [], ◌∷◌, ◌++◌, length}
use Rattle.hx_mem.specs.Segments.{Segment}
use Rattle.hx_mem.specs.Space.{Space}
use Rattle.machine_rules.specs.Runs.{Run}

-- a run and what follows it, as one
abbrev pub joined : Run → Run → Run
joined r s = record { output = r.output ++ s.output; places = r.places ++ s.places; after = s.after }

-- a region at the same place with the same rights; its bytes are the same too, but where it may be written
pub record IsSameButWritten (r s : Segment) : Type 0 where
  pub start : s.start ≡ r.start
  pub size : length s.bytes ≡ length r.bytes
  pub write : s.write ≡ r.write
  pub exec : s.exec ≡ r.exec
  pub bytes : r.write ≡ false → s.bytes ≡ r.bytes

abbrev pub AreSameButWritten : List Segment → List Segment → Type 0
AreSameButWritten [] [] = Unit {0}
AreSameButWritten [] (s ∷ ss) = ⊥
AreSameButWritten (r ∷ rs) [] = ⊥
AreSameButWritten (r ∷ rs) (s ∷ ss) = IsSameButWritten r s × AreSameButWritten rs ss

-- a memory whose bytes outside its writable regions are those of another, and nothing else is new
pub record KeepsRights (m n : Space) : Type 0 where
  pub regions : AreSameButWritten m.regions n.regions
  pub guard : n.guard ≡ m.guard
