-- The files of a store in memory.
use Rattle.std.specs.Prelude.{◌≡◌, List, ℕ, Some, Result, Ok, Err, option_map}
use Rattle.std.specs.BTreeMap.{get_by_text}
use Rattle.hx_io.specs.declared.mem_store.MemStore.{MemStore}
use Rattle.hx_io.specs.declared.outside.StoreFail.{StoreFail}
use Rattle.hx_io.specs.Files.{Files, SameFiles, SameButAt}

-- the bytes of each name's file
abbrev pub files_of : MemStore → Files
files_of store name = option_map (λ v. v.items) (get_by_text store.files name)

-- a call of `save` that does all or nothing
abbrev pub SavesWhole : {A : Type 0} → Files → List ℕ → List ℕ → Result A StoreFail → Files → Type 0
SavesWhole old name bytes (Ok _) new = (new name ≡ Some bytes) × SameButAt old name new
SavesWhole old name bytes (Err _) new = SameFiles old new
