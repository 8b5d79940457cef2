-- The metadata in bytes, or that they are none.
use Rattle.std.specs.Prelude.{◌≡◌, ◌≢◌, ℕ, ◌*◌, Bool, not, ◌||◌, List, length, ◌==◌, nat_lt, if◌then◌else◌, Result, Ok, Err}
use Rattle.file_words.specs.Below.{any_below, table}
use Rattle.chpe_types.specs.declared.image.Meta.{Meta}
use Rattle.chpe_meta.specs.declared.refusal.MetaRefusal.{MetaRefusal}
use Rattle.chpe_meta.specs.declared.refusal.MetaRefusal.TheVariants.{Bad, NoMemory}
use Rattle.chpe_meta.specs.Fields.{version, ranges_rva, range_count, redirects_rva, redirect_count, rows_rva, row_count, range, redirect, row, passes, open_name}
use Rattle.chpe_meta.specs.Allowed.{in_order}

-- the header passes the end, or is of another version
unfoldable pub bad_header : List ℕ → Bool
bad_header b = nat_lt (length b) 28 || not (version b == 1)

-- a table doesn't lie in the bytes
unfoldable pub bad_tables : List ℕ → ℕ → Bool
bad_tables b at = passes b at (ranges_rva b) (8 * range_count b) || (passes b at (redirects_rva b) (8 * redirect_count b) || passes b at (rows_rva b) (16 * row_count b))

-- a name doesn't
unfoldable pub bad_names : List ℕ → ℕ → Bool
bad_names b at = any_below (open_name b at) (row_count b)

unfoldable pub bad_places : List ℕ → ℕ → Bool
bad_places b at = bad_header b || (bad_tables b at || bad_names b at)

-- what the tables say
unfoldable pub meta_in : List ℕ → ℕ → Meta
meta_in b at = record { ranges = table (range b at) (range_count b); redirects = table (redirect b at) (redirect_count b); rows = table (row b at) (row_count b) }

-- these bytes are no metadata
unfoldable pub bad_meta : List ℕ → ℕ → Bool
bad_meta b at = bad_places b at || not (in_order (meta_in b at))

unfoldable pub meta_of : List ℕ → ℕ → Result Meta MetaRefusal
meta_of b at = if bad_meta b at then Err Bad else Ok (meta_in b at)

-- an answer is this one, want of memory aside
abbrev pub Tells : Result Meta MetaRefusal → Result Meta MetaRefusal → Type 0
Tells (Ok m) is = is ≡ Ok m
Tells (Err k) is = k ≢ NoMemory → is ≡ Err k
