-- Where the directories of an image are (Microsoft PE/COFF specification, "Optional Header Data
-- Directories"): the first places of its sections that read as what the image has.
use Rattle.std.specs.Prelude.{ℕ, Bool, true, false, not, ◌&&◌, List, [], ◌∷◌, ◌==◌, Option, Some, None, is_some}
use Rattle.file_words.specs.Below.{first_below}
use Rattle.chpe_types.specs.declared.image.Image.{Image}
use Rattle.chpe_types.specs.declared.image.ImportSlot.{ImportSlot}
use Rattle.chpe_types.specs.declared.image.CodeRange.{CodeRange}
use Rattle.chpe_types.specs.declared.image.Redirect.{Redirect}
use Rattle.chpe_types.specs.declared.image.FnRow.{FnRow}
use Rattle.chpe_types.specs.declared.image.Meta.{Meta}
use Rattle.chpe_meta.specs.Reading.{meta_in}
use Rattle.pe_fields.specs.Space.{is_mapped, rest_at}
use Rattle.pe_fields.specs.Imports.{same_text, bad_imports, slots}
use Rattle.pe_fields.specs.Relocations.{bad_relocations, sites}
use Rattle.pe_fields.specs.Hybrid.{meta_rva, bad_config, bad_hybrid}

abbrev pub same_lists : {X : Type 0} → (X → X → Bool) → List X → List X → Bool
same_lists same [] [] = true
same_lists same [] (y ∷ ys) = false
same_lists same (x ∷ xs) [] = false
same_lists same (x ∷ xs) (y ∷ ys) = same x y && same_lists same xs ys

abbrev pub same_slot : ImportSlot → ImportSlot → Bool
same_slot s t = same_text s.name t.name && (s.rva == t.rva)

abbrev pub same_range : CodeRange → CodeRange → Bool
same_range r s = (r.start == s.start) && ((r.length == s.length) && (r.kind == s.kind))

abbrev pub same_redirect : Redirect → Redirect → Bool
same_redirect r s = (r.source == s.source) && (r.destination == s.destination)

abbrev pub same_row : FnRow → FnRow → Bool
same_row r s = (r.kind == s.kind) && (same_text r.name s.name && ((r.start == s.start) && (r.end == s.end)))

abbrev pub same_meta : Meta → Meta → Bool
same_meta m n = same_lists same_range m.ranges n.ranges && (same_lists same_redirect m.redirects n.redirects && same_lists same_row m.rows n.rows)

abbrev pub or_zero : Option ℕ → ℕ
or_zero None = 0
or_zero (Some n) = n

-- 0 where there are none
abbrev pub if_some : {X : Type 0} → List X → ℕ → ℕ
if_some [] n = 0
if_some (x ∷ xs) n = n

-- ---- imports; an image without slots needs none

abbrev pub is_import_place : Image → ℕ → Bool
is_import_place i a = is_mapped i.sections a 40 && (not (bad_imports i.sections a 40) && same_lists same_slot (slots i.sections a) i.imports)

unfoldable pub found_imports : Image → ℕ
found_imports i = or_zero (first_below (is_import_place i) i.size)

abbrev pub import_place : Image → ℕ
import_place i = if_some i.imports (found_imports i)

-- ---- base relocations; an image without sites needs none

-- n bytes at a place are blocks with the sites of the image
abbrev pub has_sites : Image → ℕ → ℕ → Bool
has_sites i a n = is_mapped i.sections a n && (not (bad_relocations (rest_at i.sections a) n) && same_text (sites (rest_at i.sections a) n) i.sites)

-- the least size of such blocks
unfoldable pub size_at : Image → ℕ → Option ℕ
size_at i a = first_below (has_sites i a) i.size

abbrev pub is_blocks_place : Image → ℕ → Bool
is_blocks_place i a = is_some (size_at i a)

unfoldable pub found_blocks : Image → ℕ
found_blocks i = or_zero (first_below (is_blocks_place i) i.size)

abbrev pub blocks_place : Image → ℕ
blocks_place i = if_some i.sites (found_blocks i)

abbrev pub blocks_size : Image → ℕ
blocks_size i = if_some i.sites (or_zero (size_at i (found_blocks i)))

-- ---- the load configuration

unfoldable pub has_meta : Image → ℕ → Bool
has_meta i at = not (bad_hybrid i.sections at) && same_meta (meta_in (rest_at i.sections at) at) i.meta

abbrev pub is_config_place : Image → ℕ → Bool
is_config_place i a = is_mapped i.sections a 208 && (not (bad_config i.sections i.base a 208) && has_meta i (meta_rva i.sections i.base a))

unfoldable pub config_place : Image → ℕ
config_place i = or_zero (first_below (is_config_place i) i.size)
