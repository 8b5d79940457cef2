-- The load configuration and the hybrid metadata that it leads to (winnt.h,
-- IMAGE_LOAD_CONFIG_DIRECTORY64: Size, and CHPEMetadataPointer at 200), and what the metadata may say
-- of an image with these sections.
use Rattle.std.specs.Prelude.{ℕ, ◌-◌, ◌/◌, Bool, false, not, ◌&&◌, ◌||◌, List, [], ◌∷◌, ◌==◌, nat_le, nat_lt, Option, Some, None}
use Rattle.std.specs.List.{list_any}
use Rattle.file_words.specs.Fields.{dword_of}
use Rattle.chpe_types.specs.declared.image.ImageSection.{ImageSection}
use Rattle.chpe_types.specs.declared.image.CodeRange.{CodeRange}
use Rattle.chpe_types.specs.declared.image.Redirect.{Redirect}
use Rattle.chpe_types.specs.declared.image.Meta.{Meta}
use Rattle.chpe_types.specs.Looks.{range_end, kind_in}
use Rattle.chpe_meta.specs.Reading.{bad_meta, meta_in}
use Rattle.pe_fields.specs.Headers.{qword_of}
use Rattle.pe_fields.specs.Space.{is_mapped, is_code, rest_at}

-- ---- the load configuration at a place

unfoldable pub config_size : List ImageSection → ℕ → ℕ
config_size ss rva = dword_of (rest_at ss rva) 0

unfoldable pub meta_pointer : List ImageSection → ℕ → ℕ
meta_pointer ss rva = qword_of (rest_at ss rva) 200

-- the place of the metadata's header in an image of this base
unfoldable pub meta_rva : List ImageSection → ℕ → ℕ → ℕ
meta_rva ss base rva = meta_pointer ss rva - base

-- it has under 208 bytes, or leads to no section
unfoldable pub bad_config : List ImageSection → ℕ → ℕ → ℕ → Bool
bad_config ss base rva size = nat_lt size 208 || (nat_lt (config_size ss rva) 208 || (nat_lt (meta_pointer ss rva) base || (nat_lt 4294967295 (meta_rva ss base rva) || not (is_mapped ss (meta_rva ss base rva) 1))))

-- ---- the code map

abbrev pub is_outside : List ImageSection → CodeRange → Bool
is_outside ss r = not (is_code ss r.start r.length)

-- the number of the page of a place
abbrev pub page_number : ℕ → ℕ
page_number rva = rva / 4096

-- a later range of another kind has a byte on the last page of this one
abbrev pub shares_page : CodeRange → CodeRange → Bool
shares_page r later = not (r.kind == later.kind) && (nat_lt r.start (range_end r) && (nat_lt later.start (range_end later) && nat_le (page_number later.start) (page_number (range_end r - 1))))

abbrev pub any_pair : {X : Type 0} → (X → X → Bool) → List X → Bool
any_pair p [] = false
any_pair p (x ∷ xs) = list_any (p x) xs || any_pair p xs

-- ---- the redirections

abbrev pub has_kind : ℕ → Option ℕ → Bool
has_kind k None = false
has_kind k (Some j) = j == k

-- it isn't from x64 to EC
abbrev pub is_astray : List CodeRange → Redirect → Bool
is_astray rs r = not (has_kind 2 (kind_in rs r.source)) || not (has_kind 1 (kind_in rs r.destination))

-- ---- the whole

unfoldable pub bad_code : List ImageSection → Meta → Bool
bad_code ss m = list_any (is_outside ss) m.ranges || (any_pair shares_page m.ranges || list_any (is_astray m.ranges) m.redirects)

-- the bytes from the header on are no metadata, or say what can't be of this image
unfoldable pub bad_hybrid : List ImageSection → ℕ → Bool
bad_hybrid ss at = bad_meta (rest_at ss at) at || bad_code ss (meta_in (rest_at ss at) at)

-- an entry that isn't x64 code
unfoldable pub bad_entry : Meta → ℕ → Bool
bad_entry m entry = not (has_kind 2 (kind_in m.ranges entry))
