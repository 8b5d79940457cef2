-- The objects that have a file. The limit of a file's size and the forms that are left out are this
-- project's own.
use Rattle.std.specs.Prelude.{◌≡◌, ◌≤◌, ℕ, ◌+◌, Bool, true, false, not, ◌&&◌, ◌||◌, List, [], ◌∷◌, length, nat_lt, nat_le, ◌==◌, slice_index, bit_and, Option, Some, None, if◌then◌else◌}
use Rattle.hx_names.specs.declared.pieces.SiteKind.{SiteKind}
use Rattle.hx_names.specs.declared.pieces.SiteKind.TheVariants.{Nothing, Addr64, Addr32Nb, Rel32, Branch26, PageBaseRel21, PageOffset12A, PageOffset12L}
use Rattle.coff_write.specs.declared.object.ObjMachine.{ObjMachine}
use Rattle.coff_write.specs.declared.object.ObjMachine.TheVariants.{Amd64, Arm64Ec}
use Rattle.coff_write.specs.declared.object.ObjSite.{ObjSite}
use Rattle.coff_write.specs.declared.object.ObjSection.{ObjSection}
use Rattle.coff_write.specs.declared.object.ObjSymbol.{ObjSymbol}
use Rattle.coff_write.specs.declared.object.HybridRow.{HybridRow}
use Rattle.coff_write.specs.declared.object.Object.{Object}
use Rattle.coff_write.specs.declared.writing.Places.{Places}
use Rattle.coff_write.specs.Format.{contents_place, hybrid_place, relocations_place, symbols_place, record_count, section_names_size, symbol_names_size, site_code, is_short_section, name_size, section_size, has_start, section_of, section_count, file_size, hybrid_name}

-- ---- names

abbrev pub no_zero : List ℕ → Bool
no_zero [] = true
no_zero (c ∷ cs) = not (c == 0) && no_zero cs

-- the name has these bytes, none of them 0, from byte k on
abbrev pub has_from : List ℕ → ℕ → List ℕ → Bool
has_from name k [] = true
has_from name k (c ∷ cs) = (slice_index name k == c) && has_from name (k + 1) cs

abbrev pub begins : List ℕ → List ℕ → Bool
begins name front = has_from name 0 front

-- .pdata.., .xdata.., .debug.., .drectve and .hybmp$x
unfoldable pub is_reserved : List ℕ → Bool
is_reserved name = begins name (46 ∷ 112 ∷ 100 ∷ 97 ∷ 116 ∷ 97 ∷ []) || (begins name (46 ∷ 120 ∷ 100 ∷ 97 ∷ 116 ∷ 97 ∷ []) || (begins name (46 ∷ 100 ∷ 101 ∷ 98 ∷ 117 ∷ 103 ∷ []) || ((length name == 8) && (begins name (46 ∷ 100 ∷ 114 ∷ 101 ∷ 99 ∷ 116 ∷ 118 ∷ 101 ∷ []) || begins name hybrid_name))))

-- ---- flags

unfoldable pub has_flag : ObjSection → ℕ → Bool
has_flag s flag = not (bit_and s.flags flag == 0)

-- IMAGE_SCN_CNT_UNINITIALIZED_DATA 0x80: zeros and no bytes, or bytes and no zeros
unfoldable pub has_right_contents : ObjSection → Bool
has_right_contents s = if has_flag s 128 then length s.bytes == 0 else s.zeros == 0

-- none of IMAGE_SCN_LNK_INFO 0x200, IMAGE_SCN_LNK_REMOVE 0x800 and IMAGE_SCN_LNK_NRELOC_OVFL
-- 0x01000000; IMAGE_SCN_LNK_COMDAT 0x1000 as the section says
abbrev pub has_right_comdat : ObjSection → Bool
has_right_comdat s = if s.comdat then has_flag s 4096 else not (has_flag s 4096)

unfoldable pub has_right_flags : ObjSection → Bool
has_right_flags s = not (has_flag s 16779776) && has_right_comdat s

-- ---- sites

-- how many bytes a site of a kind has; one that changes nothing stands at a byte too
abbrev pub site_size : SiteKind → ℕ
site_size Nothing = 1
site_size Addr64 = 8
site_size Addr32Nb = 4
site_size Rel32 = 4
site_size Branch26 = 4
site_size PageBaseRel21 = 4
site_size PageOffset12A = 4
site_size PageOffset12L = 4

abbrev pub has_code : Option ℕ → Bool
has_code None = false
has_code (Some n) = true

-- the site lies in so many bytes, names one of so many symbols and has a kind of the machine
unfoldable pub valid_site : ObjMachine → ℕ → ℕ → ObjSite → Bool
valid_site machine bytes symbols t = nat_le (t.at + site_size t.kind) bytes && (nat_lt t.symbol symbols && has_code (site_code machine t.kind))

abbrev pub valid_sites : ObjMachine → ℕ → ℕ → List ObjSite → Bool
valid_sites machine bytes symbols [] = true
valid_sites machine bytes symbols (t ∷ rest) = valid_site machine bytes symbols t && valid_sites machine bytes symbols rest

-- ---- sections

abbrev pub has_kept_name : ObjSection → Bool
has_kept_name s = no_zero s.name && not (is_reserved s.name)

-- a COMDAT section, which has this number, has a section symbol
abbrev pub has_symbol : List ObjSymbol → ℕ → ObjSection → Bool
has_symbol symbols number s = not s.comdat || has_start number symbols

unfoldable pub valid_section : Object → ℕ → ObjSection → Bool
valid_section o number s = has_kept_name s && (has_right_contents s && (has_right_flags s && (has_symbol o.symbols number s && valid_sites o.machine (length s.bytes) (length o.symbols) s.sites)))

abbrev pub valid_sections : Object → ℕ → List ObjSection → Bool
valid_sections o number [] = true
valid_sections o number (s ∷ rest) = valid_section o number s && valid_sections o (number + 1) rest

-- seven digits hold the place of each long name, the first of which is given
abbrev pub short_places : ℕ → List ObjSection → Bool
short_places name [] = true
short_places name (s ∷ rest) = (is_short_section s.name || nat_le name 9999999) && short_places (name + name_size s) rest

-- ---- symbols

abbrev pub any_names : ℕ → List ObjSite → Bool
any_names j [] = false
any_names j (t ∷ rest) = (t.symbol == j) || any_names j rest

-- a site names symbol j
abbrev pub is_named : ℕ → List ObjSection → Bool
is_named j [] = false
is_named j (s ∷ rest) = any_names j s.sites || is_named j rest

-- an external symbol whose name begins with # stands before the end of code of an Arm64EC object
-- (IMAGE_SCN_MEM_EXECUTE 0x20000000)
unfoldable pub valid_body : ObjMachine → ObjSection → ObjSymbol → Bool
valid_body Amd64 home s = false
valid_body Arm64Ec home s = nat_lt s.value (section_size home) && has_flag home 536870912

abbrev pub is_body : ObjSymbol → Bool
is_body s = s.external && (slice_index s.name 0 == 35)

abbrev pub valid_in : ObjMachine → ObjSection → ObjSymbol → Bool
valid_in machine home s = nat_le s.value (section_size home) && (if is_body s then valid_body machine home s else true)

unfoldable pub valid_home : ObjMachine → Option ObjSection → ObjSymbol → Bool
valid_home machine None s = false
valid_home machine (Some home) s = valid_in machine home s

-- in no section, absolute and named by a site, or in a section
unfoldable pub valid_place : Object → ℕ → ObjSymbol → Bool
valid_place o j s = if s.section == 0 then true else if s.section == 65535 then is_named j o.sections else nat_lt s.section 65534 && valid_home o.machine (section_of o.sections s.section) s

abbrev pub valid_symbol : Object → ℕ → ObjSymbol → Bool
valid_symbol o j s = no_zero s.name && valid_place o j s

abbrev pub valid_symbols : Object → ℕ → List ObjSymbol → Bool
valid_symbols o j [] = true
valid_symbols o j (s ∷ rest) = valid_symbol o j s && valid_symbols o (j + 1) rest

-- ---- hybrid rows

unfoldable pub valid_row : ℕ → HybridRow → Bool
valid_row symbols r = (nat_lt r.source symbols && nat_lt r.thunk symbols) && ((r.kind == 0) || ((r.kind == 1) || (r.kind == 4)))

abbrev pub valid_rows : ℕ → List HybridRow → Bool
valid_rows symbols [] = true
valid_rows symbols (r ∷ rest) = valid_row symbols r && valid_rows symbols rest

-- ---- objects

abbrev pub limit : ℕ
limit = 134217728

-- each number fits its field, and the file its limit
unfoldable pub fits : Object → Bool
fits o = nat_le (section_count o) 65535 && (nat_le (file_size o) limit && short_places 4 o.sections)

unfoldable pub is_valid : Object → Bool
is_valid o = fits o && (valid_sections o 1 o.sections && (valid_symbols o 0 o.symbols && valid_rows (length o.symbols) o.hybrid))

-- ---- what the writer takes from this

pub record HasRoom (o : Object) : Type 0 where
  pub count : section_count o ≤ 65535
  pub size : file_size o ≤ limit

pub record ArePlaces (o : Object) (p : Places) : Type 0 where
  pub contents : p.contents ≡ contents_place o
  pub hybrid : p.hybrid ≡ hybrid_place o
  pub rows : p.rows ≡ relocations_place o
  pub symbols : p.symbols ≡ symbols_place o
  pub records : p.records ≡ record_count o
  pub section_names : p.section_names ≡ section_names_size o.sections
  pub symbol_names : p.symbol_names ≡ symbol_names_size o.symbols
