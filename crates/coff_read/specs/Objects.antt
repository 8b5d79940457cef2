-- The object in a file, or the first refusal of the list that holds anywhere in it.
use Rattle.std.specs.Prelude.{◌≡◌, ◌≢◌, ℕ, ◌+◌, ◌-◌, ◌*◌, ◌/◌, List, ◌==◌, if◌then◌else◌, Result, Ok, Err}
use Rattle.coff_write.specs.declared.object.ObjSite.{ObjSite}
use Rattle.coff_write.specs.declared.object.ObjSection.{ObjSection}
use Rattle.coff_write.specs.declared.object.ObjSymbol.{ObjSymbol}
use Rattle.coff_write.specs.declared.object.HybridRow.{HybridRow}
use Rattle.coff_write.specs.declared.object.Object.{Object}
use Rattle.file_words.specs.Fields.{part_of}
use Rattle.file_words.specs.Below.{table, chosen, gathered}
use Rattle.file_words.specs.Firsts.{first_of}
use Rattle.coff_read.specs.declared.refusal.ObjRefusal.{ObjRefusal}
use Rattle.coff_read.specs.declared.refusal.ObjRefusal.TheVariants.{NoMemory}
use Rattle.coff_fields.specs.Fields.{section_count, symbol_count, machine_of, raw_place, raw_flags, has_flag, contents_size, zeros_of, site_count, site_at, site_symbol, symbol_value, symbol_section, symbol_class, hybrid_source, hybrid_thunk, hybrid_kind}
use Rattle.coff_fields.specs.Names.{section_name, symbol_name}
use Rattle.coff_read.specs.Kept.{is_hybrid, keeps_section, new_section, stays, new_symbol}
use Rattle.coff_read.specs.Refusals.{site_kind, holds, refusals}

-- the flags without IMAGE_SCN_LNK_NRELOC_OVFL 0x01000000, which speaks of the file alone
unfoldable pub flags_of : List ℕ → ℕ → ℕ
flags_of b i = if has_flag b i 16777216 then raw_flags b i - 16777216 else raw_flags b i

unfoldable pub site : List ℕ → ℕ → ℕ → ObjSite
site b i r = record { at = site_at b i r; symbol = new_symbol b (site_symbol b i r); kind = site_kind b i r }

unfoldable pub section : List ℕ → ℕ → ObjSection
section b i = record { name = section_name b i; flags = flags_of b i; bytes = part_of b (raw_place b i) (contents_size b i); zeros = zeros_of b i; comdat = has_flag b i 4096; sites = table (site b i) (site_count b i) }

unfoldable pub symbol : List ℕ → ℕ → ObjSymbol
symbol b j = record { name = symbol_name b j; value = symbol_value b j; section = new_section b (symbol_section b j); external = symbol_class b j == 2 }

unfoldable pub hybrid_row : List ℕ → ℕ → ℕ → HybridRow
hybrid_row b i r = record { source = new_symbol b (hybrid_source b i r); thunk = new_symbol b (hybrid_thunk b i r); kind = hybrid_kind b i r }

unfoldable pub hybrid_rows : List ℕ → ℕ → List HybridRow
hybrid_rows b i = table (hybrid_row b i) (contents_size b i / 12)

-- the object of a file in which no refusal holds
unfoldable pub object_in : List ℕ → Object
object_in b = record { machine = machine_of b; sections = chosen (keeps_section b) (section b) (section_count b); symbols = chosen (stays b) (symbol b) (symbol_count b); hybrid = gathered (is_hybrid b) (hybrid_rows b) (section_count b) }

unfoldable pub object_of : List ℕ → Result Object ObjRefusal
object_of b = first_of (holds b) refusals (object_in b)

-- an answer is this one, want of memory aside
abbrev pub Tells : Result Object ObjRefusal → Result Object ObjRefusal → Type 0
Tells (Ok o) is = is ≡ Ok o
Tells (Err k) is = k ≢ NoMemory → is ≡ Err k
