-- The records of symbols in the symbol table of a file (Microsoft PE/COFF specification, "COFF Symbol
-- Table"), and what stands past the end of a list.
use Rattle.std.specs.Prelude.{ℕ, zero, suc, ◌+◌, Bool, false, List, [], take, slice_index_or as get_or}
use Rattle.hx_names.specs.declared.pieces.SiteKind.TheVariants.{Nothing}
use Rattle.coff_write.specs.declared.object.ObjSite.{ObjSite}
use Rattle.coff_write.specs.declared.object.ObjSection.{ObjSection}
use Rattle.coff_write.specs.declared.object.ObjSymbol.{ObjSymbol}
use Rattle.coff_write.specs.declared.object.HybridRow.{HybridRow}
use Rattle.coff_write.specs.Format.{records_in, is_section_symbol}

unfoldable pub no_site : ObjSite
no_site = record { at = 0; symbol = 0; kind = Nothing }

unfoldable pub no_section : ObjSection
no_section = record { name = []; flags = 0; bytes = []; zeros = 0; comdat = false; sites = [] }

unfoldable pub no_symbol : ObjSymbol
no_symbol = record { name = []; value = 0; section = 0; external = false }

unfoldable pub no_row : HybridRow
no_row = record { source = 0; thunk = 0; kind = 0 }

-- the number of the record of symbol j, where a symbol has a second record as the test says
unfoldable pub record_of : (ℕ → Bool) → ℕ → ℕ
record_of more zero = 0
record_of more (suc j) = record_of more j + records_in (more j)

-- symbol j of these has a second record, which says that its section is a COMDAT one
unfoldable pub has_more : List ObjSection → List ObjSymbol → ℕ → Bool
has_more sections symbols j = is_section_symbol sections (take j symbols) (get_or symbols j no_symbol)
