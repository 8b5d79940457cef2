-- The slots of an import directory that can be read end where the sections do.
use Rattle.std.proofs.Common.{◌≡◌, ℕ, ◌+◌, ◌*◌, ◌<◌, ◌≤◌, true, false, not, eqb, List, Option, Some, None, sym, arith}
use Rattle.std.proofs.lemmas.Bool.{or_parts, not-false}
use Rattle.file_words.specs.Below.{any_below}
use Rattle.chpe_types.specs.declared.image.ImageSection.{ImageSection}
use Rattle.pe_fields.specs.Space.{is_mapped}
use Rattle.pe_fields.specs.Imports.{is_more, bad_library, lookup_rva, address_rva, lookup_bytes, entry_count, count_or_none, bad_tables, bad_count, bad_imports}

counted : (ss : List ImageSection) (rva : ℕ) (o : Option ℕ) → bad_count ss rva o ≡ false → is_mapped ss (address_rva ss rva) (8 * count_or_none o + 8) ≡ true
unfolding bad_count bad_tables
counted ss rva None f = cc
counted ss rva (Some n) f =
    let h = or_parts (not (is_mapped ss (lookup_rva ss rva) (8 * n + 8))) _ f in
    let i = or_parts (not (is_mapped ss (address_rva ss rva) (8 * n + 8))) _ h.1 in
    not-false (is_mapped ss (address_rva ss rva) (8 * n + 8)) i.0

table_there : (ss : List ImageSection) (rva size : ℕ) → bad_imports ss rva size ≡ false → is_mapped ss (address_rva ss rva) (8 * count_or_none (entry_count (lookup_bytes ss rva)) + 8) ≡ true
unfolding bad_imports
table_there ss rva size f =
    let h = or_parts (not (eqb size 40)) _ f in
    let i = or_parts (any_below (is_more ss rva) 5) _ h.1 in
    let j = or_parts (bad_library ss rva) _ i.1 in
    counted ss rva (entry_count (lookup_bytes ss rva)) j.1

pub slots_low : (ss : List ImageSection) (rva size : ℕ) → ((at n : ℕ) → is_mapped ss at n ≡ true → at + n ≤ 134217728) → false ≡ bad_imports ss rva size → address_rva ss rva + 8 * count_or_none (entry_count (lookup_bytes ss rva)) < 4294967296
slots_low ss rva size low f = omega (arith, low (address_rva ss rva) (8 * count_or_none (entry_count (lookup_bytes ss rva)) + 8) (table_there ss rva size (sym f)))
