-- Where the parts of the file of an object stand, and the fields of its header.
use Rattle.std.proofs.Common.{◌≡◌, ℕ, ◌+◌, ◌*◌, ◌<◌, cond, List, [], ◌∷◌, ◌++◌, length, eqb, refl, ap, ◌∙◌, arith}
use Rattle.std.specs.List.{concat}
use Rattle.coff_write.specs.declared.object.ObjMachine.{ObjMachine}
use Rattle.coff_write.specs.declared.object.ObjMachine.TheVariants.{Amd64, Arm64Ec}
use Rattle.coff_write.specs.declared.object.Object.{Object}
use Rattle.coff_write.specs.Format.{word, dword, machine_number, numbers, record_count, section_count, section_headers, hybrid_header, section_contents, hybrid_rows, section_relocations, section_texts, symbol_texts, symbol_table, section_names_size, contents_place, hybrid_place, relocations_place, symbols_place, strings_place, strings_size, file_header, section_part, contents_part, relocation_part, symbol_part, string_part, parts, object_bytes}
use Rattle.coff_write.specs.Valid.{HasRoom}
use Rattle.file_words.specs.Standing.{Has}
use Rattle.file_words.specs.Fields.{dword_of}
use Rattle.file_words.proofs.HasLaws.{has_here, has_left, word_has, dword_has, part_has}
use Rattle.coff_fields.specs.Fields.{machine_field, machine_of, symbol_count, optional_size}
use Rattle.coff_fields.specs.Fields as fields
use Rattle.coff_fields.specs.Names.{strings}
use Rattle.coff_laws_base.proofs.Sizes.{two, four, file_header_long, section_part_long, contents_part_long, relocation_part_long, symbol_part_long, string_part_long, headers_long, contents_long, section_texts_long}
use Rattle.coff_laws_base.proofs.Rows.{has_next}

-- ---- the parts

whole : (o : Object) → Has (object_bytes o) 0 (concat (parts o))
unfolding object_bytes
whole o = has_here (concat (parts o))

header_there : (o : Object) → Has (object_bytes o) 0 (file_header o)
header_there o = has_left (object_bytes o) 0 (file_header o) _ (whole o)

after_header : (o : Object) → Has (object_bytes o) 20 (concat (section_part o ∷ contents_part o ∷ relocation_part o ∷ symbol_part o ∷ string_part o ∷ []))
after_header o = has_next (object_bytes o) 0 20 (file_header o) _ (omega (arith, file_header_long o)) (whole o)

after_sections : (o : Object) → Has (object_bytes o) (contents_place o) (concat (contents_part o ∷ relocation_part o ∷ symbol_part o ∷ string_part o ∷ []))
after_sections o = has_next (object_bytes o) 20 (contents_place o) (section_part o) _ (omega (arith, section_part_long o)) (after_header o)

after_contents : (o : Object) → Has (object_bytes o) (relocations_place o) (concat (relocation_part o ∷ symbol_part o ∷ string_part o ∷ []))
after_contents o = has_next (object_bytes o) (contents_place o) (relocations_place o) (contents_part o) _ (omega (arith, contents_part_long o)) (after_sections o)

after_relocations : (o : Object) → Has (object_bytes o) (symbols_place o) (concat (symbol_part o ∷ string_part o ∷ []))
after_relocations o = has_next (object_bytes o) (relocations_place o) (symbols_place o) (relocation_part o) _ (omega (arith, relocation_part_long o)) (after_contents o)

after_symbols : (o : Object) → Has (object_bytes o) (strings_place o) (concat (string_part o ∷ []))
after_symbols o = has_next (object_bytes o) (symbols_place o) (strings_place o) (symbol_part o) _ (omega (arith, symbol_part_long o)) (after_relocations o)

pub section_headers_there : (o : Object) → Has (object_bytes o) 20 (section_headers 4 (contents_place o) (relocations_place o) o.sections)
unfolding section_part
section_headers_there o = has_left (object_bytes o) 20 _ (hybrid_header (hybrid_place o) o.hybrid) (has_left (object_bytes o) 20 (section_part o) _ (after_header o))

pub hybrid_header_there : (o : Object) → Has (object_bytes o) (20 + 40 * length o.sections) (hybrid_header (hybrid_place o) o.hybrid)
unfolding section_part
hybrid_header_there o =
    let heads = section_headers 4 (contents_place o) (relocations_place o) o.sections in
    has_next (object_bytes o) 20 (20 + 40 * length o.sections) heads (hybrid_header (hybrid_place o) o.hybrid) (omega (arith, headers_long 4 (contents_place o) (relocations_place o) o.sections)) (has_left (object_bytes o) 20 (section_part o) _ (after_header o))

pub section_contents_there : (o : Object) → Has (object_bytes o) (contents_place o) (section_contents o.sections)
unfolding contents_part
section_contents_there o = has_left (object_bytes o) (contents_place o) _ (hybrid_rows (numbers o) o.hybrid) (has_left (object_bytes o) (contents_place o) (contents_part o) _ (after_sections o))

pub hybrid_rows_there : (o : Object) → Has (object_bytes o) (hybrid_place o) (hybrid_rows (numbers o) o.hybrid)
unfolding contents_part
hybrid_rows_there o = has_next (object_bytes o) (contents_place o) (hybrid_place o) (section_contents o.sections) (hybrid_rows (numbers o) o.hybrid) (omega (arith, contents_long o.sections)) (has_left (object_bytes o) (contents_place o) (contents_part o) _ (after_sections o))

pub relocations_there : (o : Object) → Has (object_bytes o) (relocations_place o) (section_relocations o.machine (numbers o) o.sections)
unfolding relocation_part
relocations_there o = has_left (object_bytes o) (relocations_place o) (relocation_part o) _ (after_contents o)

pub symbols_there : (o : Object) → Has (object_bytes o) (symbols_place o) (symbol_table o.sections o.symbols 0 (4 + section_names_size o.sections) o.symbols)
unfolding symbol_part
symbols_there o = has_left (object_bytes o) (symbols_place o) (symbol_part o) _ (after_relocations o)

strings_there : (o : Object) → Has (object_bytes o) (strings_place o) (string_part o)
strings_there o = has_left (object_bytes o) (strings_place o) (string_part o) [] (after_symbols o)

-- ---- the fields of the header

pub record HeaderFields (o : Object) (b : List ℕ) : Type 0 where
  pub machine : machine_field b ≡ machine_number o.machine
  pub sections : fields.section_count b ≡ section_count o
  pub symbols : fields.symbols_place b ≡ symbols_place o
  pub records : symbol_count b ≡ record_count o
  pub optional : optional_size b ≡ 0

machine_small : (m : ObjMachine) → machine_number m < 65536
machine_small Amd64 = omega arith
machine_small Arm64Ec = omega arith

pub header_fields : (o : Object) → HasRoom o → HeaderFields o (object_bytes o)
unfolding file_header machine_field fields.section_count fields.symbols_place symbol_count optional_size
header_fields o room =
    let b = object_bytes o in
    let h1 = has_next b 0 2 (word (machine_number o.machine)) (concat (word (section_count o) ∷ dword 0 ∷ dword (symbols_place o) ∷ dword (record_count o) ∷ word 0 ∷ word 0 ∷ [])) (omega (arith, two (machine_number o.machine))) (header_there o) in
    let h2 = has_next b 2 4 (word (section_count o)) (concat (dword 0 ∷ dword (symbols_place o) ∷ dword (record_count o) ∷ word 0 ∷ word 0 ∷ [])) (omega (arith, two (section_count o))) h1 in
    let h3 = has_next b 4 8 (dword 0) (concat (dword (symbols_place o) ∷ dword (record_count o) ∷ word 0 ∷ word 0 ∷ [])) (omega (arith, four 0)) h2 in
    let h4 = has_next b 8 12 (dword (symbols_place o)) (concat (dword (record_count o) ∷ word 0 ∷ word 0 ∷ [])) (omega (arith, four (symbols_place o))) h3 in
    let h5 = has_next b 12 16 (dword (record_count o)) (concat (word 0 ∷ word 0 ∷ [])) (omega (arith, four (record_count o))) h4 in
    record {
      machine = word_has b 0 (machine_number o.machine) (machine_small o.machine) (has_left b 0 (word (machine_number o.machine)) _ (header_there o));
      sections = word_has b 2 (section_count o) (omega (arith, room.count)) (has_left b 2 (word (section_count o)) _ h1);
      symbols = dword_has b 8 (symbols_place o) (omega (arith, room.size)) (has_left b 8 (dword (symbols_place o)) _ h3);
      records = dword_has b 12 (record_count o) (omega (arith, room.size)) (has_left b 12 (dword (record_count o)) _ h4);
      optional = word_has b 16 0 (omega arith) (has_left b 16 (word 0) _ h5);
    }

machine_case : (m : ObjMachine) → (cond (eqb (machine_number m) 34404) Amd64 Arm64Ec) ≡ m
machine_case Amd64 = refl
machine_case Arm64Ec = refl

pub machine_is : (o : Object) → HasRoom o → machine_of (object_bytes o) ≡ o.machine
unfolding machine_of
machine_is o room = ap (λ n. cond (eqb n 34404) Amd64 Arm64Ec) (header_fields o room).machine ∙ machine_case o.machine

-- ---- the string table

pub record StringFields (o : Object) (b : List ℕ) : Type 0 where
  pub place : fields.strings_place b ≡ strings_place o
  pub size : fields.strings_size b ≡ strings_size o
  pub all : strings b ≡ string_part o

pub string_fields : (o : Object) → HasRoom o → StringFields o (object_bytes o)
unfolding fields.strings_place fields.strings_size strings string_part
string_fields o room =
    let b = object_bytes o in
    let h = header_fields o room in
    let place : fields.symbols_place b + 18 * symbol_count b ≡ strings_place o = rw (h.symbols, h.records) refl in
    let size : dword_of b (fields.symbols_place b + 18 * symbol_count b) ≡ strings_size o = ap (dword_of b) place ∙ dword_has b (strings_place o) (strings_size o) (omega (arith, room.size)) (has_left b (strings_place o) (dword (strings_size o)) _ (strings_there o)) in
    record {
      place = place;
      size = size;
      all = rw (size, place) (part_has b (strings_place o) (strings_size o) (string_part o) (strings_there o) (string_part_long o));
    }

texts_after : (o : Object) → Has (string_part o) 4 (section_texts o.sections ++ symbol_texts o.symbols)
unfolding string_part
texts_after o = has_next (string_part o) 0 4 (dword (strings_size o)) _ (omega (arith, four (strings_size o))) (has_here (string_part o))

pub section_texts_there : (o : Object) → HasRoom o → Has (strings (object_bytes o)) 4 (section_texts o.sections)
section_texts_there o room = rw (string_fields o room).all (has_left (string_part o) 4 (section_texts o.sections) (symbol_texts o.symbols) (texts_after o))

pub symbol_texts_there : (o : Object) → HasRoom o → Has (strings (object_bytes o)) (4 + section_names_size o.sections) (symbol_texts o.symbols)
symbol_texts_there o room = rw (string_fields o room).all (has_next (string_part o) 4 (4 + section_names_size o.sections) (section_texts o.sections) (symbol_texts o.symbols) (omega (arith, section_texts_long o.sections)) (texts_after o))

pub strings_long : (o : Object) → HasRoom o → length (strings (object_bytes o)) ≡ strings_size o
strings_long o room = ap length (string_fields o room).all ∙ string_part_long o
