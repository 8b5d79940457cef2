-- No refusal of the header, of ranges or of names holds in the file of an object.
use Rattle.std.proofs.Common.{◌≡◌, ◌≢◌, ℕ, ◌+◌, ◌-◌, ◌*◌, ◌<◌, ◌≤◌, Bool, true, false, cond, not, ◌&&◌, ◌||◌, eqb, ltb, leb, List, length, refl, ap, ◌∙◌, arith}
use Rattle.std.proofs.lemmas.Bool.{and_parts, and_right, not-true, leb-true, ltb-true, ne_eqb, eqb-false, le-ltb, or_from}
use Rattle.coff_write.specs.declared.object.ObjMachine.{ObjMachine}
use Rattle.coff_write.specs.declared.object.ObjMachine.TheVariants.{Amd64, Arm64Ec}
use Rattle.coff_write.specs.declared.object.ObjSymbol.{ObjSymbol}
use Rattle.coff_write.specs.declared.object.Object.{Object}
use Rattle.coff_write.specs.Format.{machine_number, section_size}
use Rattle.file_words.specs.Fields.{word_of, dword_of}
use Rattle.file_words.specs.Below.{any_below}
use Rattle.coff_fields.specs.Fields.{machine_field, section_count, symbol_count, optional_size, section_place, raw_size, raw_place, has_flag, contents_size, symbol_section, skip_at, in_section}
use Rattle.coff_fields.specs.Fields as fields
use Rattle.coff_fields.specs.Names.{bad_section_name}
use Rattle.coff_read.specs.Refusals.{too_large, short, big_object, bad_machine, has_optional, bad_contents, bad_section_range, bad_home, bad_strings, bad_symbol_range, bad_symbol_name, bad_name_range}
use Rattle.coff_laws_base.specs.Records.{has_more}
use Rattle.coff_laws_parts.proofs.SymbolReads.{SymbolRead}
use Rattle.coff_laws_base.proofs.Walks.{OnlyMain, any_records}
use Rattle.coff_laws_parts.proofs.FileReads.{IsRead, IsPlaced, placed, record_at, section_at, symbol_at}
use Rattle.coff_laws.proofs.Kept.{no_section_passes, section_within, symbol_begins}
use Rattle.coff_laws.proofs.ObjectReads.{hybrid_size}

-- ---- the header

pub not_too_large : (o : Object) (b : List ℕ) → IsRead o b → too_large b ≡ false
unfolding too_large
not_too_large o b h = le-ltb 134217728 (length b) h.small

pub not_short : (o : Object) (b : List ℕ) → IsRead o b → short b ≡ false
unfolding short
not_short o b h = le-ltb (length b) 20 (omega (arith, h.size))

not_big_case : (m : ObjMachine) (x : ℕ) → eqb (machine_number m + 65536 * x) 4294901760 ≡ false
not_big_case Amd64 x = ne_eqb (34404 + 65536 * x) 4294901760 (λ e. omega (arith, e))
not_big_case Arm64Ec x = ne_eqb (42561 + 65536 * x) 4294901760 (λ e. omega (arith, e))

machine_word : (o : Object) (b : List ℕ) → IsRead o b → word_of b 0 ≡ machine_number o.machine
unfolding machine_field
machine_word o b h = h.header.machine

pub not_big : (o : Object) (b : List ℕ) → IsRead o b → big_object b ≡ false
unfolding big_object dword_of
not_big o b h = ap (λ m. eqb (m + 65536 * word_of b 2) 4294901760) (machine_word o b h) ∙ not_big_case o.machine (word_of b 2)

known_machine : (m : ObjMachine) → (not (eqb (machine_number m) 34404) && not (eqb (machine_number m) 42561)) ≡ false
known_machine Amd64 = refl
known_machine Arm64Ec = refl

pub machine_good : (o : Object) (b : List ℕ) → IsRead o b → bad_machine b ≡ false
unfolding bad_machine
machine_good o b h = rw h.header.machine (known_machine o.machine)

pub no_optional : (o : Object) (b : List ℕ) → IsRead o b → has_optional b ≡ false
unfolding has_optional
no_optional o b h = rw h.header.optional refl

-- ---- the contents of sections

within_case : (b : List ℕ) (f : Bool) (place size len : ℕ) → cond f 0 size ≡ len → place + len ≤ length b → (not f && ltb (length b) (place + size)) ≡ false
within_case b true place size len e le = refl
within_case b false place size len e le = le-ltb (length b) (place + size) (omega (arith, e, le))

contents_good : (b : List ℕ) (i len : ℕ) → contents_size b i ≡ len → raw_place b i + len ≤ length b → bad_contents b i ≡ false
unfolding bad_contents contents_size
contents_good b i len e le = within_case b (has_flag b i 128) (raw_place b i) (raw_size b i) len e le

pub sections_good : (o : Object) (b : List ℕ) → IsRead o b → bad_section_range b ≡ false
unfolding bad_section_range
sections_good o b h =
    or_from _ _ (le-ltb (length b) (section_place (section_count b)) (omega (arith, h.size, h.header.sections)))
    (no_section_passes o b (bad_contents b) h (λ i lt. contents_good b i (length (section_at o i).bytes) (h.sections i lt).bytes (h.sections i lt).within)
    (λ some. contents_good b (length o.sections) (12 * length o.hybrid) (hybrid_size o b h some) (omega (arith, h.size, (h.hybrid some).contents))))

-- ---- the ranges of symbols

strings_good : (o : Object) (b : List ℕ) → IsRead o b → bad_strings b ≡ false
unfolding bad_strings
strings_good o b h =
    or_from _ _ (le-ltb (length b) (fields.strings_place b + 4) (omega (arith, h.size, h.texts.place)))
    (or_from _ _ (le-ltb (fields.strings_size b) 4 (omega (arith, h.texts.size)))
    (le-ltb (length b) (fields.strings_place b + fields.strings_size b) (omega (arith, h.size, h.texts.place, h.texts.size))))

home_main : (b : List ℕ) → OnlyMain b (bad_home b)
unfolding bad_home
home_main b = record { main = λ j ne. rw (ne_eqb (skip_at b j) 0 ne) refl }

in_bounds : (n : ℕ) → in_section n ≡ true → (0 < n) × (n < 65534)
in_bounds n e =
    let h = and_parts (not (eqb n 0)) (ltb n 65534) e in
    let ne : n ≢ 0 = eqb-false n 0 (not-true (eqb n 0) h.0) in
    (omega (arith, ne), ltb-true n 65534 h.1)

home_case : (o : Object) (b : List ℕ) (k : ℕ) (s : ObjSymbol) (x : Bool) → IsRead o b → IsPlaced o k s → in_section s.section ≡ x → (x && (ltb (section_count b) s.section || ltb (raw_size b (s.section - 1)) s.value)) ≡ false
home_case o b k s true h p e =
    let home = p.home e in
    let size : raw_size b (s.section - 1) ≡ section_size (section_at o (s.section - 1)) = (h.sections (s.section - 1) home.0).size in
    let reach : s.value ≤ section_size (section_at o (s.section - 1)) = leb-true s.value _ (and_parts (leb s.value (section_size (section_at o (s.section - 1)))) _ home.1).0 in
    or_from _ _ (le-ltb (section_count b) s.section (omega (arith, section_within o b (s.section - 1) h home.0, (in_bounds s.section e).0))) (le-ltb (raw_size b (s.section - 1)) s.value (omega (arith, size, reach)))
home_case o b k s false h p e = refl

home_good : (o : Object) (b : List ℕ) (k : ℕ) → IsRead o b → k < length o.symbols → bad_home b (record_at o k) ≡ false
unfolding bad_home
home_good o b k h lt =
    let s = symbol_at o k in
    let read : SymbolRead o b k (record_at o k) s = h.symbols k lt in
    rw (symbol_begins o b k h (omega arith), read.section, read.value) (home_case o b k s (in_section s.section) h (placed o k h.valid lt) refl)

-- a test that no symbol passes
pub no_symbol_passes : (o : Object) (b : List ℕ) (p : ℕ → Bool) → IsRead o b → OnlyMain b p → ((k : ℕ) → k < length o.symbols → p (record_at o k) ≡ false) → any_below p (symbol_count b) ≡ false
no_symbol_passes o b p h m each = ap (any_below p) h.count ∙ any_records b (has_more o.sections o.symbols) p (length o.symbols) h.table m each

pub symbols_good : (o : Object) (b : List ℕ) → IsRead o b → bad_symbol_range b ≡ false
unfolding bad_symbol_range
symbols_good o b h =
    let all : not (eqb (skip_at b (symbol_count b)) 0) ≡ false = rw (h.count, symbol_begins o b (length o.symbols) h (omega arith)) refl in
    or_from _ _ (strings_good o b h) (or_from _ _ all (no_symbol_passes o b (bad_home b) h (home_main b) (λ k lt. home_good o b k h lt)))

-- ---- names

name_main : (b : List ℕ) → OnlyMain b (bad_symbol_name b)
unfolding bad_symbol_name
name_main b = record { main = λ j ne. rw (ne_eqb (skip_at b j) 0 ne) refl }

name_good : (o : Object) (b : List ℕ) (k : ℕ) → IsRead o b → k < length o.symbols → bad_symbol_name b (record_at o k) ≡ false
unfolding bad_symbol_name
name_good o b k h lt = and_right _ _ (h.symbols k lt).good_name

pub names_good : (o : Object) (b : List ℕ) → IsRead o b → bad_name_range b ≡ false
unfolding bad_name_range
names_good o b h =
    or_from _ _ (no_section_passes o b (bad_section_name b) h (λ i lt. (h.sections i lt).good_name) (λ some. (h.hybrid some).good_name))
    (no_symbol_passes o b (bad_symbol_name b) h (name_main b) (λ k lt. name_good o b k h lt))
