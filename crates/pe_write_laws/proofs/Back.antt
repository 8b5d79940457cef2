-- The file of an image that the tests allow has this image.
use Rattle.std.proofs.Common.{◌≡◌, ℕ, ◌%◌, ◌≤◌, true, false, not, ◌||◌, eqb, ltb, List, Ok, refl, ap, ◌∙◌, arith}
use Rattle.std.proofs.lemmas.Bool.{or_from, le-ltb, ne_eqb, eq-eqb, not_from_true}
use Rattle.file_words.specs.Firsts.{NoneHolds}
use Rattle.file_words.proofs.FirstLaws.{first_accepts}
use Rattle.chpe_types.specs.declared.image.Image.{Image}
use Rattle.chpe_types.specs.declared.image.ImageSection.{ImageSection}
use Rattle.chpe_types.specs.declared.image.ImportSlot.{ImportSlot}
use Rattle.chpe_types.specs.declared.image.Meta.{Meta}
use Rattle.pe_fields.specs.Headers.{image_size, section_alignment}
use Rattle.pe_read.specs.Refusals.{limit, bad_dos_magic, bad_magic, bad_machine, bad_optional_size, bad_optional_magic, bad_alignment, bad_image_size, bad_stack, holds, refusals}
use Rattle.pe_read.specs.Images.{image_in, image_of}
use Rattle.pe_write_laws.specs.Allowed.{is_allowed}
use Rattle.pe_write_laws.specs.Format.{image_bytes}
use Rattle.pe_write_laws.proofs.Header.{dos_magic_is, pe_magic_is, machine_is, optional_size_is, optional_magic_is, section_alignment_is, file_alignment_is, base_is, entry_is, stack_is}
use Rattle.pe_write_laws.proofs.Room.{Allowed, allowed_is, size_some}
use Rattle.pe_write_laws.proofs.SectionTests.{size_here, sections_here, large_fails, short_fails, place_fails, table_fails, range_fails}
use Rattle.pe_write_laws.proofs.Directories.{imports_read, sites_read, meta_read, import_fails, blocks_fail, config_fails, meta_fails, entry_fails, directory_fails}

dos_fails : (i : Image) → bad_dos_magic (image_bytes i) ≡ false
unfolding bad_dos_magic
dos_fails i = ap (λ (n : ℕ). not (eqb n 23117)) (dos_magic_is i)

magic_fails : (i : Image) → bad_magic (image_bytes i) ≡ false
unfolding bad_magic
magic_fails i = ap (λ (n : ℕ). not (eqb n 17744)) (pe_magic_is i)

machine_fails : (i : Image) → bad_machine (image_bytes i) ≡ false
unfolding bad_machine
machine_fails i = ap (λ (n : ℕ). not (eqb n 34404)) (machine_is i)

optional_size_fails : (i : Image) → bad_optional_size (image_bytes i) ≡ false
unfolding bad_optional_size
optional_size_fails i = ap (λ (n : ℕ). not (eqb n 240)) (optional_size_is i)

optional_magic_fails : (i : Image) → bad_optional_magic (image_bytes i) ≡ false
unfolding bad_optional_magic
optional_magic_fails i = ap (λ (n : ℕ). not (eqb n 523)) (optional_magic_is i)

alignment_fails : (i : Image) → bad_alignment (image_bytes i) ≡ false
unfolding bad_alignment
alignment_fails i = or_from (not (eqb (section_alignment (image_bytes i)) 4096)) _ (ap (λ (n : ℕ). not (eqb n 4096)) (section_alignment_is i)) (ap (λ (n : ℕ). not (eqb n 512)) (file_alignment_is i))

paged : (most n : ℕ) → n % 4096 ≡ 0 → n ≤ most → (not (eqb (n % 4096) 0) || ltb most n) ≡ false
paged most n page le = or_from (not (eqb (n % 4096) 0)) _ (not_from_true (eqb (n % 4096) 0) (eq-eqb (n % 4096) 0 page)) (le-ltb most n le)

size_fails : (i : Image) (a : Allowed i) → bad_image_size (image_bytes i) ≡ false
unfolding bad_image_size
size_fails i a =
    let same = size_here i a in
    or_from (eqb (image_size (image_bytes i)) 0) _ (ne_eqb (image_size (image_bytes i)) 0 (λ e. omega (arith, same, size_some i a)))
    (ap (λ (n : ℕ). not (eqb (n % 4096) 0) || ltb limit n) same ∙ paged limit i.size a.page a.most)

stack_fails : (i : Image) (a : Allowed i) → bad_stack (image_bytes i) ≡ false
unfolding bad_stack
stack_fails i a = ap (λ (n : ℕ). not (eqb (n % 4096) 0) || ltb 268435456 n) (stack_is i (omega (arith, a.stack_most))) ∙ paged 268435456 i.stack a.stack_page a.stack_most

none_hold : (i : Image) (a : Allowed i) → NoneHolds (holds (image_bytes i)) refusals
none_hold i a = (
  large_fails i a,
  (
    short_fails i a,
    (
      dos_fails i,
      (
        place_fails i a,
        (
          magic_fails i,
          (
            machine_fails i,
            (
              optional_size_fails i,
              (
                optional_magic_fails i,
                (
                  alignment_fails i,
                  (
                    size_fails i a,
                    (
                      stack_fails i a,
                      (table_fails i a, (range_fails i a, (directory_fails i a, (import_fails i a, (blocks_fail i a, (config_fails i a, (meta_fails i a, (entry_fails i a, tt)))))))),
                    ),
                  ),
                ),
              ),
            ),
          ),
        ),
      ),
    ),
  ),
)

same_image : (b z e k : ℕ) (ss : List ImageSection) (ns : List ImportSlot) (ps : List ℕ) (m : Meta) (i : Image) → b ≡ i.base → z ≡ i.size → e ≡ i.entry → k ≡ i.stack → ss ≡ i.sections → ns ≡ i.imports → ps ≡ i.sites → m ≡ i.meta → (let x : Image = record { base = b; size = z; entry = e; stack = k; sections = ss; imports = ns; sites = ps; meta = m } in x) ≡ i
same_image b z e k ss ns ps m i h1 h2 h3 h4 h5 h6 h7 h8 = rw (h1, h2, h3, h4, h5, h6, h7, h8) refl

image_same : (i : Image) (a : Allowed i) → image_in (image_bytes i) ≡ i
unfolding image_in
image_same i a = same_image _ _ _ _ _ _ _ _ i (base_is i a.base) (size_here i a) (entry_is i a.entry) (stack_is i (omega (arith, a.stack_most))) (sections_here i a) (imports_read i a) (sites_read i a) (meta_read i a)

back : (i : Image) (a : Allowed i) → image_of (image_bytes i) ≡ Ok i
unfolding image_of
back i a = first_accepts (holds (image_bytes i)) refusals (image_in (image_bytes i)) (none_hold i a) ∙ ap (λ (x : Image). Ok x) (image_same i a)

pub read_back : (i : Image) → is_allowed i ≡ true → image_of (image_bytes i) ≡ Ok i
read_back i h = back i (allowed_is i h)

pub file_read : (b : List ℕ) (i : Image) → is_allowed i ≡ true → b ≡ image_bytes i → image_of b ≡ Ok i
file_read b i h e = ap image_of e ∙ read_back i h
