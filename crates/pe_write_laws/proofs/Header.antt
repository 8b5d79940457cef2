-- The fields of the headers of a written file, as they are read.
use Rattle.std.proofs.Common.{◌≡◌, ℕ, ◌+◌, ◌*◌, ◌/◌, ◌%◌, ◌<◌, cond, eqb, List, length, refl, ap, ◌∙◌, arith}
use Rattle.hx_words.specs.LittleEndian.{bytes_of}
use Rattle.file_words.specs.Fields.{byte_of, word_of, dword_of}
use Rattle.chpe_types.specs.declared.image.Image.{Image}
use Rattle.pe_fields.specs.Headers.{qword_of, dos_magic, pe_place, pe_magic, machine, section_count, optional_size, optional_magic, entry, base, section_alignment, file_alignment, image_size, stack, directory_count, directory_rva, directory_size}
use Rattle.pe_write_laws.specs.Places.{import_place, config_place, blocks_place, blocks_size}
use Rattle.pe_write_laws.specs.Format.{zeros, dos_header, coff_header, standard_fields, size_fields, stack_fields, late_directories, directories, optional_header, padded, headers, image_bytes}

two : (v : ℕ) → v < 65536 → v % 256 + 256 * (v / 256 % 256) ≡ v
two v lt = omega arith

abbrev low : ℕ → ℕ
low v = v % 256 + 256 * (v / 256 % 256) + 65536 * (v / 256 / 256 % 256 + 256 * (v / 256 / 256 / 256 % 256))

pub four : (v : ℕ) → v < 4294967296 → v % 256 + 256 * (v / 256 % 256) + 65536 * (v / 256 / 256 % 256 + 256 * (v / 256 / 256 / 256 % 256)) ≡ v
four v lt = omega arith

halves : (v : ℕ) → low v + 4294967296 * (v / 256 / 256 / 256 / 256) ≡ v
halves v = omega arith

eight : (v : ℕ) → v < 18446744073709551616 → low v + 4294967296 * low (v / 256 / 256 / 256 / 256) ≡ v
eight v lt =
    let high : low (v / 256 / 256 / 256 / 256) ≡ v / 256 / 256 / 256 / 256 = four (v / 256 / 256 / 256 / 256) (omega arith) in
    ap (λ (h : ℕ). low v + 4294967296 * h) high ∙ halves v

-- ---- the DOS header, the signature and the COFF header

pub dos_magic_is : (i : Image) → dos_magic (image_bytes i) ≡ 23117
unfolding image_bytes padded headers dos_header bytes_of zeros word_of byte_of dos_magic
dos_magic_is i = refl

pub pe_place_is : (i : Image) → pe_place (image_bytes i) ≡ 64
unfolding image_bytes padded headers dos_header bytes_of zeros dword_of word_of byte_of pe_place
pe_place_is i = refl

pub pe_magic_is : (i : Image) → pe_magic (image_bytes i) ≡ 17744
unfolding image_bytes padded headers dos_header coff_header bytes_of zeros dword_of word_of byte_of pe_place pe_magic
pe_magic_is i = refl

pub machine_is : (i : Image) → machine (image_bytes i) ≡ 34404
unfolding image_bytes padded headers dos_header coff_header bytes_of zeros dword_of word_of byte_of pe_place machine
machine_is i = refl

pub count_is : (i : Image) → length i.sections < 65536 → section_count (image_bytes i) ≡ length i.sections
unfolding image_bytes padded headers dos_header coff_header bytes_of zeros dword_of word_of byte_of pe_place section_count
count_is i lt = two (length i.sections) lt

pub optional_size_is : (i : Image) → optional_size (image_bytes i) ≡ 240
unfolding image_bytes padded headers dos_header coff_header bytes_of zeros dword_of word_of byte_of pe_place optional_size
optional_size_is i = refl

-- ---- the optional header

pub optional_magic_is : (i : Image) → optional_magic (image_bytes i) ≡ 523
unfolding image_bytes padded headers dos_header coff_header optional_header standard_fields bytes_of zeros dword_of word_of byte_of pe_place optional_magic
optional_magic_is i = refl

pub entry_is : (i : Image) → i.entry < 4294967296 → entry (image_bytes i) ≡ i.entry
unfolding image_bytes padded headers dos_header coff_header optional_header standard_fields bytes_of zeros dword_of word_of byte_of pe_place entry
entry_is i lt = four i.entry lt

pub base_is : (i : Image) → i.base < 18446744073709551616 → base (image_bytes i) ≡ i.base
unfolding image_bytes padded headers dos_header coff_header optional_header standard_fields bytes_of zeros dword_of word_of byte_of pe_place qword_of base
base_is i lt = eight i.base lt

pub section_alignment_is : (i : Image) → section_alignment (image_bytes i) ≡ 4096
unfolding image_bytes padded headers dos_header coff_header optional_header standard_fields bytes_of zeros dword_of word_of byte_of pe_place section_alignment
section_alignment_is i = refl

pub file_alignment_is : (i : Image) → file_alignment (image_bytes i) ≡ 512
unfolding image_bytes padded headers dos_header coff_header optional_header standard_fields size_fields bytes_of zeros dword_of word_of byte_of pe_place file_alignment
file_alignment_is i = refl

pub size_is : (i : Image) → i.size < 4294967296 → image_size (image_bytes i) ≡ i.size
unfolding image_bytes padded headers dos_header coff_header optional_header standard_fields size_fields bytes_of zeros dword_of word_of byte_of pe_place image_size
size_is i lt = four i.size lt

pub stack_is : (i : Image) → i.stack < 18446744073709551616 → stack (image_bytes i) ≡ i.stack
unfolding image_bytes padded headers dos_header coff_header optional_header standard_fields size_fields stack_fields bytes_of zeros dword_of word_of byte_of pe_place qword_of stack
stack_is i lt = eight i.stack lt

pub directory_count_is : (i : Image) → directory_count (image_bytes i) ≡ 16
unfolding image_bytes padded headers dos_header coff_header optional_header standard_fields size_fields stack_fields bytes_of zeros dword_of word_of byte_of pe_place directory_count
directory_count_is i = refl

-- ---- directories

pub import_rva_is : (i : Image) → import_place i < 4294967296 → directory_rva (image_bytes i) 1 ≡ import_place i
unfolding image_bytes padded headers dos_header coff_header optional_header standard_fields size_fields stack_fields directories bytes_of zeros dword_of word_of byte_of pe_place directory_rva
import_rva_is i lt = four (import_place i) lt

pub import_size_is : (i : Image) → cond (eqb (import_place i) 0) 0 40 < 4294967296 → directory_size (image_bytes i) 1 ≡ cond (eqb (import_place i) 0) 0 40
unfolding image_bytes padded headers dos_header coff_header optional_header standard_fields size_fields stack_fields directories bytes_of zeros dword_of word_of byte_of pe_place directory_size
import_size_is i lt = four (cond (eqb (import_place i) 0) 0 40) lt

pub blocks_rva_is : (i : Image) → blocks_place i < 4294967296 → directory_rva (image_bytes i) 5 ≡ blocks_place i
unfolding image_bytes padded headers dos_header coff_header optional_header standard_fields size_fields stack_fields directories bytes_of zeros dword_of word_of byte_of pe_place directory_rva
blocks_rva_is i lt = four (blocks_place i) lt

pub blocks_size_is : (i : Image) → cond (eqb (blocks_place i) 0) 0 (blocks_size i) < 4294967296 → directory_size (image_bytes i) 5 ≡ cond (eqb (blocks_place i) 0) 0 (blocks_size i)
unfolding image_bytes padded headers dos_header coff_header optional_header standard_fields size_fields stack_fields directories bytes_of zeros dword_of word_of byte_of pe_place directory_size
blocks_size_is i lt = four (cond (eqb (blocks_place i) 0) 0 (blocks_size i)) lt

pub config_rva_is : (i : Image) → config_place i < 4294967296 → directory_rva (image_bytes i) 10 ≡ config_place i
unfolding image_bytes padded headers dos_header coff_header optional_header standard_fields size_fields stack_fields directories late_directories bytes_of zeros dword_of word_of byte_of pe_place directory_rva
config_rva_is i lt = four (config_place i) lt

pub config_size_is : (i : Image) → cond (eqb (config_place i) 0) 0 208 < 4294967296 → directory_size (image_bytes i) 10 ≡ cond (eqb (config_place i) 0) 0 208
unfolding image_bytes padded headers dos_header coff_header optional_header standard_fields size_fields stack_fields directories late_directories bytes_of zeros dword_of word_of byte_of pe_place directory_size
config_size_is i lt = four (cond (eqb (config_place i) 0) 0 208) lt

-- the others
pub record Unused (b : List ℕ) : Type 0 where
  pub d0 : directory_rva b 0 ≡ 0
  pub d2 : directory_rva b 2 ≡ 0
  pub d3 : directory_rva b 3 ≡ 0
  pub d4 : directory_rva b 4 ≡ 0
  pub d6 : directory_rva b 6 ≡ 0
  pub d7 : directory_rva b 7 ≡ 0
  pub d8 : directory_rva b 8 ≡ 0
  pub d9 : directory_rva b 9 ≡ 0
  pub d11 : directory_rva b 11 ≡ 0
  pub d12 : directory_rva b 12 ≡ 0
  pub d13 : directory_rva b 13 ≡ 0
  pub d14 : directory_rva b 14 ≡ 0
  pub d15 : directory_rva b 15 ≡ 0

pub unused : (i : Image) → Unused (image_bytes i)
unfolding image_bytes padded headers dos_header coff_header optional_header standard_fields size_fields stack_fields directories late_directories bytes_of zeros dword_of word_of byte_of pe_place directory_rva
unused i = record { d0 = refl; d2 = refl; d3 = refl; d4 = refl; d6 = refl; d7 = refl; d8 = refl; d9 = refl; d11 = refl; d12 = refl; d13 = refl; d14 = refl; d15 = refl }
