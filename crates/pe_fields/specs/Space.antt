-- The sections of an image as they stand in memory: the contents of each, and zeros after them up to
-- its size. Places are relative to the base (RVAs).
use Rattle.std.specs.Prelude.{ℕ, ◌+◌, ◌-◌, Bool, not, ◌&&◌, List, [], ◌∷◌, length, drop, ◌==◌, nat_le, bit_and, if◌then◌else◌}
use Rattle.std.specs.List.{list_any}
use Rattle.file_words.specs.Fields.{until_zero}
use Rattle.chpe_types.specs.declared.image.ImageSection.{ImageSection}

-- n bytes at a place lie in the section
abbrev pub has_part : ℕ → ℕ → ImageSection → Bool
has_part rva n s = nat_le s.rva rva && nat_le (rva + n) (s.rva + s.size)

-- in one of the sections
unfoldable pub is_mapped : List ImageSection → ℕ → ℕ → Bool
is_mapped ss rva n = list_any (has_part rva n) ss

-- in one that may be executed (IMAGE_SCN_MEM_EXECUTE 0x20000000)
abbrev pub may_run : ImageSection → Bool
may_run s = not (bit_and s.flags 536870912 == 0)

abbrev pub has_code_part : ℕ → ℕ → ImageSection → Bool
has_code_part rva n s = may_run s && has_part rva n s

unfoldable pub is_code : List ImageSection → ℕ → ℕ → Bool
is_code ss rva n = list_any (has_code_part rva n) ss

-- the contents from a place on to the end of those of its section; fields past them are 0, as the
-- bytes of the section there are
abbrev pub rest_at : List ImageSection → ℕ → List ℕ
rest_at [] rva = []
rest_at (s ∷ ss) rva = if has_part rva 1 s then drop (rva - s.rva) s.bytes else rest_at ss rva

-- the bytes before the first zero
unfoldable pub text_at : List ImageSection → ℕ → List ℕ
text_at ss rva = until_zero (rest_at ss rva)

-- such a text and n bytes before it lie in a section, with the zero that closes it
unfoldable pub has_text : List ImageSection → ℕ → ℕ → Bool
has_text ss rva n = is_mapped ss rva (n + length (text_at ss (rva + n)) + 1)
