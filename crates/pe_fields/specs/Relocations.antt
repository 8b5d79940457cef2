-- The base relocations (Microsoft PE/COFF specification, "The .reloc Section": blocks of a page, each
-- with its Page RVA, its Block Size and entries of 16 bits, a type in the four high bits and an offset
-- in the others). Types are IMAGE_REL_BASED_ABSOLUTE 0, which only pads, and DIR64 10.
use Rattle.std.specs.Prelude.{ℕ, zero, suc, ◌+◌, ◌-◌, ◌*◌, ◌/◌, ◌%◌, Bool, not, ◌&&◌, ◌||◌, List, ◌==◌, nat_lt}
use Rattle.file_words.specs.Fields.{word_of, dword_of}
use Rattle.file_words.specs.Below.{any_below, chosen, gathered}

-- ---- the block at a place of the directory, whose bytes these are

unfoldable pub page_of : List ℕ → ℕ → ℕ
page_of r p = dword_of r p

unfoldable pub block_size : List ℕ → ℕ → ℕ
block_size r p = dword_of r (p + 4)

unfoldable pub entry_count : List ℕ → ℕ → ℕ
entry_count r p = (block_size r p - 8) / 2

unfoldable pub entry_at : List ℕ → ℕ → ℕ → ℕ
entry_at r p e = word_of r (p + 8 + 2 * e)

-- its type is 10
unfoldable pub is_site : List ℕ → ℕ → ℕ → Bool
is_site r p e = entry_at r p e / 4096 == 10

-- or neither 0 nor 10
unfoldable pub bad_type : List ℕ → ℕ → ℕ → Bool
bad_type r p e = not (entry_at r p e / 4096 == 0) && not (is_site r p e)

unfoldable pub site : List ℕ → ℕ → ℕ → ℕ
site r p e = page_of r p + entry_at r p e % 4096

-- of left bytes there is no header, or its page or its size isn't one
unfoldable pub bad_head : List ℕ → ℕ → ℕ → Bool
bad_head r p left = nat_lt left 8 || (not (page_of r p % 4096 == 0) || (nat_lt (block_size r p) 8 || (not (block_size r p % 4 == 0) || nat_lt left (block_size r p))))

unfoldable pub bad_block : List ℕ → ℕ → ℕ → Bool
bad_block r p left = bad_head r p left || any_below (bad_type r p) (entry_count r p)

unfoldable pub block_sites : List ℕ → ℕ → List ℕ
block_sites r p = chosen (is_site r p) (site r p) (entry_count r p)

-- ---- the blocks of a directory of some size

-- where block k begins
unfoldable pub block_place : List ℕ → ℕ → ℕ
block_place r zero = 0
block_place r (suc k) = block_place r k + block_size r (block_place r k)

-- bytes of the directory are left there
unfoldable pub is_block : List ℕ → ℕ → ℕ → Bool
is_block r size k = nat_lt (block_place r k) size

unfoldable pub is_bad : List ℕ → ℕ → ℕ → Bool
is_bad r size k = is_block r size k && bad_block r (block_place r k) (size - block_place r k)

-- some block; a good one has 8 bytes or more, so there are no more blocks than bytes
unfoldable pub bad_relocations : List ℕ → ℕ → Bool
bad_relocations r size = any_below (is_bad r size) size

abbrev pub sites_in : List ℕ → ℕ → List ℕ
sites_in r k = block_sites r (block_place r k)

-- the places of the numbers that the base is added to, of a directory that isn't refused
unfoldable pub sites : List ℕ → ℕ → List ℕ
sites r size = gathered (is_block r size) (sites_in r) size
