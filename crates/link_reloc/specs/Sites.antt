-- What the linker writes at a site: Microsoft's PE format, "Type Indicators" of x64 processors (REL_AMD64) and of
-- ARM64 processors (REL_ARM64), with the fields of Arm's instructions from the Arm Architecture Reference Manual.
-- Microsoft's page does not say when a linker refuses; that, and the order of the refusals, is this project's own.
use Rattle.std.specs.Prelude.{ℕ, ℤ, pos, ◌+◌, ◌-◌, ◌*◌, ◌/◌, ◌%◌, ◌^◌, ◌+ℤ◌, ◌-ℤ◌, neg_ℤ, nat_abs, int_le, int_div, ◌&&◌, ◌==◌, if◌then◌else◌, List, ◌++◌, length, take, drop, Result, Ok, Err}
use Rattle.hx_words.specs.LittleEndian.{number_of, bytes_of}
use Rattle.hx_words.specs.TwosComplement.{signed_of, bits_of}
use Rattle.hx_bits.specs.Bits.{field_of, with_field}
use Rattle.hx_names.specs.declared.pieces.SiteKind.{SiteKind}
use Rattle.hx_names.specs.declared.pieces.SiteKind.TheVariants.{Nothing, Addr64, Addr32Nb, Rel32, Branch26, PageBaseRel21, PageOffset12A, PageOffset12L}
use Rattle.link_reloc.specs.declared.refusal.RelocRefusal.{RelocRefusal}
use Rattle.link_reloc.specs.declared.refusal.RelocRefusal.TheVariants.{Addend, Misaligned, OutOfReach}

-- how many bytes a site has: a number of 64 or 32 bits, or an instruction of Arm64
abbrev pub width : SiteKind → ℕ
width Nothing = 0
width Addr64 = 8
width Addr32Nb = 4
width Rel32 = 4
width Branch26 = 4
width PageBaseRel21 = 4
width PageOffset12A = 4
width PageOffset12L = 4

-- the field of an instruction has to be 0: Arm64's sites take no number beside their target
abbrev pub from_zero : ℕ → Result ℕ RelocRefusal → Result ℕ RelocRefusal
from_zero field next = if field == 0 then next else Err Addend

-- the number has to be a multiple of n
abbrev pub multiple : ℕ → ℤ → Result ℕ RelocRefusal → Result ℕ RelocRefusal
multiple n z next = if nat_abs z % n == 0 then next else Err (Misaligned z)

-- the value has to lie within bounds, and the site becomes what put makes of it
abbrev pub within : ℤ → ℤ → ℤ → (ℤ → ℕ) → Result ℕ RelocRefusal
within low high z put = if int_le low z && int_le z high then Ok (put z) else Err (OutOfReach z)

-- the value has to be a signed number of len bits
abbrev pub within_signed : ℕ → ℤ → (ℤ → ℕ) → Result ℕ RelocRefusal
within_signed len z put = within (neg_ℤ (pos (2 ^ (len - 1)))) (pos (2 ^ (len - 1) - 1)) z put

-- ADDR64: "the 64-bit VA of the relocation target". What stands there is added, modulo 2^64
abbrev pub address_of : ℕ → ℕ → ℕ → ℕ
address_of target base number = (base + target + number) % 2 ^ 64

-- ADDR32NB: "the 32-bit RVA of the target". What stands there is a signed number, and is added
abbrev pub place_of : ℕ → ℕ → Result ℕ RelocRefusal
place_of target word = within (pos 0) (pos (2 ^ 32 - 1)) (pos target +ℤ signed_of 32 word) (λ z. bits_of 32 z)

-- AMD64's REL32: "the 32-bit relative address from the byte following the relocation". Likewise
abbrev pub relative_of : ℕ → ℕ → ℕ → Result ℕ RelocRefusal
relative_of site target word = within_signed 32 (pos target -ℤ pos (site + 4) +ℤ signed_of 32 word) (λ z. bits_of 32 z)

-- ARM64's BRANCH26: "the 26-bit relative displacement to the target, for B and BL instructions": imm26 at bit 0, in
-- words of four bytes (Arm ARM, C6.2, B and BL)
abbrev pub branch_of : ℕ → ℕ → ℕ → Result ℕ RelocRefusal
branch_of site target word =
    from_zero (field_of 0 26 word)
    (multiple 4 (pos target -ℤ pos site)
    (within_signed 26 (int_div (pos target -ℤ pos site) (pos 4)) (λ z. with_field 0 26 word (bits_of 26 z))))

-- the 21 bits of an address of pages: immlo, the low two, at bit 29, and immhi, the other 19, at bit 5 (Arm ARM,
-- C6.2, ADRP)
abbrev pub page_field : ℕ → ℕ
page_field word = 4 * field_of 5 19 word + field_of 29 2 word

abbrev pub with_page : ℕ → ℕ → ℕ
with_page word bits = with_field 29 2 (with_field 5 19 word (bits / 4)) (bits % 4)

-- ARM64's PAGEBASE_REL21: "the page base of the target, for ADRP instruction", counted in pages of 4 KiB from the
-- page of the instruction
abbrev pub page_base_of : ℕ → ℕ → ℕ → Result ℕ RelocRefusal
page_base_of site target word =
    from_zero (page_field word)
    (within_signed 21 (pos (target / 4096) -ℤ pos (site / 4096)) (λ z. with_page word (bits_of 21 z)))

-- ARM64's PAGEOFFSET_12A: "the 12-bit page offset of the target, for instruction ADD/ADDS (immediate) with zero
-- shift": imm12 at bit 10 (Arm ARM, C6.2, ADD (immediate))
abbrev pub page_offset_of : ℕ → ℕ → Result ℕ RelocRefusal
page_offset_of target word = from_zero (field_of 10 12 word) (Ok (with_field 10 12 word (target % 4096)))

-- ARM64's PAGEOFFSET_12L: "the 12-bit page offset of the target, for instruction LDR (indexed, unsigned immediate)":
-- imm12 at bit 10, in accesses of 2^size bytes, where size is bits 30 and 31 (Arm ARM, C6.2, LDR (immediate)). Any
-- word is taken as one of these
abbrev pub access_size : ℕ → ℕ
access_size word = 2 ^ field_of 30 2 word

abbrev pub access_offset_of : ℕ → ℕ → Result ℕ RelocRefusal
access_offset_of target word =
    from_zero (field_of 10 12 word)
    (multiple (access_size word) (pos (target % 4096)) (Ok (with_field 10 12 word (target % 4096 / access_size word))))

-- The number that a site's bytes become, by its kind, from the place of the site and of its target in the image, the
-- base of the image, and the number that its bytes hold.
unfoldable pub becomes : SiteKind → ℕ → ℕ → ℕ → ℕ → Result ℕ RelocRefusal
-- ABSOLUTE: "the relocation is ignored"
becomes Nothing site target base old = Ok old
becomes Addr64 site target base old = Ok (address_of target base old)
becomes Addr32Nb site target base old = place_of target old
becomes Rel32 site target base old = relative_of site target old
becomes Branch26 site target base old = branch_of site target old
becomes PageBaseRel21 site target base old = page_base_of site target old
becomes PageOffset12A site target base old = page_offset_of target old
becomes PageOffset12L site target base old = access_offset_of target old

-- the number that n bytes from a place on hold
unfoldable pub held : ℕ → List ℕ → ℕ → ℕ
held n bytes at = number_of (take n (drop at bytes))

-- the bytes with others written over them from a place on
unfoldable pub overwritten : List ℕ → ℕ → List ℕ → List ℕ
overwritten bytes at new = take at bytes ++ (new ++ drop (at + length new) bytes)

-- what is answered, and the bytes afterwards: all as before where the site is refused
abbrev pub answer_of : Result ℕ RelocRefusal → Result (Unit {0}) RelocRefusal
answer_of (Ok v) = Ok tt
answer_of (Err e) = Err e

abbrev pub after_of : ℕ → List ℕ → ℕ → Result ℕ RelocRefusal → List ℕ
after_of n bytes at (Ok v) = overwritten bytes at (bytes_of n v)
after_of n bytes at (Err e) = bytes

-- what a site of a kind becomes in bytes, and what they are then
abbrev pub site_of : SiteKind → List ℕ → ℕ → ℕ → ℕ → ℕ → Result ℕ RelocRefusal
site_of kind bytes at site target base = becomes kind site target base (held (width kind) bytes at)

abbrev pub filled : SiteKind → List ℕ → ℕ → ℕ → ℕ → ℕ → List ℕ
filled kind bytes at site target base = after_of (width kind) bytes at (site_of kind bytes at site target base)
