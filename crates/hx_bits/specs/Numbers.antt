-- Numbers that stand in bytes, the lowest byte first (Intel SDM volume 1, 1.3.1; Arm ARM, B2.6;
-- PE/COFF, "little-endian").
use Rattle.std.specs.Prelude.{ℕ, ◌+◌, List, length, take, drop, Option, Some, None, nat_le, if◌then◌else◌}
use Rattle.hx_words.specs.LittleEndian.{number_of}

-- the number of n bytes from a place on, if they all stand there
abbrev pub number_at : ℕ → List ℕ → ℕ → Option ℕ
number_at n bytes at = if nat_le (at + n) (length bytes) then Some (number_of (take n (drop at bytes))) else None
