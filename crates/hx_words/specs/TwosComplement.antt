-- Signed numbers of some bits in two's complement (C, 6.2.6.2; Arm ARM and Intel SDM alike).
use Rattle.std.specs.Prelude.{ℕ, ℤ, pos, negsuc, suc, ◌+◌, ◌-◌, ◌^◌, ◌-ℤ◌, ◌≤ℤ◌, ◌<ℤ◌, neg_ℤ, nat_lt, if◌then◌else◌}

-- the number that the low len bits stand for
abbrev pub signed_of : ℕ → ℕ → ℤ
signed_of len n = if nat_lt n (2 ^ (len - 1)) then pos n else pos n -ℤ pos (2 ^ len)

-- the len bits of a signed number
abbrev pub bits_of : ℕ → ℤ → ℕ
bits_of len (pos n) = n
bits_of len (negsuc n) = 2 ^ len - (n + 1)

-- the signed numbers of len bits
abbrev pub IsSigned : ℕ → ℤ → Type 0
IsSigned len z = (neg_ℤ (pos (2 ^ (len - 1))) ≤ℤ z) × (z <ℤ pos (2 ^ (len - 1)))
