-- The numbers that a number draws: a linear congruential sequence modulo 2^64 with the multiplier and the increment that
-- D. E. Knuth gives for MMIX (The Art of Computer Programming, volume 2, 3.3.4), of which the upper 31 bits count.
use Rattle.std.specs.Prelude.{ℕ, zero, suc, ◌+◌, ◌*◌, ◌/◌, ◌%◌, ◌^◌}

abbrev pub next_of : ℕ → ℕ
next_of x = (x * 6364136223846793005 + 1442695040888963407) % 2 ^ 64

-- the state after so many draws; the number itself is the first
abbrev pub state_at : ℕ → ℕ → ℕ
state_at number zero = number
state_at number (suc n) = next_of (state_at number n)

-- what a state gives below m
abbrev pub value_of : ℕ → ℕ → ℕ
value_of x m = x / 2 ^ 33 % m

-- draw n of a number, counted from 1, below m
abbrev pub drawn : ℕ → ℕ → ℕ → ℕ
drawn number n m = value_of (state_at number n) m
