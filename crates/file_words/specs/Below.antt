-- Tests, counts and lists over the numbers below n.
use Rattle.std.specs.Prelude.{ℕ, zero, suc, ◌+◌, Bool, false, ◌||◌, List, [], ◌∷◌, ◌++◌, Option, Some, None, if◌then◌else◌}

-- whether some number below n passes
unfoldable pub any_below : (ℕ → Bool) → ℕ → Bool
any_below p zero = false
any_below p (suc n) = any_below p n || p n

-- how many numbers below n pass
unfoldable pub count_below : (ℕ → Bool) → ℕ → ℕ
count_below p zero = 0
count_below p (suc n) = count_below p n + (if p n then 1 else 0)

-- the first that is there, else the second
abbrev pub or_else : {X : Type 0} → Option X → Option X → Option X
or_else None other = other
or_else (Some x) other = Some x

-- the first number below n that passes
unfoldable pub first_below : (ℕ → Bool) → ℕ → Option ℕ
first_below p zero = None
first_below p (suc n) = or_else (first_below p n) (if p n then Some n else None)

-- one more than the last number below n that passes, or 0
unfoldable pub past_last : (ℕ → Bool) → ℕ → ℕ
past_last p zero = 0
past_last p (suc n) = if p n then n + 1 else past_last p n

-- f at each number below n
unfoldable pub table : {X : Type 0} → (ℕ → X) → ℕ → List X
table f zero = []
table f (suc n) = table f n ++ f n ∷ []

-- f at each number below n that passes
unfoldable pub chosen : {X : Type 0} → (ℕ → Bool) → (ℕ → X) → ℕ → List X
chosen p f zero = []
chosen p f (suc n) = chosen p f n ++ (if p n then f n ∷ [] else [])

-- the lists of f at each number below n that passes, one after the other
unfoldable pub gathered : {X : Type 0} → (ℕ → Bool) → (ℕ → List X) → ℕ → List X
gathered p f zero = []
gathered p f (suc n) = gathered p f n ++ (if p n then f n else [])
