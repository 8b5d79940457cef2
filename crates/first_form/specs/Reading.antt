-- What the reader takes from the front of bytes: the head of `main`, one call, or the end.
use Rattle.std.specs.Prelude.{ℕ, List, [], ◌∷◌, Option, Some, None, codes}
use Rattle.first_form.specs.Scanning.{◌>>=◌, after_blanks, after_gap, after_token, number_at}

-- what follows `int main(void) {`
unfoldable pub after_head : List ℕ → Option (List ℕ)
after_head bytes = do
  a ← after_token (codes "int") bytes
  b ← after_gap a
  c ← after_token (codes "main") b
  d ← after_token (codes "(") c
  e ← after_token (codes "void") d
  f ← after_token (codes ")") e
  after_token (codes "{") f

-- the number of `put_byte(n);`, and what follows it
unfoldable pub put_at : List ℕ → Option (ℕ × List ℕ)
put_at bytes = do
  a ← after_token (codes "put_byte") bytes
  b ← after_token (codes "(") a
  n ← number_at b
  c ← after_token (codes ")") n.1
  d ← after_token (codes ";") c
  Some (n.0, d)

-- nothing, where no bytes are left
abbrev pub at_end : {X : Type 0} → X → List ℕ → Option X
at_end x [] = Some x
at_end x (b ∷ bs) = None

-- the number of `return n; }`, where blanks alone follow it
unfoldable pub status_at : List ℕ → Option ℕ
status_at bytes = do
  a ← after_token (codes "return") bytes
  b ← after_gap a
  n ← number_at b
  c ← after_token (codes ";") n.1
  d ← after_token (codes "}") c
  at_end n.0 (after_blanks d)
