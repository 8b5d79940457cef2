-- What a reading of bytes as a unit of the first form answers.
use Rattle.std.specs.Prelude.{◌≡◌, ℕ, List, Option, Some, None}
use Rattle.first_form.specs.declared.reading.FirstUnit.{FirstUnit}

-- the reading has this unit
abbrev pub Answers : Option FirstUnit → List ℕ → ℕ → Type 0
Answers None puts status = ⊥
Answers (Some unit) puts status = (unit.puts.items ≡ puts) × (unit.status ≡ status)
