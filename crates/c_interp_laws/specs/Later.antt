-- States that go on from others.
use Rattle.std.specs.Prelude.{◌≡◌, ℕ, ◌+◌, List, ◌++◌, length}
use Rattle.hx_words.specs.Prefixes.{IsPrefix}
use Rattle.c_meaning.specs.States.{State}

-- the output goes on, and what is no longer left of the input was taken
pub record Later (s t : State) : Type 0 where
  pub output : IsPrefix s.world.output t.world.output
  pub input : (gone : List ℕ) × (s.world.input ≡ gone ++ t.world.input) × (t.world.taken ≡ s.world.taken + length gone)
