-- What is said of runs.
use Rattle.std.specs.Prelude.{◌≡◌, List, ◌++◌}
use Rattle.ir_core.specs.Worlds.{Event, World, Config, Going, Passing, Ended, Wrong}

abbrev pub world_in : Config → World
world_in (Going rest here cs w) = w
world_in (Passing a args cs w) = w
world_in (Ended o w) = w
world_in (Wrong w) = w

-- the steps that were seen by the second world are those of the first, and then something or nothing
abbrev pub GoesOn : (v w : World) → Type 0
GoesOn v w = (more : List Event) × (w.events ≡ v.events ++ more)
