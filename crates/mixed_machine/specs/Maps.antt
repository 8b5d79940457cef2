-- The code map of an image at its base.
use Rattle.std.specs.Prelude.{ℕ}
use Rattle.chpe_types.specs.declared.image.Meta.{Meta}
use Rattle.machine_rules.specs.State.{Code}

abbrev pub code_of : Meta → ℕ → Code
code_of meta base = record { ranges = meta.ranges; redirects = meta.redirects; base = base }
