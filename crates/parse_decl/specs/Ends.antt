-- How a part that is being read can be brought to its end.
use Rattle.std.specs.Prelude.{◌≡◌, List, ◌∷◌, ◌++◌}
use Rattle.parse_terms.specs.declared.terminal.Terminal.{Terminal}
use Rattle.parse_terms.specs.declared.answer.Answer.{Answer}
use Rattle.parse_terms.specs.Runs.{run, Finished}

-- tokens bring the machine from the state st to the end of its part before t, whatever follows t
pub record CanEnd (S D : Type 0) (step : Terminal → S → Answer S D) (st : S) (t : Terminal) : Type 0 where
  pub tokens : List Terminal
  pub part_of : D
  pub is : (b : List Terminal) → run step (tokens ++ t ∷ b) st ≡ Finished part_of (t ∷ b)
