-- What the machine of bodies says to a token, as a word that doesn't compute by itself: the terms that
-- the machine computes to at a state that isn't known are long.
use Rattle.std.specs.Prelude.{ℕ}
use Rattle.parse_terms.specs.declared.terminal.Terminal.{Terminal}
use Rattle.parse_stmt.specs.declared.state.BodyState.{BodyState}
use Rattle.parse_stmt.specs.StmtMachine.{Said, body_step}

unfoldable pub body_answer : ℕ → Terminal → BodyState → Said
body_answer = body_step
