-- A machine over a list of tokens.
use Rattle.std.specs.Prelude.{◌≡◌, List, [], ◌∷◌}
use Rattle.parse_terms.specs.declared.terminal.Terminal.{Terminal}
use Rattle.parse_terms.specs.declared.answer.Answer.{Answer}
use Rattle.parse_terms.specs.declared.answer.Answer.TheVariants.{More, Done, Bad}

-- what came of the list: the tokens ended in a state, the machine's part ended before some of them,
-- or no text goes on so
pub data Outcome (S D : Type 0) : Type 0 where
  Ended : S → Outcome S D
  Finished : D → List Terminal → Outcome S D
  Failed : Outcome S D

abbrev pub after : {S D : Type 0} → Answer S D → (S → Outcome S D) → List Terminal → Outcome S D
after (More s) go ts = go s
after (Done d) go ts = Finished d ts
after Bad go ts = Failed

abbrev pub run : {S D : Type 0} → (Terminal → S → Answer S D) → List Terminal → S → Outcome S D
run step [] s = Ended s
run step (t ∷ ts) s = after (step t s) (run step ts) (t ∷ ts)

-- from the state z at the tokens m the machine comes to s at a
pub data Came {S D : Type 0} (step : Terminal → S → Answer S D) (z : S) (m : List Terminal) : S → List Terminal → Type 0 where
  begun : Came step z m z m
  taken : {s s' : S} {t : Terminal} {a : List Terminal} → Came step z m s (t ∷ a) → step t s ≡ More s' → Came step z m s' a
