use Rattle.c_meaning.proofs.Steady.{fixpoint, deeper}
use Rattle.c_meaning.proofs.laws.meaning_is_fixpoint.Goals as goal

pub returns : goal.returns
returns c = record { fixpoint = fixpoint; depth = deeper }
