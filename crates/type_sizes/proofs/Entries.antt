-- One more entry of which nothing is known.
use Rattle.std.proofs.Common.{zero, suc, List, [], ◌∷◌, ◌++◌, Option, Some, None}
use Rattle.std.proofs.lemmas.Option.{same_Some, none-some}
use Rattle.measured_types.specs.declared.measure.Measured.{Measured}
use Rattle.measured_types.specs.Measures.{AreUnknown}

pub unknown_more : (xs : List (Option Measured)) → AreUnknown xs → AreUnknown (xs ++ None ∷ [])
unknown_more [] u zero m h = none-some m (same_Some None (Some m) h)
unknown_more [] u (suc k) m h = none-some (Some m) h
unknown_more (x ∷ xs) u zero m h = u zero m h
unknown_more (x ∷ xs) u (suc k) m h = unknown_more xs (λ j n i. u (suc j) n i) k m h

pub unknown_none : AreUnknown []
unknown_none k m h = none-some (Some m) h
