-- The first of a list of refusals that holds.
use Rattle.std.specs.Prelude.{◌≡◌, Bool, true, false, List, [], ◌∷◌, ◌++◌, Result, Ok, Err, if◌then◌else◌}
use Rattle.std.specs.List.{AllByRecursion}

-- the first that holds, else the value
abbrev pub first_of : {K X : Type 0} → (K → Bool) → List K → X → Result X K
first_of p [] x = Ok x
first_of p (k ∷ ks) x = if p k then Err k else first_of p ks x

-- none of them holds
abbrev pub NoneHolds : {K : Type 0} → (K → Bool) → List K → Type 0
NoneHolds p ks = AllByRecursion (λ k. p k ≡ false) ks

-- k stands in the list and holds, and nothing before it does
pub record IsFirst {K : Type 0} (p : K → Bool) (ks : List K) (k : K) : Type 0 where
  pub before : List K
  pub after : List K
  pub parts : ks ≡ before ++ k ∷ after
  pub holds : p k ≡ true
  pub none : NoneHolds p before
