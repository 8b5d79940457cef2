-- Laws of machines over lists of tokens.
use Rattle.std.proofs.Common.{◌≡◌, List, [], ◌∷◌, ◌++◌, refl, sym, ap, ◌∙◌, subst}
use Rattle.parse_terms.specs.declared.terminal.Terminal.{Terminal}
use Rattle.parse_terms.specs.declared.answer.Answer.{Answer}
use Rattle.parse_terms.specs.declared.answer.Answer.TheVariants.{More, Done, Bad}
use Rattle.parse_terms.specs.Runs.{Outcome, Ended, Finished, Failed, after, run, Came, begun, taken}

abbrev continue : {S D : Type 0} → (Terminal → S → Answer S D) → List Terminal → Outcome S D → Outcome S D
continue step b (Ended s) = run step b s
continue step b (Finished d ts) = Finished d (ts ++ b)
continue step b Failed = Failed

continue_after : {S D : Type 0} (step : Terminal → S → Answer S D) (a b : List Terminal) (t : Terminal) → ((s : S) → run step (a ++ b) s ≡ continue step b (run step a s)) → (v : Answer S D) →
    after v (run step (a ++ b)) (t ∷ (a ++ b)) ≡ continue step b (after v (run step a) (t ∷ a))
continue_after step a b t more (More s) = more s
continue_after step a b t more (Done d) = refl
continue_after step a b t more Bad = refl

-- a machine runs over a list as over its parts
pub run_append : {S D : Type 0} (step : Terminal → S → Answer S D) (a b : List Terminal) (s : S) → run step (a ++ b) s ≡ continue step b (run step a s)
run_append step [] b s = refl
run_append step (t ∷ a) b s = continue_after step a b t (λ s'. run_append step a b s') (step t s)

-- a machine inside another: each of its states is one of the other's, which goes on by `ends` once the
-- inner part is over
module _ {S D S' D' : Type 0} (step : Terminal → S → Answer S D) (outer : Terminal → S' → Answer S' D') (within : S → S') (ends : D → Terminal → Answer S' D') where
  abbrev pub lifted : Terminal → Answer S D → Answer S' D'
  lifted t (More s) = More (within s)
  lifted t (Done d) = ends d t
  lifted t Bad = Bad

  hosted_after : (c : Terminal) (a : List Terminal) (d : D) (t : Terminal) (b : List Terminal) →
      ((s : S) → run step a s ≡ Finished d (t ∷ b) → run outer a (within s) ≡ after (ends d t) (run outer b) (t ∷ b)) → (v : Answer S D) → after v (run step a) (c ∷ a) ≡ Finished d (t ∷ b) →
      after (lifted c v) (run outer a) (c ∷ a) ≡ after (ends d t) (run outer b) (t ∷ b)
  hosted_after c a d t b more (More s) q = more s q
  hosted_after c a d t b more (Done d') q =
      let p : d' ≡ d = cc in
      let k : c ≡ t = cc in
      let l : a ≡ b = cc in
      ap (λ x. after (ends x c) (run outer a) (c ∷ a)) p ∙ ap (λ x. after (ends d x) (run outer a) (x ∷ a)) k ∙ ap (λ x. after (ends d t) (run outer x) (t ∷ x)) l
  hosted_after c a d t b more Bad q = let never : ⊥ = cc in absurd never

  pub hosted : ((t : Terminal) (s : S) → outer t (within s) ≡ lifted t (step t s)) → (a : List Terminal) (s : S) (d : D) (t : Terminal) (b : List Terminal) →
      run step a s ≡ Finished d (t ∷ b) → run outer a (within s) ≡ after (ends d t) (run outer b) (t ∷ b)
  hosted h [] s d t b e = let never : ⊥ = cc in absurd never
  hosted h (c ∷ a) s d t b e = ap (λ v. after v (run outer a) (c ∷ a)) (h c s) ∙ hosted_after c a d t b (λ s' q. hosted h a s' d t b q) (step c s) e
