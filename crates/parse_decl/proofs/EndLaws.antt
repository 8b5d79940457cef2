-- How parts are brought to their ends.
use Rattle.std.proofs.Common.{◌≡◌, List, [], ◌∷◌, ◌++◌, append_assoc, ap, ◌∙◌}
use Rattle.c_types.specs.declared.types.Span.{Span}
use Rattle.c_tree.specs.declared.expressions.TypeName.{TypeName}
use Rattle.parse_terms.specs.declared.terminal.Terminal.{Terminal}
use Rattle.parse_terms.specs.declared.answer.Answer.{Answer}
use Rattle.parse_terms.specs.declared.answer.Answer.TheVariants.{More, Done, Bad}
use Rattle.parse_terms.specs.declared.types.TypeState.{TypeState}
use Rattle.parse_terms.specs.Runs.{Finished, after, run}
use Rattle.parse_terms.specs.TypeNames.{type_step, Stops}
use Rattle.parse_terms.proofs.RunLaws.{lifted, hosted}
use Rattle.parse_terms.proofs.TypeLaws.{type_completes}
use Rattle.parse_decl.specs.Ends.{CanEnd}

abbrev pub somewhere : Span
somewhere = record { start = 0; end = 0 }

-- what ends a part before t alone ends it whatever follows
before_more : {S D : Type 0} (step : Terminal → S → Answer S D) (u : Terminal) (cs : List Terminal) (t : Terminal) (d : D) (b : List Terminal) →
    ((s : S) → run step (cs ++ t ∷ []) s ≡ Finished d (t ∷ []) → run step (cs ++ t ∷ b) s ≡ Finished d (t ∷ b)) → (v : Answer S D) →
    after v (run step (cs ++ t ∷ [])) (u ∷ (cs ++ t ∷ [])) ≡ Finished d (t ∷ []) → after v (run step (cs ++ t ∷ b)) (u ∷ (cs ++ t ∷ b)) ≡ Finished d (t ∷ b)
before_more step u cs t d b more (More s) e = more s e
before_more step u [] t d b more (Done d') e = let never : ⊥ = cc in absurd never
before_more step u (c ∷ cs) t d b more (Done d') e = let never : ⊥ = cc in absurd never
before_more step u cs t d b more Bad e = let never : ⊥ = cc in absurd never

before_now : {S D : Type 0} (step : Terminal → S → Answer S D) (t : Terminal) (d : D) (b : List Terminal) (v : Answer S D) →
    after v (run step []) (t ∷ []) ≡ Finished d (t ∷ []) → after v (run step b) (t ∷ b) ≡ Finished d (t ∷ b)
before_now step t d b (More s) e = let never : ⊥ = cc in absurd never
before_now step t d b (Done d') e = let q : d' ≡ d = cc in ap (λ x. Finished x (t ∷ b)) q
before_now step t d b Bad e = let never : ⊥ = cc in absurd never

pub ended_before : {S D : Type 0} (step : Terminal → S → Answer S D) (cs : List Terminal) (st : S) (t : Terminal) (d : D) → run step (cs ++ t ∷ []) st ≡ Finished d (t ∷ []) →
    (b : List Terminal) → run step (cs ++ t ∷ b) st ≡ Finished d (t ∷ b)
ended_before step [] st t d e b = before_now step t d b (step t st) e
ended_before step (u ∷ cs) st t d e b = before_more step u cs t d b (λ s q. ended_before step cs s t d q b) (step u st) e

-- the token at hand ends the part
pub ends_now : {S D : Type 0} (step : Terminal → S → Answer S D) (st : S) (t : Terminal) (d : D) → step t st ≡ Done d → CanEnd S D step st t
ends_now step st t d e = record { tokens = []; part_of = d; is = λ b. ap (λ v. after v (run step b) (t ∷ b)) e }

-- a token first
pub ends_after : {S D : Type 0} (step : Terminal → S → Answer S D) (u : Terminal) (st st' : S) (t : Terminal) → step u st ≡ More st' → CanEnd S D step st' t → CanEnd S D step st t
ends_after step u st st' t e c = record {
  tokens = u ∷ c.tokens;
  part_of = c.part_of;
  is = λ b. ap (λ v. after v (run step (c.tokens ++ t ∷ b)) (u ∷ (c.tokens ++ t ∷ b))) e ∙ c.is b;
}

-- a part inside another: it ends before u, and the outer one goes on from there
pub ends_hosted : {S D S' D' : Type 0} (step : Terminal → S → Answer S D) (outer : Terminal → S' → Answer S' D') (within : S → S') (ends : D → Terminal → Answer S' D') →
    ((k : Terminal) (s : S) → outer k (within s) ≡ lifted step outer within ends k (step k s)) → (st : S) (u t : Terminal) (c : CanEnd S D step st u) → (st' : S') → ends c.part_of u ≡ More st' →
    CanEnd S' D' outer st' t → CanEnd S' D' outer (within st) t
ends_hosted step outer within ends h st u t c st' e d = record {
  tokens = c.tokens ++ u ∷ d.tokens;
  part_of = d.part_of;
  is = λ b. ap (λ l. run outer l (within st)) (append_assoc c.tokens (u ∷ d.tokens) (t ∷ b))
      ∙ hosted step outer within ends h (c.tokens ++ u ∷ (d.tokens ++ t ∷ b)) st c.part_of u (d.tokens ++ t ∷ b) (c.is (d.tokens ++ t ∷ b))
      ∙ ap (λ v. after v (run outer (d.tokens ++ t ∷ b)) (u ∷ (d.tokens ++ t ∷ b))) e
      ∙ d.is b;
}

-- a part inside another, whose end is the outer one's too
pub ends_with : {S D S' D' : Type 0} (step : Terminal → S → Answer S D) (outer : Terminal → S' → Answer S' D') (within : S → S') (ends : D → Terminal → Answer S' D') →
    ((k : Terminal) (s : S) → outer k (within s) ≡ lifted step outer within ends k (step k s)) → (st : S) (t : Terminal) (c : CanEnd S D step st t) → (d : D') → ends c.part_of t ≡ Done d →
    CanEnd S' D' outer (within st) t
ends_with step outer within ends h st t c d e = record {
  tokens = c.tokens;
  part_of = d;
  is = λ b. hosted step outer within ends h (c.tokens ++ t ∷ b) st c.part_of t b (c.is b) ∙ ap (λ v. after v (run outer b) (t ∷ b)) e;
}

pub type_ends : (x : TypeState) (t : Terminal) → Stops t.sort → CanEnd TypeState TypeName type_step x t
type_ends x t h = let c = type_completes x in record { tokens = c.tokens; part_of = c.part t h; is = λ b. c.is t h b }
