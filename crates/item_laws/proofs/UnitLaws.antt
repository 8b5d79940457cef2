-- Whole runs of the machine of units, from the laws of bodies.
use Rattle.std.proofs.Common.{◌≡◌, ℕ, ◌+◌, ◌≤◌, ◌<◌, max, Bool, true, false, cond, List, [], ◌∷◌, ◌++◌, Option, Some, None, nat_le, refl, sym, ap, ◌∙◌, subst, arith}
use Rattle.std.proofs.lemmas.Bool.{le-leb}
use Rattle.c_types.specs.declared.types.Span.{Span}
use Rattle.c_tree.specs.declared.statements.BlockItem.{BlockItem}
use Rattle.c_tree.specs.declared.declarations.Unit.{Unit as Unit'}
use Rattle.c_tree.specs.Height.{unit_height}
use Rattle.c_lex.specs.declared.marks.Mark.TheVariants as m
use Rattle.parse_terms.specs.declared.answer.Answer.{Answer}
use Rattle.parse_terms.specs.declared.answer.Answer.TheVariants.{More, Done, Bad}
use Rattle.parse_terms.specs.declared.terminal.Terminal.{Terminal}
use Rattle.parse_terms.specs.Terminals.{mark}
use Rattle.parse_terms.specs.Runs.{Outcome, Ended, Finished, Failed, after, run, Came, begun, taken}
use Rattle.parse_decl.specs.Ends.{CanEnd}
use Rattle.parse_stmt.specs.declared.state.BodyState.{BodyState}
use Rattle.parse_stmt.specs.declared.parts.Capped.{Capped}
use Rattle.parse_stmt.specs.declared.parts.Capped.TheVariants.{Built, Deep}
use Rattle.parse_stmt.specs.StmtGrammar.{IsBlockItems}
use Rattle.parse_stmt.specs.StmtParts.{Body, cap_body}
use Rattle.parse_stmt.specs.StmtMachine.{body_start}
use Rattle.parse_item.specs.BodyAnswers.{body_answer}
use Rattle.stmt_laws.specs.Bodies.{IsBodyRead}
use Rattle.parse_item.specs.declared.units.UnitState.{UnitState}
use Rattle.parse_item.specs.ItemGrammar.{IsUnit}
use Rattle.parse_item.specs.ItemParts.{UnitPart, cap_unit}
use Rattle.parse_item.specs.UnitMachine.{unit_start, unit_step, unit_finish}
use Rattle.item_laws.specs.Units.{RunsTo, IsUnitRead, CanFinish}
use Rattle.item_laws.proofs.UnitComplete.{unit_complete}
use Rattle.item_laws.proofs.UnitSound.{unit_sound}
use Rattle.item_laws.proofs.UnitViable.{unit_completes}

-- ---- runs of any machine

came_after : {S D : Type 0} (step : Terminal → S → Answer S D) {z : S} {l : List Terminal} (t : Terminal) (a : List Terminal) (s e : S) → Came step z l s (t ∷ a) →
    ((s' : S) → Came step z l s' a → run step a s' ≡ Ended e → Came step z l e []) → (v : Answer S D) → step t s ≡ v → after v (run step a) (t ∷ a) ≡ Ended e → Came step z l e []
came_after step t a s e c more (More s') q r = more s' (taken c q) r
came_after step t a s e c more (Done d) q r = let never : ⊥ = cc in absurd never
came_after step t a s e c more Bad q r = let never : ⊥ = cc in absurd never

-- a run that ends in a state comes to it
pub came_of : {S D : Type 0} (step : Terminal → S → Answer S D) {z : S} {l : List Terminal} (a : List Terminal) (s e : S) → Came step z l s a → run step a s ≡ Ended e → Came step z l e []
came_of step {z} {l} [] s e c r = let q : s ≡ e = cc in subst (λ x. Came step z l x []) q c
came_of step (t ∷ a) s e c r = came_after step t a s e c (λ s' d q. came_of step a s' e d q) (step t s) refl r

ended_after : {S D : Type 0} (step : Terminal → S → Answer S D) (t : Terminal) (a b : List Terminal) (e : S) → ((s : S) → run step a s ≡ Ended e → run step (a ++ b) s ≡ run step b e) → (v : Answer S D) →
    after v (run step a) (t ∷ a) ≡ Ended e → after v (run step (a ++ b)) (t ∷ (a ++ b)) ≡ run step b e
ended_after step t a b e more (More s) r = more s r
ended_after step t a b e more (Done d) r = let never : ⊥ = cc in absurd never
ended_after step t a b e more Bad r = let never : ⊥ = cc in absurd never

-- a run goes on from where it ended
pub run_on : {S D : Type 0} (step : Terminal → S → Answer S D) (a b : List Terminal) (s e : S) → run step a s ≡ Ended e → run step (a ++ b) s ≡ run step b e
run_on step [] b s e r = let q : s ≡ e = cc in ap (run step b) q
run_on step (t ∷ a) b s e r = ended_after step t a b e (λ s' q. run_on step a b s' e q) (step t s) r

abbrev IsOver : {S D : Type 0} → Outcome S D → Type 0
IsOver (Ended s) = ⊥
IsOver o = Unit {0}

pub record BodyLaws : Type 0 where
  pub complete : (n : ℕ) → 1 ≤ n → (xs : List BlockItem) (s : Span) (a b : List Terminal) → IsBlockItems xs a (mark m.CloseBrace s ∷ b) → run (body_answer n) a body_start ≡ Finished (cap_body n xs) (mark m.CloseBrace s ∷ b)
  pub sound : (n : ℕ) → 1 ≤ n → (st : BodyState) (p : Body) (t : Terminal) (z a : List Terminal) → Came (body_answer n) body_start z st (t ∷ a) → body_answer n t st ≡ Done p → IsBodyRead n p z t a
  pub ends : (n : ℕ) → 1 ≤ n → (z : List Terminal) (st : BodyState) → Came (body_answer n) body_start z st [] → (s : Span) → CanEnd BodyState Body (body_answer n) st (mark m.CloseBrace s)

module _ (bodies : BodyLaws) where
  pub reads_complete : (n : ℕ) → 4 ≤ n → (u : Unit') (a : List Terminal) → IsUnit u a → RunsTo n unit_start a (cap_unit n u)
  reads_complete n low u a d = unit_complete n low (bodies.complete n (omega arith)) d

  pub reads_sound : (n : ℕ) → 4 ≤ n → (st : UnitState) (p : UnitPart) (a : List Terminal) → Came (unit_step n) unit_start a st [] → unit_finish n st ≡ Some p → IsUnitRead n p a
  reads_sound n low st p a c e = unit_sound n low (bodies.sound n (omega arith)) a st p c e

  pub reads_on : (n : ℕ) → 4 ≤ n → (st : UnitState) (a : List Terminal) → Came (unit_step n) unit_start a st [] → CanFinish n st
  reads_on n low st a c = unit_completes n low (bodies.sound n (omega arith)) (bodies.ends n (omega arith)) a st c

  -- a list has at most one unit
  same_part : {n : ℕ} {st : UnitState} {a : List Terminal} {p q : UnitPart} → RunsTo n st a p → RunsTo n st a q → p ≡ q
  same_part {n} {st} {a} {p} {q} x y =
      let e : Ended x.last ≡ Ended y.last = sym x.runs ∙ y.runs in
      let l : x.last ≡ y.last = cc in
      let f : Some p ≡ Some q = sym x.finishes ∙ ap (unit_finish n) l ∙ y.finishes in
      cc

  high_cap : (n : ℕ) (u : Unit') → unit_height u ≤ n → cap_unit n u ≡ Built u (unit_height u)
  high_cap n u h = ap (λ v. cond v (Built u (unit_height u)) Deep) (le-leb (unit_height u) n h)

  pub same_unit : (u v : Unit') (a : List Terminal) → IsUnit u a → IsUnit v a → u ≡ v
  same_unit u v a d e =
      let n : ℕ = max 4 (max (unit_height u) (unit_height v)) in
      let p : cap_unit n u ≡ cap_unit n v = same_part (reads_complete n (omega arith) u a d) (reads_complete n (omega arith) v a e) in
      let q : Built u (unit_height u) ≡ Built v (unit_height v) = sym (high_cap n u (omega arith)) ∙ p ∙ high_cap n v (omega arith) in
      cc
