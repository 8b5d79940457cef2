-- What a reading answers is what the grammar says of the tokens, for any machine with the laws.
use Rattle.std.proofs.Common.{◌≡◌, ◌≢◌, ℕ, ◌≤◌, ◌<◌, Bool, true, false, cond, List, [], ◌∷◌, ◌++◌, Option, Some, None, Ok, Err, nat_le, refl, sym, ap, ◌∙◌, subst, inl, inr, append_assoc, arith}
use Rattle.std.proofs.lemmas.Bool.{leb-true, leb-false, le-leb}
use Rattle.c_tree.specs.declared.declarations.Unit.{Unit as Unit'}
use Rattle.c_tree.specs.Height.{unit_height}
use Rattle.parse_terms.specs.declared.answer.Answer.{Answer}
use Rattle.parse_terms.specs.declared.answer.Answer.TheVariants.{More, Done, Bad}
use Rattle.parse_terms.specs.declared.terminal.Terminal.{Terminal}
use Rattle.parse_terms.specs.Runs.{Ended, after, run, begun}
use Rattle.parse_stmt.specs.declared.parts.Capped.TheVariants.{Built, Deep}
use Rattle.parse_item.specs.ItemGrammar.{IsUnit}
use Rattle.parse_item.specs.ItemParts.{UnitPart, cap_unit}
use Rattle.item_laws.specs.Units.{IsUnitRead}
use Rattle.item_laws.proofs.UnitLaws.{came_of, run_on}
use Rattle.c_parser.specs.declared.refusals.ParseRefusal.TheVariants.{Syntax, TooDeep, NoMemory}
use Rattle.c_parser.specs.Texts.{Begins, end_after, last_end, Stops, IsTooHigh}
use Rattle.c_parser.specs.Readings.{Answered, answer_at_end, answer_behind, reading}
use Rattle.c_parser.proofs.TextLaws.{stopped_none, stops_once}
use Rattle.c_parser.proofs.MachineLaws.{Laws}

-- ---- parts that are given up

capped_tree : (u v : Unit') (h k : ℕ) (b : Bool) → Built u h ≡ cond b (Built v k) Deep → u ≡ v
capped_tree u v h k true e = cc
capped_tree u v h k false e = cc

capped_low : (u v : Unit') (h k : ℕ) (b : Bool) → Built u h ≡ cond b (Built v k) Deep → b ≡ true
capped_low u v h k true e = refl
capped_low u v h k false e = cc

capped_high : (v : Unit') (k : ℕ) (b : Bool) → Deep ≡ cond b (Built v k) Deep → b ≡ false
capped_high v k true e = cc
capped_high v k false e = refl

low_part : (n : ℕ) (u : Unit') → unit_height u ≤ n → cap_unit n u ≡ Built u (unit_height u)
low_part n u h = ap (λ v. cond v (Built u (unit_height u)) Deep) (le-leb (unit_height u) n h)

not_low : (a n : ℕ) → n < a → (b : Bool) → nat_le a n ≡ b → b ≡ false
not_low a n h true e = let low : a ≤ n = leb-true a n e in absurd (omega arith)
not_low a n h false e = refl

high_part : (n : ℕ) (u : Unit') → n < unit_height u → cap_unit n u ≡ Deep
high_part n u h = ap (λ v. cond v (Built u (unit_height u)) Deep) (not_low (unit_height u) n h (nat_le (unit_height u) n) refl)

-- ---- answers at the end

record OfUnit (u : Unit') (p : Option UnitPart) : Type 0 where
  height : ℕ
  is : p ≡ Some (Built u height)

end_unit : (at : ℕ) (p : Option UnitPart) (u : Unit') → answer_at_end at p ≡ Ok u → OfUnit u p
end_unit at None u e = let never : ⊥ = cc in absurd never
end_unit at (Some (Built v h)) u e = let q : v ≡ u = cc in record { height = h; is = ap (λ w. Some (Built w h)) q }
end_unit at (Some Deep) u e = let never : ⊥ = cc in absurd never

end_deep : (at : ℕ) (p : Option UnitPart) → answer_at_end at p ≡ Err TooDeep → p ≡ Some Deep
end_deep at None e = cc
end_deep at (Some (Built v h)) e = cc
end_deep at (Some Deep) e = refl

end_none : (at m : ℕ) (p : Option UnitPart) → answer_at_end at p ≡ Err (Syntax m) → p ≡ None
end_none at m None e = refl
end_none at m (Some (Built v h)) e = cc
end_none at m (Some Deep) e = cc

end_place : (at m : ℕ) (p : Option UnitPart) → answer_at_end at p ≡ Err (Syntax m) → m ≡ at
end_place at m None e = cc
end_place at m (Some (Built v h)) e = cc
end_place at m (Some Deep) e = cc

end_memory : (at : ℕ) (p : Option UnitPart) → answer_at_end at p ≢ Err NoMemory
end_memory at None e = cc
end_memory at (Some (Built v h)) e = cc
end_memory at (Some Deep) e = cc

-- ---- readings of any machine

module _ {S : Type 0} (step : Terminal → S → Answer S UnitPart) (finish : S → Option UnitPart) where
  -- the token isn't taken
  abbrev pub IsOver : Answer S UnitPart → Type 0
  IsOver (More s) = ⊥
  IsOver (Done d) = Unit {0}
  IsOver Bad = Unit {0}

  -- the list was read to its end, or up to a token that isn't taken
  pub data Read (s : S) (at : ℕ) (a : List Terminal) (r : Answered) : Type 0 where
    ran : (last : S) → run step a s ≡ Ended last → r ≡ answer_at_end (end_after at a) (finish last) → Read s at a r
    halted : (before rest : List Terminal) (first : Terminal) (st : S) → a ≡ before ++ first ∷ rest → run step before s ≡ Ended st → IsOver (step first st) → r ≡ Err (Syntax first.span.start) → Read s at a r

  read_behind : (t : Terminal) (a : List Terminal) (at : ℕ) (s s' : S) (r : Answered) → step t s ≡ More s' → Read s' t.span.«end» a r → Read s at (t ∷ a) r
  read_behind t a at s s' r q (ran last e f) = ran last (ap (λ v. after v (run step a) (t ∷ a)) q ∙ e) f
  read_behind t a at s s' r q (halted before rest first st i e o f) =
      halted (t ∷ before) rest first st (ap (λ l. t ∷ l) i) (ap (λ v. after v (run step before) (t ∷ before)) q ∙ e) o f

  read_next : (t : Terminal) (a : List Terminal) (at : ℕ) (s : S) → ((s' : S) → Read s' t.span.«end» a (reading step finish t.span.«end» a s')) → (v : Answer S UnitPart) → step t s ≡ v →
      Read s at (t ∷ a) (answer_behind t.span.start (reading step finish t.span.«end» a) v)
  read_next t a at s more (More s') q = read_behind t a at s s' (reading step finish t.span.«end» a s') q (more s')
  read_next t a at s more (Done d) q = halted [] a t s refl refl (subst IsOver (sym q) tt) refl
  read_next t a at s more Bad q = halted [] a t s refl refl (subst IsOver (sym q) tt) refl

  pub reads : (a : List Terminal) (at : ℕ) (s : S) → Read s at a (reading step finish at a s)
  reads [] at s = ran s refl refl
  reads (t ∷ a) at s = read_next t a at s (λ s'. reads a t.span.«end» s') (step t s) refl

  over_ends : (t : Terminal) (a : List Terminal) (last : S) (v : Answer S UnitPart) → IsOver v → after v (run step a) (t ∷ a) ≡ Ended last → ⊥
  over_ends t a last (More s) o e = o
  over_ends t a last (Done d) o e = cc
  over_ends t a last Bad o e = cc

  -- ---- a machine with the laws

  module _ (n : ℕ) (start : S) (laws : Laws n step finish start) where
    -- a unit is read to its end
    at_end : (u : Unit') (a : List Terminal) (last : S) → IsUnit u a → run step a start ≡ Ended last → finish last ≡ Some (cap_unit n u)
    at_end u a last d e =
        let x = laws.complete u a d in
        let q : Ended last ≡ Ended x.last = sym e ∙ x.runs in
        let l : last ≡ x.last = cc in
        ap finish l ∙ x.finishes

    -- and not where a token isn't taken
    no_unit_on : (u : Unit') (b : List Terminal) (t : Terminal) (a : List Terminal) (st : S) → run step b start ≡ Ended st → IsOver (step t st) → IsUnit u (b ++ t ∷ a) → ⊥
    no_unit_on u b t a st e o d =
        let x = laws.complete u (b ++ t ∷ a) d in
        over_ends t a x.last (step t st) o (sym (run_on step b (t ∷ a) start st e) ∙ x.runs)

    begins : (a : List Terminal) (st : S) → run step a start ≡ Ended st → Begins a
    begins a st e =
        let x = laws.closes st a (came_of step a start st begun e) in
        let runs : run step (a ++ x.tokens) start ≡ Ended x.reads.last = run_on step a x.tokens start st e ∙ x.reads.runs in
        let y = laws.sound x.reads.last x.part (a ++ x.tokens) (came_of step (a ++ x.tokens) start x.reads.last begun runs) x.reads.finishes in
        record { unit = y.tree; rest = x.tokens; reads = y.reads }

    begins_none : (before : List Terminal) (first : Terminal) (st : S) → run step before start ≡ Ended st → IsOver (step first st) → Begins (before ++ first ∷ []) → ⊥
    begins_none before first st e o h =
        no_unit_on h.unit before first h.rest st e o (subst (IsUnit h.unit) (append_assoc before (first ∷ []) h.rest) h.reads)

    read_unit : (p : UnitPart) (a : List Terminal) (last : S) → run step a start ≡ Ended last → finish last ≡ Some p → IsUnitRead n p a
    read_unit p a last e f = laws.sound last p a (came_of step a start last begun e) f

    -- ---- what is answered

    record Answers (u : Unit') (r : Answered) : Type 0 where
      place : ℕ
      is : r ≡ answer_at_end place (Some (cap_unit n u))

    answers : (a : List Terminal) (at : ℕ) (u : Unit') (r : Answered) → IsUnit u a → Read start at a r → Answers u r
    answers a at u r d (ran last e f) = record { place = end_after at a; is = f ∙ ap (answer_at_end (end_after at a)) (at_end u a last d e) }
    answers a at u r d (halted before rest first st i e o f) = absurd (no_unit_on u before first rest st e o (subst (IsUnit u) i d))

    pub gives_low : (a : List Terminal) (at : ℕ) (u : Unit') (r : Answered) → Read start at a r → IsUnit u a → unit_height u ≤ n → r ≡ Ok u
    gives_low a at u r x d h = let y = answers a at u r d x in y.is ∙ ap (λ p. answer_at_end y.place (Some p)) (low_part n u h)

    pub gives_high : (a : List Terminal) (at : ℕ) (u : Unit') (r : Answered) → Read start at a r → IsUnit u a → n < unit_height u → r ≡ Err TooDeep
    gives_high a at u r x d h = let y = answers a at u r d x in y.is ∙ ap (λ p. answer_at_end y.place (Some p)) (high_part n u h)

    pub was_unit : (a : List Terminal) (at : ℕ) (u : Unit') (r : Answered) → Read start at a r → r ≡ Ok u → IsUnit u a × (unit_height u ≤ n)
    was_unit a at u r (ran last e f) g =
        let x = end_unit (end_after at a) (finish last) u (sym f ∙ g) in
        let y = read_unit (Built u x.height) a last e x.is in
        let q : u ≡ y.tree = capped_tree u y.tree x.height (unit_height y.tree) (nat_le (unit_height y.tree) n) y.is in
        let low : unit_height y.tree ≤ n = leb-true (unit_height y.tree) n (capped_low u y.tree x.height (unit_height y.tree) (nat_le (unit_height y.tree) n) y.is) in
        subst (λ v. IsUnit v a × (unit_height v ≤ n)) (sym q) (y.reads, low)
    was_unit a at u r (halted before rest first st i e o f) g = let never : ⊥ = cc in absurd never

    pub was_high : (a : List Terminal) (at : ℕ) (r : Answered) → Read start at a r → r ≡ Err TooDeep → IsTooHigh n a
    was_high a at r (ran last e f) g =
        let y = read_unit Deep a last e (end_deep (end_after at a) (finish last) (sym f ∙ g)) in
        record { unit = y.tree; reads = y.reads; high = leb-false (unit_height y.tree) n (capped_high y.tree (unit_height y.tree) (nat_le (unit_height y.tree) n) y.is) }
    was_high a at r (halted before rest first st i e o f) g = let never : ⊥ = cc in absurd never

    unfinished : (a : List Terminal) (last : S) (u : Unit') → run step a start ≡ Ended last → finish last ≡ None → IsUnit u a → ⊥
    unfinished a last u e f d = let q : ◌≡◌ {A = Option UnitPart} None (Some (cap_unit n u)) = sym f ∙ at_end u a last d e in cc

    pub was_none : (a : List Terminal) (m : ℕ) (r : Answered) → Read start 0 a r → r ≡ Err (Syntax m) → Stops a m
    was_none a m r (ran last e f) g = inr (record {
      begins = begins a last e;
      unfinished = λ u d. unfinished a last u e (end_none (last_end a) m (finish last) (sym f ∙ g)) d;
      place = end_place (last_end a) m (finish last) (sym f ∙ g);
    })
    was_none a m r (halted before rest first st i e o f) g = inl (record {
      before = before;
      first = first;
      after = rest;
      is = i;
      begins = begins before st e;
      stops = λ h. begins_none before first st e o h;
      place = (let q : Err (Syntax first.span.start) ≡ Err (Syntax m) = sym f ∙ g in cc);
    })

    pub not_memory : (a : List Terminal) (at : ℕ) (r : Answered) → Read start at a r → r ≢ Err NoMemory
    not_memory a at r (ran last e f) g = end_memory (end_after at a) (finish last) (sym f ∙ g)
    not_memory a at r (halted before rest first st i e o f) g = cc

    pub gives_stop : (a : List Terminal) (m : ℕ) (r : Answered) → Read start 0 a r → Stops a m → r ≡ Err (Syntax m)
    gives_stop a m (Ok u) x h = absurd (stopped_none a m u h (was_unit a 0 u (Ok u) x refl).0)
    gives_stop a m (Err TooDeep) x h = let y = was_high a 0 (Err TooDeep) x refl in absurd (stopped_none a m y.unit h y.reads)
    gives_stop a m (Err NoMemory) x h = absurd (not_memory a 0 (Err NoMemory) x refl)
    gives_stop a m (Err (Syntax k)) x h = ap (λ (i : ℕ). Err (Syntax i)) (stops_once a k m (was_none a k (Err (Syntax k)) x refl) h)
