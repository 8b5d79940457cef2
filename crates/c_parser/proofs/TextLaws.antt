-- A list stops at one place at most, and not if a unit has it.
use Rattle.std.proofs.Common.{◌≡◌, ℕ, List, [], ◌∷◌, ◌++◌, sym, ap, ◌∙◌, subst, inl, inr, append_assoc, append-nil}
use Rattle.c_tree.specs.declared.declarations.Unit.{Unit as Unit'}
use Rattle.parse_terms.specs.declared.terminal.Terminal.{Terminal}
use Rattle.parse_item.specs.ItemGrammar.{IsUnit}
use Rattle.c_parser.specs.Texts.{Begins, StopsBefore, Stops}

-- what begins a unit's tokens begins with what does
begins_front : (a b : List Terminal) → Begins (a ++ b) → Begins a
begins_front a b h = record { unit = h.unit; rest = b ++ h.rest; reads = subst (IsUnit h.unit) (append_assoc a b h.rest) h.reads }

unit_begins : (a : List Terminal) (u : Unit') → IsUnit u a → Begins a
unit_begins a u d = record { unit = u; rest = []; reads = subst (IsUnit u) (sym (append-nil a)) d }

with_first : (before : List Terminal) (first : Terminal) (after : List Terminal) → before ++ first ∷ after ≡ (before ++ first ∷ []) ++ after
with_first before first after = sym (append_assoc before (first ∷ []) after)

stopped_begins_none : (a : List Terminal) (at : ℕ) → StopsBefore a at → Begins a → ⊥
stopped_begins_none a at x h = x.stops (begins_front (x.before ++ x.first ∷ []) x.after (subst Begins (x.is ∙ with_first x.before x.first x.after) h))

pub stopped_none : (a : List Terminal) (at : ℕ) (u : Unit') → Stops a at → IsUnit u a → ⊥
stopped_none a at u (inl x) d = stopped_begins_none a at x (unit_begins a u d)
stopped_none a at u (inr x) d = x.unfinished u d

-- two ways to take a list apart at a token
data Apart (a c : List Terminal) (x y : Terminal) : Type 0 where
  alike : x ≡ y → Apart a c x y
  sooner : (e : List Terminal) → c ≡ (a ++ x ∷ []) ++ e → Apart a c x y
  later : (e : List Terminal) → a ≡ (c ++ y ∷ []) ++ e → Apart a c x y

apart_behind : (k : Terminal) (a c : List Terminal) (x y : Terminal) → Apart a c x y → Apart (k ∷ a) (k ∷ c) x y
apart_behind k a c x y (alike e) = alike e
apart_behind k a c x y (sooner e q) = sooner e (ap (λ l. k ∷ l) q)
apart_behind k a c x y (later e q) = later e (ap (λ l. k ∷ l) q)

apart : (a c : List Terminal) (x y : Terminal) (b d : List Terminal) → a ++ x ∷ b ≡ c ++ y ∷ d → Apart a c x y
apart [] [] x y b d q = alike (cc)
apart [] (k ∷ c) x y b d q = let e : k ∷ c ≡ x ∷ c = cc in sooner c e
apart (k ∷ a) [] x y b d q = let e : k ∷ a ≡ y ∷ a = cc in later a e
apart (k ∷ a) (l ∷ c) x y b d q =
    let e : k ≡ l = cc in
    let r : a ++ x ∷ b ≡ c ++ y ∷ d = cc in
    subst (λ l. Apart (k ∷ a) (l ∷ c) x y) e (apart_behind k a c x y (apart a c x y b d r))

stops_alike : (a : List Terminal) (m n : ℕ) (p : StopsBefore a m) (q : StopsBefore a n) → Apart p.before q.before p.first q.first → m ≡ n
stops_alike a m n p q (alike e) = p.place ∙ ap (λ (t : Terminal). t.span.start) e ∙ sym q.place
stops_alike a m n p q (sooner e r) = absurd (p.stops (begins_front (p.before ++ p.first ∷ []) e (subst Begins r q.begins)))
stops_alike a m n p q (later e r) = absurd (q.stops (begins_front (q.before ++ q.first ∷ []) e (subst Begins r p.begins)))

pub stops_once : (a : List Terminal) (m n : ℕ) → Stops a m → Stops a n → m ≡ n
stops_once a m n (inl p) (inl q) = stops_alike a m n p q (apart p.before q.before p.first q.first p.after q.after (sym p.is ∙ q.is))
stops_once a m n (inl p) (inr q) = absurd (stopped_begins_none a m p q.begins)
stops_once a m n (inr p) (inl q) = absurd (stopped_begins_none a n q p.begins)
stops_once a m n (inr p) (inr q) = p.place ∙ sym q.place
