-- Where ranges are in order, the last one with bytes tells what all before it do.
use Rattle.std.proofs.Common.{◌≡◌, ℕ, ◌-◌, ◌/◌, ◌≤◌, Bool, true, false, not, ◌||◌, ◌⊎◌, eqb, ltb, List, [], ◌∷◌, Some, None, length, drop, refl, sym, ap, subst, ◌∙◌, arith, inl, inr, Option}
use Rattle.std.specs.List.{list_any}
use Rattle.std.proofs.lemmas.Bool.{cases_Bool, and_parts, and_from, and_left, and_right, or_cases, or_left, or_right, not_from_false, ltb-true, leb-true, le-leb, eqb-true, cond-true, cond-false}
use Rattle.std.proofs.lemmas.List.{at_drop_all}
use Rattle.chpe_types.specs.declared.image.CodeRange.{CodeRange}
use Rattle.chpe_types.specs.declared.image.Meta.{Meta}
use Rattle.chpe_types.specs.Looks.{each_follows, all_neighbours, range_end, ends_by, valid_meta_of}
use Rattle.pe_fields.specs.Hybrid.{shares_page, any_pair}
use Rattle.pe_fields.specs.Stages.{shares_with, walk}

off_on : false ≡ true → ⊥
off_on e = cc

or_again : (x y z : Bool) → ((x || y) || z) ≡ (x || (y || z))
or_again true y z = refl
or_again false y z = refl

-- an empty range shares no page
from_empty : (r s : CodeRange) → ltb r.start (range_end r) ≡ false → shares_page r s ≡ false
from_empty r s f = and_right (not (eqb r.kind s.kind)) _ (and_left (ltb r.start (range_end r)) _ f)

to_empty : (r s : CodeRange) → ltb s.start (range_end s) ≡ false → shares_page r s ≡ false
to_empty r s f = and_right (not (eqb r.kind s.kind)) _ (and_right (ltb r.start (range_end r)) _ (and_left (ltb s.start (range_end s)) _ f))

none_from : (r : CodeRange) (rs : List CodeRange) → ltb r.start (range_end r) ≡ false → list_any (shares_page r) rs ≡ false
none_from r [] f = refl
none_from r (s ∷ rs) f = rw (from_empty r s f, none_from r rs f) refl

-- r has bytes and ends by the start of s, which has bytes: what shares a page with an earlier range
-- does so with r, or r does
passed_on : (before r t : CodeRange) → ltb r.start (range_end r) ≡ true → range_end before ≤ r.start → r.start ≤ t.start → shares_page before t ≡ true → (shares_page before r ≡ true) ⊎ (shares_page r t ≡ true)
passed_on before r t some order up h =
    let p = and_parts (not (eqb before.kind t.kind)) _ h in
    let q = and_parts (ltb before.start (range_end before)) _ p.1 in
    let u = and_parts (ltb t.start (range_end t)) _ q.1 in
    let page : t.start / 4096 ≤ (range_end before - 1) / 4096 = leb-true _ _ u.1 in
    elim (cases_Bool (eqb before.kind r.kind)) [
      | inl same ↦ inr (and_from (not (eqb r.kind t.kind)) _ (subst (λ (k : ℕ). not (eqb k t.kind) ≡ true) (eqb-true before.kind r.kind same) p.0)
          (and_from (ltb r.start (range_end r)) _ some (and_from (ltb t.start (range_end t)) _ u.0 (le-leb _ _ (omega (arith, ltb-true r.start (range_end r) some))))))
      | inr other ↦ inl (and_from (not (eqb before.kind r.kind)) _ (not_from_false _ other)
          (and_from (ltb before.start (range_end before)) _ q.0 (and_from (ltb r.start (range_end r)) _ some (le-leb _ _ (omega arith)))))
    ]

-- the same of a list of ranges that start no earlier than r
passed_on_all : (before r s : CodeRange) (rs : List CodeRange) → ltb r.start (range_end r) ≡ true → range_end before ≤ r.start → r.start ≤ range_end s → each_follows ends_by s rs ≡ true → list_any (shares_page before) rs ≡ true → (shares_page before r ≡ true) ⊎ (list_any (shares_page r) rs ≡ true)
passed_on_all before r s [] some order up v h = absurd (off_on h)
passed_on_all before r s (t ∷ rs) some order up v h =
    let p = and_parts (ends_by s t) (each_follows ends_by t rs) v in
    let starts : r.start ≤ t.start = omega (arith, leb-true (range_end s) t.start p.0) in
    elim (or_cases (shares_page before t) (list_any (shares_page before) rs) h) [
      | inl here ↦ elim (passed_on before r t some order starts here) [ inl x ↦ inl x | inr y ↦ inr (or_left (shares_page r t) (list_any (shares_page r) rs) y) ]
      | inr there ↦ elim (passed_on_all before r t rs some order (omega arith) p.1 there) [ inl x ↦ inl x | inr y ↦ inr (or_right (shares_page r t) (list_any (shares_page r) rs) y) ]
    ]

-- of a range before r, what it shares with later ones is told by r
told : (here later mine rest : Bool) → (later ≡ true → (here ≡ true) ⊎ (mine ≡ true)) → (here || (mine || rest)) ≡ ((here || later) || (mine || rest))
told true later mine rest h = refl
told false false mine rest h = refl
told false true mine rest h = elim (h refl) [ inl x ↦ absurd (off_on x) | inr y ↦ or_left mine rest y ]

-- r has no bytes
passed_by : (here later mine rest : Bool) → here ≡ false → mine ≡ false → (later || rest) ≡ ((here || later) || (mine || rest))
passed_by here later mine rest e f = rw (e, f) refl

from_last : (before s : CodeRange) (rs : List CodeRange) → range_end before ≤ range_end s → each_follows ends_by s rs ≡ true → walk (Some before) rs ≡ (list_any (shares_page before) rs || any_pair shares_page rs)
from_last before s [] le v = refl
from_last before s (r ∷ rs) le v =
    let p = and_parts (ends_by s r) (each_follows ends_by r rs) v in
    let order : range_end before ≤ r.start = omega (arith, leb-true (range_end s) r.start p.0) in
    elim (cases_Bool (ltb r.start (range_end r))) [
      | inl some ↦ cond-true _ _ _ some ∙ ap (λ (x : Bool). shares_page before r || x) (from_last r r rs (omega arith) p.1) ∙ told (shares_page before r) (list_any (shares_page before) rs) (list_any (shares_page r) rs) (any_pair shares_page rs) (λ h. passed_on_all before r r rs some order (omega arith) p.1 h)
      | inr none ↦ cond-false _ _ _ none ∙ from_last before r rs (omega arith) p.1 ∙ passed_by (shares_page before r) (list_any (shares_page before) rs) (list_any (shares_page r) rs) (any_pair shares_page rs) (to_empty before r none) (none_from r rs none)
    ]

rest_ordered : (r : CodeRange) (rs : List CodeRange) → each_follows ends_by r rs ≡ true → all_neighbours ends_by rs ≡ true
rest_ordered r [] v = refl
rest_ordered r (s ∷ rs) v = (and_parts (ends_by r s) (each_follows ends_by s rs) v).1

-- the walk tells it of ranges in order
pub walked : (rs : List CodeRange) → all_neighbours ends_by rs ≡ true → walk None rs ≡ any_pair shares_page rs
walked [] v = refl
walked (r ∷ rs) v =
    elim (cases_Bool (ltb r.start (range_end r))) [
      | inl some ↦ cond-true _ _ _ some ∙ from_last r r rs (omega arith) v
      | inr none ↦ cond-false _ _ _ none ∙ walked rs (rest_ordered r rs v) ∙ ap (λ (x : Bool). x || any_pair shares_page rs) (sym (none_from r rs none))
    ]

-- ---- the steps of the walk

pub walk_some : (found : Bool) (last : Option CodeRange) (r : CodeRange) (rs : List CodeRange) → ltb r.start (range_end r) ≡ true → ((found || shares_with last r) || walk (Some r) rs) ≡ (found || walk last (r ∷ rs))
walk_some found last r rs t = rw t (or_again found (shares_with last r) (walk (Some r) rs))

pub walk_none : (found : Bool) (last : Option CodeRange) (r : CodeRange) (rs : List CodeRange) → ltb r.start (range_end r) ≡ false → (found || walk last rs) ≡ (found || walk last (r ∷ rs))
walk_none found last r rs f = rw f refl

or_end : (b : Bool) → (b || false) ≡ b
or_end true = refl
or_end false = refl

pub walk_done : (found : Bool) (last : Option CodeRange) (rs : List CodeRange) (i : ℕ) → all_neighbours ends_by rs ≡ true → length rs ≤ i → (found || walk last (drop i rs)) ≡ walk None rs → found ≡ any_pair shares_page rs
walk_done found last rs i v le e = sym (or_end found) ∙ sym (at_drop_all (λ xs. found || walk last xs) rs i le) ∙ e ∙ walked rs v

-- ---- metadata whose tables are in order

pub in_order : (m : Meta) → valid_meta_of m ≡ true → all_neighbours ends_by m.ranges ≡ true
in_order m v = (and_parts _ _ (and_parts _ _ v).0).1
