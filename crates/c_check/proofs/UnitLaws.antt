-- Units in order, one more at a time, and what is missing of a program.
use Rattle.std.proofs.Common.{◌≡◌, ℕ, ◌+◌, ◌<◌, ◌≤◌, List, [], ◌∷◌, drop, length, get_or, Option, Some, Result, Ok, Err, refl, sym, ap, ◌∙◌, subst}
use Rattle.std.proofs.lemmas.List.{drop_all}
use Rattle.c_tree.specs.declared.declarations.Unit.{Unit as Unit'}
use Rattle.c_typing.specs.declared.faults.UnitFault.{UnitFault}
use Rattle.c_typing.specs.declared.faults.Refusal.{Refusal}
use Rattle.c_typing.specs.declared.faults.Refusal.TheVariants as refusal
use Rattle.c_typing.specs.declared.tables.Progress.{Progress}
use Rattle.c_typing.specs.Visits.{Leaves}
use Rattle.c_typing.specs.Items.{visit_unit}
use Rattle.c_typing.specs.Units.{next_unit, visit_units, first_undefined, has_main, or_no_main, missing}
use Rattle.c_typing.proofs.LoopLaws.{rest_is}
use Rattle.c_check.specs.declared.refusals.CheckRefusal.{CheckRefusal}
use Rattle.c_check.specs.Answers.{LeavesUnits, TellsMissing, undefined_fault, refusal_in}

first-visited : (k : ℕ) (u : Unit') (us : List Unit') (p p' : Progress) (w : Unit {0}) → visit_unit k u p ≡ Ok (w, p') → visit_units k (u ∷ us) p ≡ visit_units (k + 1) us p'
unfolding visit_units
first-visited k u us p p' w h = ap (λ r. next_unit k r (visit_units (k + 1) us)) h

-- one more unit
pub units_kept : (xs : List Unit') (i : ℕ) (x : Unit') (p p' : Progress) (w : Unit {0}) (whole : Result Progress UnitFault) →
    i < length xs → x ≡ get_or xs i x → visit_unit i x p ≡ Ok (w, p') → visit_units i (drop i xs) p ≡ whole → visit_units (i + 1) (drop (i + 1) xs) p' ≡ whole
units_kept xs i x p p' w whole h e v inv =
    sym (ap (λ ys. visit_units i ys p) (rest_is xs i x h e) ∙ first-visited i x (drop (i + 1) xs) p p' w v) ∙ inv

refused-first : (k : ℕ) (u : Unit') (us : List Unit') (p p' s : Progress) (e : Refusal) → Leaves {A = Unit {0}} (visit_unit k u p) (Err e) p' → LeavesUnits (visit_units k (u ∷ us) p) (Err (refusal_in k e)) s
unfolding visit_units
refused-first k u us p p' s (refusal.Fault f) h = ap (λ r. next_unit k r (visit_units (k + 1) us)) h
refused-first k u us p p' s refusal.NoMemory h = tt

-- a unit with a fault, or without memory
pub units_left : (xs : List Unit') (i : ℕ) (x : Unit') (p p' s : Progress) (e : Refusal) (whole : Result Progress UnitFault) →
    i < length xs → x ≡ get_or xs i x → Leaves {A = Unit {0}} (visit_unit i x p) (Err e) p' → visit_units i (drop i xs) p ≡ whole → LeavesUnits whole (Err (refusal_in i e)) s
units_left xs i x p p' s e whole h w v inv =
    subst (λ r. LeavesUnits r (Err (refusal_in i e)) s) (sym (ap (λ ys. visit_units i ys p) (rest_is xs i x h w)) ∙ inv) (refused-first i x (drop (i + 1) xs) p p' s e v)

none-left : (k : ℕ) (p : Progress) → visit_units k [] p ≡ Ok p
unfolding visit_units
none-left k p = refl

-- no unit is left
pub units_whole : (xs : List Unit') (i : ℕ) (p : Progress) (whole : Result Progress UnitFault) → length xs ≤ i → visit_units i (drop i xs) p ≡ whole → whole ≡ Ok p
units_whole xs i p whole h inv = sym inv ∙ ap (λ ys. visit_units i ys p) (drop_all i xs h) ∙ none-left i p

-- an undefined name comes before `main`
pub undefined_missing : (us : List Unit') (p : Progress) (x : ℕ × ℕ) (e : CheckRefusal) → undefined_fault (Some x) ≡ first_undefined p 0 us → TellsMissing (undefined_fault (Some x)) (Err e) → TellsMissing (missing us p) (Err e)
unfolding missing
undefined_missing us p x e h t = subst (λ (r : Option UnitFault). TellsMissing (or_no_main (has_main p) r) (Err e)) h t
