-- The verdict on all units, from the texts and what they are together.
use Rattle.std.proofs.Common.{◌≡◌, ℕ, ◌<◌, ◌≤◌, List, [], ◌∷◌, map, length, Bool, true, Some, None, Result, Ok, Err, sym, ap, ◌∙◌, subst, arith, append-nil}
use Rattle.std.specs.Prelude.{nat_lt, if◌then◌else◌, IfOk}
use Rattle.std.proofs.lemmas.Bool.Decides.{nat_tests}
use Rattle.std.proofs.lemmas.List.{length-map}
use Rattle.std.specs.Global.{Vec}
use Rattle.hx_io.specs.Files.{Files}
use Rattle.c_program.specs.declared.program.Program.{Program}
use Rattle.c_typing.specs.Units.{typed}
use Rattle.c_check.specs.declared.refusals.CheckRefusal.{CheckRefusal}
use Rattle.c_check.specs.declared.refusals.CheckRefusal.TheVariants as types
use Rattle.c_check.specs.Answers.{Answers}
use Rattle.ec_report.specs.declared.kinds.LimitKind.TheVariants.{Units}
use Rattle.ec_limits.specs.declared.counts.Passed.{Passed}
use Rattle.ec_limits.specs.Limits.{passed}
use Rattle.ec_units.specs.declared.units.Checked.{Checked}
use Rattle.ec_units.specs.declared.refusals.UnitsRefusal.{UnitsRefusal}
use Rattle.ec_units.specs.declared.refusals.UnitsRefusal.TheVariants as refusal
use Rattle.ec_units.specs.Verdicts.{over, passes, refuses, Named, Texts, no_texts, add_units, within_limits, after_types, after_texts, judged, named_in, verdict, named_with, texts_of, Fits}
use Rattle.ec_units.specs.Steps.{LeavesTexts, AreRead, told_types}
use Rattle.ec_units.proofs.UnitLaws.{not_above, none_left}

judged-few : (whole : Bool) (us : List Named) → length us ≤ 64 → judged whole us ≡ after_texts whole (add_units 0 no_texts us)
unfolding judged
judged-few whole us h = ap (λ b. if b then refuses (over Units (length us)) else after_texts whole (add_units 0 no_texts us)) (not_above 64 (length us) h)

is-above : (a b : ℕ) → a < b → nat_lt a b ≡ true
is-above a b h = grind (arith, nat_tests)

judged-many : (whole : Bool) (us : List Named) → 64 < length us → judged whole us ≡ refuses (over Units (length us))
unfolding judged
judged-many whole us h = ap (λ b. if b then refuses (over Units (length us)) else after_texts whole (add_units 0 no_texts us)) (is-above 64 (length us) h)

length-named : {A : Type 0} (f : A → List ℕ) (F : Files) (xs : List A) → length (named_in F (map f xs)) ≡ length xs
length-named f F xs = length-map (map f xs) (λ (n : List ℕ). record { name = n; file = F n }) ∙ length-map xs f

pub verdict_many : {A : Type 0} (f : A → List ℕ) (F : Files) (xs : List A) (whole : Bool) → 64 < length xs → verdict F (map f xs) whole ≡ refuses (over Units (length xs))
verdict_many f F xs whole h =
    judged-many whole (named_in F (map f xs)) (subst (λ n. 64 < n) (sym (length-named f F xs)) h) ∙ ap (λ n. refuses (over Units n)) (length-named f F xs)

verdict-few : {A : Type 0} (f : A → List ℕ) (F : Files) (xs : List A) (whole : Bool) → length xs ≤ 64 → verdict F (map f xs) whole ≡ after_texts whole (add_units 0 no_texts (named_in F (map f xs)))
verdict-few f F xs whole h = judged-few whole (named_in F (map f xs)) (subst (λ n. n ≤ 64) (sym (length-named f F xs)) h)

pub verdict_left : {A : Type 0} (f : A → List ℕ) (F : Files) (xs : List A) (whole : Bool) (e : UnitsRefusal) (t : Texts) → length xs ≤ 64 →
    LeavesTexts (add_units 0 no_texts (named_in F (map f xs))) (Err e) t → Fits (verdict F (map f xs) whole) (Err e)
verdict_left f F xs whole (refusal.Missing n) t h l = verdict-few f F xs whole h ∙ ap (after_texts whole) l
verdict_left f F xs whole (refusal.Limit which count) t h l = verdict-few f F xs whole h ∙ ap (after_texts whole) l
verdict_left f F xs whole (refusal.Unit k why) t h l = verdict-few f F xs whole h ∙ ap (after_texts whole) l
verdict_left f F xs whole refusal.StoreFault t h l = tt
verdict_left f F xs whole refusal.NoMemory t h l = tt

pub verdict_fits : {A : Type 0} (f : A → List ℕ) (F : Files) (xs : List A) (whole : Bool) (t : Texts) (r : Result Checked UnitsRefusal) → length xs ≤ 64 →
    add_units 0 no_texts (named_in F (map f xs)) ≡ Ok t → Fits (after_texts whole (Ok t)) r → Fits (verdict F (map f xs) whole) r
verdict_fits f F xs whole t r h a fit = subst (λ v. Fits v r) (sym (verdict-few f F xs whole h ∙ ap (after_texts whole) a)) fit

few-with : (ns ss : List (List ℕ)) → length (named_with ns ss) ≤ length ns
few-with [] ss = omega arith
few-with (n ∷ ns) [] = omega arith
few-with (n ∷ ns) (s ∷ ss) = omega (arith, few-with ns ss)

pub verdict_read : {A : Type 0} (f : A → List ℕ) (xs : List A) (t : Texts) (whole : Bool) (r : Result Checked UnitsRefusal) → length xs ≤ 64 → AreRead (map f xs) t →
    Fits (after_texts whole (Ok t)) r → IfOk r (λ c. texts_of c.sources ≡ t.sources) → IfOk r (λ c. judged whole (named_with (map f xs) (texts_of c.sources)) ≡ passes c.program (texts_of c.sources))
verdict_read f xs t whole (Ok c) h inv fit s =
    let few : length (named_with (map f xs) t.sources) ≤ 64 = omega (arith, few-with (map f xs) t.sources, length-map xs f) in
    ap (λ ss. judged whole (named_with (map f xs) ss)) s
    ∙ judged-few whole (named_with (map f xs) t.sources) few
    ∙ ap (after_texts whole) (ap (add_units 0 no_texts) (sym (append-nil (named_with (map f xs) t.sources))) ∙ inv.first [] ∙ none_left (length (map f xs)) t)
    ∙ fit
verdict_read f xs t whole (Err e) h inv fit s = tt

pub read_sources : {A : Type 0} (f : A → List ℕ) (xs : List A) (t : Texts) (r : Result Checked UnitsRefusal) → AreRead (map f xs) t → IfOk r (λ c. texts_of c.sources ≡ t.sources) → IfOk r (λ c. length c.sources.items ≡ length xs)
read_sources f xs t (Ok c) inv s = sym (length-map c.sources.items (λ (v : Vec ℕ). v.items)) ∙ ap length s ∙ inv.each ∙ length-map xs f
read_sources f xs t (Err e) inv s = tt

-- what texts are together

pub judged_types : (t : Texts) (whole : Bool) (e : CheckRefusal) → Answers (typed t.units whole) (Err e) → Fits (after_texts whole (Ok t)) (Err (told_types e))
judged_types t whole (types.Bad unit kind at) h = ap (after_types t) h
judged_types t whole types.NoMemory h = tt

pub judged_limit : (t : Texts) (whole : Bool) (p : Program) (l : Passed) → typed t.units whole ≡ Ok p → passed p t.longest ≡ Some l → after_texts whole (Ok t) ≡ refuses (over l.which l.count)
judged_limit t whole p l h g = ap (after_types t) h ∙ ap (within_limits p t.sources) g

pub judged_passes : (t : Texts) (whole : Bool) (p : Program) → typed t.units whole ≡ Ok p → passed p t.longest ≡ None → after_texts whole (Ok t) ≡ passes p t.sources
judged_passes t whole p h g = ap (after_types t) h ∙ ap (within_limits p t.sources) g
