-- Units in order, one more at a time.
use Rattle.std.proofs.Common.{◌≡◌, ℕ, ◌+◌, ◌<◌, ◌≤◌, List, [], ◌∷◌, ◌++◌, map, drop, take, length, get_or, Bool, true, false, Option, Some, Result, Ok, Err, refl, sym, ap, ◌∙◌, subst, append_assoc, arith}
use Rattle.std.specs.Prelude.{nat_lt, if◌then◌else◌, OnOk, IfErr, Contains}
use Rattle.std.proofs.lemmas.Bool.Decides.{nat_tests}
use Rattle.std.proofs.lemmas.List.{drop_all, take_all, take_more, map-append, length-map, length-append, length-take-le, get_or-map}
use Rattle.hx_io.specs.Files.{Files, SameFiles}
use Rattle.c_tree.specs.declared.declarations.Unit.{Unit as Unit'}
use Rattle.c_typing.proofs.LoopLaws.{rest_is}
use Rattle.ec_report.specs.declared.kinds.UnitRefusal.{UnitRefusal}
use Rattle.ec_report.specs.declared.kinds.LimitKind.TheVariants.{UnitBytes, AllBytes}
use Rattle.ec_units.specs.declared.refusals.UnitsRefusal.{UnitsRefusal}
use Rattle.ec_units.specs.declared.refusals.UnitsRefusal.TheVariants as refusal
use Rattle.ec_units.specs.Verdicts.{Reason, absent, over, broken, Named, Texts, no_texts, text_of, add_read, add_text, add_file, and_then, add_units, named_in, named_with, IsOneOf}
use Rattle.ec_units.specs.Steps.{LeavesTexts, IsOfText, NamesMissing, FindsUnit, AddsFile, AreRead}

pub not_above : (a b : ℕ) → b ≤ a → nat_lt a b ≡ false
not_above a b h = grind (arith, nat_tests)

-- the file of one unit

pub leaves_unfound : (file : Option (List ℕ)) (name : List ℕ) (k : ℕ) (t new : Texts) (e : UnitsRefusal) → FindsUnit file name (Err e) → LeavesTexts (add_file k t name file) (Err e) new
leaves_unfound file name k t new (refusal.Missing n) h = h k t
leaves_unfound file name k t new (refusal.Limit which count) h = h k t
leaves_unfound file name k t new (refusal.Unit i why) h = h k t
leaves_unfound file name k t new refusal.StoreFault h = tt
leaves_unfound file name k t new refusal.NoMemory h = tt

pub found_text : (k : ℕ) (t : Texts) (name bytes : List ℕ) → length bytes ≤ 1048576 → add_file k t name (Some bytes) ≡ add_text k t bytes
found_text k t name bytes h = ap (λ b. if b then Err (over UnitBytes 1048577) else add_text k t bytes) (not_above 1048576 (length bytes) h)

pub leaves_found : (file : Option (List ℕ)) (name bytes : List ℕ) (k : ℕ) (t new : Texts) (r : Result (Unit {0}) UnitsRefusal) → file ≡ Some bytes → length bytes ≤ 1048576 →
    LeavesTexts (add_text k t bytes) r new → LeavesTexts (add_file k t name file) r new
leaves_found file name bytes k t new r e h l = subst (λ rule. LeavesTexts rule r new) (sym (ap (add_file k t name) e ∙ found_text k t name bytes h)) l

pub adds_found : (name bytes : List ℕ) (k : ℕ) (t new : Texts) (r : Result (Unit {0}) UnitsRefusal) → length bytes ≤ 1048576 → LeavesTexts (add_text k t bytes) r new → OnOk r (AddsFile k t name new)
adds_found name bytes k t new (Ok u) h l = (bytes, found_text k t name bytes h ∙ l)
adds_found name bytes k t new (Err e) h l = tt

pub of_text_names : (name : List ℕ) (r : Result (Unit {0}) UnitsRefusal) → IfErr r IsOfText → IfErr r (NamesMissing name)
of_text_names name (Ok u) h = tt
of_text_names name (Err (refusal.Missing n)) h = absurd h
of_text_names name (Err (refusal.Limit which count)) h = tt
of_text_names name (Err (refusal.Unit i why)) h = tt
of_text_names name (Err refusal.StoreFault) h = tt
of_text_names name (Err refusal.NoMemory) h = tt

pub of_text_one : {A : Type 0} (names : List (List ℕ)) (r : Result A UnitsRefusal) → IfErr r IsOfText → IfErr r (IsOneOf names)
of_text_one names (Ok u) h = tt
of_text_one names (Err (refusal.Missing n)) h = absurd h
of_text_one names (Err (refusal.Limit which count)) h = tt
of_text_one names (Err (refusal.Unit i why)) h = tt
of_text_one names (Err refusal.StoreFault) h = tt
of_text_one names (Err refusal.NoMemory) h = tt

pub no_fault : {A : Type 0} (r : Result A UnitsRefusal) → IfErr r IsOfText → r ≡ Err refusal.StoreFault → ⊥
no_fault {A} r h e = subst (λ (x : Result A UnitsRefusal). IfErr x IsOfText) e h

-- the names

pub one_named : (names : List (List ℕ)) (name : List ℕ) (e : UnitsRefusal) → Contains names name → NamesMissing name e → IsOneOf names e
one_named names name (refusal.Missing n) c h = subst (Contains names) (sym h) c
one_named names name (refusal.Limit which count) c h = tt
one_named names name (refusal.Unit i why) c h = tt
one_named names name refusal.StoreFault c h = tt
one_named names name refusal.NoMemory c h = tt

pub name_there : {A : Type 0} (f : A → List ℕ) (xs : List A) (i : ℕ) (x : A) → i < length xs → x ≡ get_or xs i x → Contains (map f xs) (f x)
name_there f xs i x h e = (i, subst (λ n. i < n) (sym (length-map xs f)) h, get_or-map f xs i x (f x) h ∙ ap f (sym e))

-- the verdict on files, unit by unit

first-added : (k : ℕ) (t t' : Texts) (u : Named) (us : List Named) → add_file k t u.name u.file ≡ Ok t' → add_units k t (u ∷ us) ≡ add_units (k + 1) t' us
unfolding add_units
first-added k t t' u us h = ap (λ r. and_then r (λ texts. add_units (k + 1) texts us)) h

first-refused : (k : ℕ) (t : Texts) (u : Named) (us : List Named) (why : Reason) → add_file k t u.name u.file ≡ Err why → add_units k t (u ∷ us) ≡ Err why
unfolding add_units
first-refused k t u us why h = ap (λ r. and_then r (λ texts. add_units (k + 1) texts us)) h

pub none_left : (k : ℕ) (t : Texts) → add_units k t [] ≡ Ok t
unfolding add_units
none_left k t = refl

named_rest : {A : Type 0} (f : A → List ℕ) (F : Files) (xs : List A) (i : ℕ) (x : A) → i < length xs → x ≡ get_or xs i x →
    named_in F (map f (drop i xs)) ≡ record { name = f x; file = F (f x) } ∷ named_in F (map f (drop (i + 1) xs))
named_rest f F xs i x h e = ap (λ ys. named_in F (map f ys)) (rest_is xs i x h e)

pub exact_next : {A : Type 0} (f : A → List ℕ) (F F' : Files) (xs : List A) (i : ℕ) (x : A) (t t' : Texts) (whole : Result Texts Reason) → i < length xs → x ≡ get_or xs i x → SameFiles F F' →
    add_file i t (f x) (F' (f x)) ≡ Ok t' → add_units i t (named_in F (map f (drop i xs))) ≡ whole → add_units (i + 1) t' (named_in F (map f (drop (i + 1) xs))) ≡ whole
exact_next f F F' xs i x t t' whole h e same a inv =
    sym (ap (add_units i t) (named_rest f F xs i x h e) ∙ first-added i t t' (record { name = f x; file = F (f x) }) (named_in F (map f (drop (i + 1) xs))) (ap (add_file i t (f x)) (sym (same (f x))) ∙ a)) ∙ inv

exact-refused : {A : Type 0} (f : A → List ℕ) (F F' : Files) (xs : List A) (i : ℕ) (x : A) (t : Texts) (why : Reason) (whole : Result Texts Reason) → i < length xs → x ≡ get_or xs i x → SameFiles F F' →
    add_file i t (f x) (F' (f x)) ≡ Err why → add_units i t (named_in F (map f (drop i xs))) ≡ whole → whole ≡ Err why
exact-refused f F F' xs i x t why whole h e same a inv =
    sym inv ∙ ap (add_units i t) (named_rest f F xs i x h e) ∙ first-refused i t (record { name = f x; file = F (f x) }) (named_in F (map f (drop (i + 1) xs))) why (ap (add_file i t (f x)) (sym (same (f x))) ∙ a)

pub exact_left : {A : Type 0} (f : A → List ℕ) (F F' : Files) (xs : List A) (i : ℕ) (x : A) (t s s' : Texts) (r : UnitsRefusal) (whole : Result Texts Reason) → i < length xs → x ≡ get_or xs i x → SameFiles F F' →
    LeavesTexts (add_file i t (f x) (F' (f x))) (Err r) s → add_units i t (named_in F (map f (drop i xs))) ≡ whole → LeavesTexts whole (Err r) s'
exact_left f F F' xs i x t s s' (refusal.Missing n) whole h e same a inv = exact-refused f F F' xs i x t (absent n.items) whole h e same a inv
exact_left f F F' xs i x t s s' (refusal.Limit which count) whole h e same a inv = exact-refused f F F' xs i x t (over which count) whole h e same a inv
exact_left f F F' xs i x t s s' (refusal.Unit k why) whole h e same a inv = exact-refused f F F' xs i x t (broken k why) whole h e same a inv
exact_left f F F' xs i x t s s' refusal.StoreFault whole h e same a inv = tt
exact_left f F F' xs i x t s s' refusal.NoMemory whole h e same a inv = tt

pub exact_end : {A : Type 0} (f : A → List ℕ) (F : Files) (xs : List A) (i : ℕ) (t : Texts) (whole : Result Texts Reason) → length xs ≤ i → add_units i t (named_in F (map f (drop i xs))) ≡ whole → whole ≡ Ok t
exact_end f F xs i t whole h inv = sym inv ∙ ap (λ ys. add_units i t (named_in F (map f ys))) (drop_all i xs h) ∙ none_left i t

-- the texts that were read, unit by unit

named-one : (ns ss : List (List ℕ)) (n s : List ℕ) → length ss ≡ length ns → named_with (ns ++ n ∷ []) (ss ++ s ∷ []) ≡ named_with ns ss ++ (record { name = n; file = Some s } ∷ [])
named-one [] [] n s h = refl
named-one [] (x ∷ ss) n s h = absurd (omega arith)
named-one (y ∷ ns) [] n s h = absurd (omega arith)
named-one (y ∷ ns) (x ∷ ss) n s h = ap (λ us. record { name = y; file = Some x } ∷ us) (named-one ns ss n s (omega arith))

if-else : (b : Bool) (why : Reason) (r : Result Texts Reason) (t : Texts) → (if b then Err why else r) ≡ Ok t → r ≡ Ok t
if-else true why r t h = cc
if-else false why r t h = h

sources_or : Result Texts Reason → List (List ℕ)
sources_or (Ok t) = t.sources
sources_or (Err e) = []

read-added : (k : ℕ) (t t' : Texts) (bytes : List ℕ) (r : Result Unit' UnitRefusal) → add_read k t bytes r ≡ Ok t' → t'.sources ≡ t.sources ++ (bytes ∷ [])
unfolding sources_or
read-added k t t' bytes (Ok u) h = sym (ap sources_or h)
read-added k t t' bytes (Err e) h = cc

source-added : (k : ℕ) (t t' : Texts) (name bytes : List ℕ) → add_file k t name (Some bytes) ≡ Ok t' → t'.sources ≡ t.sources ++ (bytes ∷ [])
source-added k t t' name bytes h =
    read-added k t t' bytes (text_of bytes) (if-else (nat_lt 4194304 (t.bytes + length bytes)) (over AllBytes (t.bytes + length bytes)) (add_read k t bytes (text_of bytes)) t'
    (if-else (nat_lt 1048576 (length bytes)) (over UnitBytes 1048577) (add_text k t bytes) t' h))

read-one : (ns : List (List ℕ)) (t t' : Texts) (n bytes : List ℕ) → AreRead ns t → add_file (length ns) t n (Some bytes) ≡ Ok t' → AreRead (ns ++ n ∷ []) t'
read-one ns t t' n bytes inv a =
    let s : t'.sources ≡ t.sources ++ (bytes ∷ []) = source-added (length ns) t t' n bytes a in
    let more_names : length (ns ++ n ∷ []) ≡ length ns + 1 = length-append ns (n ∷ []) in
    record {
      each = ap length s ∙ length-append t.sources (bytes ∷ []) ∙ ap (λ k. k + 1) inv.each ∙ sym more_names;
      first = λ more.
          ap (λ ss. add_units 0 no_texts (named_with (ns ++ n ∷ []) ss ++ more)) s
          ∙ ap (λ us. add_units 0 no_texts (us ++ more)) (named-one ns t.sources n bytes inv.each)
          ∙ ap (add_units 0 no_texts) (append_assoc (named_with ns t.sources) (record { name = n; file = Some bytes } ∷ []) more)
          ∙ inv.first (record { name = n; file = Some bytes } ∷ more)
          ∙ first-added (length ns) t t' (record { name = n; file = Some bytes }) more a
          ∙ ap (λ k. add_units k t' more) (sym more_names);
    }

pub read_start : (t : Texts) → t ≡ no_texts → AreRead [] t
read_start t e = subst (AreRead []) (sym e) (record { each = refl; first = λ more. refl })

pub read_next : {A : Type 0} (f : A → List ℕ) (xs : List A) (i : ℕ) (x : A) (t t' : Texts) → i < length xs → x ≡ get_or xs i x → AreRead (map f (take i xs)) t → AddsFile i t (f x) t' → AreRead (map f (take (i + 1) xs)) t'
read_next f xs i x t t' h e inv a =
    let len : length (map f (take i xs)) ≡ i = length-map (take i xs) f ∙ length-take-le i xs (omega arith) in
    let names : map f (take (i + 1) xs) ≡ map f (take i xs) ++ f x ∷ [] =
    ap (map f) (take_more xs i x h) ∙ map-append f (take i xs) (get_or xs i x ∷ []) ∙ ap (λ y. map f (take i xs) ++ f y ∷ []) (sym e) in
    subst (λ ns. AreRead ns t') (sym names) (read-one (map f (take i xs)) t t' (f x) a.0 inv (subst (λ k. add_file k t (f x) (Some a.0) ≡ Ok t') (sym len) a.1))

pub read_end : {A : Type 0} (f : A → List ℕ) (xs : List A) (i : ℕ) (t : Texts) → length xs ≤ i → AreRead (map f (take i xs)) t → AreRead (map f xs) t
read_end f xs i t h inv = subst (λ ys. AreRead (map f ys) t) (take_all i xs h) inv
