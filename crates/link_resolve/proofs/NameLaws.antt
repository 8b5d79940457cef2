-- The entry of a name in the list of names is the one that its meaning gives.
use Rattle.std.proofs.Common.{◌≡◌, ⊎_elim, inl, inr, ◌⊎◌, ℕ, zero, suc, ◌+◌, ◌-◌, ◌<◌, ◌≤◌, Bool, true, false, cond, not, ◌&&◌, eqb, List, [], ◌∷◌, ◌++◌, length, get_or, take, drop, Option, Some, None, is_some, refl, sym, ap, subst, ◌∙◌, arith}
use Rattle.std.specs.Prelude.{find}
use Rattle.std.specs.List.{list_any}
use Rattle.std.specs.Option.{option_or}
use Rattle.std.specs.Str.{bytes_eq}
use Rattle.std.proofs.lemmas.Bool.{cases_Bool, cond-true, cond-false, false≢true, and_parts, and_from, or_left, or_right, eq-eqb}
use Rattle.std.proofs.lemmas.Bool.Decides.{nat_tests}
use Rattle.std.proofs.lemmas.List.{take-append-le, drop-append-le, length-append, take_all, drop_all}
use Rattle.std.proofs.lemmas.List.Folds.{find-append}
use Rattle.std.proofs.lemmas.Slice.Eq.{bytes_eq-Decides}
use Rattle.hx_names.specs.Mangling.{mangled, unmangled}
use Rattle.link_resolve.specs.declared.meaning.Place.{Place}
use Rattle.link_resolve.specs.declared.resolved.NamePlace.{NamePlace}
use Rattle.link_resolve.specs.Symbols.{Symbol}
use Rattle.link_resolve.specs.Names.{is_guest_exit, before_guest_end, is_import, guest_end}
use Rattle.link_resolve.specs.Meaning.{is_definition, defines, definition_of, is_same, is_at, is_first, ec_body_of, place_if, place_or, stand_in, means}
use Rattle.link_resolve.specs.declared.listing.Section.{Section}
use Rattle.link_resolve.specs.Refusals.{is_named, is_wanted, is_wanted_by, left_from, left_out}
use Rattle.link_resolve.specs.Resolution.{named_place, entry_for, entry_of, plain_entry, guest_entry, other_entry, entries_at, entries_from}
use Rattle.link_resolve.specs.Lookups.{has_name, first_entry, NamesTell, HomeIsKept}

-- ---- a look-up that finds nothing or the wanted

abbrev Fine : {X : Type 0} → Option X → Option X → Type 0
Fine t a = (a ≡ None) ⊎ (a ≡ t)

or_fine : {X : Type 0} (t a b : Option X) → Fine t a → Fine t b → Fine t (option_or a b)
or_fine t None b fa fb = fb
or_fine t (Some x) b fa fb = fa

-- the wanted comes first
or_first : {X : Type 0} (t b : Option X) → Fine t b → option_or t b ≡ t
or_first None b fb = ⊎_elim (λ e. e) (λ e. e) fb
or_first (Some x) b fb = refl

-- or it comes later, and nothing else before it
or_later : {X : Type 0} (t a : Option X) → Fine t a → option_or a t ≡ t
or_later t a fa = ⊎_elim (λ e. ap (λ o. option_or o t) e) (λ e. ap (λ o. option_or o t) e ∙ or_first t t (inr refl)) fa

find_passes : {X : Type 0} (p : X → Bool) (xs : List X) (e : X) → find p xs ≡ Some e → p e ≡ true
find_passes {X = X} p [] e h = absurd (let k : ◌≡◌ {A = Option X} None (Some e) = h in cc)
find_passes {X = X} p (x ∷ xs) e h = ⊎_elim
    (λ t. let same : Some x ≡ Some e = sym (cond-true (p x) (Some x) (find p xs) t) ∙ h in let is : x ≡ e = cc in subst (λ (y : X). p y ≡ true) is t)
    (λ f. find_passes p xs e (sym (cond-false (p x) (Some x) (find p xs) f) ∙ h))
    (cases_Bool (p x))

-- ---- the entry of one name

itself : (q : List ℕ) → bytes_eq q q ≡ true
itself q = grind (arith, nat_tests, bytes_eq-Decides)

same_bytes : (xs ys : List ℕ) → bytes_eq xs ys ≡ true → xs ≡ ys
same_bytes xs ys h = grind (arith, nat_tests, bytes_eq-Decides)

own_entry : (q : List ℕ) (b : Bool) (o : Option Place) → find (has_name q) (cond b [] (entry_for q o)) ≡ first_entry (cond b [] (entry_for q o))
own_entry q true o = refl
own_entry q false None = refl
own_entry q false (Some p) = cond-true (bytes_eq q q) (Some (named_place q p)) None (itself q)

no_entry : (q r : List ℕ) (b : Bool) (o : Option Place) → bytes_eq q r ≡ false → find (has_name q) (cond b [] (entry_for r o)) ≡ None
no_entry q r true o f = refl
no_entry q r false None f = refl
no_entry q r false (Some p) f = cond-false (bytes_eq q r) (Some (named_place r p)) None f

-- what a look-up is to find
abbrev wanted : List Symbol → List ℕ → Option NamePlace
wanted ss q = first_entry (entry_of ss q)

entry_found : (ss : List Symbol) (q : List ℕ) → find (has_name q) (entry_of ss q) ≡ wanted ss q
unfolding entry_of
entry_found ss q = own_entry q (is_import q) (means ss q)

entry_fine : (ss : List Symbol) (q r : List ℕ) → Fine (wanted ss q) (find (has_name q) (entry_of ss r))
unfolding entry_of
entry_fine ss q r = ⊎_elim
    (λ t. inr (subst (λ (s : List ℕ). find (has_name q) (cond (is_import s) [] (entry_for s (means ss s))) ≡ first_entry (cond (is_import q) [] (entry_for q (means ss q)))) (same_bytes q r t) (own_entry q (is_import q) (means ss q))))
    (λ f. inl (no_entry q r (is_import r) (means ss r) f))
    (cases_Bool (bytes_eq q r))

-- ---- the entries of one symbol

abbrev look : List ℕ → List NamePlace → Option NamePlace
look q ns = find (has_name q) ns

append_fine : (t : Option NamePlace) (q : List ℕ) (xs ys : List NamePlace) → Fine t (look q xs) → Fine t (look q ys) → Fine t (look q (xs ++ ys))
append_fine t q xs ys fx fy = subst (Fine t) (sym (find-append (has_name q) xs ys)) (or_fine t (look q xs) (look q ys) fx fy)

pick_fine : (t : Option NamePlace) (q : List ℕ) (b : Bool) (xs ys : List NamePlace) → Fine t (look q xs) → Fine t (look q ys) → Fine t (look q (cond b xs ys))
pick_fine t q true xs ys fx fy = fx
pick_fine t q false xs ys fx fy = fy

none_fine : (t : Option NamePlace) (q : List ℕ) → Fine t (look q [])
none_fine t q = inl refl

plain_fine : (ss : List Symbol) (q f : List ℕ) (o : Option (List ℕ)) → Fine (wanted ss q) (look q (plain_entry ss f o))
plain_fine ss q f None = entry_fine ss q f
plain_fine ss q f (Some g) = none_fine (wanted ss q) q

guest_fine : (ss : List Symbol) (q body : List ℕ) → Fine (wanted ss q) (look q (guest_entry ss body))
guest_fine ss q body = pick_fine (wanted ss q) q (is_some (definition_of ss body)) [] (entry_of ss body) (none_fine (wanted ss q) q) (entry_fine ss q body)

other_fine : (ss : List Symbol) (q name : List ℕ) (o : Option (List ℕ)) → Fine (wanted ss q) (look q (other_entry ss name o))
other_fine ss q name None = none_fine (wanted ss q) q
other_fine ss q name (Some f) = pick_fine (wanted ss q) q (is_guest_exit name) (guest_entry ss (before_guest_end name)) (plain_entry ss f (unmangled f)) (guest_fine ss q (before_guest_end name)) (plain_fine ss q f (unmangled f))

-- what stands for a symbol of this name
abbrev named : List Symbol → List ℕ → List NamePlace
named ss name = entry_of ss name ++ other_entry ss name (unmangled name)

symbol_fine : (ss : List Symbol) (q : List ℕ) (s : Symbol) → Fine (wanted ss q) (look q (entries_at ss s))
unfolding entries_at
symbol_fine ss q s = pick_fine (wanted ss q) q (is_first ss s) (named ss s.symbol.name) []
    (append_fine (wanted ss q) q (entry_of ss s.symbol.name) (other_entry ss s.symbol.name (unmangled s.symbol.name)) (entry_fine ss q s.symbol.name) (other_fine ss q s.symbol.name (unmangled s.symbol.name)))
    (none_fine (wanted ss q) q)

all_fine : (ss : List Symbol) (q : List ℕ) (ts : List Symbol) → Fine (wanted ss q) (look q (entries_from ss ts))
all_fine ss q [] = inl refl
all_fine ss q (s ∷ rest) = append_fine (wanted ss q) q (entries_at ss s) (entries_from ss rest) (symbol_fine ss q s) (all_fine ss q rest)

-- one symbol that has the wanted entry suffices
reached : (ss : List Symbol) (q : List ℕ) (p : Symbol → Bool) (ts : List Symbol) (e : Symbol) → find p ts ≡ Some e → look q (entries_at ss e) ≡ wanted ss q → look q (entries_from ss ts) ≡ wanted ss q
reached ss q p [] e h w = absurd (let k : ◌≡◌ {A = Option Symbol} None (Some e) = h in cc)
reached ss q p (s ∷ rest) e h w =
    find-append (has_name q) (entries_at ss s) (entries_from ss rest)
    ∙ ⊎_elim
    (λ t.
    let same : Some s ≡ Some e = sym (cond-true (p s) (Some s) (find p rest) t) ∙ h in
    let is : s ≡ e = cc in
    let here : look q (entries_at ss s) ≡ wanted ss q = ap (λ (x : Symbol). look q (entries_at ss x)) is ∙ w in
    ap (λ o. option_or o (look q (entries_from ss rest))) here ∙ or_first (wanted ss q) (look q (entries_from ss rest)) (all_fine ss q rest))
    (λ f.
    let later : look q (entries_from ss rest) ≡ wanted ss q = reached ss q p rest e (sym (cond-false (p s) (Some s) (find p rest) f) ∙ h) w in
    ap (λ o. option_or (look q (entries_at ss s)) o) later ∙ or_later (wanted ss q) (look q (entries_at ss s)) (symbol_fine ss q s))
    (cases_Bool (p s))

-- ---- the first definition of a name

passes : (ss : List Symbol) (r : List ℕ) (e : Symbol) → definition_of ss r ≡ Some e → defines r e ≡ true
unfolding definition_of
passes ss r e h = find_passes (defines r) ss e h

its_name : (r : List ℕ) (e : Symbol) → defines r e ≡ true → r ≡ e.symbol.name
unfolding defines
its_name r e h = same_bytes r e.symbol.name (and_parts (is_definition e) (bytes_eq r e.symbol.name) h).1

is_one : (r : List ℕ) (e : Symbol) → defines r e ≡ true → is_definition e ≡ true
unfolding defines
is_one r e h = (and_parts (is_definition e) (bytes_eq r e.symbol.name) h).0

first_is : (ss : List Symbol) (r : List ℕ) (e : Symbol) → definition_of ss r ≡ Some e → is_first ss e ≡ true
unfolding is_first
first_is ss r e h =
    let d : defines r e ≡ true = passes ss r e h in
    let found : definition_of ss e.symbol.name ≡ Some e = subst (λ (n : List ℕ). definition_of ss n ≡ Some e) (its_name r e d) h in
    and_from (is_definition e) (is_at (definition_of ss e.symbol.name) e) (is_one r e d)
    (ap (λ (o : Option Symbol). is_at o e) found ∙ and_from (eqb e.object e.object) (eqb e.number e.number) (eq-eqb e.object e.object refl) (eq-eqb e.number e.number refl))

stands : (ss : List Symbol) (r : List ℕ) (e : Symbol) → definition_of ss r ≡ Some e → entries_at ss e ≡ named ss r
unfolding entries_at
stands ss r e h =
    cond-true (is_first ss e) (named ss e.symbol.name) [] (first_is ss r e h)
    ∙ ap (named ss) (sym (its_name r e (passes ss r e h)))

-- where a name has the wanted entry, its first definition leads there
from_named : (ss : List Symbol) (q r : List ℕ) (e : Symbol) → definition_of ss r ≡ Some e → look q (named ss r) ≡ wanted ss q → look q (entries_from ss ss) ≡ wanted ss q
unfolding definition_of
from_named ss q r e h w = reached ss q (defines r) ss e h (ap (look q) (stands ss r e h) ∙ w)

-- ---- three names that have it

by_own : (ss : List Symbol) (q : List ℕ) → look q (named ss q) ≡ wanted ss q
by_own ss q =
    find-append (has_name q) (entry_of ss q) (other_entry ss q (unmangled q))
    ∙ ap (λ o. option_or o (look q (other_entry ss q (unmangled q)))) (entry_found ss q)
    ∙ or_first (wanted ss q) (look q (other_entry ss q (unmangled q))) (other_fine ss q q (unmangled q))

by_other : (ss : List Symbol) (q r : List ℕ) → look q (other_entry ss r (unmangled r)) ≡ wanted ss q → look q (named ss r) ≡ wanted ss q
by_other ss q r w =
    find-append (has_name q) (entry_of ss r) (other_entry ss r (unmangled r))
    ∙ ap (λ o. option_or (look q (entry_of ss r)) o) w
    ∙ or_later (wanted ss q) (look q (entry_of ss r)) (entry_fine ss q r)

by_body : (ss : List Symbol) (q : List ℕ) → unmangled q ≡ None → is_guest_exit (mangled q) ≡ false → look q (named ss (mangled q)) ≡ wanted ss q
by_body ss q plain body = by_other ss q (mangled q)
    (ap (look q) (cond-false (is_guest_exit (mangled q)) (guest_entry ss (before_guest_end (mangled q))) (plain_entry ss q (unmangled q)) body ∙ ap (plain_entry ss q) plain) ∙ entry_found ss q)

guest_long : (q : List ℕ) → length (q ++ guest_end) - 11 ≡ length q
guest_long q = let e : length (q ++ guest_end) ≡ length q + 11 = length-append q guest_end in omega (arith, e)

guest_name : (q : List ℕ) → is_guest_exit (q ++ guest_end) ≡ true
unfolding is_guest_exit
guest_name q =
    ap (λ n. bytes_eq (drop n (q ++ guest_end)) guest_end) (guest_long q)
    ∙ ap (λ xs. bytes_eq xs guest_end) (drop-append-le (length q) q guest_end (omega arith) ∙ ap (λ xs. xs ++ guest_end) (drop_whole q))
    ∙ itself guest_end
  where
    drop_whole : (q : List ℕ) → drop (length q) q ≡ []
    drop_whole q = drop_all (length q) q (omega arith)

guest_front : (q : List ℕ) → before_guest_end (q ++ guest_end) ≡ q
guest_front q = ap (λ n. take n (q ++ guest_end)) (guest_long q) ∙ take-append-le (length q) q guest_end (omega arith) ∙ take_whole q
  where
    take_whole : (q : List ℕ) → take (length q) q ≡ q
    take_whole q = take_all (length q) q (omega arith)

unmangled_longer : (q f : List ℕ) → unmangled q ≡ Some f → unmangled (q ++ guest_end) ≡ Some (f ++ guest_end)
unmangled_longer [] f h = absurd (let k : ◌≡◌ {A = Option (List ℕ)} None (Some f) = h in cc)
unmangled_longer (c ∷ rest) f h = ⊎_elim
    (λ t.
    let same : Some rest ≡ Some f = sym (cond-true (eqb c 35) (Some rest) None t) ∙ h in
    let is : rest ≡ f = cc in
    cond-true (eqb c 35) (Some (rest ++ guest_end)) None t ∙ ap (λ (xs : List ℕ). Some (xs ++ guest_end)) is)
    (λ n. absurd (let k : ◌≡◌ {A = Option (List ℕ)} None (Some f) = sym (cond-false (eqb c 35) (Some rest) None n) ∙ h in cc))
    (cases_Bool (eqb c 35))

by_guest : (ss : List Symbol) (q f : List ℕ) → unmangled q ≡ Some f → definition_of ss q ≡ None → look q (named ss (q ++ guest_end)) ≡ wanted ss q
by_guest ss q f marked none = by_other ss q (q ++ guest_end)
    (ap (look q)
    (ap (other_entry ss (q ++ guest_end)) (unmangled_longer q f marked)
    ∙ cond-true (is_guest_exit (q ++ guest_end)) (guest_entry ss (before_guest_end (q ++ guest_end))) (plain_entry ss (f ++ guest_end) (unmangled (f ++ guest_end))) (guest_name q)
    ∙ ap (guest_entry ss) (guest_front q)
    ∙ ap (λ (o : Option Symbol). cond (is_some o) [] (entry_of ss q)) none)
    ∙ entry_found ss q)

-- ---- all names

-- a name that means nothing has no entry
means_none : (ss : List Symbol) (q : List ℕ) → means ss q ≡ None → look q (entries_from ss ss) ≡ wanted ss q
unfolding entry_of
means_none ss q h =
    let nothing : wanted ss q ≡ None = ap (λ (o : Option Place). first_entry (cond (is_import q) [] (entry_for q o))) h ∙ empty (is_import q) in
    ⊎_elim (λ e. e ∙ sym nothing) (λ e. e) (all_fine ss q ss)
  where
    empty : (b : Bool) → first_entry (cond b [] (entry_for q None)) ≡ None
    empty true = refl
    empty false = refl

sequence_case : (ss : List Symbol) (q : List ℕ) (o : Option Symbol) → definition_of ss (mangled q) ≡ o → unmangled q ≡ None → is_guest_exit (mangled q) ≡ false
    → (place_if true o ≡ None → means ss q ≡ None) → look q (entries_from ss ss) ≡ wanted ss q
sequence_case ss q None h plain body lost = means_none ss q (lost refl)
sequence_case ss q (Some e) h plain body lost = from_named ss q (mangled q) e h (by_body ss q plain body)

guest_case : (ss : List Symbol) (q f : List ℕ) (o : Option Symbol) → definition_of ss (q ++ guest_end) ≡ o → unmangled q ≡ Some f → definition_of ss q ≡ None
    → (place_if false o ≡ None → means ss q ≡ None) → look q (entries_from ss ss) ≡ wanted ss q
guest_case ss q f None h marked none lost = means_none ss q (lost refl)
guest_case ss q f (Some e) h marked none lost = from_named ss q (q ++ guest_end) e h (by_guest ss q f marked none)

undefined_case : (ss : List Symbol) (q : List ℕ) (u : Option (List ℕ)) → unmangled q ≡ u → definition_of ss q ≡ None → look q (entries_from ss ss) ≡ wanted ss q
unfolding means
undefined_case ss q None plain none =
    let is : means ss q ≡ place_if true (ec_body_of ss q) = (λ j. place_or (none j) (stand_in ss q (plain j))) in
    ⊎_elim
    (λ guest. means_none ss q (is ∙ ap (λ b. place_if true (cond b None (definition_of ss (mangled q)))) guest))
    (λ body. sequence_case ss q (definition_of ss (mangled q)) refl plain body (λ lost. is ∙ ap (λ b. place_if true (cond b None (definition_of ss (mangled q)))) body ∙ lost))
    (cases_Bool (is_guest_exit (mangled q)))
undefined_case ss q (Some f) marked none =
    let is : means ss q ≡ stand_in ss q (Some f) = (λ j. place_or (none j) (stand_in ss q (marked j))) in
    ⊎_elim
    (λ there. guest_case ss q f (definition_of ss (q ++ guest_end)) refl marked none (λ lost. is ∙ ap (λ b. cond b (place_if false (definition_of ss (q ++ guest_end))) None) there ∙ lost))
    (λ not_there. means_none ss q (is ∙ ap (λ b. cond b (place_if false (definition_of ss (q ++ guest_end))) None) not_there))
    (cases_Bool (is_some (definition_of ss f)))

whole_case : (ss : List Symbol) (q : List ℕ) (o : Option Symbol) → definition_of ss q ≡ o → look q (entries_from ss ss) ≡ wanted ss q
whole_case ss q (Some e) h = from_named ss q q e h (by_own ss q)
whole_case ss q None h = undefined_case ss q (unmangled q) refl h

pub names_tell : (ss : List Symbol) (q : List ℕ) → NamesTell ss q
names_tell ss q = whole_case ss q (definition_of ss q) refl

-- ---- where names lead

any_found : {X : Type 0} (p q : X → Bool) (xs : List X) (e : X) → find p xs ≡ Some e → q e ≡ true → list_any q xs ≡ true
any_found {X = X} p q [] e h t = absurd (let k : ◌≡◌ {A = Option X} None (Some e) = h in cc)
any_found {X = X} p q (x ∷ xs) e h t = ⊎_elim
    (λ yes_p. let same : Some x ≡ Some e = sym (cond-true (p x) (Some x) (find p xs) yes_p) ∙ h in let is : x ≡ e = cc in or_left (q x) (list_any q xs) (subst (λ (y : X). q y ≡ true) (sym is) t))
    (λ not_p. or_right (q x) (list_any q xs) (any_found p q xs e (sym (cond-false (p x) (Some x) (find p xs) not_p) ∙ h) t))
    (cases_Bool (p x))

wanted_home : (ss : List Symbol) (q : List ℕ) (e : Symbol) → definition_of ss q ≡ Some e → is_wanted ss e.home ≡ true
unfolding definition_of is_wanted
wanted_home ss q e h = any_found (defines q) (is_wanted_by ss e.home) ss e h (and_from (is_first ss e) (eqb e.home e.home) (first_is ss q e h) (eq-eqb e.home e.home refl))

not_left : (comdat named wanted : Bool) → wanted ≡ true → (comdat && (named && not wanted)) ≡ false
not_left false named wanted w = refl
not_left true false wanted w = refl
not_left true true wanted w = ap not w

left_at : (ss : List Symbol) (k : ℕ) (sections : List Section) (n : ℕ) → is_wanted ss (k + n) ≡ true → get_or (left_from ss k sections) n false ≡ false
left_at ss k [] n w = refl
left_at ss k (s ∷ rest) zero w =
    let same : k + 0 ≡ k = omega arith in
    not_left s.comdat (is_named ss k) (is_wanted ss k) (ap (is_wanted ss) (sym same) ∙ w)
left_at ss k (s ∷ rest) (suc n) w =
    let same : (k + 1) + n ≡ k + suc n = omega arith in
    left_at ss (k + 1) rest n (ap (is_wanted ss) same ∙ w)

pub homes_kept : (ss : List Symbol) (sections : List Section) (q : List ℕ) → HomeIsKept ss sections q
unfolding left_out
homes_kept ss sections q e h =
    let same : 0 + e.home ≡ e.home = omega arith in
    left_at ss 0 sections e.home (ap (is_wanted ss) same ∙ wanted_home ss q e h)
