-- What the names of a unit mean behind so many lines.
use Rattle.std.proofs.Common.{◌≡◌, ℕ, zero, suc, ◌+◌, ◌<◌, ◌≤◌, Bool, true, false, cond, List, [], ◌∷◌, ◌++◌, length, Option, Some, None, refl, ◌∙◌, arith, lit≤, eqb}
use Rattle.std.specs.Prelude.{codes, decimal, bytes_eq}
use Rattle.std.specs.Str.Parse.{AllDigits}
use Rattle.std.proofs.lemmas.Fmt.{decimal_is_IsNumeral, decimal_injective}
use Rattle.std.proofs.lemmas.Str.Parse.{digit_from_value}
use Rattle.std.proofs.lemmas.Bool.{ne_eqb}
use Rattle.std.proofs.lemmas.Slice.Eq.{bytes_eq-Decides}
use Rattle.c_typing.specs.declared.scopes.Meaning.{Meaning}
use Rattle.c_typing.specs.declared.scopes.Meaning.TheVariants as meaning
use Rattle.c_typing.specs.declared.scopes.UnitName.{UnitName}
use Rattle.c_typing.specs.Scopes.{meaning_in}
use Rattle.gen_units.specs.Trees.{f_name}
use Rattle.gen_laws.specs.Programs.{meaning_at, names_up}

front_by : (b : Bool) (m : Meaning) (a r r' : Option Meaning) → (r ≡ Some m → r' ≡ Some m) → cond b a r ≡ Some m → cond b a r' ≡ Some m
front_by true m a r r' more h = h
front_by false m a r r' more h = more h

pub meaning_front : (ns more : List UnitName) (x : List ℕ) (m : Meaning) → meaning_in ns x ≡ Some m → meaning_in (ns ++ more) x ≡ Some m
meaning_front [] more x m h = cc
meaning_front (n ∷ ns) more x m h = front_by (bytes_eq n.name x) m (Some n.meaning) (meaning_in ns x) (meaning_in (ns ++ more) x) (meaning_front ns more x m) h

behind_by : (b : Bool) (m : Meaning) (r r' o : Option Meaning) → (r ≡ None → r' ≡ o) → cond b (Some m) r ≡ None → cond b (Some m) r' ≡ o
behind_by true m r r' o more h = cc
behind_by false m r r' o more h = more h

pub meaning_behind : (ns more : List UnitName) (x : List ℕ) → meaning_in ns x ≡ None → meaning_in (ns ++ more) x ≡ meaning_in more x
meaning_behind [] more x h = refl
meaning_behind (n ∷ ns) more x h = behind_by (bytes_eq n.name x) n.meaning (meaning_in ns x) (meaning_in (ns ++ more) x) (meaning_in more x) (meaning_behind ns more x) h

false_by : (b : Bool) → (b ≡ true → ⊥) → b ≡ false
false_by true h = absurd (h refl)
false_by false h = refl

-- the names of two functions differ
pub names_differ : (i j : ℕ) → i < 2147483648 → j < 2147483648 → (i ≡ j → ⊥) → bytes_eq (f_name i) (f_name j) ≡ false
names_differ i j hi hj other =
    let wide : 2147483648 ≤ 18446744073709551616 = lit≤ tt in
    false_by (bytes_eq (f_name i) (f_name j)) (λ same.
    let texts : bytes_eq (decimal i) (decimal j) ≡ true = same in
    other (decimal_injective i j (omega (arith, hi, wide)) (omega (arith, hj, wide)) ((bytes_eq-Decides (decimal i) (decimal j)).0 texts)))

digit_differs : (d c : ℕ) (ds : List ℕ) → AllDigits 10 (d ∷ ds) → 58 ≤ c → eqb c d ≡ false
digit_differs d c ds h large = ne_eqb c d (λ e. omega (arith, e, digit_from_value d h.0, large))

fn_differs_by : (ds : List ℕ) → AllDigits 10 ds → 0 < length ds → bytes_eq (codes "fn") (102 ∷ ds) ≡ false
fn_differs_by [] h some = absurd (omega arith)
fn_differs_by (d ∷ ds) h some = rw (digit_differs d 110 ds h (omega arith))

-- and from that of their type
pub fn_differs : (k : ℕ) → k < 2147483648 → bytes_eq (codes "fn") (f_name k) ≡ false
fn_differs k h =
    let wide : 2147483648 ≤ 18446744073709551616 = lit≤ tt in
    let numeral = decimal_is_IsNumeral k (omega (arith, h, wide)) in
    fn_differs_by (decimal k) numeral.0.1 numeral.0.0

-- a name that is none of the functions' means what it means without them
each_other : (k : ℕ) (x : List ℕ) → ((i : ℕ) → i < k → bytes_eq (f_name i) x ≡ false) → (number : ℕ) → bytes_eq (codes "fn") x ≡ false → meaning_in (names_up number k) x ≡ None
each_other zero x other number first = rw first
each_other (suc k) x other number first =
    meaning_behind (names_up number k) (record { name = f_name k; meaning = meaning_at number k } ∷ []) x (each_other k x (λ i h. other i (omega arith)) number first)
    ∙ (rw (other k (omega arith)))

pub means_nothing : (number k : ℕ) (x : List ℕ) → bytes_eq (codes "fn") x ≡ false → ((i : ℕ) → i < k → bytes_eq (f_name i) x ≡ false) → meaning_in (names_up number k) x ≡ None
means_nothing number k x first other = each_other k x other number first

pub type_means : (number k : ℕ) → meaning_in (names_up number k) (codes "fn") ≡ Some (meaning.Typedef 0)
type_means number zero = refl
type_means number (suc k) = meaning_front (names_up number k) (record { name = f_name k; meaning = meaning_at number k } ∷ []) (codes "fn") (meaning.Typedef 0) (type_means number k)

-- function k isn't declared before its line, and is from then on
pub new_function : (number k : ℕ) → k < 2147483648 → meaning_in (names_up number k) (f_name k) ≡ None
new_function number k h = means_nothing number k (f_name k) (fn_differs k h) (λ i less. names_differ i k (omega (arith, h, less)) h (λ e. omega (arith, e, less)))

same_name : (x : List ℕ) → bytes_eq x x ≡ true
same_name x = (bytes_eq-Decides x x).1 refl

pub function_means : (number j more : ℕ) → j < 2147483648 → meaning_in (names_up number (suc (j + more))) (f_name j) ≡ Some (meaning_at number j)
function_means number j zero h =
    let here : j + 0 ≡ j = omega arith in
    rw here (meaning_behind (names_up number j) (record { name = f_name j; meaning = meaning_at number j } ∷ []) (f_name j) (new_function number j h) ∙ (rw (same_name (f_name j))))
function_means number j (suc more) h =
    let next : j + suc more ≡ suc (j + more) = omega arith in
    rw next (meaning_front (names_up number (suc (j + more))) (record { name = f_name (suc (j + more)); meaning = meaning_at number (suc (j + more)) } ∷ []) (f_name j) (meaning_at number j) (function_means number j more h))
