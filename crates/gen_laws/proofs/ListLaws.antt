-- The functions and the adjustors of so many lines: how many there are, their names, and one more at the end.
use Rattle.std.proofs.Common.{◌≡◌, ℕ, zero, suc, ◌+◌, ◌<◌, Bool, true, false, List, [], ◌∷◌, ◌++◌, length, Some, None, refl, ap, ◌∙◌, arith}
use Rattle.std.specs.Prelude.{bytes_eq, nat_lt, slice_get, slice_set, if◌then◌else◌}
use Rattle.std.specs.List.{position_or_len}
use Rattle.std.proofs.lemmas.List.{length_push}
use Rattle.std.proofs.lemmas.List.Folds.{position_or_len_push}
use Rattle.c_program.specs.declared.program.FunDef.{FunDef}
use Rattle.c_program.specs.declared.program.AdjustDef.{AdjustDef}
use Rattle.c_typing.specs.Externals.{function_named, adjustor_named}
use Rattle.gen_units.specs.Trees.{f_name}
use Rattle.gen_laws.specs.Programs.{adjusts, functions_before, adjustors_before, function_def, adjust_def, functions_up, adjustors_up}
use Rattle.gen_laws.proofs.NameLaws.{names_differ}

-- one more at the end

pub slice_get_end : {A : Type 0} (xs : List A) (x : A) → slice_get (xs ++ x ∷ []) (length xs) ≡ Some x
slice_get_end [] x = refl
slice_get_end (y ∷ ys) x = slice_get_end ys x

pub slice_set_end : {A : Type 0} (xs : List A) (x y : A) → slice_set (xs ++ x ∷ []) (length xs) y ≡ xs ++ y ∷ []
slice_set_end [] x y = refl
slice_set_end (z ∷ zs) x y = ap (λ l. z ∷ l) (slice_set_end zs x y)

none_more : {A : Type 0} (p : A → Bool) (xs : List A) (y : A) → position_or_len p xs ≡ length xs → p y ≡ false → position_or_len p (xs ++ y ∷ []) ≡ length (xs ++ y ∷ [])
none_more p xs y h other = grind (arith, position_or_len_push p xs y, length_push xs y)

not_below : (n m : ℕ) → n ≡ m → nat_lt n m ≡ false
not_below n m h = grind arith

-- their numbers

functions_by : (b : Bool) (fs : List FunDef) (f : FunDef) (n : ℕ) → length fs ≡ n → length (if b then fs else fs ++ f ∷ []) ≡ (if b then n else n + 1)
functions_by true fs f n h = h
functions_by false fs f n h = length_push fs f ∙ ap (λ m. m + 1) h

pub functions_length : (number k : ℕ) → length (functions_up number k) ≡ functions_before number k
functions_length number zero = refl
functions_length number (suc k) = functions_by (adjusts number k) (functions_up number k) (function_def number k) (functions_before number k) (functions_length number k)

adjustors_by : (b : Bool) (as' : List AdjustDef) (a : AdjustDef) (n : ℕ) → length as' ≡ n → length (if b then as' ++ a ∷ [] else as') ≡ (if b then n + 1 else n)
adjustors_by true as' a n h = length_push as' a ∙ ap (λ m. m + 1) h
adjustors_by false as' a n h = h

pub adjustors_length : (number k : ℕ) → length (adjustors_up number k) ≡ adjustors_before number k
adjustors_length number zero = refl
adjustors_length number (suc k) = adjustors_by (adjusts number k) (adjustors_up number k) (adjust_def number k) (adjustors_before number k) (adjustors_length number k)

-- their names

abbrev is_function : List ℕ → FunDef → Bool
is_function x f = bytes_eq f.name x

abbrev is_adjustor : List ℕ → AdjustDef → Bool
is_adjustor x a = bytes_eq a.name x

no_function_by : (b : Bool) (x : List ℕ) (fs : List FunDef) (f : FunDef) → position_or_len (is_function x) fs ≡ length fs → bytes_eq f.name x ≡ false →
    position_or_len (is_function x) (if b then fs else fs ++ f ∷ []) ≡ length (if b then fs else fs ++ f ∷ [])
no_function_by true x fs f h other = h
no_function_by false x fs f h other = none_more (is_function x) fs f h other

functions_without : (number k : ℕ) (x : List ℕ) → ((i : ℕ) → i < k → bytes_eq (f_name i) x ≡ false) → position_or_len (is_function x) (functions_up number k) ≡ length (functions_up number k)
functions_without number zero x other = refl
functions_without number (suc k) x other = no_function_by (adjusts number k) x (functions_up number k) (function_def number k) (functions_without number k x (λ i h. other i (omega arith))) (other k (omega arith))

no_adjustor_by : (b : Bool) (x : List ℕ) (as' : List AdjustDef) (a : AdjustDef) → position_or_len (is_adjustor x) as' ≡ length as' → bytes_eq a.name x ≡ false →
    position_or_len (is_adjustor x) (if b then as' ++ a ∷ [] else as') ≡ length (if b then as' ++ a ∷ [] else as')
no_adjustor_by true x as' a h other = none_more (is_adjustor x) as' a h other
no_adjustor_by false x as' a h other = h

adjustors_without : (number k : ℕ) (x : List ℕ) → ((i : ℕ) → i < k → bytes_eq (f_name i) x ≡ false) → position_or_len (is_adjustor x) (adjustors_up number k) ≡ length (adjustors_up number k)
adjustors_without number zero x other = refl
adjustors_without number (suc k) x other = no_adjustor_by (adjusts number k) x (adjustors_up number k) (adjust_def number k) (adjustors_without number k x (λ i h. other i (omega arith))) (other k (omega arith))

-- a name that is none of the functions' is no function's and no adjustor's
pub no_function_named : (number k : ℕ) (x : List ℕ) → ((i : ℕ) → i < k → bytes_eq (f_name i) x ≡ false) → function_named (functions_up number k) x ≡ None
no_function_named number k x other = rw (not_below (position_or_len (is_function x) (functions_up number k)) (length (functions_up number k)) (functions_without number k x other)) refl

pub no_adjustor_named : (number k : ℕ) (x : List ℕ) → ((i : ℕ) → i < k → bytes_eq (f_name i) x ≡ false) → adjustor_named (adjustors_up number k) x ≡ None
no_adjustor_named number k x other = rw (not_below (position_or_len (is_adjustor x) (adjustors_up number k)) (length (adjustors_up number k)) (adjustors_without number k x other)) refl

-- nor is the name of the next line
pub no_function_next : (number k : ℕ) → k < 2147483648 → function_named (functions_up number k) (f_name k) ≡ None
no_function_next number k h = no_function_named number k (f_name k) (λ i less. names_differ i k (omega (arith, h, less)) h (λ e. omega (arith, e, less)))

pub no_adjustor_next : (number k : ℕ) → k < 2147483648 → adjustor_named (adjustors_up number k) (f_name k) ≡ None
no_adjustor_next number k h = no_adjustor_named number k (f_name k) (λ i less. names_differ i k (omega (arith, h, less)) h (λ e. omega (arith, e, less)))
