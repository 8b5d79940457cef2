-- Lemmas of the rule of words.
use Rattle.std.proofs.Common.{◌≡◌, ℕ, ◌-◌, ◌<◌, ◌≤◌, ◌&&◌, ◌==◌, not, zero, suc, Bool, true, false, List, [], ◌∷◌, ◌++◌, map, length, take, drop, is_some, slice_index_or, refl, sym, ap, ap₂, ◌∙◌, ◌||◌, codes, arith}
use Rattle.std.proofs.lemmas.List.{take_all, drop-map, length-drop, length-take-le, length-map}
use Rattle.std.specs.Str.{bytes_eq}
use Rattle.std.specs.List.{list_any}
use Rattle.ec_words.specs.declared.table.Verb.{Verb}
use Rattle.ec_words.specs.Table.{options_of, needs_output}
use Rattle.ec_words.specs.Rule.{is_operand, operands, options, value_of, are_options, takes_count, is_line}

pub short_value : {A : Type 0} (f : A → List ℕ) (name : List ℕ) (ws : List A) → length ws < 2 → false ≡ is_some (value_of name (map f ws))
short_value f name [] h = refl
short_value f name (w ∷ []) h = refl
short_value f name (w ∷ (v ∷ ws)) h = absurd (omega arith)

pub short_options : {A : Type 0} (f : A → List ℕ) (names : List (List ℕ)) (ws : List A) → length ws < 2 → (length ws == 0) ≡ are_options names (map f ws)
short_options f names [] h = refl
short_options f names (w ∷ []) h = refl
short_options f names (w ∷ (v ∷ ws)) h = absurd (omega arith)

abbrev pub pair_is : List (List ℕ) → List ℕ → List ℕ → List (List ℕ) → Bool
pair_is names n v rest = list_any (λ name. bytes_eq name n) names && (is_operand v && not (is_some (value_of n rest)))

pub and_assoc : (a b c d : Bool) → (a && (b && (c && d))) ≡ ((a && (b && c)) && d)
and_assoc true true c d = refl
and_assoc true false c d = refl
and_assoc false b c d = refl

-- what a pattern of two words and the rest takes as the rest
abbrev pub rest_after : {A : Type 0} → List A → List A
rest_after ws = take (length ws - 2) (drop 2 ws)

rest_is : {A : Type 0} (x y : A) (ws : List A) → rest_after (x ∷ (y ∷ ws)) ≡ ws
rest_is x y ws = take_all (length (x ∷ (y ∷ ws)) - 2) ws (omega arith)

-- a name and a value, and the options after them
pub pair_options : {A : Type 0} (f : A → List ℕ) (names : List (List ℕ)) (ws : List A) (n v : A) → 2 ≤ length ws → n ≡ slice_index_or ws 0 n → v ≡ slice_index_or ws 1 v
    → are_options names (map f ws) ≡ (pair_is names (f n) (f v) (map f (rest_after ws)) && are_options names (map f (rest_after ws)))
pair_options f names [] n v h a b = absurd (omega arith)
pair_options f names (x ∷ []) n v h a b = absurd (omega arith)
pair_options f names (x ∷ (y ∷ ws)) n v h a b =
    rw (rest_is x y ws, a, b) (and_assoc (list_any (λ name. bytes_eq name (f x)) names) (is_operand (f y)) (not (is_some (value_of (f x) (map f ws)))) (are_options names (map f ws)))

-- the words up to an operand, and those after it
pub front_more : {A : Type 0} (f : A → List ℕ) (ws : List A) (i : ℕ) (w : A) → i < length ws → w ≡ slice_index_or ws i w → is_operand (f w) ≡ true
    → take (suc i) (map f ws) ++ operands (drop (suc i) (map f ws)) ≡ take i (map f ws) ++ operands (drop i (map f ws))
front_more f [] i w h a t = absurd (omega arith)
front_more f (x ∷ xs) zero w h a t = let t' : is_operand (f x) ≡ true = ap (λ y. is_operand (f y)) (sym a) ∙ t in rw t' refl
front_more f (x ∷ xs) (suc i) w h a t = ap (λ zs. f x ∷ zs) (front_more f xs i w (omega arith) a t)

pub back_more : {A : Type 0} (f : A → List ℕ) (ws : List A) (i : ℕ) (w : A) → i < length ws → w ≡ slice_index_or ws i w → is_operand (f w) ≡ true
    → options (drop (suc i) (map f ws)) ≡ options (drop i (map f ws))
back_more f [] i w h a t = absurd (omega arith)
back_more f (x ∷ xs) zero w h a t = let t' : is_operand (f x) ≡ true = ap (λ y. is_operand (f y)) (sym a) ∙ t in rw t' refl
back_more f (x ∷ xs) (suc i) w h a t = back_more f xs i w (omega arith) a t

-- the words from one on that is no operand
pub front_end : {A : Type 0} (f : A → List ℕ) (ws : List A) (i : ℕ) (w : A) → i < length ws → w ≡ slice_index_or ws i w → is_operand (f w) ≡ false
    → operands (drop i (map f ws)) ≡ []
front_end f [] i w h a t = absurd (omega arith)
front_end f (x ∷ xs) zero w h a t = let t' : is_operand (f x) ≡ false = ap (λ y. is_operand (f y)) (sym a) ∙ t in rw t' refl
front_end f (x ∷ xs) (suc i) w h a t = front_end f xs i w (omega arith) a t

pub back_end : {A : Type 0} (f : A → List ℕ) (ws : List A) (i : ℕ) (w : A) → i < length ws → w ≡ slice_index_or ws i w → is_operand (f w) ≡ false
    → options (drop i (map f ws)) ≡ drop i (map f ws)
back_end f [] i w h a t = absurd (omega arith)
back_end f (x ∷ xs) zero w h a t = let t' : is_operand (f x) ≡ false = ap (λ y. is_operand (f y)) (sym a) ∙ t in rw t' refl
back_end f (x ∷ xs) (suc i) w h a t = back_end f xs i w (omega arith) a t

-- how many operands the words begin with, where the words up to there are they
pub operands_count : (ws : List (List ℕ)) (n : ℕ) → n ≤ length ws → take n ws ≡ operands ws → n ≡ length (operands ws)
operands_count ws n h e = sym (length-take-le n ws h) ∙ ap length e

-- what a range from a place takes as the rest
abbrev pub rest_from : {A : Type 0} → List A → ℕ → List A
rest_from ws n = take (length ws - n) (drop n ws)

pub options_rest : {A : Type 0} (f : A → List ℕ) (ws : List A) (n : ℕ) → drop n (map f ws) ≡ options (map f ws) → map f (rest_from ws n) ≡ options (map f ws)
options_rest f ws n e =
    let whole : rest_from ws n ≡ drop n ws = take_all (length ws - n) (drop n ws) (simp length-drop (omega arith)) in
    ap (map f) whole ∙ sym (drop-map f n ws) ∙ e

abbrev pub required_is : Verb → List (List ℕ) → Bool
required_is verb os = not (needs_output verb) || is_some (value_of (codes "-o") os)

pub line_is : {A : Type 0} (f : A → List ℕ) (verb : Verb) (ws : List A) (n : ℕ) → n ≤ length ws → take n (map f ws) ≡ operands (map f ws) → drop n (map f ws) ≡ options (map f ws)
    → (takes_count verb n && are_options (options_of verb) (map f (rest_from ws n)) && required_is verb (map f (rest_from ws n))) ≡ is_line verb (map f ws)
line_is f verb ws n h front back =
    let count : n ≡ length (operands (map f ws)) = operands_count (map f ws) n (simp length-map (omega arith)) front in
    let both : (os : List (List ℕ)) → os ≡ options (map f ws) → (takes_count verb n && are_options (options_of verb) os && required_is verb os) ≡ is_line verb (map f ws) =
    λ os e. ap₂ (λ m ys. takes_count verb m && are_options (options_of verb) ys && required_is verb ys) count e in
    both (map f (rest_from ws n)) (options_rest f ws n back)

-- the words after the first places, and the texts of them
pub rest_map : {A : Type 0} (f : A → List ℕ) (ws : List A) (n : ℕ) → map f (rest_from ws n) ≡ drop n (map f ws)
rest_map f ws n =
    let whole : rest_from ws n ≡ drop n ws = take_all (length ws - n) (drop n ws) (simp length-drop (omega arith)) in
    ap (map f) whole ∙ sym (drop-map f n ws)
