use Rattle.std.proofs.Common.{◌≡◌, ℕ, ◌&&◌, not, Bool, true, false, List, [], ◌∷◌, ◌++◌, Some, is_some, if◌then◌else◌, refl, sym, ap, ap₂, ◌∙◌}
use Rattle.std.specs.Str.{bytes_eq}
use Rattle.std.specs.List.{list_all, list_any}
use Rattle.std.proofs.lemmas.Slice.Eq.{bytes_eq-Decides}
use Rattle.ec_words.specs.Laws.{Pair, words_of}
use Rattle.ec_words.specs.Rule.{is_operand, operands, options, value_of, are_options}
use Rattle.ec_words.proofs.RuleLemmas.{pair_is, and_assoc}
use Rattle.ec_words.proofs.laws.line_laws.Goals as goal

split : (words : List (List ℕ)) → words ≡ operands words ++ options words
split [] = refl
split (w ∷ ws) = go (is_operand w) (split ws)
  where
    go : (b : Bool) → ws ≡ operands ws ++ options ws → w ∷ ws ≡ (if b then w ∷ operands ws else []) ++ (if b then options ws else w ∷ ws)
    go true e = ap (λ rest. w ∷ rest) e
    go false e = refl

front : (words : List (List ℕ)) → list_all is_operand (operands words) ≡ true
front [] = refl
front (w ∷ ws) = go (is_operand w) refl (front ws)
  where
    go : (b : Bool) → is_operand w ≡ b → list_all is_operand (operands ws) ≡ true → list_all is_operand (if b then w ∷ operands ws else []) ≡ true
    go true h e = ap₂ (λ x y. x && y) h e
    go false h e = refl

-- two texts that differ can't both be a third
apart : (a b name : List ℕ) → bytes_eq a b ≡ false → bytes_eq a name ≡ true → bytes_eq b name ≡ true → ⊥
apart a b name differ first second =
    let same : a ≡ b = (bytes_eq-Decides a name).0 first ∙ sym ((bytes_eq-Decides b name).0 second) in
    let equal : bytes_eq a b ≡ true = (bytes_eq-Decides a b).1 same in absurd (cc)

turned : (a b : List ℕ) → bytes_eq a b ≡ false → bytes_eq b a ≡ false
turned a b differ = go (bytes_eq b a) refl
  where
    go : (t : Bool) → bytes_eq b a ≡ t → bytes_eq b a ≡ false
    go false e = e
    go true e = absurd (apart a b a differ ((bytes_eq-Decides a a).1 refl) e)

values : (name : List ℕ) (before after : List Pair) (a b : Pair) → bytes_eq a.name b.name ≡ false
    → value_of name (words_of (before ++ a ∷ b ∷ after)) ≡ value_of name (words_of (before ++ b ∷ a ∷ after))
values name [] after a b differ = go (bytes_eq a.name name) (bytes_eq b.name name) refl refl
  where
    go : (s t : Bool) → bytes_eq a.name name ≡ s → bytes_eq b.name name ≡ t
        → (if s then Some a.value else (if t then Some b.value else value_of name (words_of after))) ≡ (if t then Some b.value else (if s then Some a.value else value_of name (words_of after)))
    go true true e f = absurd (apart a.name b.name name differ e f)
    go true false e f = refl
    go false t e f = refl
values name (o ∷ before) after a b differ = ap (λ v. if bytes_eq o.name name then Some o.value else v) (values name before after a b differ)

swap : (p q r : Bool) → (p && (q && r)) ≡ (q && (p && r))
swap true q r = refl
swap false true r = refl
swap false false r = refl

abbrev pair_and : List (List ℕ) → Pair → List (List ℕ) → Bool → Bool
pair_and names o os rest = list_any (λ name. bytes_eq name o.name) names && (is_operand o.value && (not (is_some (value_of o.name os)) && rest))

three : (names : List (List ℕ)) (o : Pair) (os : List (List ℕ)) (rest : Bool) → pair_and names o os rest ≡ (pair_is names o.name o.value os && rest)
three names o os rest = and_assoc (list_any (λ name. bytes_eq name o.name) names) (is_operand o.value) (not (is_some (value_of o.name os))) rest

order : (names : List (List ℕ)) (before after : List Pair) (a b : Pair) → bytes_eq a.name b.name ≡ false
    → are_options names (words_of (before ++ a ∷ b ∷ after)) ≡ are_options names (words_of (before ++ b ∷ a ∷ after))
order names [] after a b differ =
    let os = words_of after in
    let rest = are_options names os in
    rw (turned a.name b.name differ, differ)
    (three names a os (pair_and names b os rest)
    ∙ ap (λ x. pair_is names a.name a.value os && x) (three names b os rest)
    ∙ swap (pair_is names a.name a.value os) (pair_is names b.name b.value os) rest
    ∙ sym (ap (λ x. pair_is names b.name b.value os && x) (three names a os rest))
    ∙ sym (three names b os (pair_and names a os rest)))
order names (o ∷ before) after a b differ =
    ap₂ (λ v rest. list_any (λ name. bytes_eq name o.name) names && (is_operand o.value && (not (is_some v) && rest))) (values o.name before after a b differ) (order names before after a b differ)

pub returns : goal.returns
returns c = record { split = split; front = front; order = order; values = values }
