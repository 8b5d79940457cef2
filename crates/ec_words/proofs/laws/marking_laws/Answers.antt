use Rattle.std.proofs.Common.{◌≡◌, ℕ, ◌||◌, ◌==◌, Bool, true, false, List, [], ◌∷◌, ◌++◌, if◌then◌else◌, refl, sym, ap, ap₂, ◌∙◌, append-nil, append_assoc}
use Rattle.std.specs.List.{list_any}
use Rattle.std.proofs.lemmas.List.Folds.{list_any-append}
use Rattle.std.proofs.lemmas.Bool.Decides.{Decides-eqb}
use Rattle.ec_words.specs.Laws.{joined, has_comma}
use Rattle.ec_words.specs.Markings.{pieces_after}
use Rattle.ec_words.proofs.laws.marking_laws.Goals as goal

apart : (front text : List ℕ) → has_comma front ≡ false → list_any has_comma (pieces_after front text) ≡ false
apart front [] e = ap (λ b. b || false) e
apart front (b ∷ bs) e = go (b == 44) refl (apart [] bs refl) (apart (front ++ b ∷ []) bs)
  where
    go : (t : Bool) → (b == 44) ≡ t → list_any has_comma (pieces_after [] bs) ≡ false → (has_comma (front ++ b ∷ []) ≡ false → list_any has_comma (pieces_after (front ++ b ∷ []) bs) ≡ false)
        → list_any has_comma (if t then front ∷ pieces_after [] bs else pieces_after (front ++ b ∷ []) bs) ≡ false
    go true h others longer = ap₂ (λ x y. x || y) e others
    go false h others longer = longer (list_any-append (λ x. x == 44) front (b ∷ []) ∙ ap₂ (λ x y. x || (y || false)) e h)

some_piece : (front text : List ℕ) → (x : List ℕ) × (xs : List (List ℕ)) × (pieces_after front text ≡ x ∷ xs)
some_piece front [] = (front, [], refl)
some_piece front (b ∷ bs) = go (b == 44) (some_piece (front ++ b ∷ []) bs)
  where
    go : (t : Bool) → ((x : List ℕ) × (xs : List (List ℕ)) × (pieces_after (front ++ b ∷ []) bs ≡ x ∷ xs))
        → (x : List ℕ) × (xs : List (List ℕ)) × ((if t then front ∷ pieces_after [] bs else pieces_after (front ++ b ∷ []) bs) ≡ x ∷ xs)
    go true longer = (front, pieces_after [] bs, refl)
    go false longer = longer

joined_more : (front x text : List ℕ) → joined (front ∷ pieces_after x text) ≡ front ++ 44 ∷ joined (pieces_after x text)
joined_more front x text = let some = some_piece x text in
    ap (λ ps. joined (front ∷ ps)) some.2 ∙ sym (ap (λ ps. front ++ 44 ∷ joined ps) some.2)

whole : (front text : List ℕ) → joined (pieces_after front text) ≡ front ++ text
whole front [] = sym (append-nil front)
whole front (b ∷ bs) = go (b == 44) refl (whole [] bs) (whole (front ++ b ∷ []) bs)
  where
    go : (t : Bool) → (b == 44) ≡ t → joined (pieces_after [] bs) ≡ bs → joined (pieces_after (front ++ b ∷ []) bs) ≡ (front ++ b ∷ []) ++ bs
        → joined (if t then front ∷ pieces_after [] bs else pieces_after (front ++ b ∷ []) bs) ≡ front ++ b ∷ bs
    go true h others longer =
        let comma : b ≡ 44 = (Decides-eqb b 44).0 h in
        joined_more front [] bs ∙ ap₂ (λ x rest. front ++ x ∷ rest) (sym comma) others
    go false h others longer = longer ∙ append_assoc front (b ∷ []) bs

pub returns : goal.returns
returns c = record { whole = whole []; apart = λ text. apart [] text refl }
