-- One more section in the list of those that are kept.
use Rattle.std.proofs.Common.{◌≡◌, ℕ, ◌+◌, ◌<◌, Bool, true, false, cond, List, [], ◌∷◌, ◌++◌, length, get_or, drop, refl, sym, ap, ◌∙◌, append_assoc}
use Rattle.std.proofs.lemmas.List.{drop_more}
use Rattle.link_resolve.specs.declared.listing.Section.{Section}
use Rattle.link_resolve.specs.declared.resolved.SectionId.{SectionId}
use Rattle.link_resolve.specs.Refusals.{is_left}
use Rattle.link_resolve.specs.Resolution.{kept_from}

step : (left : List Bool) (n : ℕ) (ss : List Section) (s d : Section) → n < length ss → s ≡ get_or ss n d
    → kept_from left n (drop n ss) ≡ (cond (is_left left n) [] (s.id ∷ [])) ++ kept_from left (n + 1) (drop (n + 1) ss)
step left n ss s d lt is = ap (kept_from left n) (drop_more ss n d lt ∙ ap (λ (t : Section). t ∷ drop (n + 1) ss) (sym is))

pub kept_yes : (left : List Bool) (n : ℕ) (ss : List Section) (s d : Section) (kept : List SectionId) → is_left left n ≡ false → n < length ss → s ≡ get_or ss n d
    → (kept ++ s.id ∷ []) ++ kept_from left (n + 1) (drop (n + 1) ss) ≡ kept ++ kept_from left n (drop n ss)
kept_yes left n ss s d kept out lt is =
    append_assoc kept (s.id ∷ []) (kept_from left (n + 1) (drop (n + 1) ss))
    ∙ ap (λ xs. kept ++ xs) (sym (step left n ss s d lt is ∙ ap (λ b. cond b [] (s.id ∷ []) ++ kept_from left (n + 1) (drop (n + 1) ss)) out))

pub kept_no : (left : List Bool) (n : ℕ) (ss : List Section) (s d : Section) (kept : List SectionId) → is_left left n ≡ true → n < length ss → s ≡ get_or ss n d
    → kept ++ kept_from left (n + 1) (drop (n + 1) ss) ≡ kept ++ kept_from left n (drop n ss)
kept_no left n ss s d kept out lt is =
    ap (λ xs. kept ++ xs) (sym (step left n ss s d lt is ∙ ap (λ b. cond b [] (s.id ∷ []) ++ kept_from left (n + 1) (drop (n + 1) ss)) out))
