-- Places of one more argument.
use Rattle.std.proofs.Common.{◌≡◌, ℕ, ◌+◌, max, List, [], ◌∷◌, ◌++◌, sym, ap, ◌∙◌, arith}
use Rattle.std.proofs.lemmas.List.FromFn.{map-range_with_len_more}
use Rattle.std.proofs.lemmas.List.Sums.{fold_push}
use Rattle.sig_core.specs.declared.places.Slot.{Slot}
use Rattle.sig_core.specs.declared.places.ResultPlace.{ResultPlace}
use Rattle.sig_core.specs.declared.places.Placed.{Placed}
use Rattle.sig_core.specs.Places.{end_of, stack_of, places, placed_by, with_place}

pub places_more : (place : ℕ → Slot) (n : ℕ) → places place (n + 1) ≡ places place n ++ (place n ∷ [])
places_more place n = map-range_with_len_more place 0 n n (omega arith)

abbrev gathered : ResultPlace → List Slot → Placed
gathered back slots = record { args = slots; result = back; stack = stack_of slots }

with_place_gathered : (back : ResultPlace) (slots : List Slot) (slot : Slot) → with_place (gathered back slots) slot ≡ gathered back (slots ++ (slot ∷ []))
with_place_gathered back slots slot = ap (λ n. record { args = slots ++ (slot ∷ []); result = back; stack = n }) (sym (fold_push (λ end s. max end (end_of s)) 0 slots slot))

-- the places of one more argument
pub placed_more : (place : ℕ → Slot) (back : ResultPlace) (n : ℕ) (slot : Slot) → slot ≡ place n → with_place (placed_by place back n) slot ≡ placed_by place back (n + 1)
placed_more place back n slot e =
    ap (with_place (placed_by place back n)) e ∙ (with_place_gathered back (places place n) (place n) ∙ ap (gathered back) (sym (places_more place n)))
