-- What the index of names holds: of each name its first definition, and whether there are more.
use Rattle.std.specs.Prelude.{◌≡◌, ℕ, Bool, true, false, not, ◌||◌, List, Option, Some, None, nat_lt, count_by, position}
use Rattle.std.specs.List.{list_any}
use Rattle.std.specs.Str.{bytes_eq}
use Rattle.std.specs.HashMap.{HashMap, get_by}
use denote.Ref.{Bor}
use Rattle.link_resolve.specs.declared.table.Known.{Known}
use Rattle.link_resolve.specs.Symbols.{Symbol}
use Rattle.link_resolve.specs.Meaning.{defines}
use Rattle.link_resolve.specs.Refusals.{defines_alone}

abbrev pub known_at : List Symbol → List ℕ → Option ℕ → Option Known
known_at symbols name None = None
known_at symbols name (Some i) = Some (record { first = i; several = nat_lt 1 (count_by (defines name) symbols); alone = list_any (defines_alone name) symbols })

unfoldable pub known : List Symbol → List ℕ → Option Known
known symbols name = known_at symbols name (position (defines name) symbols)

-- with one more definition at this place
abbrev pub known_with : Option Known → ℕ → Bool → Known
known_with None at comdat = record { first = at; several = false; alone = not comdat }
known_with (Some k) at comdat = record { first = k.first; several = true; alone = k.alone || not comdat }

abbrev pub Indexes : {S : Type 0} → HashMap (Bor (List ℕ)) Known S → List Symbol → Type 0
Indexes index symbols = (name : List ℕ) → get_by (λ k. bytes_eq name k.now) index ≡ known symbols name
