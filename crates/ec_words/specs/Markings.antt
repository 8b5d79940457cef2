-- Markings: this project's own. A base, and then any number of names, each behind a comma. The base says
-- the side of each definition by its number, and each named definition is turned to the other side.
use Rattle.std.specs.Prelude.{◌≡◌, ℕ, ◌+◌, ◌-◌, ◌/◌, ◌%◌, ◌^◌, List, [], ◌∷◌, ◌++◌, map, Bool, not, ◌&&◌, ◌==◌, nat_le, find, Option, Some, None, option_map, codes, if◌then◌else◌}
use Rattle.std.specs.Str.{bytes_eq}
use Rattle.std.specs.List.{list_any}
use Rattle.hx_names.specs.declared.pieces.Side.{Side}
use Rattle.hx_names.specs.declared.pieces.Side.TheVariants as side
use Rattle.ec_words.specs.declared.markings.BaseMarking.{BaseMarking}
use Rattle.ec_words.specs.declared.markings.BaseMarking.TheVariants.{X64, Ec, Alternate, Pattern}
use Rattle.ec_words.specs.declared.markings.Marking.{Marking}
use Rattle.ec_words.specs.declared.sides.MarkRefusal.{MarkRefusal}
use Rattle.ec_words.specs.declared.sides.MarkRefusal.TheVariants.{Unknown, NoMemory}

-- a marking: its base, and the names that are turned
pub record Marks : Type 0 where
  pub base : BaseMarking
  pub turned : List (List ℕ)

-- a marking of the program, as contracts see it
abbrev pub marks_of : Marking → Marks
marks_of m = record { base = m.base; turned = map (λ name. name.items) m.turned.items }

-- the pieces of a text between commas (44), of which the first has these bytes before it
abbrev pub pieces_after : List ℕ → List ℕ → List (List ℕ)
pieces_after front [] = front ∷ []
pieces_after front (b ∷ bs) = if b == 44 then front ∷ pieces_after [] bs else pieces_after (front ++ b ∷ []) bs

-- `b0` to `b7`
abbrev pub pattern_of : List ℕ → Option BaseMarking
pattern_of (b ∷ (d ∷ [])) = if (b == 98) && (nat_le 48 d && nat_le d 55) then Some (Pattern (d - 48)) else None
pattern_of _ = None

-- the base of this name
abbrev pub base_of : List ℕ → Option BaseMarking
base_of word =
    if bytes_eq word (codes "x64") then Some X64
    else (if bytes_eq word (codes "ec") then Some Ec
    else (if bytes_eq word (codes "alt") then Some Alternate
    else pattern_of word))

-- the marking of a list of pieces
abbrev pub marks_in : List (List ℕ) → Option Marks
marks_in [] = None
marks_in (word ∷ names) = option_map (λ base. record { base = base; turned = names }) (base_of word)

-- the marking of the value of `-m`; all x64, where the option isn't there
abbrev pub marking_of : Option (List ℕ) → Option Marks
marking_of None = Some (record { base = X64; turned = [] })
marking_of (Some text) = marks_in (pieces_after [] text)

abbrev pub other_side : Side → Side
other_side side.X64 = side.Ec
other_side side.Ec = side.X64

-- EC where the digit is 1, and x64 where it is 0
abbrev pub side_of_bit : ℕ → Side
side_of_bit bit = if bit == 1 then side.Ec else side.X64

-- the side that the base gives the definition of this number, from 0
abbrev pub base_side : BaseMarking → ℕ → Side
base_side X64 k = side.X64
base_side Ec k = side.Ec
base_side Alternate k = side_of_bit (k % 2)
base_side (Pattern d) k = side_of_bit (d / 2 ^ (k % 3) % 2)

abbrev pub is_among : List (List ℕ) → List ℕ → Bool
is_among names name = list_any (λ n. bytes_eq n name) names

-- a named definition is on the other side, however often it is named
abbrev pub side_of : Marks → ℕ → List ℕ → Side
side_of m k name = if is_among m.turned name then other_side (base_side m.base k) else base_side m.base k

-- the sides of definitions, the first of which has the number k
abbrev pub sides_from : Marks → ℕ → List (List ℕ) → List Side
sides_from m k [] = []
sides_from m k (name ∷ names) = side_of m k name ∷ sides_from m (k + 1) names

-- the first of the names that are turned that no definition has
abbrev pub unknown_mark : List (List ℕ) → List (List ℕ) → Option (List ℕ)
unknown_mark turned names = find (λ name. not (is_among names name)) turned

-- the refusal tells that name, or want of memory
abbrev pub TellsMark : Option (List ℕ) → MarkRefusal → Type 0
TellsMark unknown (Unknown name) = unknown ≡ Some name.items
TellsMark unknown NoMemory = Unit {0}
