-- Where the rows of each name stand first.
use Rattle.std.specs.Prelude.{◌≡◌, ℕ, ◌<◌, Bool, true, false, List, [], ◌∷◌, Option, Some, None, IsSome, position, bytes_eq, nat_eq}
use Rattle.std.specs.Global.{Vec}
use Rattle.std.specs.HashMap.{HashMap, get_by}
use Rattle.std.specs.Cmp.Lexicographic.{pointwise}

-- the place that an index has for a key
abbrev pub look_up : {E S : Type 0} → (E → E → Bool) → HashMap (Vec E) ℕ S → List E → Option ℕ
look_up eq places key = get_by (λ k. pointwise eq key k.items) places

-- a copy of a key that an index lacks, where it has room for it
abbrev pub KeyFor : {E : Type 0} → Option ℕ → List E → ℕ → Option (Vec E) → Type 0
KeyFor known key room None = IsSome known
KeyFor known key room (Some copy) = (known ≡ None) × (copy.items ≡ key) × (0 < room)

-- an index has the first place of each name, and no other names
abbrev pub Places : {A S : Type 0} → (A → List ℕ) → HashMap (Vec ℕ) ℕ S → List A → Type 0
Places name places rows = (key : List ℕ) → look_up nat_eq places key ≡ position (λ row. bytes_eq (name row) key) rows

-- no row has this name
abbrev pub NoneNamed : {A : Type 0} → (A → List ℕ) → List ℕ → List A → Type 0
NoneNamed name key [] = Unit {0}
NoneNamed name key (row ∷ rows) = (bytes_eq (name row) key ≡ false) × NoneNamed name key rows

-- each name stands once
abbrev pub AreDistinct : {A : Type 0} → (A → List ℕ) → List A → Type 0
AreDistinct name [] = Unit {0}
AreDistinct name (row ∷ rows) = NoneNamed name (name row) rows × AreDistinct name rows

-- What a list of rows with names keeps.
pub record IsIndexed {A S : Type 0} (name : A → List ℕ) (places : HashMap (Vec ℕ) ℕ S) (distinct : Bool) (rows : List A) : Type 0 where
  pub firsts : Places name places rows
  pub once : distinct ≡ true → AreDistinct name rows
