-- The tables of an image's hybrid metadata as whole lists: when they are in order, and what they say
-- of a place. The tables are those of Arm64EC images (winnt.h, IMAGE_ARM64EC_METADATA: CodeMap and
-- RedirectionMetadata).
use Rattle.std.specs.Prelude.{ℕ, ◌+◌, Bool, true, ◌&&◌, ◌||◌, List, [], ◌∷◌, ◌==◌, nat_le, nat_lt, if◌then◌else◌, Option, Some, None}
use Rattle.std.specs.List.{list_all}
use Rattle.chpe_types.specs.declared.image.CodeRange.{CodeRange}
use Rattle.chpe_types.specs.declared.image.Redirect.{Redirect}
use Rattle.chpe_types.specs.declared.image.Meta.{Meta}

-- each two neighbours of a list pass, the first of them being x
abbrev pub each_follows : {X : Type 0} → (X → X → Bool) → X → List X → Bool
each_follows p x [] = true
each_follows p x (y ∷ ys) = p x y && each_follows p y ys

-- each two neighbours of a list pass
abbrev pub all_neighbours : {X : Type 0} → (X → X → Bool) → List X → Bool
all_neighbours p [] = true
all_neighbours p (x ∷ xs) = each_follows p x xs

-- ---- the code map

-- the first place past a range
abbrev pub range_end : CodeRange → ℕ
range_end r = r.start + r.length

-- a range ends by the start of the next
abbrev pub ends_by : CodeRange → CodeRange → Bool
ends_by r next = nat_le (range_end r) next.start

-- 1 is Arm64EC, 2 is x64
abbrev pub has_side : CodeRange → Bool
has_side r = (r.kind == 1) || (r.kind == 2)

abbrev pub valid_ranges : List CodeRange → Bool
valid_ranges rs = list_all has_side rs && all_neighbours ends_by rs

-- the place lies in the range
abbrev pub is_in : CodeRange → ℕ → Bool
is_in r a = nat_le r.start a && nat_lt a (range_end r)

-- the kind of the first range that the place lies in
abbrev pub kind_in : List CodeRange → ℕ → Option ℕ
kind_in [] a = None
kind_in (r ∷ rs) a = if is_in r a then Some r.kind else kind_in rs a

-- ---- the redirections

abbrev pub comes_before : Redirect → Redirect → Bool
comes_before r next = nat_lt r.source next.source

abbrev pub valid_redirects : List Redirect → Bool
valid_redirects rs = all_neighbours comes_before rs

-- the destination of the first redirection from the place
abbrev pub redirect_in : List Redirect → ℕ → Option ℕ
redirect_in [] a = None
redirect_in (r ∷ rs) a = if r.source == a then Some r.destination else redirect_in rs a

-- ---- the metadata

abbrev pub valid_meta_of : Meta → Bool
valid_meta_of m = valid_ranges m.ranges && valid_redirects m.redirects

abbrev pub kind_of : Meta → ℕ → Option ℕ
kind_of m a = kind_in m.ranges a

abbrev pub redirect_of : Meta → ℕ → Option ℕ
redirect_of m a = redirect_in m.redirects a
