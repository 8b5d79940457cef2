-- An array behind its brackets: of the counts in them the product, and the greatest product that the last of some
-- first of them have. Both stop at the limit of sizes. Above it stands that the extent by them is that of the layout.
use Rattle.std.specs.Prelude.{◌≡◌, ℕ, suc, ◌*◌, ◌<◌, ◌≤◌, min, Bool, true, false, cond, nat_lt, Option, Some, None}
use Rattle.c_types.specs.declared.types.Ty.{Ty}
use Rattle.c_types.specs.declared.types.Ty.TheVariants.{Void, Int, Ptr, Fun, Struct, Array}
use Rattle.c_types.specs.declared.types.Types.{Types}
use Rattle.c_types.specs.declared.parts.Extent.{Extent}
use Rattle.c_types.specs.declared.measure.Rows.{Rows}
use Rattle.c_types.specs.Layout.{extent_within}

abbrev pub limit : ℕ
limit = 4611686018427387904

abbrev pub capped : ℕ → ℕ
capped n = min n limit

abbrev pub is_array : Ty → Bool
is_array Void = false
is_array (Int i) = false
is_array (Ptr k) = false
is_array (Fun k) = false
is_array (Struct k) = false
is_array (Array k n) = true

-- rows of elements of an extent, by the product of the counts and the greatest of the products
abbrev pub row_extent : ℕ → ℕ → Option Extent → Option Extent
row_extent count most None = None
row_extent count most (Some e) = cond (nat_lt (most * e.size) 4611686018427387904) (Some (record { size = count * e.size; align = e.align })) None

-- what holds of the numbers
pub record IsRows (r : Rows) : Type 0 where
  pub some : 0 < r.most
  pub capped : r.most ≤ 4611686018427387904
  pub within : r.count ≤ r.most

-- what is left of a type behind one bracket
pub record IsInner (t : Types) (r next : Rows) : Type 0 where
  pub rows : IsRows next
  pub depth : suc next.depth ≡ r.depth
  pub extent : row_extent r.count r.most (extent_within r.depth t r.element) ≡ row_extent next.count next.most (extent_within next.depth t next.element)

-- what is left of a type behind all brackets
pub record IsWalked (t : Types) (ty : Ty) (d : ℕ) (r : Rows) : Type 0 where
  pub rows : IsRows r
  pub depth : r.depth ≤ d
  pub element : is_array r.element ≡ false
  pub extent : extent_within d t ty ≡ row_extent r.count r.most (extent_within r.depth t r.element)
