-- Objects whose numbers are those of 32 bits that their types hold. The other numbers of a valid object are
-- bounded by the sizes in it.
use Rattle.std.specs.Prelude.{◌≡◌, ℕ, ◌<◌, ◌^◌, Some, slice_get}
use Rattle.coff_write.specs.declared.object.ObjSection.{ObjSection}
use Rattle.coff_write.specs.declared.object.ObjSymbol.{ObjSymbol}
use Rattle.coff_write.specs.declared.object.Object.{Object}

pub record HasRanges (o : Object) : Type 0 where
  pub flags : (i : ℕ) (s : ObjSection) → slice_get o.sections i ≡ Some s → s.flags < 2 ^ 32
  pub zeros : (i : ℕ) (s : ObjSection) → slice_get o.sections i ≡ Some s → s.zeros < 2 ^ 32
  pub values : (j : ℕ) (s : ObjSymbol) → slice_get o.symbols j ≡ Some s → s.value < 2 ^ 32
