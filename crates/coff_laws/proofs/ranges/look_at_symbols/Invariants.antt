use Rattle.std.proofs.Common.{◌≡◌, ℕ, ◌<◌, ◌^◌, Some, slice_get}
use Rattle.coff_write.specs.declared.object.ObjSymbol.{ObjSymbol as AnySymbol}
use Rattle.coff_laws.proofs.ranges.look_at_symbols.Given as goal

abbrev pub invariant-loop-symbol : goal.invariant-loop-symbol
invariant-loop-symbol l = (k : ℕ) → k < l.symbol-index → (s : AnySymbol) → slice_get l.symbols k ≡ Some s → s.value < 2 ^ 32
