use Rattle.std.proofs.Common.{◌≡◌, drop}
use Rattle.coff_write.specs.Valid.{valid_symbols}
use Rattle.coff_write.proofs.validity.right_symbols.Given as goal

abbrev pub invariant-loop-j : goal.invariant-loop-j
invariant-loop-j l = valid_symbols l.o l.j (drop l.j l.symbols) ≡ valid_symbols l.o 0 l.symbols
