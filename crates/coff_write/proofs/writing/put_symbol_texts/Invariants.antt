use Rattle.std.proofs.Common.{◌≡◌, ◌++◌, drop}
use Rattle.coff_write.specs.Format.{symbol_texts}
use Rattle.coff_write.proofs.writing.put_symbol_texts.Given as goal

abbrev pub invariant-loop-s : goal.invariant-loop-s
invariant-loop-s l = l.out.items ++ symbol_texts (drop l.s-index l.symbols) ≡ l.initial.out.items ++ symbol_texts l.symbols
