use Rattle.std.proofs.Common.{◌≡◌, ◌+◌, ◌≤◌, ◌++◌, drop}
use Rattle.coff_write.specs.Format.{symbol_table, symbol_names_size, cap}
use Rattle.coff_write.proofs.writing.put_symbols.Given as goal

abbrev pub invariant-loop-j : goal.invariant-loop-j
invariant-loop-j l = record {
  items : l.out.items ++ symbol_table l.sections l.symbols l.j l.place (drop l.j l.symbols) ≡ l.initial.out.items ++ symbol_table l.sections l.symbols 0 l.start l.symbols;
  room : l.place + symbol_names_size (drop l.j l.symbols) ≤ cap;
}
