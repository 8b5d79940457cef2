use Rattle.std.proofs.Common.{◌≡◌, ◌+◌, ◌≤◌, ◌++◌, drop}
use Rattle.coff_write.specs.Format.{records_total, record_numbers, cap}
use Rattle.coff_write.proofs.records.numbers_of.Given as goal

abbrev pub invariant-loop-j : goal.invariant-loop-j
invariant-loop-j l = record { items : l.numbers.items ++ record_numbers l.sections l.symbols l.j l.next (drop l.j l.symbols) ≡ record_numbers l.sections l.symbols 0 0 l.symbols; room : l.next + records_total l.sections l.symbols l.j (drop l.j l.symbols) ≤ cap }
