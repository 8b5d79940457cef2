use Rattle.std.proofs.Common.{◌≡◌, drop}
use Rattle.c_program.specs.Named.{function_number, first_number}
use Rattle.c_program.proofs.named.among_functions.Given as goal

abbrev pub invariant-loop-f : goal.invariant-loop-f
invariant-loop-f l = first_number (function_number l.name) (drop l.f-index l.functions) ≡ first_number (function_number l.name) l.functions
