use Rattle.std.proofs.Common.{◌≡◌, ◌<◌, ◌^◌}
use Rattle.coff_fields.specs.Names.{decimal}
use Rattle.coff_fields.proofs.names.decimal.Given as goal

abbrev pub invariant-loop-c : goal.invariant-loop-c
invariant-loop-c l = record { value_is : l.value ≡ decimal l.text l.c-index; small : l.value < 256 ^ l.c-index }
