-- The forms of a value.
use Rattle.c_values.specs.declared.value.Value.TheVariants as value
use Rattle.c_values.specs.declared.value.Value.TheVariants.{outs-Number, outs-Null, outs-Pointer, outs-Function, outs-Aggregate}

pub ruleset forms = (outs-Number, outs-Null, outs-Pointer, outs-Function, outs-Aggregate)
