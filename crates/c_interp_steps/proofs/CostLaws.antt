-- The units of each form of an expression.
use Rattle.c_program.specs.declared.expressions.TypedExpr.TheVariants as expr
use Rattle.c_program.specs.declared.expressions.TypedExpr.TheVariants.{outs-Number, outs-Char, outs-Null, outs-Function, outs-Load, outs-Address, outs-Same, outs-Negate, outs-Complement, outs-Not, outs-Convert, outs-Binary, outs-Compare, outs-And, outs-Or, outs-Conditional, outs-Assign, outs-Update, outs-Before, outs-After, outs-Call, outs-CallPointer, outs-CallService, outs-VaArg, outs-FieldOf, outs-ElementOf}

pub ruleset costs = (outs-Number, outs-Char, outs-Null, outs-Function, outs-Load, outs-Address, outs-Same, outs-Negate, outs-Complement, outs-Not, outs-Convert, outs-Binary, outs-Compare, outs-And, outs-Or, outs-Conditional, outs-Assign, outs-Update, outs-Before, outs-After, outs-Call, outs-CallPointer, outs-CallService, outs-VaArg, outs-FieldOf, outs-ElementOf)
