-- Parts of the rules of calls that the code has calls of its own for.
use Rattle.std.specs.Prelude.{ℕ, ◌-◌, List, ◌++◌, length, Option, Some, None, Result, Ok, Err}
use Rattle.c_types.specs.declared.types.Ty.{Ty}
use Rattle.c_types.specs.declared.types.FunTy.{FunTy}
use Rattle.c_program.specs.declared.expressions.TypedExpr.{TypedExpr}
use Rattle.c_typing.specs.declared.faults.Fault.{Fault}
use Rattle.c_typing.specs.declared.faults.TypeKind.TheVariants.{NotFunction}
use Rattle.c_typing.specs.declared.operands.Value.{Value}
use Rattle.c_typing.specs.Visits.{fault, and_then}
use Rattle.c_typing.specs.Conversions.{converted_to}
use Rattle.c_typing.specs.Expressions.{passed}
use Rattle.check_expr.specs.declared.arguments.Passed.{Passed}

-- an argument in its parameter's type, and an extra one as it is
abbrev pub argument_in : Option Ty → Value → Option TypedExpr
argument_in None v = Some v.tree
argument_in (Some ty) v = converted_to ty v

-- arguments behind those before them
abbrev pub arguments_behind : List TypedExpr → Option (List TypedExpr) → Option (List TypedExpr)
arguments_behind front None = None
arguments_behind front (Some es) = Some (front ++ es)

-- what is passed to a function of a type
abbrev pub passed_to : ℕ → List Value → Option FunTy → Result Passed Fault
passed_to at vs None = Err (fault NotFunction at)
passed_to at vs (Some f) = and_then (passed at f.params f.variadic vs) (λ es. Ok (record { arguments = es; result = f.result; extras = length vs - length f.params }))
