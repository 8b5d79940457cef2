-- The place by the function type's numbers.
use Rattle.std.proofs.Common.{◌≡◌, ℕ, Option, subst, IfOk}
use Rattle.check_types.proofs.TypePlaces.{function_place}
use Rattle.check_types.proofs.tables.place_of_function.Goals as goal

pub returns : goal.returns
returns c = subst (λ (o : Option ℕ). IfOk c.find_fun.result (λ place. place ≡ o)) (function_place c.args.function.now c.args.types.now.funs) c.find_fun.ensures
