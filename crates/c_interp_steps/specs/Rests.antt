-- What follows once what waits has what it waits for, by the rules of the meaning.
use Rattle.std.specs.Prelude.{true, false, List, [], ◌∷◌, ◌++◌, Some, None, option_copied}
use Rattle.c_types.specs.declared.types.Ty.{Ty}
use Rattle.c_program.specs.declared.expressions.TypedExpr.{TypedExpr}
use Rattle.c_program.specs.declared.program.PathStep.TheVariants as step
use Rattle.c_values.specs.declared.value.Object.{Object}
use Rattle.c_values.specs.declared.value.Value.{Value}
use Rattle.c_values.specs.declared.value.Value.TheVariants as value
use Rattle.c_values.specs.Numbers.{wrapped, arithmetic, negated, complemented, stepped}
use Rattle.c_values.specs.Objects.{number_in, truth, int_of, compared, part_of, inner}
use Rattle.c_meaning.specs.Rules.{Act, pure, ◌>>=◌, choose, Flow, Normal, Broke, Continued, Gave, Setting, load, store, pointed, bounded, values, serve, function_in, back, leave, leave_adjustor, computed, updated, set_local, then_run, again, effect}
use Rattle.c_interp_steps.specs.declared.work.Called.{Called}
use Rattle.c_interp_steps.specs.declared.work.Called.TheVariants as called
use Rattle.c_interp_steps.specs.declared.work.Ending.{Ending}
use Rattle.c_interp_steps.specs.declared.work.Ending.TheVariants as ending
use Rattle.c_interp_steps.specs.declared.work.Loop.{Loop}
use Rattle.c_interp_steps.specs.declared.work.ValueWork.{ValueWork}
use Rattle.c_interp_steps.specs.declared.work.ValueWork.TheVariants as vw
use Rattle.c_interp_steps.specs.declared.work.FindWork.{FindWork}
use Rattle.c_interp_steps.specs.declared.work.FindWork.TheVariants as fw
use Rattle.c_interp_steps.specs.declared.work.RunWork.{RunWork}
use Rattle.c_interp_steps.specs.declared.work.RunWork.TheVariants as run
use Rattle.c_interp_steps.specs.declared.work.PlaceWork.{PlaceWork}
use Rattle.c_interp_steps.specs.declared.work.PlaceWork.TheVariants as pw
use Rattle.c_interp_steps.specs.declared.work.UseWork.{UseWork}
use Rattle.c_interp_steps.specs.declared.work.UseWork.TheVariants as uw
use Rattle.c_interp_steps.specs.declared.work.FlowWork.{FlowWork}
use Rattle.c_interp_steps.specs.declared.work.FlowWork.TheVariants as lw
use Rattle.c_interp_steps.specs.Parts.{value_of, statement_of, loop_of, call_of, items_of, declares_of}

-- a statement's end
abbrev pub flow_of : Ending → Flow
flow_of ending.Normal = Normal
flow_of ending.Broke = Broke
flow_of ending.Continued = Continued
flow_of (ending.Gave v) = Gave v

-- a call whose arguments are there
unfoldable pub called_of : Setting → Called → List Value → Act Value
called_of m (called.Named t) vs = call_of m t vs >>= back
called_of m (called.Pointed x) vs = function_in x >>= (λ t. call_of m t vs >>= back)
called_of m (called.Service x) vs = serve x vs

-- a call after these arguments, with the others to be evaluated
unfoldable pub arguments_of : Setting → Called → List Value → List TypedExpr → Act Value
arguments_of m c done es = values (value_of m) es >>= (λ vs. called_of m c (done ++ vs))

unfoldable pub loop_in : Setting → Loop → Act Flow
loop_in m l = loop_of m (option_copied l.test) (option_copied l.step) l.body.now

-- a loop's step, and the loop again
unfoldable pub step_of : Setting → Loop → Act Flow
step_of m l = effect (value_of m) (option_copied l.step) >>= (λ flow. loop_in m l)

-- a loop's body, and what follows it
unfoldable pub turn_of : Setting → Loop → Act Flow
turn_of m l = statement_of m l.body.now >>= again (step_of m l)

unfoldable pub value_rest : Setting → ValueWork → Value → Act Value
value_rest m (vw.Negate i) v = pure (value.Number (negated i (number_in v)))
value_rest m (vw.Complement i) v = pure (value.Number (complemented i (number_in v)))
value_rest m vw.Not v = pure (choose (truth v) (int_of false) (int_of true))
value_rest m (vw.Convert i) v = pure (value.Number (wrapped i (number_in v)))
value_rest m (vw.BinaryThen o i b) x = value_of m b.now >>= (λ y. computed (arithmetic o i (number_in x) (number_in y)))
value_rest m (vw.BinaryWith o i x) y = computed (arithmetic o i (number_in x) (number_in y))
value_rest m (vw.CompareThen c b) x = value_of m b.now >>= (λ y. pure (int_of (compared c x y)))
value_rest m (vw.CompareWith c x) y = pure (int_of (compared c x y))
value_rest m (vw.AndThen b) x = choose (truth x) (value_of m b.now >>= (λ y. pure (int_of (truth y)))) (pure (int_of false))
value_rest m (vw.OrThen b) x = choose (truth x) (pure (int_of true)) (value_of m b.now >>= (λ y. pure (int_of (truth y))))
value_rest m vw.Truth y = pure (int_of (truth y))
value_rest m (vw.Choose a b) x = choose (truth x) (value_of m a.now) (value_of m b.now)
value_rest m (vw.StoreAt o) v = store o v
value_rest m (vw.UpdateAt op i j o x) y = computed (updated op i j x y) >>= store o
value_rest m (vw.FieldOf f) v = pure (part_of v (step.Field f))
value_rest m (vw.ElementThen i n) v = value_of m i.now >>= (λ y. bounded n (number_in y) >>= (λ k. pure (part_of v (step.Element k))))
value_rest m (vw.ElementWith v n) y = bounded n (number_in y) >>= (λ k. pure (part_of v (step.Element k)))
value_rest m (vw.CallThen es) x = arguments_of m (called.Pointed x) [] es.now
value_rest m (vw.Arguments c done es) v = arguments_of m c (done ++ v ∷ []) es.now
value_rest m vw.LeaveAdjustor v = leave_adjustor v

unfoldable pub find_rest : FindWork → Value → Act Object
find_rest fw.Target v = pointed v
find_rest (fw.Arrow f) v = pointed v >>= (λ o. pure (inner o (step.Field f)))
find_rest (fw.ElementAt o n) v = bounded n (number_in v) >>= (λ k. pure (inner o (step.Element k)))

unfoldable pub run_rest : Setting → RunWork → Value → Act Flow
run_rest m run.Discard v = pure Normal
run_rest m (run.SetLocal l) v = set_local l v
run_rest m (run.If x) v = choose (truth v) (statement_of m x.now) (pure Normal)
run_rest m (run.IfElse x y) v = choose (truth v) (statement_of m x.now) (statement_of m y.now)
run_rest m (run.LoopTest l) v = choose (truth v) (turn_of m l) (pure Normal)
run_rest m (run.LoopStep l) v = loop_in m l
run_rest m run.Return v = pure (Gave v)

unfoldable pub place_rest : Setting → PlaceWork → Object → Act Object
place_rest m (pw.Field f) o = pure (inner o (step.Field f))
place_rest m (pw.ElementThen i n) o = value_of m i.now >>= (λ v. bounded n (number_in v) >>= (λ k. pure (inner o (step.Element k))))

unfoldable pub use_rest : Setting → UseWork → Object → Act Value
use_rest m uw.Load o = load o
use_rest m uw.Address o = pure (value.Pointer o)
use_rest m (uw.AssignThen e) o = value_of m e.now >>= store o
use_rest m (uw.UpdateThen op i j e) o = load o >>= (λ x. value_of m e.now >>= (λ y. computed (updated op i j x y) >>= store o))
use_rest m (uw.Before i up) o = load o >>= (λ x. store o (value.Number (stepped i up (number_in x))))
use_rest m (uw.After i up) o = load o >>= (λ x. store o (value.Number (stepped i up (number_in x))) >>= (λ y. pure x))

unfoldable pub flow_rest : Setting → FlowWork → Flow → Act Flow
flow_rest m (lw.Items xs) flow = then_run (items_of m xs.now) flow
flow_rest m (lw.Declares ds) flow = declares_of m ds.now
flow_rest m (lw.Begin l) flow = loop_in m l
flow_rest m (lw.Again l) flow = again (step_of m l) flow
flow_rest m (lw.Do c x) flow = again (loop_of m (Some c.now) None x.now) flow

unfoldable pub leave_rest : Setting → Ty → Flow → Act Value
leave_rest m a flow = leave m.types a flow
