-- What each form of a value is.
use Rattle.std.proofs.Common.{◌≡◌, ℕ, ◌+◌, Bool, true, false, not, ◌<◌, ◌≤◌, arith, zero, List, [], ◌∷◌, length, drop, suc, refl, ap, ◌∙◌, ℤ, pos}
use Rattle.std.proofs.lemmas.Option.{none-some}
use Rattle.std.proofs.Math.Seq.{drop-cons}
use Rattle.std.specs.Prelude.{slice_set, ◌&&◌, get_or, slice_get, Option, Some, None}
use Rattle.c_program.specs.declared.program.PathStep.{PathStep}
use Rattle.c_program.specs.declared.expressions.Target.{Target}
use Rattle.c_values.specs.declared.value.Object.{Object}
use Rattle.c_values.specs.declared.value.Value.{Value, out-Value}
use Rattle.c_values.specs.declared.value.Value.TheOpen.{Value-F}
use Rattle.c_values.specs.declared.value.Value.TheVariants as value
use Rattle.c_values.specs.declared.value.Value.TheVariants.{outs-Number, outs-Null, outs-Pointer, outs-Function, outs-Aggregate}
use Rattle.c_values.specs.Objects.{number_at, number_in, parts_at, parts_of, truth_at, truth, is_zero, same_at, same_value, same_step, same_path, nothing, place_in, part_of, with_part, read_path, write_path}

pub number_in-Number : (z : ℤ) → number_in (value.Number z) ≡ z
unfolding number_in
number_in-Number z = ap number_at (outs-Number z)

pub number_in-Null : number_in value.Null ≡ pos 0
unfolding number_in
number_in-Null = ap number_at outs-Null

pub number_in-Pointer : (o : Object) → number_in (value.Pointer o) ≡ pos 0
unfolding number_in
number_in-Pointer o = ap number_at (outs-Pointer o)

pub number_in-Function : (t : Target) → number_in (value.Function t) ≡ pos 0
unfolding number_in
number_in-Function t = ap number_at (outs-Function t)

pub number_in-Aggregate : (vs : List Value) → number_in (value.Aggregate vs) ≡ pos 0
unfolding number_in
number_in-Aggregate vs = ap number_at (outs-Aggregate vs)

pub truth-Number : (z : ℤ) → truth (value.Number z) ≡ not (is_zero z)
unfolding truth
truth-Number z = ap truth_at (outs-Number z)

pub truth-Null : truth value.Null ≡ false
unfolding truth
truth-Null = ap truth_at outs-Null

pub truth-Pointer : (o : Object) → truth (value.Pointer o) ≡ true
unfolding truth
truth-Pointer o = ap truth_at (outs-Pointer o)

pub truth-Function : (t : Target) → truth (value.Function t) ≡ true
unfolding truth
truth-Function t = ap truth_at (outs-Function t)

pub truth-Aggregate : (vs : List Value) → truth (value.Aggregate vs) ≡ true
unfolding truth
truth-Aggregate vs = ap truth_at (outs-Aggregate vs)

pub ruleset numbers = (number_in-Number, number_in-Null, number_in-Pointer, number_in-Function, number_in-Aggregate)

pub ruleset truths = (truth-Number, truth-Null, truth-Pointer, truth-Function, truth-Aggregate)

pub ruleset forms = (outs-Number, outs-Null, outs-Pointer, outs-Function, outs-Aggregate)

pub same-Number : (z : ℤ) (b : Value) → same_value (value.Number z) b ≡ same_at (Value-F.Number z) (out-Value b)
unfolding same_value
same-Number z b = ap (λ f. same_at f (out-Value b)) (outs-Number z)

pub same-Null : (b : Value) → same_value value.Null b ≡ same_at Value-F.Null (out-Value b)
unfolding same_value
same-Null b = ap (λ f. same_at f (out-Value b)) outs-Null

pub same-Pointer : (o : Object) (b : Value) → same_value (value.Pointer o) b ≡ same_at (Value-F.Pointer o) (out-Value b)
unfolding same_value
same-Pointer o b = ap (λ f. same_at f (out-Value b)) (outs-Pointer o)

pub same-Function : (t : Target) (b : Value) → same_value (value.Function t) b ≡ same_at (Value-F.Function t) (out-Value b)
unfolding same_value
same-Function t b = ap (λ f. same_at f (out-Value b)) (outs-Function t)

never : (vs : List Value) (f : Value-F Value) → same_at (Value-F.Aggregate vs) f ≡ false
never vs (Value-F.Number z) = refl
never vs Value-F.Null = refl
never vs (Value-F.Pointer o) = refl
never vs (Value-F.Function t) = refl
never vs (Value-F.Aggregate us) = refl

pub same-Aggregate : (vs : List Value) (b : Value) → same_value (value.Aggregate vs) b ≡ false
unfolding same_value
same-Aggregate vs b = ap (λ f. same_at f (out-Value b)) (outs-Aggregate vs) ∙ never vs (out-Value b)

pub ruleset sames = (same-Number, same-Null, same-Pointer, same-Function, same-Aggregate)

and_false : (b : Bool) → b && false ≡ false
and_false true = refl
and_false false = refl

pub other_length : (a b : List PathStep) → ¬ (length a ≡ length b) → same_path a b ≡ false
other_length [] [] h = absurd (h refl)
other_length [] (y ∷ b) h = refl
other_length (x ∷ a) [] h = refl
other_length (x ∷ a) (y ∷ b) h = ap (λ t. same_step x y && t) (other_length a b (λ e. h (ap suc e))) ∙ and_false (same_step x y)

pub parts_of-Number : (z : ℤ) → parts_of (value.Number z) ≡ []
unfolding parts_of
parts_of-Number z = ap parts_at (outs-Number z)

pub parts_of-Null : parts_of value.Null ≡ []
unfolding parts_of
parts_of-Null = ap parts_at outs-Null

pub parts_of-Pointer : (o : Object) → parts_of (value.Pointer o) ≡ []
unfolding parts_of
parts_of-Pointer o = ap parts_at (outs-Pointer o)

pub parts_of-Function : (t : Target) → parts_of (value.Function t) ≡ []
unfolding parts_of
parts_of-Function t = ap parts_at (outs-Function t)

pub parts_of-Aggregate : (vs : List Value) → parts_of (value.Aggregate vs) ≡ vs
unfolding parts_of
parts_of-Aggregate vs = ap parts_at (outs-Aggregate vs)

pub ruleset parts = (parts_of-Number, parts_of-Null, parts_of-Pointer, parts_of-Function, parts_of-Aggregate)

pub part_beyond : (vs : List Value) (k : ℕ) (v : Value) → length vs ≤ k → slice_set vs k v ≡ vs
part_beyond [] k v h = refl
part_beyond (x ∷ xs) zero v h = absurd (omega (arith, h))
part_beyond (x ∷ xs) (suc k) v h = ap (λ l. x ∷ l) (part_beyond xs k v (omega (arith, h)))

pub part_put : (vs : List Value) (k : ℕ) (u v : Value) → slice_set (slice_set vs k u) k v ≡ slice_set vs k v
part_put [] k u v = refl
part_put (x ∷ xs) zero u v = refl
part_put (x ∷ xs) (suc k) u v = ap (λ l. x ∷ l) (part_put xs k u v)

pub write_path-end : (v new : Value) → write_path v [] new ≡ new
unfolding write_path
write_path-end v new = refl

pub write_path-Number : (z : ℤ) (p : PathStep) (ps : List PathStep) (new : Value) → write_path (value.Number z) (p ∷ ps) new ≡ value.Number z
unfolding write_path
write_path-Number z p ps new = ap (λ f. with_part f (value.Number z) (place_in p) (write_path (part_of (value.Number z) p) ps new)) (outs-Number z)

pub write_path-Null : (p : PathStep) (ps : List PathStep) (new : Value) → write_path value.Null (p ∷ ps) new ≡ value.Null
unfolding write_path
write_path-Null p ps new = ap (λ f. with_part f value.Null (place_in p) (write_path (part_of value.Null p) ps new)) outs-Null

pub write_path-Pointer : (o : Object) (p : PathStep) (ps : List PathStep) (new : Value) → write_path (value.Pointer o) (p ∷ ps) new ≡ value.Pointer o
unfolding write_path
write_path-Pointer o p ps new = ap (λ f. with_part f (value.Pointer o) (place_in p) (write_path (part_of (value.Pointer o) p) ps new)) (outs-Pointer o)

pub write_path-Function : (t : Target) (p : PathStep) (ps : List PathStep) (new : Value) → write_path (value.Function t) (p ∷ ps) new ≡ value.Function t
unfolding write_path
write_path-Function t p ps new = ap (λ f. with_part f (value.Function t) (place_in p) (write_path (part_of (value.Function t) p) ps new)) (outs-Function t)

pub write_path-Aggregate : (vs : List Value) (p : PathStep) (ps : List PathStep) (new : Value) → write_path (value.Aggregate vs) (p ∷ ps) new ≡ value.Aggregate (slice_set vs (place_in p) (write_path (get_or vs (place_in p) nothing) ps new))
unfolding write_path
write_path-Aggregate vs p ps new = ap (λ f. with_part f (value.Aggregate vs) (place_in p) (write_path (part_of (value.Aggregate vs) p) ps new)) (outs-Aggregate vs)
    ∙ ap (λ l. value.Aggregate (slice_set vs (place_in p) (write_path (get_or l (place_in p) nothing) ps new))) (parts_of-Aggregate vs)

pub ruleset writes = (write_path-end, write_path-Number, write_path-Null, write_path-Pointer, write_path-Function, write_path-Aggregate)

pub read_nothing : (ps : List PathStep) → read_path nothing ps ≡ nothing
unfolding read_path
read_nothing [] = refl
read_nothing (p ∷ ps) = ap (λ l. read_path (get_or l (place_in p) nothing) ps) (parts_of-Number (pos 0)) ∙ read_nothing ps

pub read_end : (v : Value) → read_path v [] ≡ v
unfolding read_path
read_end v = refl

pub read_step : (v : Value) (p : PathStep) (ps : List PathStep) → read_path v (p ∷ ps) ≡ read_path (part_of v p) ps
unfolding read_path
read_step v p ps = refl

pub same_path_step : (a b : PathStep) (as' bs : List PathStep) → same_path (a ∷ as') (b ∷ bs) ≡ same_step a b && same_path as' bs
same_path_step a b as' bs = refl

abbrev value_in : Option Value → Value
value_in None = nothing
value_in (Some v) = v

pub part_found : (vs : List Value) (k : ℕ) (v : Value) → slice_get vs k ≡ Some v → get_or vs k nothing ≡ v
part_found [] k v e = absurd (none-some v e)
part_found (x ∷ xs) zero v e = ap value_in e
part_found (x ∷ xs) (suc k) v e = part_found xs k v e

pub no_steps : (ps : List PathStep) → length ps ≡ 0 → ps ≡ []
no_steps [] e = refl
no_steps (p ∷ ps) e = absurd (omega (arith, e))

-- one step further along a path
pub read_on : (v : Value) (ps : List PathStep) (k : ℕ) (d : PathStep) → k < length ps → read_path v (drop k ps) ≡ read_path (part_of v (get_or ps k d)) (drop (k + 1) ps)
read_on v ps k d lt = let e : suc k ≡ k + 1 = omega arith in ap (read_path v) (drop-cons ps k d lt) ∙ read_step v (get_or ps k d) (drop (suc k) ps) ∙ ap (λ n. read_path (part_of v (get_or ps k d)) (drop n ps)) e

pub read_all : (v : Value) (ps : List PathStep) (k : ℕ) → length ps ≤ k → read_path v (drop k ps) ≡ v
read_all v [] zero le = read_end v
read_all v [] (suc k) le = read_end v
read_all v (p ∷ ps) zero le = absurd (omega (arith, le))
read_all v (p ∷ ps) (suc k) le = read_all v ps k (omega (arith, le))
