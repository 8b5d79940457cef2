-- What constants make of zeros, and the first parts of a value by their constants.
use Rattle.std.proofs.Common.{◌≡◌, ℕ, zero, suc, ◌+◌, ◌≤◌, ◌<◌, List, [], ◌∷◌, length, take, map, refl, sym, ap, ◌∙◌, arith, pos, ℤ}
use Rattle.std.specs.Prelude.{slice_get, slice_set, Some}
use Rattle.std.proofs.lemmas.Option.{none-some}
use Rattle.c_types.specs.declared.types.IntTy.{IntTy}
use Rattle.c_program.specs.declared.expressions.Target.{Target}
use Rattle.c_program.specs.declared.program.PathStep.{PathStep}
use Rattle.c_program.specs.declared.program.Constant.{Constant, fold-Constant, fold-roll-Constant}
use Rattle.c_program.specs.declared.program.Constant.TheOpen.{Constant-F}
use Rattle.c_program.specs.declared.program.Constant.TheVariants as constant
use Rattle.c_program.specs.declared.program.Constant.TheVariants.{rolls-Zero, rolls-Number, rolls-Address, rolls-Function, rolls-List}
use Rattle.c_values.specs.declared.value.Root.TheVariants as root
use Rattle.c_values.specs.declared.value.Value.{Value}
use Rattle.c_values.specs.declared.value.Object.{Object}
use Rattle.c_values.specs.declared.value.Value.TheVariants as value
use Rattle.c_values.specs.declared.value.Value.TheVariants.{outs-Number, outs-Null, outs-Pointer, outs-Function, outs-Aggregate}
use Rattle.c_values.specs.Numbers.{wrapped}
use Rattle.c_values.specs.Objects.{parts_at, parts_of}
use Rattle.c_meaning.specs.Start.{filled, constant_value, initial}

abbrev made : Constant → Value → Value
made = fold-Constant (Value → Value) constant_value

pub initial-Zero : (z : Value) → initial constant.Zero z ≡ z
unfolding initial
initial-Zero z = ap (λ c. made c z) (sym rolls-Zero) ∙ ap (λ f. f z) (fold-roll-Constant (Value → Value) constant_value Constant-F.Zero)

pub initial-Number : (i : IntTy) (n : ℕ) (z : Value) → initial (constant.Number i n) z ≡ value.Number (wrapped i (pos n))
unfolding initial
initial-Number i n z = ap (λ c. made c z) (sym (rolls-Number i n)) ∙ ap (λ f. f z) (fold-roll-Constant (Value → Value) constant_value (Constant-F.Number i n))

pub initial-Address : (g : ℕ) (ps : List PathStep) (z : Value) → initial (constant.Address g ps) z ≡ value.Pointer (record { root = root.Global g; path = ps })
unfolding initial
initial-Address g ps z = ap (λ c. made c z) (sym (rolls-Address g ps)) ∙ ap (λ f. f z) (fold-roll-Constant (Value → Value) constant_value (Constant-F.Address g ps))

pub initial-Function : (t : Target) (z : Value) → initial (constant.Function t) z ≡ value.Function t
unfolding initial
initial-Function t z = ap (λ c. made c z) (sym (rolls-Function t)) ∙ ap (λ f. f z) (fold-roll-Constant (Value → Value) constant_value (Constant-F.Function t))

pub initial-List : (cs : List Constant) (z : Value) → initial (constant.List cs) z ≡ value.Aggregate (filled (map initial cs) (parts_of z))
unfolding initial
initial-List cs z = ap (λ c. made c z) (sym (rolls-List cs)) ∙ ap (λ f. f z) (fold-roll-Constant (Value → Value) constant_value (Constant-F.List cs))

pub parts-Number : (z : ℤ) → parts_of (value.Number z) ≡ []
unfolding parts_of
parts-Number z = ap parts_at (outs-Number z)

pub parts-Null : parts_of value.Null ≡ []
unfolding parts_of
parts-Null = ap parts_at outs-Null

pub parts-Pointer : (o : Object) → parts_of (value.Pointer o) ≡ []
unfolding parts_of
parts-Pointer o = ap parts_at (outs-Pointer o)

pub parts-Function : (t : Target) → parts_of (value.Function t) ≡ []
unfolding parts_of
parts-Function t = ap parts_at (outs-Function t)

pub parts-Aggregate : (vs : List Value) → parts_of (value.Aggregate vs) ≡ vs
unfolding parts_of
parts-Aggregate vs = ap parts_at (outs-Aggregate vs)

pub ruleset initials = (initial-Zero, initial-Number, initial-Address, initial-Function, initial-List, parts-Number, parts-Null, parts-Pointer, parts-Function, parts-Aggregate)

pub filled_length : (fs : List (Value → Value)) (vs : List Value) → length (filled fs vs) ≡ length vs
filled_length [] vs = refl
filled_length (f ∷ fs) [] = refl
filled_length (f ∷ fs) (v ∷ vs) = ap suc (filled_length fs vs)

-- one part more by its constant
pub filled_on : (cs : List Constant) (vs : List Value) (k : ℕ) (c : Constant) (v : Value) → slice_get cs k ≡ Some c → slice_get (filled (map initial (take k cs)) vs) k ≡ Some v → slice_set (filled (map initial (take k cs)) vs) k (initial c v) ≡ filled (map initial (take (k + 1) cs)) vs
filled_on [] vs k c v is old = absurd (none-some c is)
filled_on (d ∷ cs) [] zero c v is old = absurd (none-some v old)
filled_on (d ∷ cs) [] (suc k) c v is old = absurd (none-some v old)
filled_on (d ∷ cs) (u ∷ vs) zero c v is old = cc
filled_on (d ∷ cs) (u ∷ vs) (suc k) c v is old = let e : suc (k + 1) ≡ suc k + 1 = omega arith in
    ap (λ l. initial d u ∷ l) (filled_on cs vs k c v is old) ∙ ap (λ n. filled (map initial (take n (d ∷ cs))) (u ∷ vs)) e

-- no constant or no part is left
pub filled_all : (cs : List Constant) (vs : List Value) (k : ℕ) → (k < length cs → length vs ≤ k) → filled (map initial (take k cs)) vs ≡ filled (map initial cs) vs
filled_all [] vs zero h = refl
filled_all [] vs (suc k) h = refl
filled_all (c ∷ cs) [] zero h = refl
filled_all (c ∷ cs) [] (suc k) h = refl
filled_all (c ∷ cs) (v ∷ vs) zero h = absurd (omega (arith, h (omega arith)))
filled_all (c ∷ cs) (v ∷ vs) (suc k) h = ap (λ l. initial c v ∷ l) (filled_all cs vs k (λ lt. omega (arith, h (omega (arith, lt)))))
