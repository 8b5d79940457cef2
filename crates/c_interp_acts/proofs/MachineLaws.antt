-- How a machine goes on with a run.
use Rattle.std.proofs.Common.{◌≡◌, ℕ, zero, suc, ◌+◌, ◌-◌, ◌≤◌, arith, length, List, [], ◌∷◌, ◌++◌, replicate, refl, sym, ap, ◌∙◌, append_assoc, ℤ, pos}
use Rattle.std.specs.Prelude.{Option, Some, None, slice_get, slice_set}
use Rattle.std.specs.Borrow.{Bor}
use Rattle.std.proofs.lemmas.Option.{none-some}
use Rattle.c_types.specs.declared.types.IntTy.{IntTy}
use Rattle.c_types.specs.declared.types.IntTy.TheVariants.{U8}
use Rattle.c_program.specs.declared.expressions.TypedExpr.{TypedExpr}
use Rattle.c_program.specs.declared.statements.Declared.{Declared}
use Rattle.c_values.specs.declared.value.Object.{Object}
use Rattle.c_values.specs.declared.value.Value.{Value}
use Rattle.c_values.specs.declared.value.Value.TheVariants as value
use Rattle.c_values.specs.declared.value.Value.TheVariants.{outs-Number}
use Rattle.c_values.specs.Numbers.{wrapped, low_bits}
use Rattle.c_values.specs.Objects.{nothing, zero_of, number_at, number_in}
use Rattle.c_meaning.specs.Costs.{declarator_cost}
use Rattle.c_meaning.specs.declared.outcome.SourceEnd.TheVariants as ends
use Rattle.c_meaning.specs.States.{State, Frame, rest_in, with_rest, written, own_local}
use Rattle.c_meaning.specs.Rules.{Setting, Normal, extra_in, first_number, initial_value}
use Rattle.c_interp_steps.specs.declared.work.Ending.TheVariants as ending
use Rattle.c_interp_steps.specs.declared.work.Pending.{Pending}
use Rattle.c_interp_steps.specs.declared.work.Pending.TheVariants as wait
use Rattle.c_interp_steps.specs.declared.work.RunWork.TheVariants as run
use Rattle.c_interp_steps.specs.declared.work.Now.TheVariants as now
use Rattle.c_interp_steps.specs.Parts.{value_of}
use Rattle.c_interp_steps.specs.declared.work.Now.{Now}
use Rattle.c_interp_steps.specs.declared.work.Turn.{Turn}
use Rattle.c_interp_steps.specs.Stack.{Last, finish, stopped, resume, total, turned}
use Rattle.c_interp_laws.proofs.StepLaws.{init_some, declare_goes}
use Rattle.c_state.specs.Seen.{Unseen, state_of, with_frames}
use Rattle.c_state.specs.Extras.{ExtraGiven}
use Rattle.c_interp_acts.specs.declared.machine.Machine.{Machine}
use Rattle.c_interp_acts.specs.Going.{stands}

abbrev number_or : Option ℤ → ℤ
number_or None = pos 0
number_or (Some z) = z

-- what is put on the stack goes on as the turn says
pub put_goes : (m : Setting) (n n' : Now) (x y z : Machine) (turn : Turn) (h : Unseen) → ((m : Setting) (s : State) (k : ℕ) → total m n' z.stack.items s k ≡ turned m turn y.stack.items s k) → z.store ≡ y.store → z.left ≡ y.left →
    turned m turn y.stack.items (state_of y.store h) y.left ≡ stands m n x h → stands m n' z h ≡ stands m n x h
put_goes m n n' x y z turn h goes st le is =
    ap (λ w. total m n' z.stack.items (state_of w h) z.left) st ∙ ap (λ k. total m n' z.stack.items (state_of y.store h) k) le
    ∙ goes m (state_of y.store h) y.left ∙ is

rest_kept : (fs : List Frame) → with_rest (rest_in fs) fs ≡ fs
rest_kept [] = refl
rest_kept (f ∷ fs) = refl

-- the next extra argument is there
pub extra_some : (i : IntTy) (r r' : Option (List Value)) (z : ℤ) (last : Last Value) (s : State) (k : ℕ) → ExtraGiven i r (Some z) r' → last (value.Number z) (with_frames (with_rest r' s.frames) s) k ≡ finish (extra_in r i s k) last
unfolding finish
extra_some i None r' z last s k g = absurd (none-some z (sym g.0))
extra_some i (Some []) r' z last s k g = absurd (none-some z (sym g.0))
extra_some i (Some (v ∷ vs)) r' z last s k g =
    ap (λ o. last (value.Number z) (with_frames (with_rest o s.frames) s) k) g.1
    ∙ ap (λ o. last (value.Number (number_or o)) (with_frames (with_rest (Some vs) s.frames) s) k) g.0

-- or it isn't
pub extra_none : (i : IntTy) (r r' : Option (List Value)) (last : Last Value) (s : State) (k : ℕ) → r ≡ rest_in s.frames → ExtraGiven i r None r' → stopped (ends.Trap 244) (with_frames (with_rest r' s.frames) s) k ≡ finish (extra_in r i s k) last
unfolding finish
extra_none i None r' last s k e g = ap (λ o. stopped (ends.Trap 244) (with_frames (with_rest o s.frames) s) k) (g.1 ∙ e) ∙ ap (λ fs. stopped (ends.Trap 244) (with_frames fs s) k) (rest_kept s.frames)
extra_none i (Some []) r' last s k e g = ap (λ o. stopped (ends.Trap 244) (with_frames (with_rest o s.frames) s) k) (g.1 ∙ e) ∙ ap (λ fs. stopped (ends.Trap 244) (with_frames fs s) k) (rest_kept s.frames)
extra_none i (Some (v ∷ vs)) r' last s k e g = absurd (none-some _ g.0)

-- the low bits of a value
pub byte_is : (z : ℤ) → wrapped U8 z ≡ pos (low_bits 8 z)
unfolding wrapped
byte_is z = refl

pub no_number : (vs : List Value) → slice_get vs 0 ≡ None → 0 ≡ low_bits 8 (first_number vs)
unfolding low_bits number_in
no_number [] e = ap (λ f. low_bits 8 (number_at f)) (sym (outs-Number (pos 0)))
no_number (v ∷ vs) e = absurd (none-some v (sym e))

one_more : (k : ℕ) (v : Value) → replicate k v ++ v ∷ [] ≡ replicate (k + 1) v
one_more zero v = refl
one_more (suc k) v = let e : suc (k + 1) ≡ suc k + 1 = omega arith in ap (λ l. v ∷ l) (one_more k v) ∙ ap (λ n. replicate n v) e

-- one more value that isn't there
pub one_more_filled : (vs : List Value) (k : ℕ) → (vs ++ replicate k nothing) ++ nothing ∷ [] ≡ vs ++ replicate (k + 1) nothing
one_more_filled vs k = append_assoc vs (replicate k nothing) (nothing ∷ []) ∙ ap (λ l. vs ++ l) (one_more k nothing)

-- a declarator's local is zero, and its initial value is next, or there is none
module _ (m : Setting) (ps : List Pending) (s s' : State) (k j : ℕ) (d : Bor Declared) (o : Object) (z : Value) (le : declarator_cost m.types d.now ≤ k) (at : j ≡ k - declarator_cost m.types d.now) (iz : z ≡ zero_of m.types d.now.ty) (io : o ≡ own_local d.now.local s) (is : s' ≡ written o z s) where
  zeroed : s' ≡ written (own_local d.now.local s) (zero_of m.types d.now.ty) s
  zeroed = is ∙ ap (λ o. written o z s) io ∙ ap (λ z. written (own_local d.now.local s) z s) iz

  pub declare_init : (qs : List Pending) (e : Bor TypedExpr) (e1 : TypedExpr) → e.now ≡ e1 → d.now.init ≡ Some e1 → qs ≡ ps ++ wait.Run (run.SetLocal d.now.local) ∷ [] → total m (now.Value e) qs s' j ≡ total m (now.Declare d) ps s k
  declare_init qs e e1 ie ii iq =
      ap (λ l. total m (now.Value e) l s' j) iq
      ∙ ap (λ t. total m (now.Value e) (ps ++ wait.Run (run.SetLocal d.now.local) ∷ []) t j) zeroed
      ∙ init_some m ps (written (own_local d.now.local s) (zero_of m.types d.now.ty) s) j d.now.local e
      ∙ ap (λ i. finish (initial_value (value_of m) d.now.local i (written (own_local d.now.local s) (zero_of m.types d.now.ty) s) j) (resume m ps).flow) (ap Some ie ∙ sym ii)
      ∙ declare_goes m ps s k d j le at

  pub declare_plain : d.now.init ≡ None → total m (now.Ended ending.Normal) ps s' j ≡ total m (now.Declare d) ps s k
  unfolding total finish
  declare_plain ii =
      ap (λ t. (resume m ps).flow Normal t j) zeroed
      ∙ ap (λ i. finish (initial_value (value_of m) d.now.local i (written (own_local d.now.local s) (zero_of m.types d.now.ty) s) j) (resume m ps).flow) (sym ii)
      ∙ declare_goes m ps s k d j le at

pub set_beyond : (vs : List Value) (k : ℕ) (v : Value) → length vs ≤ k → slice_set vs k v ≡ vs
set_beyond [] k v h = refl
set_beyond (x ∷ xs) zero v h = absurd (omega (arith, h))
set_beyond (x ∷ xs) (suc k) v h = ap (λ l. x ∷ l) (set_beyond xs k v (omega (arith, h)))
