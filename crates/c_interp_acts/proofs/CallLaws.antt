-- Calls on a machine: the new active call, what waits for its end, and what is done next.
use Rattle.std.proofs.Common.{◌≡◌, ℕ, ◌-◌, ◌<◌, ◌≤◌, min, List, [], ◌∷◌, ◌++◌, length, take, drop, ap, ◌∙◌}
use Rattle.std.proofs.lemmas.List.{take_min, drop_min}
use Rattle.c_types.specs.declared.types.FunTy.{FunTy}
use Rattle.c_program.specs.declared.expressions.Target.{Target}
use Rattle.c_program.specs.declared.statements.TypedItem.{TypedItem}
use Rattle.c_program.specs.declared.program.FunctionBody.{FunctionBody}
use Rattle.c_program.specs.declared.program.AdjustDef.{AdjustDef}
use Rattle.c_values.specs.declared.value.Value.{Value}
use Rattle.c_meaning.specs.declared.outcome.SourceEnd.TheVariants as ends
use Rattle.c_meaning.specs.Costs.{call_cost}
use Rattle.c_meaning.specs.States.{State, opened, padded}
use Rattle.c_meaning.specs.Rules.{Setting, Body, Adjusts, adjusted}
use Rattle.c_state.specs.Seen.{Unseen, state_of, walking}
use Rattle.c_interp_steps.specs.declared.work.Pending.TheVariants as wait
use Rattle.c_interp_steps.specs.declared.work.ValueWork.TheVariants as vw
use Rattle.c_interp_steps.specs.declared.work.Now.{Now}
use Rattle.c_interp_steps.specs.declared.work.Now.TheVariants as now
use Rattle.c_interp_steps.specs.declared.work.Turn.{Turn}
use Rattle.c_interp_steps.specs.Parts.{items_of}
use Rattle.c_interp_steps.specs.Stack.{finish, resume, total, turned}
use Rattle.c_interp_laws.proofs.StepLaws.{body_goes, body_stops, adjustor_goes}
use Rattle.c_interp_acts.specs.declared.machine.Machine.{Machine}
use Rattle.c_interp_acts.specs.Going.{stands}

-- the arguments that have parameters are locals, and the others are extra
opened_so : (m : Setting) (t : Target) (vs : List Value) (f : FunTy) (b : FunctionBody) (s s' : State) (charge own : ℕ) (given locals extras : List Value) → charge ≡ m.charge t → own ≡ min (length f.params) (length vs) → given ≡ take own vs → locals ≡ padded (length b.locals) given → extras ≡ drop own vs → s' ≡ opened t charge locals extras s →
    s' ≡ opened t (m.charge t) (padded (length b.locals) (take (length f.params) vs)) (drop (length f.params) vs) s
opened_so m t vs f b s s' charge own given locals extras ic io ig il ie is =
    let taken : given ≡ take (length f.params) vs = ig ∙ ap (λ n. take n vs) io ∙ take_min (length f.params) vs in
    let rest : extras ≡ drop (length f.params) vs = ie ∙ ap (λ n. drop n vs) io ∙ drop_min (length f.params) vs in
    is ∙ ap (λ c. opened t c locals extras s) ic
    ∙ ap (λ l. opened t (m.charge t) l extras s) (il ∙ ap (padded (length b.locals)) taken)
    ∙ ap (λ l. opened t (m.charge t) (padded (length b.locals) (take (length f.params) vs)) l s) rest

module _ (m : Setting) (t : Target) (vs : List Value) (x y : Machine) (h : Unseen) where
  module _ (f : FunTy) (b : FunctionBody) (charge own : ℕ) (given locals extras : List Value) (callee : m.callee t ≡ Body f b) (ic : charge ≡ m.charge t) (io : own ≡ min (length f.params) (length vs)) (ig : given ≡ take own vs) (il : locals ≡ padded (length b.locals) given) (ie : extras ≡ drop own vs) (is : state_of y.store (walking t h) ≡ opened t charge locals extras (state_of x.store h)) where
    pub body_unpaid : x.left < 1 → y.left ≡ x.left → stands m (now.Stopped ends.Running) y (walking t h) ≡ stands m (now.Call t vs) x h
    unfolding total
    body_unpaid lt le =
        ap (λ k. total m (now.Stopped ends.Running) x.stack.items (state_of y.store (walking t h)) k) le
        ∙ body_stops m x.stack.items (state_of x.store h) x.left t vs f b (state_of y.store (walking t h)) callee (opened_so m t vs f b (state_of x.store h) (state_of y.store (walking t h)) charge own given locals extras ic io ig il ie is) lt

    pub body_begins : (z : Machine) (n : Now) (turn : Turn) (block : List TypedItem) → y.stack.items ≡ x.stack.items ++ wait.Leave f.result ∷ [] → 1 ≤ x.left → y.left ≡ x.left - 1 → block ≡ b.block →
        ((m : Setting) (s : State) (k : ℕ) → total m n z.stack.items s k ≡ turned m turn y.stack.items s k) → z.store ≡ y.store → z.left ≡ y.left →
        turned m turn y.stack.items (state_of y.store (walking t h)) y.left ≡ finish (items_of m block (state_of y.store (walking t h)) y.left) (resume m y.stack.items).flow →
        stands m n z (walking t h) ≡ stands m (now.Call t vs) x h
    body_begins z n turn block iq paid at ib goes st left gives = let s' = state_of y.store (walking t h) in
        ap (λ w. total m n z.stack.items (state_of w (walking t h)) z.left) st ∙ ap (λ k. total m n z.stack.items s' k) left
        ∙ goes m s' y.left ∙ gives
        ∙ ap (λ l. finish (items_of m l s' y.left) (resume m y.stack.items).flow) ib
        ∙ ap (λ l. finish (items_of m b.block s' y.left) (resume m l).flow) iq
        ∙ body_goes m x.stack.items (state_of x.store h) x.left t vs f b s' y.left callee (opened_so m t vs f b (state_of x.store h) s' charge own given locals extras ic io ig il ie is) paid at

  pub adjustor_begins : (f : FunTy) (a : AdjustDef) (us : List Value) (charge : ℕ) (locals extras : List Value) → m.callee t ≡ Adjusts f a → us ≡ adjusted f a vs → charge ≡ m.charge t → locals ≡ [] → extras ≡ [] → state_of y.store (walking t h) ≡ opened t charge locals extras (state_of x.store h) → y.stack.items ≡ x.stack.items ++ wait.Value vw.LeaveAdjustor ∷ [] → call_cost vs ≤ x.left → y.left ≡ x.left - call_cost vs →
      stands m (now.Call a.target us) y (walking t h) ≡ stands m (now.Call t vs) x h
  adjustor_begins f a us charge locals extras callee iu ic il ie is iq le at = let s = state_of x.store h in let s' = state_of y.store (walking t h) in
      ap (λ l. total m (now.Call a.target us) l s' y.left) iq
      ∙ ap (λ us. total m (now.Call a.target us) (x.stack.items ++ wait.Value vw.LeaveAdjustor ∷ []) s' y.left) iu
      ∙ adjustor_goes m x.stack.items s x.left t vs f a s' y.left callee
      (is ∙ ap (λ c. opened t c locals extras s) ic ∙ ap (λ l. opened t (m.charge t) l extras s) il ∙ ap (λ l. opened t (m.charge t) [] l s) ie)
      le at
