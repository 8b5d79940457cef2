-- A run from its start to its end.
use Rattle.std.proofs.Common.{◌≡◌, ℕ, ◌+◌, ◌-◌, ◌*◌, ◌<◌, ◌≤◌, Bool, List, [], ◌++◌, length, map, refl, sym, ap, ◌∙◌, subst, arith, length-append}
use Rattle.std.specs.Prelude.{IsTrue, Result, Ok, Err, IfOk}
use Rattle.std.proofs.lemmas.List.{append-nil}
use Rattle.hx_words.specs.Prefixes.{IsPrefix}
use Rattle.c_program.specs.declared.expressions.Target.{Target}
use Rattle.c_program.specs.declared.program.Program.{Program}
use Rattle.c_values.specs.declared.value.Value.{Value}
use Rattle.c_meaning.specs.declared.outcome.SourceEnd.{SourceEnd}
use Rattle.c_meaning.specs.States.{State}
use Rattle.c_meaning.specs.Rules.{Setting}
use Rattle.c_meaning.specs.Start.{setting_of, global_value, main_of, start}
use Rattle.c_meaning.specs.Source.{Stand, stand_of, source}
use Rattle.c_state.specs.Seen.{Unseen, state_of, fresh}
use Rattle.c_interp_steps.specs.declared.work.Called.{Called}
use Rattle.c_interp_steps.specs.declared.work.Now.{Now}
use Rattle.c_interp_steps.specs.declared.work.Now.TheVariants as now
use Rattle.c_interp_steps.specs.declared.work.Turn.{Turn}
use Rattle.c_interp_steps.specs.Stack.{kind, load, total, turn_load, turned}
use Rattle.c_interp_laws.specs.Later.{Later}
use Rattle.c_interp_laws.proofs.Ends.{goes_on_to}
use Rattle.c_interp_laws.proofs.StepLaws.{call_alone}
use Rattle.c_interp_acts.specs.declared.machine.Machine.{Machine}
use Rattle.c_interp_acts.specs.declared.meant.Meant.{Meant}
use Rattle.c_interp_acts.specs.declared.meant.MeanFail.{MeanFail}
use Rattle.c_interp_acts.specs.declared.meant.MeanFail.TheVariants as fail
use Rattle.c_interp_acts.specs.Going.{stands, measure, with_walk, Same, Less, IsGoing, Ties, Broke}
use Rattle.c_interp.specs.Means.{SameRun}
use Rattle.c_interp.specs.Walked.{Walks, IsNoCall}

-- a step, as its answer says
module _ {E : Type 0} (m : Setting) (n0 n : Now) (x y : Machine) (is : n0 ≡ n) where
  pub walks_all : (r : Result Now E) → IfOk r (λ n'. (m : Setting) → Same m n x n' y) → IfOk r (λ n'. Walks m n0 x n' y)
  walks_all (Ok n') s = λ h. (h.walk, s m h ∙ ap (λ n. stands m n x h) (sym is))
  walks_all (Err e) s = tt

  pub walks_one : (r : Result Now E) → IfOk r (λ n'. Same m n x n' y) → IfOk r (λ n'. Walks m n0 x n' y)
  walks_one (Ok n') s = λ h. (h.walk, s h ∙ ap (λ n. stands m n x h) (sym is))
  walks_one (Err e) s = tt

  pub walks_at : (r : Result Now E) → IfOk r (λ n'. Walks m n x n' y) → IfOk r (λ n'. Walks m n0 x n' y)
  walks_at (Ok n') s = λ h. let w = s h in (w.0, w.1 ∙ ap (λ n. stands m n x h) (sym is))
  walks_at (Err e) s = tt

  pub walks_each : (r : Result Now E) → IfOk r (λ n'. (m : Setting) → Walks m n x n' y) → IfOk r (λ n'. Walks m n0 x n' y)
  walks_each (Ok n') s = λ h. let w = s m h in (w.0, w.1 ∙ ap (λ n. stands m n x h) (sym is))
  walks_each (Err e) s = tt

  pub walks_put : (turn : Turn) (r : Result Now E) → IfOk r (λ n'. (m : Setting) (s : State) (k : ℕ) → total m n' y.stack.items s k ≡ turned m turn x.stack.items s k) → y.store ≡ x.store → y.left ≡ x.left →
      ((h : Unseen) → turned m turn x.stack.items (state_of x.store h) x.left ≡ stands m n x h) → IfOk r (λ n'. Walks m n0 x n' y)
  walks_put turn (Ok n') goes st le gives = λ h. (
    h.walk,
    ap (λ w. total m n' y.stack.items (state_of w h) y.left) st ∙ ap (λ k. total m n' y.stack.items (state_of x.store h) k) le
        ∙ goes m (state_of x.store h) x.left ∙ gives h ∙ ap (λ n. stands m n x h) (sym is),
  )
  walks_put turn (Err e) goes st le gives = tt

  pub less_at : (r : Result Now E) → IfOk r (λ n'. Less n x n' y) → IfOk r (λ n'. Less n0 x n' y)
  less_at (Ok n') l = λ going. let P : Now → Type 0 = λ n. measure n' y < measure n x in subst P (sym is) (l going)
  less_at (Err e) l = tt

  pub less_put : (turn : Turn) (r : Result Now E) → IfOk r (λ n'. load n' y.stack.items ≡ turn_load turn + 3 * length x.stack.items) → y.left ≡ x.left → turn_load turn < kind n → IfOk r (λ n'. Less n0 x n' y)
  less_put turn (Ok n') l le lt = λ going. let P : Now → Type 0 = λ n. measure n' y < measure n x in subst P (sym is) (omega (arith, l, le, lt))
  less_put turn (Err e) l le lt = tt

module _ (m : Setting) (n0 n : Now) (x y : Machine) (is : n0 ≡ n) where
  pub walk_all : (n' : Now) → ((m : Setting) → Same m n x n' y) → Walks m n0 x n' y
  walk_all n' s h = (h.walk, s m h ∙ ap (λ n. stands m n x h) (sym is))

  pub walk_less : (n' : Now) → Less n x n' y → Less n0 x n' y
  walk_less n' l = λ going. let P : Now → Type 0 = λ n. measure n' y < measure n x in subst P (sym is) (l going)

pub no_call : (n : Now) → ((c : Called) (vs : List Value) → n ≡ now.Calling c vs → ⊥) → IsNoCall n
no_call (now.Calling c vs) h = absurd (h c vs refl)
no_call n h = tt

pub goes_on : (n : Now) → ((o : SourceEnd) → n ≡ now.Stopped o → ⊥) → IsGoing n
goes_on (now.Stopped o) h = absurd (h o refl)
goes_on n h = tt

-- the run from the entry of `main` on
begins : (p : Program) (whole : List ℕ) (x : Machine) (globals : List Value) (t : Target) (vs : List Value) (h : Unseen) → globals ≡ map (global_value p.types) p.globals → t ≡ main_of p → vs ≡ [] → x.stack.items ≡ [] → state_of x.store h ≡ fresh globals h → fresh (map (global_value p.types) p.globals) h ≡ start p whole → stands (setting_of p) (now.Call t vs) x h ≡ stand_of p whole x.left
unfolding stand_of
begins p whole x globals t vs h ig it iv iq is begun = let m = setting_of p in
    ap (λ l. total m (now.Call t vs) l (state_of x.store h) x.left) iq
    ∙ ap (λ s. total m (now.Call t vs) [] s x.left) (is ∙ ap (λ g. fresh g h) ig ∙ begun)
    ∙ ap (λ t. total m (now.Call t vs) [] (start p whole) x.left) it
    ∙ ap (λ vs. total m (now.Call (main_of p) vs) [] (start p whole) x.left) iv
    ∙ call_alone m (main_of p) (start p whole) x.left

pub start_ties : (p : Program) (whole first : List ℕ) (told : Bool) (x : Machine) (globals : List Value) (t : Target) (vs : List Value) → globals ≡ map (global_value p.types) p.globals → t ≡ main_of p → vs ≡ [] → x.stack.items ≡ [] → ((h : Unseen) → state_of x.store h ≡ fresh globals h) → Ties (setting_of p) (stand_of p whole x.left) whole whole told first first (now.Call t vs) x
start_ties p whole first told x globals t vs ig it iv iq is =
    let h : Unseen = record { input = whole; output = []; walk = [] } in
    let same = begins p whole x globals t vs h ig it iv iq (is h) refl in
    let P : Stand → Type 0 = λ r. Later (state_of x.store h) r.state in
    let later = subst P same (goes_on_to (setting_of p) (now.Call t vs) x.stack.items (state_of x.store h) x.left) in
    let none : x.store.taken ≡ 0 = ap (λ s. s.world.taken) (is h) in
    record {
      unseen = h;
      same = same;
      input = refl;
      gone = [];
      split = refl;
      put = λ told. sym (append-nil first);
      took = (later.input.0, later.input.1, omega (arith, later.input.2, none));
    }

pub starts : (p : Program) (whole first : List ℕ) (told : Bool) (x : Machine) (globals : List Value) (t : Target) (vs : List Value) → globals ≡ map (global_value p.types) p.globals → t ≡ main_of p → vs ≡ [] → x.stack.items ≡ [] → ((h : Unseen) → state_of x.store h ≡ fresh globals h) → (k : ℕ) → x.left ≡ k → Ties (setting_of p) (stand_of p whole k) whole whole told first first (now.Call t vs) x
starts p whole first told x globals t vs ig it iv iq is k le = let P : ℕ → Type 0 = λ k. Ties (setting_of p) (stand_of p whole k) whole whole told first first (now.Call t vs) x in
    subst P le (start_ties p whole first told x globals t vs ig it iv iq is)

-- the run at its end
module _ (p : Program) (whole left first bytes : List ℕ) (told : Bool) (k : ℕ) (x : Machine) (o : SourceEnd) (t : Ties (setting_of p) (stand_of p whole k) whole left told first bytes (now.Stopped o) x) where
  pub ends_means : (meant : Meant) → meant.outcome ≡ o → meant.units ≡ k - x.left → meant.peak ≡ 4096 + x.store.peak → meant.taken ≡ x.store.taken → SameRun (source p whole k) meant
  unfolding total
  ends_means meant io iu ip it = record {
    outcome = io ∙ ap (λ r. r.outcome) t.same;
    units = iu ∙ ap (λ r. k - r.left) t.same;
    peak = ip ∙ ap (λ r. 4096 + r.state.peak) t.same;
    taken = it ∙ ap (λ r. r.state.world.taken) t.same;
  }

  pub ends_puts : IsTrue told → bytes ≡ first ++ (source p whole k).output
  unfolding total
  ends_puts h = t.put h ∙ ap (λ r. first ++ r.state.world.output) t.same

  pub ends_takes : (gone : List ℕ) × (whole ≡ gone ++ left) × (length gone ≡ (source p whole k).taken)
  unfolding total
  ends_takes =
      let over : (stand_of p whole k).state.world.input ≡ left = sym (ap (λ r. r.state.world.input) t.same) ∙ t.input in
      let e1 = ap length t.split in let e2 = ap length t.took.1 in let e3 = ap length over in
      let f1 = length-append t.gone left in let f2 = length-append t.took.0 (stand_of p whole k).state.world.input in
      (t.gone, t.split, omega (arith, e1, e2, e3, f1, f2, t.took.2))

-- broken off
module _ (run : Stand) (whole left first bytes : List ℕ) (told : Bool) (b : Broke run whole left told first bytes) where
  pub broke_puts : IsTrue told → (kept : List ℕ) × IsPrefix kept run.state.world.output × (bytes ≡ first ++ kept)
  broke_puts h = (b.kept, b.prefix, b.put h)

  pub broke_takes : (gone : List ℕ) × (whole ≡ gone ++ left) × (length gone ≤ run.state.world.taken)
  broke_takes = (b.gone, b.split, b.taken)

-- nothing is done yet
pub none_puts : (old output : List ℕ) → (kept : List ℕ) × IsPrefix kept output × (old ≡ old ++ kept)
none_puts old output = ([], (output, refl), sym (append-nil old))

pub none_takes : (old : List ℕ) (taken : ℕ) → (gone : List ℕ) × (old ≡ gone ++ old) × (length gone ≤ taken)
none_takes old taken = ([], refl, omega arith)

-- what is done next, by another name
pub ties_at : (m : Setting) (run : Stand) (whole left : List ℕ) (told : Bool) (first bytes : List ℕ) (n n' : Now) (x : Machine) → n ≡ n' → Ties m run whole left told first bytes n x → Ties m run whole left told first bytes n' x
ties_at m run whole left told first bytes n n' x e t = let P : Now → Type 0 = λ n. Ties m run whole left told first bytes n x in subst P e t

pub a_call : (n : Now) (c : Called) (vs : List Value) → n ≡ now.Calling c vs → IsNoCall n → ⊥
a_call n c vs e own = subst IsNoCall e own

-- a machine stays on the way of a run
pub walk_ties : (m : Setting) (run : Stand) (whole left : List ℕ) (told : Bool) (first bytes : List ℕ) (n n' : Now) (x y : Machine) → Walks m n x n' y → Ties m run whole left told first bytes n x → Ties m run whole left told first bytes n' y
walk_ties m run whole left told first bytes n n' x y walks t = let w = walks t.unseen in record { unseen = with_walk w.0 t.unseen; same = w.1 ∙ t.same; input = t.input; gone = t.gone; split = t.split; put = t.put; took = t.took }

pub same_ties : (m : Setting) (run : Stand) (whole left : List ℕ) (told : Bool) (first bytes : List ℕ) (n n' : Now) (x y : Machine) → Same m n x n' y → Ties m run whole left told first bytes n x → Ties m run whole left told first bytes n' y
same_ties m run whole left told first bytes n n' x y same t = record { unseen = t.unseen; same = same t.unseen ∙ t.same; input = t.input; gone = t.gone; split = t.split; put = t.put; took = t.took }

-- what came without a fault of the outside
abbrev pub NoFault : {T : Type 0} → Result T MeanFail → Type 0
NoFault (Ok x) = Unit {0}
NoFault (Err fail.NoMemory) = Unit {0}
NoFault (Err e) = ⊥
