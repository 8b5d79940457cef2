-- A run as its steps go on.
use Rattle.std.proofs.Common.{◌≡◌, ℕ, ◌+◌, ◌-◌, ◌<◌, ◌≤◌, Bool, List, ◌++◌, append_assoc, append-nil, refl, sym, ap, subst, ◌∙◌, arith, IsTrue}
use Rattle.hx_words.specs.Prefixes.{IsPrefix}
use Rattle.hx_io.specs.Streams.{AppendsPrefix}
use Rattle.machine_rules.specs.declared.ends.GuestEnd.{GuestEnd}
use Rattle.machine_rules.specs.State.{Machine, Code, After, Goes, Ends}
use Rattle.machine_rules.specs.Steps.{step_of}
use Rattle.machine_rules.specs.Runs.{Run, no_step, act_of, run_from}
use Rattle.machine_rules.specs.Laws.{joined}
use Rattle.machine_rules.proofs.Running.{run_from-none, ended, joined_runs}

-- one step, as a run
pub one_after : (code : Code) (a : After) → (run_from code 1 a).after ≡ (act_of code a).after
unfolding run_from
one_after code (Goes m) = refl
one_after code (Ends end m) = refl

pub one_put : (code : Code) (a : After) → (run_from code 1 a).output ≡ (act_of code a).put
unfolding run_from
one_put code (Goes m) = append-nil (step_of code m).put
one_put code (Ends end m) = refl

abbrev after_of : Run → After
after_of r = r.after

abbrev output_of : Run → List ℕ
output_of r = r.output

-- a run with one more step
pub more_after : (code : Code) (k : ℕ) (a now : After) → now ≡ (run_from code k a).after → (run_from code (k + 1) a).after ≡ (act_of code now).after
more_after code k a now e =
    ap after_of (joined_runs code k 1 a) ∙ one_after code (run_from code k a).after ∙ ap (λ (b : After). (act_of code b).after) (sym e)

pub more_put : (code : Code) (k : ℕ) (a now : After) → now ≡ (run_from code k a).after → (run_from code (k + 1) a).output ≡ (run_from code k a).output ++ (act_of code now).put
more_put code k a now e =
    ap output_of (joined_runs code k 1 a)
    ∙ ap (λ (o : List ℕ). (run_from code k a).output ++ o) (one_put code (run_from code k a).after ∙ ap (λ (b : After). (act_of code b).put) (sym e))

-- where a run of fewer steps has ended, a longer one is the same
pub past_end : (code : Code) (k more n : ℕ) (a : After) (end : GuestEnd) (m : Machine) → k + more ≡ n → (run_from code k a).after ≡ Ends end m → ((run_from code n a).after ≡ Ends end m) × ((run_from code n a).output ≡ (run_from code k a).output)
past_end code k more n a end m e at =
    let rest : run_from code more (run_from code k a).after ≡ no_step (Ends end m) = ap (run_from code more) at ∙ ended code more end m in
    let whole : run_from code n a ≡ joined (run_from code k a) (no_step (Ends end m)) = ap (λ i. run_from code i a) (sym e) ∙ joined_runs code k more a ∙ ap (joined (run_from code k a)) rest in
    (ap after_of whole, ap output_of whole ∙ append-nil (run_from code k a).output)

-- after some turns: a state of the run, and a sink that held the start with the output up to there
pub record Progress (code : Code) (n turn : ℕ) (a now : After) (tells : Bool) (start bytes : List ℕ) : Type 0 where
  pub made : ℕ
  pub left : made + (n - turn) ≡ n
  pub after : now ≡ (run_from code made a).after
  pub put : IsTrue tells → bytes ≡ start ++ (run_from code made a).output

pub begins : (code : Code) (n : ℕ) (a : After) (tells : Bool) (start : List ℕ) → Progress code n 0 a a tells start start
begins code n a tells start = record {
  made = 0;
  left = let e : 0 + (n - 0) ≡ n = omega arith in e;
  after = sym (ap after_of (run_from-none code a));
  put = λ t. sym (ap (λ (r : Run). start ++ r.output) (run_from-none code a) ∙ append-nil start);
}

module _ (code : Code) (n turn : ℕ) (a now : After) (tells : Bool) (start bytes : List ℕ) (h : turn < n) (p : Progress code n turn a now tells start bytes) where
  abbrev put_now : List ℕ
  put_now = (act_of code now).put

  put_then : (later : List ℕ) → IsTrue tells → later ≡ bytes ++ put_now → later ≡ start ++ (run_from code (p.made + 1) a).output
  put_then later t e =
      e ∙ ap (λ (o : List ℕ). o ++ put_now) (p.put t) ∙ append_assoc start (run_from code p.made a).output put_now
      ∙ ap (λ (o : List ℕ). start ++ o) (sym (more_put code p.made a now p.after))

  pub goes_on : (new : After) (later : List ℕ) → new ≡ (act_of code now).after → (IsTrue tells → later ≡ bytes ++ put_now) → Progress code n (turn + 1) a new tells start later
  goes_on new later e put = record {
    made = p.made + 1;
    left = let q : p.made + 1 + (n - (turn + 1)) ≡ n = omega (arith, p.left) in q;
    after = e ∙ sym (more_after code p.made a now p.after);
    put = λ t. put_then later t (put t);
  }

  last : p.made + 1 + (n - (turn + 1)) ≡ n
  last = omega (arith, p.left)

  -- where the step ended the run
  pub ends : (new : After) (end : GuestEnd) (m : Machine) → new ≡ (act_of code now).after → new ≡ Ends end m → new ≡ (run_from code n a).after
  ends new end m e is =
      let at : (run_from code (p.made + 1) a).after ≡ Ends end m = more_after code p.made a now p.after ∙ sym e ∙ is in
      is ∙ sym (past_end code (p.made + 1) (n - (turn + 1)) n a end m last at).0

  pub ends_put : (new : After) (end : GuestEnd) (m : Machine) (later : List ℕ) → new ≡ (act_of code now).after → new ≡ Ends end m → IsTrue tells → later ≡ bytes ++ put_now → later ≡ start ++ (run_from code n a).output
  ends_put new end m later e is t put =
      let at : (run_from code (p.made + 1) a).after ≡ Ends end m = more_after code p.made a now p.after ∙ sym e ∙ is in
      put_then later t put ∙ ap (λ (o : List ℕ). start ++ o) (sym (past_end code (p.made + 1) (n - (turn + 1)) n a end m last at).1)

  -- where the outside failed
  pub stops : (new : After) → new ≡ now → (k : ℕ) × (k < n) × (new ≡ (run_from code k a).after)
  stops new e = (p.made, (let q : p.made < n = omega (arith, p.left) in q), e ∙ p.after)

  pub stops_before : (new : After) (later : List ℕ) → new ≡ now → IsTrue tells → later ≡ bytes → (k : ℕ) × (k < n) × (new ≡ (run_from code k a).after) × (later ≡ start ++ (run_from code k a).output)
  stops_before new later is t e = (p.made, (let q : p.made < n = omega (arith, p.left) in q), is ∙ p.after, e ∙ p.put t)

  pub stops_within : (new : After) (later : List ℕ) → new ≡ now → IsTrue tells → AppendsPrefix bytes put_now later
      → (k : ℕ) × (k < n) × (new ≡ (run_from code k a).after) × AppendsPrefix (start ++ (run_from code k a).output) (act_of code new).put later
  stops_within new later is t (kept, front, e) =
      let puts : IsPrefix kept (act_of code new).put = subst (λ (b : After). IsPrefix kept (act_of code b).put) (sym is) front in
      (p.made, (let q : p.made < n = omega (arith, p.left) in q), is ∙ p.after, (kept, puts, e ∙ ap (λ (o : List ℕ). o ++ kept) (p.put t)))

-- where the steps are spent
pub spent : (code : Code) (n turn : ℕ) (a now : After) (tells : Bool) (start bytes : List ℕ) → n ≤ turn → Progress code n turn a now tells start bytes → now ≡ (run_from code n a).after
spent code n turn a now tells start bytes h p = p.after ∙ ap (λ k. (run_from code k a).after) (let e : p.made ≡ n = omega (arith, p.left) in e)

pub spent_put : (code : Code) (n turn : ℕ) (a now : After) (tells : Bool) (start bytes : List ℕ) → n ≤ turn → Progress code n turn a now tells start bytes → IsTrue tells → bytes ≡ start ++ (run_from code n a).output
spent_put code n turn a now tells start bytes h p t = p.put t ∙ ap (λ k. start ++ (run_from code k a).output) (let e : p.made ≡ n = omega (arith, p.left) in e)
