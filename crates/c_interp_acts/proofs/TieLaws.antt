-- A machine on the way of a run: its steps, and where it is broken off.
use Rattle.std.proofs.Common.{◌≡◌, ℕ, ◌+◌, ◌≤◌, Bool, true, false, List, [], ◌∷◌, ◌++◌, length, refl, sym, ap, ◌∙◌, subst, arith, append_assoc, length-append, pos, negsuc, ◌⊎◌, inl, inr}
use Rattle.std.specs.Prelude.{IsTrue, Result, Ok, Err, OnErr, Option, Some}
use Rattle.std.proofs.lemmas.Bool.{true≢false}
use Rattle.hx_io.specs.Streams.{Takes, AppendsPrefix}
use Rattle.c_program.specs.declared.expressions.Service.{Service}
use Rattle.c_program.specs.declared.expressions.Service.TheVariants as service
use Rattle.c_values.specs.declared.value.Value.{Value}
use Rattle.c_values.specs.declared.value.Value.TheVariants as value
use Rattle.c_values.specs.Numbers.{low_bits}
use Rattle.c_meaning.specs.declared.outcome.SourceEnd.TheVariants as ends
use Rattle.c_meaning.specs.States.{State}
use Rattle.c_meaning.specs.Rules.{Setting, first_number, with_input, get_in}
use Rattle.c_meaning.specs.Source.{Stand}
use Rattle.c_state.specs.declared.store.Store.{Store}
use Rattle.c_state.specs.Seen.{Unseen, state_of, with_left, with_put}
use Rattle.c_interp_steps.specs.declared.work.Called.TheVariants as called
use Rattle.c_interp_steps.specs.declared.work.Pending.{Pending}
use Rattle.c_interp_steps.specs.declared.work.Now.{Now}
use Rattle.c_interp_steps.specs.declared.work.Now.TheVariants as now
use Rattle.c_interp_steps.specs.Rests.{called_of}
use Rattle.c_interp_steps.specs.Stack.{finish, resume, total}
use Rattle.c_interp_laws.specs.Later.{Later}
use Rattle.c_interp_laws.proofs.Ends.{goes_on_to}
use Rattle.c_interp_acts.specs.declared.machine.Machine.{Machine}
use Rattle.c_interp_acts.specs.Going.{with_walk, Steps, TakesByte, Took, Ties, Broke}

pub ties_step : (m : Setting) (run : Stand) (whole left : List ℕ) (told : Bool) (first bytes : List ℕ) (n n' : Now) (x x' : Machine) → Steps m n x n' x' → Ties m run whole left told first bytes n x → Ties m run whole left told first bytes n' x'
ties_step m run whole left told first bytes n n' x x' st t = let w = st.same t.unseen in record { unseen = with_walk w.0 t.unseen; same = w.1 ∙ t.same; input = t.input; gone = t.gone; split = t.split; put = t.put; took = t.took }

later_run : (m : Setting) (run : Stand) (n : Now) (ps : List Pending) (s : State) (k : ℕ) → total m n ps s k ≡ run → Later s run.state
later_run m run n ps s k e = let P : Stand → Type 0 = λ r. Later s r.state in subst P e (goes_on_to m n ps s k)

-- what is gone of the input is no more than what the run takes
no_more : (whole left gone g g2 rest : List ℕ) (taken : ℕ) → whole ≡ gone ++ left → whole ≡ g ++ rest → left ≡ g2 ++ rest → taken ≡ length g → length gone ≤ taken
no_more whole left gone g g2 rest taken a b c d =
    let e1 = ap length a in let e2 = ap length b in let e3 = ap length c in
    let f1 = length-append gone left in let f2 = length-append g rest in let f3 = length-append g2 rest in
    omega (arith, e1, e2, e3, f1, f2, f3, d)

-- broken off where the state has put and taken this
pub broke_at : (run : Stand) (whole left : List ℕ) (told : Bool) (first bytes gone : List ℕ) (s : State) → Later s run.state → Took whole run → s.world.input ≡ left → whole ≡ gone ++ left → (IsTrue told → bytes ≡ first ++ s.world.output) → Broke run whole left told first bytes
broke_at run whole left told first bytes gone s later took input is put = record {
  gone = gone;
  split = is;
  taken = no_more whole left gone took.0 later.input.0 run.state.world.input run.state.world.taken is took.1 (sym input ∙ later.input.1) took.2;
  kept = s.world.output;
  prefix = later.output;
  put = put;
}

pub ties_break : (m : Setting) (run : Stand) (whole left : List ℕ) (told : Bool) (first bytes : List ℕ) (n : Now) (x : Machine) → Ties m run whole left told first bytes n x → Broke run whole left told first bytes
ties_break m run whole left told first bytes n x t = broke_at run whole left told first bytes t.gone (state_of x.store t.unseen) (later_run m run n x.stack.items (state_of x.store t.unseen) x.left t.same) t.took t.input t.split t.put

-- the services
put_step : (m : Setting) (vs : List Value) (ps : List Pending) (y : Store) (h : Unseen) (k : ℕ) → total m (now.Got (value.Number (pos 0))) ps (state_of y (with_put (low_bits 8 (first_number vs)) h)) k ≡ total m (now.Calling (called.Service service.PutByte) vs) ps (state_of y h) k
unfolding total called_of finish
put_step m vs ps y h k = refl

pub exit_step : (m : Setting) (vs : List Value) (ps : List Pending) (y : Store) (h : Unseen) (k : ℕ) → total m (now.Stopped (ends.Exit (low_bits 8 (first_number vs)))) ps (state_of y h) k ≡ total m (now.Calling (called.Service service.Exit) vs) ps (state_of y h) k
unfolding total called_of finish
exit_step m vs ps y h k = refl

get_step : (m : Setting) (vs : List Value) (ps : List Pending) (y : Store) (h : Unseen) (k : ℕ) → finish (get_in h.input (state_of y h) k) (resume m ps).value ≡ total m (now.Calling (called.Service service.GetByte) vs) ps (state_of y h) k
unfolding total called_of
get_step m vs ps y h k = refl

get_one : (m : Setting) (vs : List Value) (ps : List Pending) (y : Store) (h : Unseen) (k b : ℕ) (bs : List ℕ) → h.input ≡ b ∷ bs → total m (now.Got (value.Number (pos b))) ps (with_input bs (state_of y h)) k ≡ total m (now.Calling (called.Service service.GetByte) vs) ps (state_of y h) k
unfolding total finish
get_one m vs ps y h k b bs is = one ∙ ap (λ l. finish (get_in l (state_of y h) k) (resume m ps).value) (sym is) ∙ get_step m vs ps y h k
  where
    one : total m (now.Got (value.Number (pos b))) ps (with_input bs (state_of y h)) k ≡ finish (get_in (b ∷ bs) (state_of y h) k) (resume m ps).value
    one = refl

get_none : (m : Setting) (vs : List Value) (ps : List Pending) (y : Store) (h : Unseen) (k : ℕ) → h.input ≡ [] → total m (now.Got (value.Number (negsuc 0))) ps (state_of y h) k ≡ total m (now.Calling (called.Service service.GetByte) vs) ps (state_of y h) k
unfolding total finish
get_none m vs ps y h k is = none ∙ ap (λ l. finish (get_in l (state_of y h) k) (resume m ps).value) (sym is) ∙ get_step m vs ps y h k
  where
    none : total m (now.Got (value.Number (negsuc 0))) ps (state_of y h) k ≡ finish (get_in [] (state_of y h) k) (resume m ps).value
    none = refl

module _ (m : Setting) (run : Stand) (whole : List ℕ) (told : Bool) (first : List ℕ) (vs : List Value) (x : Machine) where
  -- a byte is put
  pub puts_tie : (left bytes bytes' : List ℕ) (b : ℕ) → b ≡ low_bits 8 (first_number vs) → (IsTrue told → bytes' ≡ bytes ++ b ∷ []) → Ties m run whole left told first bytes (now.Calling (called.Service service.PutByte) vs) x → Ties m run whole left told first bytes' (now.Got (value.Number (pos 0))) x
  puts_tie left bytes bytes' b is put t = record {
    unseen = with_put b t.unseen;
    same = ap (λ z. total m (now.Got (value.Number (pos 0))) x.stack.items (state_of x.store (with_put z t.unseen)) x.left) is ∙ put_step m vs x.stack.items x.store t.unseen x.left ∙ t.same;
    input = t.input;
    gone = t.gone;
    split = t.split;
    put = λ h. put h ∙ ap (λ l. l ++ b ∷ []) (t.put h) ∙ append_assoc first t.unseen.output (b ∷ []);
    took = t.took;
  }

  -- a byte could not be put: maybe it was
  pub puts_break : (left bytes bytes' kept rest : List ℕ) (b : ℕ) → b ≡ low_bits 8 (first_number vs) → b ∷ [] ≡ kept ++ rest → (IsTrue told → bytes' ≡ bytes ++ kept) → Ties m run whole left told first bytes (now.Calling (called.Service service.PutByte) vs) x → Broke run whole left told first bytes'
  unfolding ties_break broke_at puts_tie
  puts_break left bytes bytes' kept rest b is split put t =
      let u = puts_tie left bytes (bytes ++ b ∷ []) b is (λ h. refl) t in
      let later = later_run m run (now.Got (value.Number (pos 0))) x.stack.items (state_of x.store u.unseen) x.left u.same in record {
        gone = t.gone;
        split = t.split;
        taken = (ties_break m run whole left told first bytes (now.Calling (called.Service service.PutByte) vs) x t).taken;
        kept = t.unseen.output ++ kept;
        prefix = (rest ++ later.output.0, later.output.1 ∙ ap (λ l. (t.unseen.output ++ l) ++ later.output.0) split ∙ ap (λ l. l ++ later.output.0) (sym (append_assoc t.unseen.output kept rest)) ∙ append_assoc (t.unseen.output ++ kept) rest later.output.0);
        put = λ h. put h ∙ ap (λ l. l ++ kept) (t.put h) ∙ append_assoc first t.unseen.output kept;
      }

  -- a byte is taken
  pub takes_tie : (before after bytes : List ℕ) (b : ℕ) (x' : Machine) → before ≡ b ∷ after → ((h : Unseen) → state_of x'.store (with_left after h) ≡ with_input after (state_of x.store h)) → x'.stack ≡ x.stack → x'.left ≡ x.left → Ties m run whole before told first bytes (now.Calling (called.Service service.GetByte) vs) x → Ties m run whole after told first bytes (now.Got (value.Number (pos b))) x'
  takes_tie before after bytes b x' is st stack left t = record {
    unseen = with_left after t.unseen;
    same = ap (λ z. total m (now.Got (value.Number (pos b))) z.items (state_of x'.store (with_left after t.unseen)) x'.left) stack
        ∙ ap (λ z. total m (now.Got (value.Number (pos b))) x.stack.items z x'.left) (st t.unseen)
        ∙ ap (λ k. total m (now.Got (value.Number (pos b))) x.stack.items (with_input after (state_of x.store t.unseen)) k) left
        ∙ get_one m vs x.stack.items x.store t.unseen x.left b after (t.input ∙ is) ∙ t.same;
    input = refl;
    gone = t.gone ++ b ∷ [];
    split = t.split ∙ ap (λ l. t.gone ++ l) is ∙ sym (append_assoc t.gone (b ∷ []) after);
    put = t.put;
    took = t.took;
  }

  -- a byte was taken, and then there was no memory
  pub takes_break : (before after bytes : List ℕ) (b : ℕ) → before ≡ b ∷ after → Ties m run whole before told first bytes (now.Calling (called.Service service.GetByte) vs) x → Broke run whole after told first bytes
  takes_break before after bytes b is t =
      let s = with_input after (state_of x.store t.unseen) in
      broke_at run whole after told first bytes (t.gone ++ b ∷ []) s
      (later_run m run (now.Got (value.Number (pos b))) x.stack.items s x.left (get_one m vs x.stack.items x.store t.unseen x.left b after (t.input ∙ is) ∙ t.same))
      t.took refl (t.split ∙ ap (λ l. t.gone ++ l) is ∙ sym (append_assoc t.gone (b ∷ []) after)) t.put

  -- nothing is left to take
  pub ends_tie : (before after bytes : List ℕ) → before ≡ [] → after ≡ [] → Ties m run whole before told first bytes (now.Calling (called.Service service.GetByte) vs) x → Ties m run whole after told first bytes (now.Got (value.Number (negsuc 0))) x
  ends_tie before after bytes is is' t = record {
    unseen = t.unseen;
    same = get_none m vs x.stack.items x.store t.unseen x.left (t.input ∙ is) ∙ t.same;
    input = t.input ∙ is ∙ sym is';
    gone = t.gone;
    split = t.split ∙ ap (λ l. t.gone ++ l) (is ∙ sym is');
    put = t.put;
    took = t.took;
  }

  pub exits_tie : (left bytes : List ℕ) (b : ℕ) → b ≡ low_bits 8 (first_number vs) → Ties m run whole left told first bytes (now.Calling (called.Service service.Exit) vs) x → Ties m run whole left told first bytes (now.Stopped (ends.Exit b)) x
  exits_tie left bytes b is t = record {
    unseen = t.unseen;
    same = ap (λ z. total m (now.Stopped (ends.Exit z)) x.stack.items (state_of x.store t.unseen) x.left) is ∙ exit_step m vs x.stack.items x.store t.unseen x.left ∙ t.same;
    input = t.input;
    gone = t.gone;
    split = t.split;
    put = t.put;
    took = t.took;
  }

  -- a service, as its answer says
  pub put_tie : (told' : Bool) (s : Service) (left bytes bytes' : List ℕ) (b : ℕ) (v : Value) → told' ≡ told → s ≡ service.PutByte → v ≡ value.Number (pos 0) → b ≡ low_bits 8 (first_number vs) → (IsTrue told → bytes' ≡ bytes ++ b ∷ []) → Ties m run whole left told first bytes (now.Calling (called.Service s) vs) x → Ties m run whole left told' first bytes' (now.Got v) x
  put_tie told' s left bytes bytes' b v et es ev is put t =
      let P : Service → Type 0 = λ s. Ties m run whole left told first bytes (now.Calling (called.Service s) vs) x in
      let Q : Value → Type 0 = λ v. Ties m run whole left told first bytes' (now.Got v) x in
      let R : Bool → Type 0 = λ w. Ties m run whole left w first bytes' (now.Got v) x in
      subst R (sym et) (subst Q (sym ev) (puts_tie left bytes bytes' b is put (subst P es t)))

  pub put_break : (told' : Bool) (s : Service) (left bytes bytes' : List ℕ) (b : ℕ) → told' ≡ told → s ≡ service.PutByte → b ≡ low_bits 8 (first_number vs) → (IsTrue told → AppendsPrefix bytes (b ∷ []) bytes') → Ties m run whole left told first bytes (now.Calling (called.Service s) vs) x → Broke run whole left told' first bytes'
  put_break told' s left bytes bytes' b et es is put t =
      let P : Service → Type 0 = λ s. Ties m run whole left told first bytes (now.Calling (called.Service s) vs) x in
      let R : Bool → Type 0 = λ w. Broke run whole left w first bytes' in
      subst R (sym et) (by told refl (subst P es t))
    where
      by : (w : Bool) → told ≡ w → Ties m run whole left told first bytes (now.Calling (called.Service service.PutByte) vs) x → Broke run whole left told first bytes'
      by true e t = let p = put e in puts_break left bytes bytes' p.0 p.1.0 b is p.1.1 (λ h. p.2) t
      by false e t = puts_break left bytes bytes' [] (b ∷ []) b is refl (λ h. absurd (true≢false (sym h ∙ e))) t

  pub get_tie : (s : Service) (before after bytes : List ℕ) (v : Value) (y : Store) → s ≡ service.GetByte → TakesByte before x.store (Ok v) after y → Ties m run whole before told first bytes (now.Calling (called.Service s) vs) x → Ties m run whole after told first bytes (now.Got v) (record x { store = y })
  get_tie s before after bytes v y es takes t =
      let P : Service → Type 0 = λ s. Ties m run whole before told first bytes (now.Calling (called.Service s) vs) x in
      by takes (subst P es t)
    where
      by : TakesByte before x.store (Ok v) after y → Ties m run whole before told first bytes (now.Calling (called.Service service.GetByte) vs) x → Ties m run whole after told first bytes (now.Got v) (record x { store = y })
      by (inl p) t =
          let Q : Value → Type 0 = λ v. Ties m run whole after told first bytes (now.Got v) (record x { store = y }) in
          subst Q (sym p.2) (takes_tie before after bytes p.0 (record x { store = y }) p.1 p.3 refl refl t)
      by (inr p) t =
          let Q : Value → Type 0 = λ v. Ties m run whole after told first bytes (now.Got v) (record x { store = y }) in
          let R : Store → Type 0 = λ z. Ties m run whole after told first bytes (now.Got (value.Number (negsuc 0))) (record x { store = z }) in
          subst Q (sym p.2) (subst R (sym p.3) (ends_tie before after bytes p.0 p.1 t))

  pub get_break : (s : Service) (before after bytes : List ℕ) → s ≡ service.GetByte → ((b : ℕ) × (before ≡ b ∷ after)) ⊎ (after ≡ before) → Ties m run whole before told first bytes (now.Calling (called.Service s) vs) x → Broke run whole after told first bytes
  get_break s before after bytes es takes t =
      let P : Service → Type 0 = λ s. Ties m run whole before told first bytes (now.Calling (called.Service s) vs) x in
      by takes (subst P es t)
    where
      by : ((b : ℕ) × (before ≡ b ∷ after)) ⊎ (after ≡ before) → Ties m run whole before told first bytes (now.Calling (called.Service service.GetByte) vs) x → Broke run whole after told first bytes
      by (inl p) t = takes_break before after bytes p.0 p.1 t
      by (inr q) t = let Q : List ℕ → Type 0 = λ l. Broke run whole l told first bytes in subst Q (sym q) (ties_break m run whole before told first bytes (now.Calling (called.Service service.GetByte) vs) x t)

  pub exit_tie : (s : Service) (left bytes : List ℕ) (b : ℕ) → s ≡ service.Exit → b ≡ low_bits 8 (first_number vs) → Ties m run whole left told first bytes (now.Calling (called.Service s) vs) x → Ties m run whole left told first bytes (now.Stopped (ends.Exit b)) x
  exit_tie s left bytes b es is t =
      let P : Service → Type 0 = λ s. Ties m run whole left told first bytes (now.Calling (called.Service s) vs) x in
      exits_tie left bytes b is (subst P es t)

pub on_err : {A E : Type 0} (r : Result A E) (P : Type 0) → P → OnErr r P
on_err (Ok a) P p = tt
on_err (Err e) P p = p

pub takes_one : (before after : List ℕ) (o : Option ℕ) (b : ℕ) → o ≡ Some b → Takes before (Ok o) after → before ≡ b ∷ after
takes_one before after o b is takes = let P : Option ℕ → Type 0 = λ o. Takes before (Ok o) after in subst P is takes
