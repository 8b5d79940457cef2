-- What was seen is seen for good.
use Rattle.std.proofs.Common.{ℕ, zero, suc, Bool, true, false, List, [], ◌∷◌, ◌++◌, refl, sym, ap, ◌∙◌, append_assoc, append-nil}
use Rattle.std.specs.Prelude.{if◌then◌else◌, map, Option, Some, None}
use Rattle.c_types.specs.declared.types.IntTy.{IntTy}
use Rattle.sig_core.specs.declared.classes.Signature.{Signature}
use Rattle.ir_core.specs.declared.operations.IrOp.{IrOp}
use Rattle.ir_core.specs.declared.operations.IrOp.TheVariants.{Const, Copy, Zero, Unary, Binary, Convert, GlobalAddress, FunctionAddress, LoadAt, StoreAt, BoundsTrap, NullTrap, ZeroTrap, Label, Jump, Branch, CallName, CallPointer, CallService, VaStart, VaArg, VaEnd, Return}
use Rattle.ir_core.specs.declared.program.IrAdjust.{IrAdjust}
use Rattle.ir_core.specs.Cells.{Cell, Inside, Function, Word, Number, Address, word_in}
use Rattle.ir_core.specs.Worlds.{Frame, Globals, Def, Body, Adjusts, Codes, Event, Calls, Serves, Reply, Gives, Changes, Ends, World, Active, Caller, Waits, Passes, Config, Going, Passing, Ended, Wrong, shown, same_signature}
use Rattle.ir_core.specs.Calls.{active_of, returned, with_replies, replied, entered_as, entered, entered_at, served, with_added, passed_on, adjusted}
use Rattle.ir_core.specs.Steps.{sets, reframes, stores, traps, branches, takes, value_of, step, steps}
use Rattle.ir_core.specs.Laws.{world_in, GoesOn}

pub goes_on_same : (w : World) → GoesOn w w
goes_on_same w = ([], sym (append-nil w.events))

pub goes_on_more : (u v w : World) → GoesOn u v → GoesOn v w → GoesOn u w
goes_on_more u v w a b = (a.0 ++ b.0, b.1 ∙ ap (λ l. l ++ b.0) a.1 ∙ append_assoc u.events a.0 b.0)

on_show : (e : Event) (w : World) → GoesOn w (shown e w)
on_show e w = (e ∷ [], refl)

-- ---- calls

on_return : (cs : List Caller) (x : List Cell) (v w : World) → GoesOn v w → GoesOn v (world_in (returned cs x w))
on_return [] x v w g = g
on_return (Waits rest here to ∷ cs) x v w g = g
on_return (Passes name ∷ cs) x v w g = on_return cs x v w g

on_reply : (rs : List Reply) (cs : List Caller) (v w : World) → GoesOn v w → GoesOn v (world_in (replied rs cs w))
unfolding replied
on_reply [] cs v w g = g
on_reply (Gives x ∷ rs) cs v w g = on_return cs x v (with_replies rs w) g
on_reply (Changes x gs ∷ rs) cs v w g = on_return cs x v (record w { globals = gs; replies = rs }) g
on_reply (Ends code ∷ rs) cs v w g = g

on_same : (b : Bool) (go : Config) (v w : World) → GoesOn v (world_in go) → GoesOn v w → GoesOn v (world_in (if b then go else Wrong w))
on_same true go v w g h = g
on_same false go v w g h = h

on_def : (d : Option Def) (sig : Signature) (args : List (List Cell)) (cs : List Caller) (v w : World) → GoesOn v w → GoesOn v (world_in (entered_as d sig args cs w))
on_def None sig args cs v w g = on_reply w.replies cs v w g
on_def (Some (Body f)) sig args cs v w g = on_same (same_signature f.sig sig) (Going f.ops (active_of f args) cs w) v w g g
on_def (Some (Adjusts a)) sig args cs v w g = on_same (same_signature a.sig sig) (Passing a args cs w) v w g g

on_enter : (p : Codes) (name : List ℕ) (sig : Signature) (args : List (List Cell)) (cs : List Caller) (w : World) → GoesOn w (world_in (entered p name sig args cs w))
unfolding entered
on_enter p name sig args cs w = on_def (p name) sig args cs w (shown (Calls name args) w) (on_show (Calls name args) w)

on_enter_at : (p : Codes) (a : Option Word) (sig : Signature) (args : List (List Cell)) (cs : List Caller) (w : World) → GoesOn w (world_in (entered_at p a sig args cs w))
on_enter_at p None sig args cs w = goes_on_same w
on_enter_at p (Some (Number n)) sig args cs w = goes_on_same w
on_enter_at p (Some (Address (Inside r at))) sig args cs w = goes_on_same w
on_enter_at p (Some (Address (Function name))) sig args cs w = on_enter p name sig args cs w

on_serve : (name : List ℕ) (args : List (List Cell)) (cs : List Caller) (w : World) → GoesOn w (world_in (served name args cs w))
unfolding served
on_serve name args cs w = on_reply w.replies cs w (shown (Serves name args) w) (on_show (Serves name args) w)

on_pass : (p : Codes) (a : IrAdjust) (args : Option (List (List Cell))) (cs : List Caller) (w : World) → GoesOn w (world_in (passed_on p a args cs w))
on_pass p a None cs w = goes_on_same w
on_pass p a (Some args) cs w = on_enter p a.target a.sig args (Passes a.name ∷ cs) w

on_adjust : (p : Codes) (a : IrAdjust) (args : List (List Cell)) (cs : List Caller) (w : World) → GoesOn w (world_in (adjusted p a args cs w))
unfolding adjusted
on_adjust p a args cs w = on_pass p a (with_added a.add a.param args) cs w

-- ---- what goes on with a value

on_sets : (v : Option (List Cell)) (k : ℕ) (is : List IrOp) (here : Active) (cs : List Caller) (w : World) → GoesOn w (world_in (sets v k is here cs w))
on_sets None k is here cs w = goes_on_same w
on_sets (Some v) k is here cs w = goes_on_same w

on_reframes : (f : Option Frame) (is : List IrOp) (here : Active) (cs : List Caller) (w : World) → GoesOn w (world_in (reframes f is here cs w))
on_reframes None is here cs w = goes_on_same w
on_reframes (Some f) is here cs w = goes_on_same w

on_stores : (g : Option Globals) (is : List IrOp) (here : Active) (cs : List Caller) (w : World) → GoesOn w (world_in (stores g is here cs w))
on_stores None is here cs w = goes_on_same w
on_stores (Some g) is here cs w = goes_on_same w

on_traps : (b : Option Bool) (code : ℕ) (is : List IrOp) (here : Active) (cs : List Caller) (w : World) → GoesOn w (world_in (traps b code is here cs w))
on_traps None code is here cs w = goes_on_same w
on_traps (Some true) code is here cs w = goes_on_same w
on_traps (Some false) code is here cs w = goes_on_same w

on_branches : (b : Option Bool) (yes_to no_to : ℕ) (here : Active) (cs : List Caller) (w : World) → GoesOn w (world_in (branches b yes_to no_to here cs w))
on_branches None yes_to no_to here cs w = goes_on_same w
on_branches (Some true) yes_to no_to here cs w = goes_on_same w
on_branches (Some false) yes_to no_to here cs w = goes_on_same w

on_takes : (vs : Option (List (List Cell))) (k : ℕ) (i : IntTy) (is : List IrOp) (here : Active) (cs : List Caller) (w : World) → GoesOn w (world_in (takes vs k i is here cs w))
on_takes None k i is here cs w = goes_on_same w
on_takes (Some []) k i is here cs w = goes_on_same w
on_takes (Some (v ∷ vs)) k i is here cs w = goes_on_same w

-- ---- steps

step_goes_on : (p : Codes) (c : Config) → GoesOn (world_in c) (world_in (step p c))
step_goes_on p (Ended o w) = goes_on_same w
step_goes_on p (Wrong w) = goes_on_same w
step_goes_on p (Passing a args cs w) = on_adjust p a args cs w
step_goes_on p (Going [] here cs w) = goes_on_same w
step_goes_on p (Going (Const to i v ∷ is) here cs w) = goes_on_same w
step_goes_on p (Going (Copy to from n ∷ is) here cs w) = on_reframes _ is here cs w
step_goes_on p (Going (Zero to n ∷ is) here cs w) = on_reframes _ is here cs w
step_goes_on p (Going (Unary o i to a ∷ is) here cs w) = on_sets _ to is here cs w
step_goes_on p (Going (Binary o i to a b ∷ is) here cs w) = on_sets _ to is here cs w
step_goes_on p (Going (Convert i j to a ∷ is) here cs w) = on_sets _ to is here cs w
step_goes_on p (Going (GlobalAddress to name ∷ is) here cs w) = goes_on_same w
step_goes_on p (Going (FunctionAddress to name ∷ is) here cs w) = goes_on_same w
step_goes_on p (Going (LoadAt to from n ∷ is) here cs w) = on_reframes _ is here cs w
step_goes_on p (Going (StoreAt to from n ∷ is) here cs w) = on_stores _ is here cs w
step_goes_on p (Going (BoundsTrap index i n ∷ is) here cs w) = on_traps _ 241 is here cs w
step_goes_on p (Going (NullTrap pointer ∷ is) here cs w) = on_traps _ 242 is here cs w
step_goes_on p (Going (ZeroTrap a i ∷ is) here cs w) = on_traps _ 243 is here cs w
step_goes_on p (Going (Label l ∷ is) here cs w) = goes_on_same w
step_goes_on p (Going (Jump l ∷ is) here cs w) = goes_on_same w
step_goes_on p (Going (Branch a i yes_to no_to ∷ is) here cs w) = on_branches _ yes_to no_to here cs w
step_goes_on p (Going (CallName name sig args to ∷ is) here cs w) = on_enter p name sig (map here.frame args) (Waits is here to ∷ cs) w
step_goes_on p (Going (CallPointer at sig args to ∷ is) here cs w) = on_enter_at p (word_in (here.frame at)) sig (map here.frame args) (Waits is here to ∷ cs) w
step_goes_on p (Going (CallService name sig args to ∷ is) here cs w) = on_serve name (map here.frame args) (Waits is here to ∷ cs) w
step_goes_on p (Going (VaStart ∷ is) here cs w) = goes_on_same w
step_goes_on p (Going (VaArg to i ∷ is) here cs w) = on_takes here.next to i is here cs w
step_goes_on p (Going (VaEnd ∷ is) here cs w) = goes_on_same w
step_goes_on p (Going (Return v ∷ is) here cs w) = on_return cs (value_of v here.frame) w w (goes_on_same w)

pub steps_go_on : (p : Codes) (n : ℕ) (c : Config) → GoesOn (world_in c) (world_in (steps p n c))
steps_go_on p zero c = goes_on_same (world_in c)
steps_go_on p (suc n) c = goes_on_more (world_in c) (world_in (step p c)) (world_in (steps p n (step p c))) (step_goes_on p c) (steps_go_on p n (step p c))
