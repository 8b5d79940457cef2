-- The configurations that a run of operations goes through.
use Rattle.std.specs.Prelude.{ℕ, Bool, if◌then◌else◌, nat_eq, ◌&&◌, ◌==◌, true, false, List, [], ◌∷◌, ◌++◌, Option}
use Rattle.std.specs.Str.{bytes_eq}
use Rattle.sig_core.specs.declared.classes.Class.{Class}
use Rattle.sig_core.specs.declared.classes.Class.TheVariants as class
use Rattle.sig_core.specs.declared.classes.Signature.{Signature}
use Rattle.ir_core.specs.declared.operations.IrOp.{IrOp}
use Rattle.ir_core.specs.declared.program.IrFn.{IrFn}
use Rattle.ir_core.specs.declared.program.IrAdjust.{IrAdjust}
use Rattle.ir_core.specs.Cells.{Cell}

-- the cells of each slot, by its number
abbrev pub Frame : Type 0
Frame = ℕ → List Cell

-- the cells of each global, by its name; none where there is no such global
abbrev pub Globals : Type 0
Globals = List ℕ → List Cell

-- what a name of the program is
pub data Def : Type 0 where
  Body : IrFn → Def
  Adjusts : IrAdjust → Def

abbrev pub Codes : Type 0
Codes = List ℕ → Option Def

-- a visible step: a call of a function or an adjustor, or a service, with its arguments
pub data Event : Type 0 where
  Calls : (name : List ℕ) (args : List (List Cell)) → Event
  Serves : (name : List ℕ) (args : List (List Cell)) → Event

-- what a service, or a function that isn't here, does: it gives a value and leaves the globals, or changes them, or ends
-- the run
pub data Reply : Type 0 where
  Gives : (value : List Cell) → Reply
  Changes : (value : List Cell) (globals : Globals) → Reply
  Ends : (code : ℕ) → Reply

-- what is outside of the frames: the globals, the steps that were seen, and the replies to come
pub record World : Type 0 where
  pub globals : Globals
  pub events : List Event
  pub replies : List Reply

-- an active function: its name, its operations, its slots, its extra arguments, and those that are still to be taken
-- where VaStart is in force
pub record Active : Type 0 where
  pub name : List ℕ
  pub code : List IrOp
  pub frame : Frame
  pub extras : List (List Cell)
  pub next : Option (List (List Cell))

-- a call that waits, with what it goes on with and the slot for its result; or an adjustor that is active
pub data Caller : Type 0 where
  Waits : (rest : List IrOp) (here : Active) (to : Option ℕ) → Caller
  Passes : (name : List ℕ) → Caller

-- how a run ends: the first function gave its result, a service ended it, a trap did, or a reply is wanted
pub data End : Type 0 where
  Gave : (value : List Cell) → End
  Exited : (code : ℕ) → End
  Trapped : (code : ℕ) → End
  Asks : End

-- in a function, with the operations that are left; at the entry of an adjustor; ended; or at something that has no
-- meaning, as a sum of blanks
pub data Config : Type 0 where
  Going : (rest : List IrOp) (here : Active) (callers : List Caller) → World → Config
  Passing : (adjustor : IrAdjust) (args : List (List Cell)) (callers : List Caller) → World → Config
  Ended : End → World → Config
  Wrong : World → Config

unfoldable pub with_slot : Frame → ℕ → List Cell → Frame
with_slot f k cs j = if nat_eq j k then cs else f j

unfoldable pub with_global : Globals → List ℕ → List Cell → Globals
with_global g name cs other = if bytes_eq other name then cs else g other

abbrev pub in_frame : Active → Frame → Active
in_frame here f = record here { frame = f }

abbrev pub shown : Event → World → World
shown e w = record w { events = w.events ++ (e ∷ []) }

abbrev pub same_class : Class → Class → Bool
same_class class.Void class.Void = true
same_class class.Word class.Word = true
same_class (class.Agg m) (class.Agg n) = m == n
same_class _ _ = false

abbrev pub same_classes : List Class → List Class → Bool
same_classes [] [] = true
same_classes (a ∷ as') (b ∷ bs) = same_class a b && same_classes as' bs
same_classes [] (b ∷ bs) = false
same_classes (a ∷ as') [] = false

abbrev pub same_flag : Bool → Bool → Bool
same_flag true b = b
same_flag false true = false
same_flag false false = true

unfoldable pub same_signature : Signature → Signature → Bool
same_signature s t = same_class s.result t.result && (same_classes s.args t.args && same_flag s.variadic t.variadic)
