-- The operations, one step at a time.
use Rattle.std.specs.Prelude.{ℕ, zero, suc, Bool, true, false, nat_eq, ◌&&◌, if◌then◌else◌, List, [], ◌∷◌, map, Option, Some, None, ℤ, pos, int_le, int_lt}
use Rattle.std.specs.Option.{option_map, option_and_then}
use Rattle.std.proofs.Math.ListN.{replicate}
use Rattle.c_types.specs.declared.types.IntTy.{IntTy}
use Rattle.ir_core.specs.declared.operations.IrOp.{IrOp}
use Rattle.ir_core.specs.declared.operations.IrOp.TheVariants.{Const, Copy, Zero, Unary, Binary, Convert, GlobalAddress, FunctionAddress, LoadAt, StoreAt, BoundsTrap, NullTrap, ZeroTrap, Label, Jump, Branch, CallName, CallPointer, CallService, VaStart, VaArg, VaEnd, Return}
use Rattle.ir_core.specs.Integers.{bytes_in, is_zero}
use Rattle.ir_core.specs.Cells.{Cell, Byte, Global, Inside, Function, number_cells, symbol_cells, number_in, word_in, fitted}
use Rattle.ir_core.specs.Worlds.{Frame, Globals, Codes, World, Active, Caller, Waits, Trapped, Config, Going, Passing, Ended, Wrong, with_slot, in_frame}
use Rattle.ir_core.specs.Access.{from_place, to_place, from_address, to_address, word_is_zero, is_zero_in, unary_of, binary_of, converted}
use Rattle.ir_core.specs.Calls.{returned, entered, entered_at, served, adjusted}

-- the operations behind a label
abbrev pub is_label : ℕ → IrOp → Bool
is_label l (Label m) = nat_eq l m
is_label l _ = false

abbrev pub at_label : ℕ → List IrOp → List IrOp
at_label l [] = []
at_label l (op ∷ ops) = if is_label l op then ops else at_label l ops

-- ---- what goes on with a value, where there is one

-- the cells into a slot
abbrev pub sets : Option (List Cell) → ℕ → List IrOp → Active → List Caller → World → Config
sets None k is here cs w = Wrong w
sets (Some v) k is here cs w = Going is (in_frame here (with_slot here.frame k v)) cs w

abbrev pub reframes : Option Frame → List IrOp → Active → List Caller → World → Config
reframes None is here cs w = Wrong w
reframes (Some f) is here cs w = Going is (in_frame here f) cs w

abbrev pub stores : Option Globals → List IrOp → Active → List Caller → World → Config
stores None is here cs w = Wrong w
stores (Some g) is here cs w = Going is here cs (record w { globals = g })

-- a trap where the test says so
abbrev pub traps : Option Bool → ℕ → List IrOp → Active → List Caller → World → Config
traps None code is here cs w = Wrong w
traps (Some true) code is here cs w = Ended (Trapped code) w
traps (Some false) code is here cs w = Going is here cs w

-- to one label where a value is 0 or null, else to another
abbrev pub branches : Option Bool → (yes_to no_to : ℕ) → Active → List Caller → World → Config
branches None yes_to no_to here cs w = Wrong w
branches (Some true) yes_to no_to here cs w = Going (at_label no_to here.code) here cs w
branches (Some false) yes_to no_to here cs w = Going (at_label yes_to here.code) here cs w

-- whether an index is outside of so many elements
abbrev pub is_outside : ℕ → ℤ → Bool
is_outside n z = if int_le (pos 0) z && int_lt z (pos n) then false else true

-- the next extra argument, by the bytes of a type; trap 244 where there is none
abbrev pub takes : Option (List (List Cell)) → ℕ → IntTy → List IrOp → Active → List Caller → World → Config
takes None k i is here cs w = Ended (Trapped 244) w
takes (Some []) k i is here cs w = Ended (Trapped 244) w
takes (Some (v ∷ vs)) k i is here cs w = Going is (record here { frame = with_slot here.frame k (fitted (bytes_in i) v); next = Some vs }) cs w

-- no value, or that of a slot
abbrev pub value_of : Option ℕ → Frame → List Cell
value_of None f = []
value_of (Some k) f = f k

abbrev pub zeros : ℕ → List Cell
zeros n = replicate n (Byte 0)

-- ---- a step

abbrev pub step : Codes → Config → Config
step p (Ended o w) = Ended o w
step p (Wrong w) = Wrong w
step p (Passing a args cs w) = adjusted p a args cs w
step p (Going [] here cs w) = Wrong w
step p (Going (Const to i v ∷ is) here cs w) = sets (Some (number_cells i (pos v))) to is here cs w
step p (Going (Copy to from n ∷ is) here cs w) = reframes (option_and_then (to_place here.frame to) (from_place here.frame from n)) is here cs w
step p (Going (Zero to n ∷ is) here cs w) = reframes (to_place here.frame to (zeros n)) is here cs w
step p (Going (Unary o i to a ∷ is) here cs w) = sets (unary_of w.globals o i (here.frame a)) to is here cs w
step p (Going (Binary o i to a b ∷ is) here cs w) = sets (binary_of w.globals o i (here.frame a) (here.frame b)) to is here cs w
step p (Going (Convert i j to a ∷ is) here cs w) = sets (converted i j (here.frame a)) to is here cs w
step p (Going (GlobalAddress to name ∷ is) here cs w) = sets (Some (symbol_cells (Inside (Global name) 0))) to is here cs w
step p (Going (FunctionAddress to name ∷ is) here cs w) = sets (Some (symbol_cells (Function name))) to is here cs w
step p (Going (LoadAt to from n ∷ is) here cs w) = reframes (option_and_then (to_place here.frame to) (from_address w.globals here.frame from n)) is here cs w
step p (Going (StoreAt to from n ∷ is) here cs w) = stores (option_and_then (to_address w.globals here.frame to) (from_place here.frame from n)) is here cs w
step p (Going (BoundsTrap index i n ∷ is) here cs w) = traps (option_map (is_outside n) (number_in i (here.frame index))) 241 is here cs w
step p (Going (NullTrap pointer ∷ is) here cs w) = traps (option_and_then (word_is_zero w.globals) (word_in (here.frame pointer))) 242 is here cs w
step p (Going (ZeroTrap a i ∷ is) here cs w) = traps (option_map is_zero (number_in i (here.frame a))) 243 is here cs w
step p (Going (Label l ∷ is) here cs w) = Going is here cs w
step p (Going (Jump l ∷ is) here cs w) = Going (at_label l here.code) here cs w
step p (Going (Branch a i yes_to no_to ∷ is) here cs w) = branches (is_zero_in w.globals i (here.frame a)) yes_to no_to here cs w
step p (Going (CallName name sig args to ∷ is) here cs w) = entered p name sig (map here.frame args) (Waits is here to ∷ cs) w
step p (Going (CallPointer at sig args to ∷ is) here cs w) = entered_at p (word_in (here.frame at)) sig (map here.frame args) (Waits is here to ∷ cs) w
step p (Going (CallService name sig args to ∷ is) here cs w) = served name (map here.frame args) (Waits is here to ∷ cs) w
step p (Going (VaStart ∷ is) here cs w) = Going is (record here { next = Some here.extras }) cs w
step p (Going (VaArg to i ∷ is) here cs w) = takes here.next to i is here cs w
step p (Going (VaEnd ∷ is) here cs w) = Going is (record here { next = None }) cs w
step p (Going (Return v ∷ is) here cs w) = returned cs (value_of v here.frame) w

abbrev pub steps : Codes → ℕ → Config → Config
steps p zero c = c
steps p (suc n) c = steps p n (step p c)
