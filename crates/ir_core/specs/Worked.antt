-- Two programs whose runs were worked out by hand.
use Rattle.std.specs.Prelude.{ℕ, false, List, [], ◌∷◌, Some, None, negsuc, codes}
use Rattle.c_types.specs.declared.types.IntTy.TheVariants.{I32}
use Rattle.sig_core.specs.declared.classes.Class.{Class}
use Rattle.sig_core.specs.declared.classes.Class.TheVariants as class
use Rattle.sig_core.specs.declared.classes.Signature.{Signature}
use Rattle.ir_core.specs.declared.operations.IrPlace.{IrPlace}
use Rattle.ir_core.specs.declared.operations.IrBinary.TheVariants.{Add, Sub}
use Rattle.ir_core.specs.declared.operations.IrOp.{IrOp}
use Rattle.ir_core.specs.declared.operations.IrOp.TheVariants.{Const, Copy, Zero, Binary, Label, Branch, CallName, CallService, Return}
use Rattle.ir_core.specs.declared.program.IrSlot.{IrSlot}
use Rattle.ir_core.specs.declared.program.IrFn.{IrFn}
use Rattle.ir_core.specs.declared.program.IrAdjust.{IrAdjust}
use Rattle.ir_core.specs.declared.program.IrProgram.{IrProgram}
use Rattle.ir_core.specs.Cells.{Cell, byte_cells}
use Rattle.ir_core.specs.Worlds.{Event, Calls, Serves, Gives, Gave, Config, Ended}
use Rattle.ir_core.specs.Start.{first_globals, started}

abbrev pub fixed : Class → List Class → Signature
fixed back args = record { result = back; args = args; variadic = false }

-- int (void)
abbrev pub int_sig : Signature
int_sig = fixed class.Word []

abbrev pub slot_of : ℕ → IrSlot
slot_of n = record { size = n; align = 4 }

abbrev pub at_start : ℕ → IrPlace
at_start k = record { slot = k; offset = 0; index = None }

abbrev pub behind_four : ℕ → IrPlace
behind_four k = record { slot = k; offset = 4; index = None }

-- ---- a loop: the int i is 3, and until it is 0 the byte 64 + i is put and i falls by 1

abbrev pub put_sig : Signature
put_sig = fixed class.Void (class.Word ∷ [])

abbrev pub loop_ops : List IrOp
loop_ops =
    Const 0 I32 3 ∷
    Label 0 ∷
    Const 1 I32 64 ∷
    Binary Add I32 2 1 0 ∷
    CallService (codes "put_byte") put_sig (2 ∷ []) None ∷
    Const 1 I32 1 ∷
    Binary Sub I32 0 0 1 ∷
    Branch 0 I32 0 1 ∷
    Label 1 ∷
    Const 3 I32 0 ∷
    Return (Some 3) ∷ []

abbrev pub loop_main : IrFn
loop_main = record { name = codes "main"; sig = int_sig; slots = slot_of 4 ∷ slot_of 4 ∷ slot_of 4 ∷ slot_of 4 ∷ []; labels = 2; ops = loop_ops }

abbrev pub loop_program : IrProgram
loop_program = record { functions = loop_main ∷ []; adjustors = []; globals = [] }

abbrev pub loop_start : Config
loop_start = started loop_program int_sig (Gives [] ∷ Gives [] ∷ Gives [] ∷ [])

-- an int's bytes, of a number below 256
abbrev pub int_bytes : ℕ → List Cell
int_bytes n = byte_cells (n ∷ 0 ∷ 0 ∷ 0 ∷ [])

abbrev pub put : ℕ → Event
put n = Serves (codes "put_byte") (int_bytes n ∷ [])

-- three turns of 6 operations and once the label before them, 1 before the loop and 2 after it: 22 steps. A turn makes 7
-- ticks, of which the service makes 2; with the label's, the first constant's, the last one's and 2 of the return 26
abbrev pub loop_end : Config
loop_end = Ended (Gave (int_bytes 0)) (record {
  globals = first_globals loop_program;
  events = Calls (codes "main") [] ∷ put 67 ∷ put 66 ∷ put 65 ∷ [];
  replies = [];
})

-- ---- a call: of an adjustor that takes 2 from the int 7 and goes on as a function of a struct of three ints, whose second
-- is 40, and an int: it gives the sum of the two

abbrev pub pair_sig : Signature
pair_sig = fixed class.Word (class.Agg 12 ∷ class.Word ∷ [])

abbrev pub call_ops : List IrOp
call_ops =
    Zero (at_start 0) 12 ∷
    Const 1 I32 40 ∷
    Copy (behind_four 0) (at_start 1) 4 ∷
    Const 1 I32 7 ∷
    CallName (codes "less") pair_sig (0 ∷ 1 ∷ []) (Some 2) ∷
    Return (Some 2) ∷ []

abbrev pub call_main : IrFn
call_main = record { name = codes "main"; sig = int_sig; slots = slot_of 12 ∷ slot_of 4 ∷ slot_of 4 ∷ []; labels = 0; ops = call_ops }

abbrev pub sum_ops : List IrOp
sum_ops =
    Copy (at_start 2) (behind_four 0) 4 ∷
    Binary Add I32 3 2 1 ∷
    Return (Some 3) ∷ []

abbrev pub sum_function : IrFn
sum_function = record { name = codes "sum"; sig = pair_sig; slots = slot_of 12 ∷ slot_of 4 ∷ slot_of 4 ∷ slot_of 4 ∷ []; labels = 0; ops = sum_ops }

abbrev pub less_adjustor : IrAdjust
less_adjustor = record { name = codes "less"; target = codes "sum"; sig = pair_sig; param = 1; add = negsuc 1 }

abbrev pub call_program : IrProgram
call_program = record { functions = call_main ∷ sum_function ∷ []; adjustors = less_adjustor ∷ []; globals = [] }

abbrev pub call_start : Config
call_start = started call_program int_sig []

abbrev pub struct_bytes : List Cell
struct_bytes = byte_cells (0 ∷ 0 ∷ 0 ∷ 0 ∷ 40 ∷ 0 ∷ 0 ∷ 0 ∷ 0 ∷ 0 ∷ 0 ∷ 0 ∷ [])

-- 5 operations to the call, the adjustor, 3 in the function and the return: 10 steps. Ticks: 3 for the zeros, 1, 2 for the
-- copy, 1, 18 for the call (1; 3 for what is passed; 8, 2 and 3 for the entry; 1 for the result), none, 2, 1, 2 and 2: 32.
-- The call and the adjustor have 2 arguments each: 16 crossings
abbrev pub call_end : Config
call_end = Ended (Gave (int_bytes 45)) (record {
  globals = first_globals call_program;
  events = Calls (codes "main") [] ∷ Calls (codes "less") (struct_bytes ∷ int_bytes 7 ∷ []) ∷ Calls (codes "sum") (struct_bytes ∷ int_bytes 5 ∷ []) ∷ [];
  replies = [];
})
