-- Two more programs whose runs were worked out by hand: addresses and a trap, and extra arguments through a pointer.
use Rattle.std.specs.Prelude.{ℕ, ◌-◌, ◌^◌, true, List, [], ◌∷◌, Some, codes}
use Rattle.c_types.specs.declared.types.IntTy.TheVariants.{I32, I64, U64}
use Rattle.sig_core.specs.declared.classes.Class.TheVariants as class
use Rattle.sig_core.specs.declared.classes.Signature.{Signature}
use Rattle.ir_core.specs.declared.operations.IrPlace.{IrPlace}
use Rattle.ir_core.specs.declared.operations.IrOp.{IrOp}
use Rattle.ir_core.specs.declared.operations.IrOp.TheVariants.{Const, GlobalAddress, FunctionAddress, LoadAt, StoreAt, BoundsTrap, NullTrap, ZeroTrap, CallPointer, VaStart, VaArg, VaEnd, Return}
use Rattle.ir_core.specs.declared.program.IrFn.{IrFn}
use Rattle.ir_core.specs.declared.program.IrGlobal.{IrGlobal}
use Rattle.ir_core.specs.declared.program.IrProgram.{IrProgram}
use Rattle.ir_core.specs.Cells.{Cell, byte_cells}
use Rattle.ir_core.specs.Worlds.{Calls, Gave, Trapped, Config, Ended, with_global}
use Rattle.ir_core.specs.Start.{first_globals, started}
use Rattle.ir_core.specs.Worked.{int_sig, slot_of, at_start, int_bytes}

-- ---- `p` points 4 bytes into `g`, whose first int is 5; the second becomes 7 through p, and is read by an index of 4; 7 is no
-- index of 7 elements

abbrev pub indexed : ℕ → ℕ → IrPlace
indexed k i = record { slot = k; offset = 0; index = Some i }

abbrev pub trap_ops : List IrOp
trap_ops =
    GlobalAddress 0 (codes "p") ∷
    LoadAt (at_start 0) (at_start 0) 8 ∷
    NullTrap 0 ∷
    Const 1 I32 7 ∷
    StoreAt (at_start 0) (at_start 1) 4 ∷
    GlobalAddress 0 (codes "g") ∷
    Const 3 U64 4 ∷
    LoadAt (at_start 2) (indexed 0 3) 4 ∷
    ZeroTrap 2 I32 ∷
    BoundsTrap 2 I32 7 ∷
    Return (Some 2) ∷ []

abbrev pub trap_main : IrFn
trap_main = record { name = codes "main"; sig = int_sig; slots = slot_of 8 ∷ slot_of 4 ∷ slot_of 4 ∷ slot_of 8 ∷ []; labels = 0; ops = trap_ops }

abbrev pub ints : IrGlobal
ints = record { name = codes "g"; size = 8; align = 4; bytes = 5 ∷ []; addresses = [] }

abbrev pub points_in : IrGlobal
points_in = record { name = codes "p"; size = 8; align = 8; bytes = 4 ∷ []; addresses = record { at = 0; name = codes "g" } ∷ [] }

abbrev pub trap_program : IrProgram
trap_program = record { functions = trap_main ∷ []; adjustors = []; globals = ints ∷ points_in ∷ [] }

abbrev pub trap_start : Config
trap_start = started trap_program int_sig []

-- 10 steps, and 13 ticks: 2 each for the two loads and the store
abbrev pub trap_end : Config
trap_end = Ended (Trapped 241) (record {
  globals = with_global (first_globals trap_program) (codes "g") (byte_cells (5 ∷ 0 ∷ 0 ∷ 0 ∷ 7 ∷ 0 ∷ 0 ∷ 0 ∷ []));
  events = Calls (codes "main") [] ∷ [];
  replies = [];
})

-- ---- through a pointer, a function of a count and extra ints gives the first of these, which is -3

abbrev pub counted_sig : Signature
counted_sig = record { result = class.Word; args = class.Word ∷ []; variadic = true }

abbrev pub extra_ops : List IrOp
extra_ops =
    FunctionAddress 0 (codes "first") ∷
    Const 1 I32 1 ∷
    Const 2 I64 (2 ^ 64 - 3) ∷
    CallPointer 0 counted_sig (1 ∷ 2 ∷ []) (Some 1) ∷
    Return (Some 1) ∷ []

abbrev pub extra_main : IrFn
extra_main = record { name = codes "main"; sig = int_sig; slots = slot_of 8 ∷ slot_of 4 ∷ slot_of 8 ∷ []; labels = 0; ops = extra_ops }

abbrev pub first_function : IrFn
first_function = record { name = codes "first"; sig = counted_sig; slots = slot_of 4 ∷ slot_of 4 ∷ []; labels = 0; ops = VaStart ∷ VaArg 1 I32 ∷ VaEnd ∷ Return (Some 1) ∷ [] }

abbrev pub extra_program : IrProgram
extra_program = record { functions = extra_main ∷ first_function ∷ []; adjustors = []; globals = [] }

abbrev pub extra_start : Config
extra_start = started extra_program int_sig []

abbrev pub minus_three : List Cell
minus_three = byte_cells (253 ∷ 255 ∷ 255 ∷ 255 ∷ [])

-- 9 steps. Ticks: 3, 14 for the call (1; 2 for what is passed; 8, 1 and 1 for the entry; 1 for the result), 1, 2, 1, 2 and 2: 25.
-- The call has 2 arguments: 8 crossings
abbrev pub extra_end : Config
extra_end = Ended (Gave minus_three) (record {
  globals = first_globals extra_program;
  events = Calls (codes "main") [] ∷ Calls (codes "first") (int_bytes 1 ∷ byte_cells (253 ∷ 255 ∷ 255 ∷ 255 ∷ 255 ∷ 255 ∷ 255 ∷ 255 ∷ []) ∷ []) ∷ [];
  replies = [];
})
