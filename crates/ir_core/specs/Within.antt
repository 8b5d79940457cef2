-- How much code and stack a function asks for.
use Rattle.std.specs.Prelude.{ℕ, ◌+◌, ◌*◌, ◌/◌, ◌≤◌, max, min, List, [], ◌∷◌, length}
use Rattle.std.specs.List.{All, sum_by, flat_map}
use Rattle.sig_core.specs.declared.classes.Class.{Class}
use Rattle.sig_core.specs.declared.classes.Class.TheVariants as class
use Rattle.ir_core.specs.declared.operations.IrOp.{IrOp}
use Rattle.ir_core.specs.declared.operations.IrOp.TheVariants.{GlobalAddress, FunctionAddress, CallName, CallPointer, CallService}
use Rattle.ir_core.specs.declared.program.IrSlot.{IrSlot}
use Rattle.ir_core.specs.declared.program.IrFn.{IrFn}

-- the arguments of a call
abbrev pub call_args : IrOp → ℕ
call_args (CallName name s args k) = length args
call_args (CallPointer at s args k) = length args
call_args (CallService name s args k) = length args
call_args _ = 0

-- 256, and 160 for each operation, each parameter and each argument of a call
abbrev pub code_work : IrFn → ℕ
code_work f = 256 + 160 * (length f.ops + length f.sig.args + sum_by call_args f.ops)

-- a slot's bytes, rounded up to 8
abbrev pub room_of : IrSlot → ℕ
room_of s = (s.size + 7) / 8 * 8

abbrev pub aggregate_bytes : Class → ℕ
aggregate_bytes class.Void = 0
aggregate_bytes class.Word = 0
aggregate_bytes (class.Agg n) = n

-- what a call needs: 24 for each argument, and the aggregates among them
abbrev pub call_need : IrOp → ℕ
call_need (CallName name s args k) = 24 * length args + sum_by aggregate_bytes s.args
call_need (CallPointer at s args k) = 24 * length args + sum_by aggregate_bytes s.args
call_need (CallService name s args k) = 24 * length args + sum_by aggregate_bytes s.args
call_need _ = 0

-- the most that one of them needs
abbrev pub most_need : List IrOp → ℕ
most_need [] = 0
most_need (op ∷ ops) = max (call_need op) (most_need ops)

-- 1,024, the slots, 24 for each parameter, and the most that a call needs
abbrev pub frame_work : IrFn → ℕ
frame_work f = 1024 + sum_by room_of f.slots + 24 * length f.sig.args + most_need f.ops

abbrev pub names_in : IrOp → List (List ℕ)
names_in (GlobalAddress to name) = name ∷ []
names_in (FunctionAddress to name) = name ∷ []
names_in (CallName name s args k) = name ∷ []
names_in (CallService name s args k) = name ∷ []
names_in _ = []

-- 1 to 255 bytes, none of them 0
pub record IsName (name : List ℕ) : Type 0 where
  pub some : 1 ≤ length name
  pub few : length name ≤ 255
  pub bytes : All (λ b. 1 ≤ b) name

-- a function is within n nodes and c bytes of charge
pub record IsWithin (n c : ℕ) (f : IrFn) : Type 0 where
  pub code : code_work f ≤ 640 * n
  pub frame : frame_work f ≤ c
  pub names : All IsName (f.name ∷ flat_map names_in f.ops)

-- the number, or the greatest of 64 bits where it is greater
abbrev pub small : ℕ → ℕ
small n = min n 18446744073709551615
