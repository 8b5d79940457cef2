-- What the steps count: ticks, by which the machine's steps are bounded; operations that aren't labels; and crossings,
-- for what stands between two functions.
use Rattle.std.specs.Prelude.{ℕ, zero, suc, ◌+◌, ◌-◌, ◌/◌, List, [], ◌∷◌, length}
use Rattle.std.specs.List.{sum_by}
use Rattle.sig_core.specs.declared.classes.Class.{Class}
use Rattle.sig_core.specs.declared.classes.Class.TheVariants as class
use Rattle.sig_core.specs.declared.classes.Signature.{Signature}
use Rattle.ir_core.specs.declared.operations.IrOp.{IrOp}
use Rattle.ir_core.specs.declared.operations.IrOp.TheVariants.{Copy, Zero, LoadAt, StoreAt, Label, CallName, CallPointer, CallService, VaArg, Return}
use Rattle.ir_core.specs.Worlds.{Active, Codes, Config, Going, Passing, Ended, Wrong}
use Rattle.ir_core.specs.Steps.{step, value_of}

-- the times 8 bytes, or a rest of fewer, that so many bytes are
abbrev pub eights : ℕ → ℕ
eights n = (n + 7) / 8

abbrev pub class_eights : Class → ℕ
class_eights class.Void = 0
class_eights class.Word = 1
class_eights (class.Agg n) = eights n

abbrev pub sum_of_eights : List Class → ℕ
sum_of_eights cs = sum_by class_eights cs

-- what is passed: the arguments that the signature names, and a word for each extra one
abbrev pub passing : Signature → List ℕ → ℕ
passing sig args = sum_of_eights sig.args + (length args - length sig.args)

-- the entry of a function: 8, one for each parameter, and what it copies of them
abbrev pub entering : Signature → ℕ
entering sig = 8 + length sig.args + sum_of_eights sig.args

-- a call passes its arguments and keeps the result; the entry of the function is counted with it, wherever that is
abbrev pub calling : Signature → List ℕ → ℕ
calling sig args = 1 + passing sig args + entering sig + class_eights sig.result

-- a service's entry isn't that of a function
abbrev pub serving : Signature → List ℕ → ℕ
serving sig args = 1 + passing sig args + class_eights sig.result

-- an operation: 1, and 1 for each 8 bytes that it copies, makes zero, passes or gives back
abbrev pub op_ticks : IrOp → Active → ℕ
op_ticks (Copy to from n) here = 1 + eights n
op_ticks (Zero to n) here = 1 + eights n
op_ticks (LoadAt to from n) here = 1 + eights n
op_ticks (StoreAt to from n) here = 1 + eights n
op_ticks (CallName name sig args to) here = calling sig args
op_ticks (CallPointer at sig args to) here = calling sig args
op_ticks (CallService name sig args to) here = serving sig args
op_ticks (VaArg to i) here = 2
op_ticks (Return v) here = 1 + eights (length (value_of v here.frame))
op_ticks _ here = 1

-- the entry of an adjustor makes none
abbrev pub tick : Config → ℕ
tick (Going [] here cs w) = 0
tick (Going (op ∷ is) here cs w) = op_ticks op here
tick (Passing a args cs w) = 0
tick (Ended o w) = 0
tick (Wrong w) = 0

abbrev pub op_work : IrOp → ℕ
op_work (Label l) = 0
op_work _ = 1

-- one for each step but a label's
abbrev pub work : Config → ℕ
work (Going [] here cs w) = 0
work (Going (op ∷ is) here cs w) = op_work op
work (Passing a args cs w) = 1
work (Ended o w) = 0
work (Wrong w) = 0

abbrev pub op_crossing : IrOp → ℕ
op_crossing (CallName name sig args to) = 6 + length args
op_crossing (CallPointer at sig args to) = 6 + length args
op_crossing _ = 0

-- 6 and one for each argument at each call, and again at each entry of an adjustor
abbrev pub crossing : Config → ℕ
crossing (Going [] here cs w) = 0
crossing (Going (op ∷ is) here cs w) = op_crossing op
crossing (Passing a args cs w) = 6 + length args
crossing (Ended o w) = 0
crossing (Wrong w) = 0

-- what so many steps count
abbrev pub counted : (Config → ℕ) → Codes → ℕ → Config → ℕ
counted cost p zero c = 0
counted cost p (suc n) c = cost c + counted cost p n (step p c)

abbrev pub ticks : Codes → ℕ → Config → ℕ
ticks p n c = counted tick p n c

abbrev pub works : Codes → ℕ → Config → ℕ
works p n c = counted work p n c

abbrev pub crossings : Codes → ℕ → Config → ℕ
crossings p n c = counted crossing p n c
