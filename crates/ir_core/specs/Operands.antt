-- Whether the operands of an operation are of their kinds and in range. Each condition is exact: a slot of an integer has
-- the bytes of its type and no others, and one of an address has 8.
use Rattle.std.specs.Prelude.{ℕ, ◌+◌, ◌-◌, Bool, true, false, not, ◌&&◌, ◌==◌, nat_lt, nat_le, if◌then◌else◌, is_some, List, [], ◌∷◌, length, slice_get, Option, Some, None}
use Rattle.std.specs.List.{list_all}
use Rattle.c_types.specs.declared.types.IntTy.{IntTy}
use Rattle.sig_core.specs.declared.classes.Class.{Class}
use Rattle.sig_core.specs.declared.classes.Class.TheVariants as class
use Rattle.sig_core.specs.declared.classes.Signature.{Signature}
use Rattle.sig_core.specs.Signatures.{is_slot_size, is_by_pointer}
use Rattle.ir_core.specs.declared.operations.IrPlace.{IrPlace}
use Rattle.ir_core.specs.declared.operations.IrOp.{IrOp}
use Rattle.ir_core.specs.declared.operations.IrOp.TheVariants.{Const, Copy, Zero, Unary, Binary, Convert, GlobalAddress, FunctionAddress, LoadAt, StoreAt, BoundsTrap, NullTrap, ZeroTrap, Label, Jump, Branch, CallName, CallPointer, CallService, VaStart, VaArg, VaEnd, Return}
use Rattle.ir_core.specs.declared.program.IrSlot.{IrSlot}
use Rattle.ir_core.specs.declared.program.IrFn.{IrFn}
use Rattle.ir_core.specs.Integers.{bytes_in, unary_type, result_type}

-- ---- slots

abbrev pub is_sized : Option IrSlot → ℕ → Bool
is_sized None n = false
is_sized (Some s) n = s.size == n

-- the slot is one of these, and has so many bytes
abbrev pub has_bytes : List IrSlot → ℕ → ℕ → Bool
has_bytes slots k n = is_sized (slice_get slots k) n

-- it has those of an integer's type
abbrev pub holds : List IrSlot → ℕ → IntTy → Bool
holds slots k i = has_bytes slots k (bytes_in i)

-- a word is in a slot of 1, 2, 4 or 8 bytes, and a struct in one of its bytes
abbrev pub is_classed : Option IrSlot → Class → Bool
is_classed None c = false
is_classed (Some s) class.Void = false
is_classed (Some s) class.Word = is_slot_size s.size
is_classed (Some s) (class.Agg n) = s.size == n

abbrev pub has_class : List IrSlot → ℕ → Class → Bool
has_class slots k c = is_classed (slice_get slots k) c

-- ---- places

-- an index is in a slot of 8 bytes
abbrev pub is_index : List IrSlot → Option ℕ → Bool
is_index slots None = true
is_index slots (Some k) = has_bytes slots k 8

-- so many bytes lie in the slot; where there is an index it decides
abbrev pub lies_in : Option IrSlot → IrPlace → ℕ → Bool
lies_in None p n = false
lies_in (Some s) p n = if is_some p.index then true else nat_le (p.offset + n) s.size

-- at least one byte
abbrev pub is_place : List IrSlot → IrPlace → ℕ → Bool
is_place slots p n = nat_le 1 n && (is_index slots p.index && lies_in (slice_get slots p.slot) p n)

-- the place that an address leads to
abbrev pub is_pointer : List IrSlot → IrPlace → ℕ → Bool
is_pointer slots p n = nat_le 1 n && (is_index slots p.index && has_bytes slots p.slot 8)

-- ---- signatures: those that functions have here

abbrev pub is_aggregate : ℕ → Bool
is_aggregate n = nat_le 1 n && nat_le n 65536

abbrev pub is_argument : Class → Bool
is_argument class.Void = false
is_argument class.Word = true
is_argument (class.Agg n) = is_aggregate n

abbrev pub is_result : Class → Bool
is_result class.Void = true
is_result class.Word = true
is_result (class.Agg n) = is_aggregate n

abbrev pub is_word : Option Class → Bool
is_word None = false
is_word (Some class.Void) = false
is_word (Some class.Word) = true
is_word (Some (class.Agg n)) = false

-- the last fixed argument of a variadic one, which counts the extra ones, is a word, and the result fits a slot
abbrev pub counts_extras : Signature → Bool
counts_extras s = if s.variadic then is_word (slice_get s.args (length s.args - 1)) && not (is_by_pointer s.result) else true

abbrev pub is_signature : Signature → Bool
is_signature s = nat_le (length s.args) 64 && (list_all is_argument s.args && (is_result s.result && counts_extras s))

-- ---- calls

-- as many arguments as the signature has, or up to 256 more where it is variadic
abbrev pub has_count : Signature → ℕ → Bool
has_count s n = if s.variadic then nat_le (length s.args) n && nat_le n (length s.args + 256) else n == length s.args

-- an extra argument has 8 bytes
abbrev pub is_passed : List IrSlot → Option Class → ℕ → Bool
is_passed slots None k = has_bytes slots k 8
is_passed slots (Some c) k = has_class slots k c

-- the arguments from number i on
abbrev pub are_passed : List IrSlot → List Class → ℕ → List ℕ → Bool
are_passed slots cs i [] = true
are_passed slots cs i (k ∷ ks) = is_passed slots (slice_get cs i) k && are_passed slots cs (i + 1) ks

abbrev pub is_void : Class → Bool
is_void class.Void = true
is_void class.Word = false
is_void (class.Agg n) = false

-- a slot for the result exactly where there is one
abbrev pub is_given : List IrSlot → Class → Option ℕ → Bool
is_given slots c None = is_void c
is_given slots c (Some k) = has_class slots k c

abbrev pub is_call : List IrSlot → Signature → List ℕ → Option ℕ → Bool
is_call slots s args k = is_signature s && (has_count s (length args) && (are_passed slots s.args 0 args && is_given slots s.result k))

-- ---- operations

abbrev pub fits : IrFn → IrOp → Bool
fits f (Const to i v) = holds f.slots to i
fits f (Copy to from n) = is_place f.slots to n && is_place f.slots from n
fits f (Zero to n) = is_place f.slots to n
fits f (Unary o i to a) = holds f.slots to (unary_type o i) && holds f.slots a i
fits f (Binary o i to a b) = holds f.slots to (result_type o i) && (holds f.slots a i && holds f.slots b i)
fits f (Convert i j to a) = holds f.slots to j && holds f.slots a i
fits f (GlobalAddress to name) = has_bytes f.slots to 8
fits f (FunctionAddress to name) = has_bytes f.slots to 8
fits f (LoadAt to from n) = is_place f.slots to n && is_pointer f.slots from n
fits f (StoreAt to from n) = is_pointer f.slots to n && is_place f.slots from n
fits f (BoundsTrap index i n) = holds f.slots index i
fits f (NullTrap pointer) = has_bytes f.slots pointer 8
fits f (ZeroTrap a i) = holds f.slots a i
fits f (Label l) = nat_lt l f.labels
fits f (Jump l) = nat_lt l f.labels
fits f (Branch a i yes_to no_to) = holds f.slots a i && (nat_lt yes_to f.labels && nat_lt no_to f.labels)
fits f (CallName name s args k) = is_call f.slots s args k
fits f (CallPointer at s args k) = has_bytes f.slots at 8 && is_call f.slots s args k
fits f (CallService name s args k) = is_call f.slots s args k
fits f VaStart = f.sig.variadic
fits f (VaArg to i) = f.sig.variadic && holds f.slots to i
fits f VaEnd = f.sig.variadic
fits f (Return v) = is_given f.slots f.sig.result v
