-- The functions that generators take.
use Rattle.std.specs.Prelude.{◌≡◌, ℕ, ◌+◌, ◌-◌, ◌<◌, Bool, true, false, ◌&&◌, List, [], ◌∷◌, length, slice_get, Option, Some, None, IsTrue}
use Rattle.std.specs.List.{list_all, count_by}
use Rattle.sig_core.specs.declared.classes.Class.{Class}
use Rattle.sig_core.specs.Signatures.{is_slot_size}
use Rattle.ir_core.specs.declared.operations.IrOp.{IrOp}
use Rattle.ir_core.specs.declared.operations.IrOp.TheVariants.{Label, Jump, Branch, Return}
use Rattle.ir_core.specs.declared.program.IrSlot.{IrSlot}
use Rattle.ir_core.specs.declared.program.IrFn.{IrFn}
use Rattle.ir_core.specs.Steps.{is_label}
use Rattle.ir_core.specs.Operands.{has_class, is_signature, fits}

-- slots stand at multiples of 8 bytes, so none asks for more
abbrev pub is_slot : IrSlot → Bool
is_slot s = is_slot_size s.align

-- the slots from number i on are those of arguments
abbrev pub are_parameters : List IrSlot → ℕ → List Class → Bool
are_parameters slots i [] = true
are_parameters slots i (c ∷ cs) = has_class slots i c && are_parameters slots (i + 1) cs

abbrev pub is_ending : Option IrOp → Bool
is_ending (Some (Return v)) = true
is_ending (Some (Jump l)) = true
is_ending (Some (Branch a i yes_to no_to)) = true
is_ending _ = false

abbrev pub last_of : List IrOp → Option IrOp
last_of ops = slice_get ops (length ops - 1)

-- the label that stands in an operation
abbrev pub label_of : IrOp → Option ℕ
label_of (Label l) = Some l
label_of _ = None

-- each of so many labels stands in exactly one operation
abbrev pub StandOnce : ℕ → List IrOp → Type 0
StandOnce n ops = (l : ℕ) → l < n → count_by (is_label l) ops ≡ 1

pub record IsValid (f : IrFn) : Type 0 where
  -- the signature is one that functions have
  pub signature : IsTrue (is_signature f.sig)
  -- each slot's alignment is 1, 2, 4 or 8
  pub slots : IsTrue (list_all is_slot f.slots)
  -- the first slots are the parameters in order: 1, 2, 4 or 8 bytes for a word, and the bytes of a struct
  pub parameters : IsTrue (are_parameters f.slots 0 f.sig.args)
  -- each operation's operands are of their kinds and in range
  pub operations : IsTrue (list_all (fits f) f.ops)
  -- the last operation is a Return, a Jump or a Branch
  pub ending : IsTrue (is_ending (last_of f.ops))
  pub labels : StandOnce f.labels f.ops

-- all of it but the labels, as a test
abbrev pub is_shaped : IrFn → Bool
is_shaped f = is_signature f.sig && (list_all is_slot f.slots && (are_parameters f.slots 0 f.sig.args && (list_all (fits f) f.ops && is_ending (last_of f.ops))))
