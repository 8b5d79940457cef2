-- Places of arguments: the registers and the bytes of the stack that they take.
use Rattle.std.specs.Prelude.{◌≡◌, ℕ, ◌+◌, ◌*◌, ◌<◌, ◌≤◌, max, List, [], ◌∷◌, ◌++◌, map, Some, slice_get}
use Rattle.std.specs.List.{fold, range_with_len}
use Rattle.sig_core.specs.declared.places.Slot.{Slot}
use Rattle.sig_core.specs.declared.places.Slot.TheVariants.{Reg, RegPointer, Stack, StackPointer}
use Rattle.sig_core.specs.declared.places.ResultPlace.{ResultPlace}
use Rattle.sig_core.specs.declared.places.Placed.{Placed}

-- the byte behind a place on the stack; 0 for a register
abbrev pub end_of : Slot → ℕ
end_of (Reg r n) = 0
end_of (RegPointer r) = 0
end_of (Stack o n) = o + 8 * n
end_of (StackPointer o) = o + 8

-- the end of the last place on the stack; 0 where there is none
abbrev pub stack_of : List Slot → ℕ
stack_of slots = fold (λ end slot. max end (end_of slot)) 0 slots

-- the places of n arguments, each from its number
abbrev pub places : (ℕ → Slot) → ℕ → List Slot
places place n = map place (range_with_len 0 n)

-- the places of n arguments and of a result
abbrev pub placed_by : (ℕ → Slot) → ResultPlace → ℕ → Placed
placed_by place back n = record { args = places place n; result = back; stack = stack_of (places place n) }

-- with the place of one more argument
abbrev pub with_place : Placed → Slot → Placed
with_place p slot = record { args = p.args ++ (slot ∷ []); result = p.result; stack = max p.stack (end_of slot) }

-- the register is one of those of the place
abbrev pub HasRegister : Slot → ℕ → Type 0
HasRegister (Reg r n) k = (r ≤ k) × (k < r + n)
HasRegister (RegPointer r) k = r ≡ k
HasRegister (Stack o n) k = ⊥
HasRegister (StackPointer o) k = ⊥

-- the byte of the stack is one of those of the place
abbrev pub HasByte : Slot → ℕ → Type 0
HasByte (Reg r n) b = ⊥
HasByte (RegPointer r) b = ⊥
HasByte (Stack o n) b = (o ≤ b) × (b < o + 8 * n)
HasByte (StackPointer o) b = (o ≤ b) × (b < o + 8)

-- no register and no byte belongs to two arguments
pub record AreApart (slots : List Slot) : Type 0 where
  pub registers : (i j k : ℕ) (a b : Slot) → slice_get slots i ≡ Some a → slice_get slots j ≡ Some b → HasRegister a k → HasRegister b k → i ≡ j
  pub bytes : (i j k : ℕ) (a b : Slot) → slice_get slots i ≡ Some a → slice_get slots j ≡ Some b → HasByte a k → HasByte b k → i ≡ j

-- the arguments' registers are below the number n, and their bytes from `low` on and below `high`
pub record AreWithin (slots : List Slot) (n low high : ℕ) : Type 0 where
  pub registers : (i k : ℕ) (a : Slot) → slice_get slots i ≡ Some a → HasRegister a k → k < n
  pub above : (i k : ℕ) (a : Slot) → slice_get slots i ≡ Some a → HasByte a k → low ≤ k
  pub below : (i k : ℕ) (a : Slot) → slice_get slots i ≡ Some a → HasByte a k → k < high
