-- Calls by slots of 8 bytes.
-- x64 calls (Microsoft, "x64 calling convention", "Parameter passing" and "Return values"): a hidden pointer to the
-- result takes the first slot, and the arguments take the next ones in order. The first four slots are rcx, rdx, r8 and
-- r9; a later slot i stands at 8*i from the stack pointer before the call, behind the 32 bytes of home space.
-- Structs of 1, 2, 4 and 8 bytes go like integers; the address of every other one is passed. A result that fits a slot
-- comes in rax, and every other one through the hidden pointer.
-- Variadic Arm64EC calls (Microsoft, "Overview of ARM64EC ABI conventions", "Variadic functions", in this project's
-- profile): the same slots, whose registers are x0 to x3 there, and slot i from 4 on at 8*(i - 4); the result in x0.
use Rattle.std.specs.Prelude.{ℕ, zero, suc, ◌+◌, ◌-◌, ◌*◌, nat_lt, if◌then◌else◌, List, length}
use Rattle.std.specs.List.{slice_index_or}
use Rattle.reg_map.specs.declared.registers.X64Reg.TheVariants.{Rax, Rcx, Rdx, R8, R9}
use Rattle.reg_map.specs.Table.{arm_number}
use Rattle.sig_core.specs.declared.classes.Class.{Class}
use Rattle.sig_core.specs.declared.classes.Class.TheVariants.{Void, Word, Agg}
use Rattle.sig_core.specs.declared.classes.Signature.{Signature}
use Rattle.sig_core.specs.declared.places.Slot.{Slot}
use Rattle.sig_core.specs.declared.places.Slot.TheVariants.{Reg, RegPointer, Stack, StackPointer}
use Rattle.sig_core.specs.declared.places.ResultPlace.{ResultPlace}
use Rattle.sig_core.specs.declared.places.ResultPlace.TheVariants.{Nothing, Regs, Hidden}
use Rattle.sig_core.specs.declared.places.Placed.{Placed}
use Rattle.sig_core.specs.Signatures.{all_args, is_by_pointer}
use Rattle.sig_core.specs.Places.{placed_by}

-- the slots before the first argument: that of the hidden pointer, if there is one
abbrev pub hidden_slots : Class → ℕ
hidden_slots c = if is_by_pointer c then 1 else 0

-- the slots of a call
abbrev pub slots_of : Signature → ℕ → ℕ
slots_of s extras = hidden_slots s.result + length (all_args s extras)

-- the Arm64 numbers of rcx, rdx, r8 and r9
abbrev pub slot_register : ℕ → ℕ
slot_register zero = arm_number Rcx
slot_register (suc zero) = arm_number Rdx
slot_register (suc (suc zero)) = arm_number R8
slot_register (suc (suc (suc i))) = arm_number R9

abbrev pub in_register : Class → ℕ → Slot
in_register c r = if is_by_pointer c then RegPointer r else Reg r 1

abbrev pub on_stack : Class → ℕ → Slot
on_stack c o = if is_by_pointer c then StackPointer o else Stack o 1

-- the place of a value in slot i, where the stack counts from slot `first` on
abbrev pub slot_place : ℕ → Class → ℕ → Slot
slot_place first c i = if nat_lt i 4 then in_register c (slot_register i) else on_stack c (8 * (i - first))

-- the place of argument k behind so many slots: it has the next k
abbrev pub argument_place : ℕ → List Class → ℕ → ℕ → Slot
argument_place first args hidden k = slot_place first (slice_index_or args k Void) (hidden + k)

-- the place of a result that fits a register, or else the register of the hidden pointer
abbrev pub x64_result : Class → ResultPlace
x64_result Void = Nothing
x64_result Word = Regs (arm_number Rax) 1
x64_result (Agg n) = if is_by_pointer (Agg n) then Hidden (arm_number Rcx) else Regs (arm_number Rax) 1

abbrev pub variadic_result : Class → ResultPlace
variadic_result Void = Nothing
variadic_result Word = Regs 0 1
variadic_result (Agg n) = Regs 0 1

-- the places of an x64 call
abbrev pub x64_placement : Signature → ℕ → Placed
x64_placement s extras = placed_by (argument_place 0 (all_args s extras) (hidden_slots s.result)) (x64_result s.result) (length (all_args s extras))

-- the places of a variadic Arm64EC call
abbrev pub variadic_placement : Signature → ℕ → Placed
variadic_placement s extras = placed_by (argument_place 4 (all_args s extras) (hidden_slots s.result)) (variadic_result s.result) (length (all_args s extras))
