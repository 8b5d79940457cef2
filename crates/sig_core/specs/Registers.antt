-- Calls between Arm64EC functions (Arm, "Procedure Call Standard for the Arm 64-bit Architecture", "Parameter passing",
-- stages B and C, for integers, pointers and structs alone, as Windows uses it: Microsoft, "Overview of ARM64 ABI
-- conventions", "Parameter passing" and "Return values").
-- A word takes the next register of x0 to x7, and a struct of at most 16 bytes takes one or two consecutive ones; of a
-- larger struct the address is passed. What no longer fits goes wholly to the stack, in words of 8 bytes, and no later
-- argument takes a register. A result of at most 16 bytes comes in x0 and x1; for a larger one the caller gives the
-- address in x8.
use Rattle.std.specs.Prelude.{ℕ, zero, suc, ◌+◌, ◌*◌, ◌/◌, Bool, false, nat_lt, nat_le, if◌then◌else◌, List, length, take}
use Rattle.std.specs.List.{sum_by, slice_index_or}
use Rattle.sig_core.specs.declared.classes.Class.{Class}
use Rattle.sig_core.specs.declared.classes.Class.TheVariants.{Void, Word, Agg}
use Rattle.sig_core.specs.declared.classes.Signature.{Signature}
use Rattle.sig_core.specs.declared.places.Slot.{Slot}
use Rattle.sig_core.specs.declared.places.Slot.TheVariants.{Reg, RegPointer, Stack, StackPointer}
use Rattle.sig_core.specs.declared.places.ResultPlace.{ResultPlace}
use Rattle.sig_core.specs.declared.places.ResultPlace.TheVariants.{Nothing, Regs, Hidden}
use Rattle.sig_core.specs.declared.places.Placed.{Placed}
use Rattle.sig_core.specs.Places.{placed_by}

-- a struct that is passed by its address
abbrev pub is_large : Class → Bool
is_large Void = false
is_large Word = false
is_large (Agg n) = nat_lt 16 n

-- the words that a value takes, or else its address
abbrev pub ec_words : Class → ℕ
ec_words Void = 0
ec_words Word = 1
ec_words (Agg n) = if nat_lt 16 n then 1 else (n + 7) / 8

-- the words that arguments take together
abbrev pub words_of : List Class → ℕ
words_of args = sum_by ec_words args

abbrev pub argument : List Class → ℕ → Class
argument args i = slice_index_or args i Void

-- Argument i stands in registers where it and those before it have eight words at most. Each has a word at least: so
-- that all of those before it stand in registers too, and behind the first that doesn't fit none does.
abbrev pub is_in_registers : List Class → ℕ → Bool
is_in_registers args i = nat_le (words_of (take i args) + ec_words (argument args i)) 8

-- the words of the stack that the first arguments took: those of the ones that don't stand in registers
abbrev pub stack_words : List Class → ℕ → ℕ
stack_words args zero = 0
stack_words args (suc i) = stack_words args i + (if is_in_registers args i then 0 else ec_words (argument args i))

abbrev pub in_registers : Class → ℕ → Slot
in_registers c r = if is_large c then RegPointer r else Reg r (ec_words c)

abbrev pub on_stack : Class → ℕ → Slot
on_stack c o = if is_large c then StackPointer o else Stack o (ec_words c)

-- behind the words that the earlier ones took
abbrev pub ec_place : List Class → ℕ → Slot
ec_place args i =
    if is_in_registers args i then in_registers (argument args i) (words_of (take i args))
    else on_stack (argument args i) (8 * stack_words args i)

abbrev pub ec_result : Class → ResultPlace
ec_result Void = Nothing
ec_result Word = Regs 0 1
ec_result (Agg n) = if nat_lt 16 n then Hidden 8 else Regs 0 ((n + 7) / 8)

-- the places of a call between Arm64EC functions
abbrev pub ec_placement : Signature → Placed
ec_placement s = placed_by (ec_place s.args) (ec_result s.result) (length s.args)
