-- Signatures with their places, worked out by hand from the conventions.
use Rattle.std.specs.Prelude.{true, false, [], ◌∷◌}
use Rattle.sig_core.specs.declared.classes.Class.TheVariants.{Word, Agg}
use Rattle.sig_core.specs.declared.classes.Signature.{Signature}
use Rattle.sig_core.specs.declared.places.Slot.TheVariants.{Reg, Stack}
use Rattle.sig_core.specs.declared.places.ResultPlace.TheVariants.{Regs, Hidden}
use Rattle.sig_core.specs.declared.places.Placed.{Placed}

-- five words, and a struct of 24 bytes as the result
abbrev pub five_words : Signature
five_words = record { result = Agg 24; args = Word ∷ Word ∷ Word ∷ Word ∷ Word ∷ []; variadic = false }

-- on x64 the hidden pointer is in rcx, and the arguments in rdx, r8, r9 and behind the home space
abbrev pub five_words_on_x64 : Placed
five_words_on_x64 = record { args = Reg 1 1 ∷ Reg 2 1 ∷ Reg 3 1 ∷ Stack 32 1 ∷ Stack 40 1 ∷ []; result = Hidden 0; stack = 48 }

-- in EC they are in x0 to x4, and the result's address is in x8
abbrev pub five_words_in_ec : Placed
five_words_in_ec = record { args = Reg 0 1 ∷ Reg 1 1 ∷ Reg 2 1 ∷ Reg 3 1 ∷ Reg 4 1 ∷ []; result = Hidden 8; stack = 0 }

-- seven words, a struct of 16 bytes, and a word
abbrev pub late_struct : Signature
late_struct = record { result = Word; args = Word ∷ Word ∷ Word ∷ Word ∷ Word ∷ Word ∷ Word ∷ Agg 16 ∷ Word ∷ []; variadic = false }

-- in EC the struct doesn't fit x7, so the word behind it doesn't stand there either
abbrev pub late_struct_in_ec : Placed
late_struct_in_ec = record { args = Reg 0 1 ∷ Reg 1 1 ∷ Reg 2 1 ∷ Reg 3 1 ∷ Reg 4 1 ∷ Reg 5 1 ∷ Reg 6 1 ∷ Stack 0 2 ∷ Stack 16 1 ∷ []; result = Regs 0 1; stack = 24 }

-- two words, the second of which counts the extra ones
abbrev pub counted_sum : Signature
counted_sum = record { result = Word; args = Word ∷ Word ∷ []; variadic = true }

-- with six extra ones
abbrev pub counted_sum_in_ec : Placed
counted_sum_in_ec = record { args = Reg 0 1 ∷ Reg 1 1 ∷ Reg 2 1 ∷ Reg 3 1 ∷ Stack 0 1 ∷ Stack 8 1 ∷ Stack 16 1 ∷ Stack 24 1 ∷ []; result = Regs 0 1; stack = 32 }
