-- The conditions of B.cond and CSINC (Arm ARM, C1.2.4, "Condition code").
use Rattle.std.specs.Prelude.{ℕ, ◌==◌, if◌then◌else◌}
use Rattle.a64_isa.specs.declared.instruction.Condition.{Condition}
use Rattle.a64_isa.specs.declared.instruction.Condition.TheVariants.{Equal, NotEqual, CarrySet, CarryClear, Minus, Plus, Overflow, NoOverflow, Higher, LowerOrSame, GreaterOrEqual, Less, Greater, LessOrEqual}

-- the number of a condition in an instruction; 14 and 15 are AL and NV, which the table has not
abbrev pub condition_number : Condition → ℕ
condition_number Equal = 0
condition_number NotEqual = 1
condition_number CarrySet = 2
condition_number CarryClear = 3
condition_number Minus = 4
condition_number Plus = 5
condition_number Overflow = 6
condition_number NoOverflow = 7
condition_number Higher = 8
condition_number LowerOrSame = 9
condition_number GreaterOrEqual = 10
condition_number Less = 11
condition_number Greater = 12
condition_number LessOrEqual = 13

-- the condition of a number below 14
abbrev pub condition_at : ℕ → Condition
condition_at n =
    if n == 0 then Equal else (
    if n == 1 then NotEqual else (
    if n == 2 then CarrySet else (
    if n == 3 then CarryClear else (
    if n == 4 then Minus else (
    if n == 5 then Plus else (
    if n == 6 then Overflow else (
    if n == 7 then NoOverflow else (
    if n == 8 then Higher else (
    if n == 9 then LowerOrSame else (
    if n == 10 then GreaterOrEqual else (
    if n == 11 then Less else (
    if n == 12 then Greater else (
    LessOrEqual)))))))))))))
