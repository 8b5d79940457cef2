-- What each instruction does (Arm ARM, C6.2, each by its page): the registers, the memory and the event after it.
use Rattle.std.specs.Prelude.{ℕ, ℤ, ◌+◌, ◌*◌, ◌/◌, ◌%◌, ◌^◌, Bool, true, false, not, ◌&&◌, ◌||◌, ◌==◌, bit_and, bit_or, bit_xor, Result, Ok, Err, if◌then◌else◌}
use Rattle.hx_bits.specs.declared.widths.Width.TheVariants.{W8, W16, W32}
use Rattle.hx_bits.specs.Widths.{sign_extended}
use Rattle.hx_words.specs.TwosComplement.{bits_of}
use Rattle.reg_map.specs.declared.registers.A64Reg.{A64Reg}
use Rattle.reg_map.specs.declared.registers.AFlags.{AFlags}
use Rattle.reg_map.specs.Registers.{Registers, with_number}
use Rattle.reg_map.specs.Table.{is_blocked_at}
use Rattle.hx_mem.specs.declared.fault.MemBad.{MemBad}
use Rattle.hx_mem.specs.Space.{Space, load_of, store_of, after_store}
use Rattle.a64_isa.specs.declared.instruction.Condition.{Condition}
use Rattle.a64_isa.specs.declared.instruction.AInstr.{AInstr}
use Rattle.a64_isa.specs.declared.instruction.AInstr.TheVariants.{AddImmediate, SubImmediate, AddsImmediate, SubsImmediate, AddRegister, SubRegister, AddsRegister, SubsRegister, AndRegister, OrrRegister, EorRegister, OrnRegister, Udiv, Sdiv, Lslv, Lsrv, Asrv, Madd, Msub, Movz, Movk, Movn, Adr, Adrp, LdrX, StrX, LdrW, StrW, Ldrh, Strh, Ldrb, Strb, Ldrsb, Ldrsh, Ldrsw, Stp, Ldp, StpPre, LdpPost, B, Bl, BCond, Cbz, Cbnz, Br, Blr, Ret, Csinc, Ubfm, Sbfm, Nop, Brk}
use Rattle.a64_exec.specs.declared.event.AFault.{AFault}
use Rattle.a64_exec.specs.declared.event.AFault.TheVariants.{Memory, Blocked, Misaligned, Halt}
use Rattle.a64_exec.specs.declared.event.AEvent.{AEvent}
use Rattle.a64_exec.specs.declared.event.AEvent.TheVariants.{Next, Goto, CallTo, RetTo, Fault}
use Rattle.a64_exec.specs.declared.values.FlaggedSum.{FlaggedSum}
use Rattle.a64_exec.specs.declared.access.Words.{Words}
use Rattle.a64_exec.specs.Values.{wrapped, moved, complement, sum_of, difference_of, adds_of, subs_of, immediate_of, quotient_of, signed_quotient_of, shifted_left, shifted_right, shifted_right_signed, product_added, product_subtracted, quarter_of, with_quarter, bitfield_of, signed_bitfield_of, holds}

-- the state after an instruction, and what it tells
pub record Outcome : Type 0 where
  pub registers : Registers
  pub memory : Space
  pub event : AEvent

abbrev pub outcome : Registers → Space → AEvent → Outcome
outcome s m e = record { registers = s; memory = m; event = e }

-- the registers that an instruction names, by number
abbrev pub one_blocked : A64Reg → Bool
one_blocked d = is_blocked_at d.0

abbrev pub two_blocked : A64Reg → A64Reg → Bool
two_blocked d n = is_blocked_at d.0 || is_blocked_at n.0

abbrev pub three_blocked : A64Reg → A64Reg → A64Reg → Bool
three_blocked d n m = is_blocked_at d.0 || is_blocked_at n.0 || is_blocked_at m.0

-- the instruction names a register that Arm64EC code must not use
abbrev pub names_blocked : AInstr → Bool
names_blocked (AddImmediate d n imm shift12) = two_blocked d n
names_blocked (SubImmediate d n imm shift12) = two_blocked d n
names_blocked (AddsImmediate d n imm shift12) = two_blocked d n
names_blocked (SubsImmediate d n imm shift12) = two_blocked d n
names_blocked (AddRegister d n m) = three_blocked d n m
names_blocked (SubRegister d n m) = three_blocked d n m
names_blocked (AddsRegister d n m) = three_blocked d n m
names_blocked (SubsRegister d n m) = three_blocked d n m
names_blocked (AndRegister d n m) = three_blocked d n m
names_blocked (OrrRegister d n m) = three_blocked d n m
names_blocked (EorRegister d n m) = three_blocked d n m
names_blocked (OrnRegister d n m) = three_blocked d n m
names_blocked (Udiv d n m) = three_blocked d n m
names_blocked (Sdiv d n m) = three_blocked d n m
names_blocked (Lslv d n m) = three_blocked d n m
names_blocked (Lsrv d n m) = three_blocked d n m
names_blocked (Asrv d n m) = three_blocked d n m
names_blocked (Madd d n a m) = two_blocked d n || two_blocked a m
names_blocked (Msub d n a m) = two_blocked d n || two_blocked a m
names_blocked (Movz d imm hw) = one_blocked d
names_blocked (Movk d imm hw) = one_blocked d
names_blocked (Movn d imm hw) = one_blocked d
names_blocked (Adr d offset) = one_blocked d
names_blocked (Adrp d offset) = one_blocked d
names_blocked (LdrX t n offset) = two_blocked t n
names_blocked (StrX t n offset) = two_blocked t n
names_blocked (LdrW t n offset) = two_blocked t n
names_blocked (StrW t n offset) = two_blocked t n
names_blocked (Ldrh t n offset) = two_blocked t n
names_blocked (Strh t n offset) = two_blocked t n
names_blocked (Ldrb t n offset) = two_blocked t n
names_blocked (Strb t n offset) = two_blocked t n
names_blocked (Ldrsb t n offset) = two_blocked t n
names_blocked (Ldrsh t n offset) = two_blocked t n
names_blocked (Ldrsw t n offset) = two_blocked t n
names_blocked (Stp t n t2 offset) = three_blocked t n t2
names_blocked (Ldp t n t2 offset) = three_blocked t n t2
names_blocked (StpPre t n t2 offset) = three_blocked t n t2
names_blocked (LdpPost t n t2 offset) = three_blocked t n t2
names_blocked (B offset) = false
names_blocked (Bl offset) = false
names_blocked (BCond condition offset) = false
names_blocked (Cbz t offset) = one_blocked t
names_blocked (Cbnz t offset) = one_blocked t
names_blocked (Br n) = one_blocked n
names_blocked (Blr n) = one_blocked n
names_blocked (Ret n) = one_blocked n
names_blocked (Csinc d n condition m) = three_blocked d n m
names_blocked (Ubfm d n imms immr) = two_blocked d n
names_blocked (Sbfm d n imms immr) = two_blocked d n
names_blocked Nop = false
names_blocked (Brk imm) = false

-- The value of a register, where number 31 is zero, and where it is sp.
abbrev pub source : Registers → A64Reg → ℕ
source s r = if r.0 == 31 then 0 else s.value r.0

abbrev pub source_sp : Registers → A64Reg → ℕ
source_sp s r = s.value r.0

-- The state with a register replaced: nothing where number 31 is the zero register, and sp else.
abbrev pub with_target : Registers → A64Reg → ℕ → Registers
with_target s r v = if r.0 == 31 then s else with_number s r.0 v

abbrev pub with_target_sp : Registers → A64Reg → ℕ → Registers
with_target_sp s r v = with_number s r.0 v

abbrev pub with_flags : Registers → AFlags → Registers
with_flags s f = record s { af = f }

-- the address of the next instruction
abbrev pub next_pc : Registers → ℕ
next_pc s = wrapped (s.pc + 4)

-- The ways on.
abbrev pub next : Registers → Space → Outcome
next s m = outcome (record s { pc = next_pc s }) m Next

abbrev pub goes : Registers → Space → ℕ → Outcome
goes s m target = outcome (record s { pc = target }) m (Goto target)

abbrev pub calls : Registers → Space → ℕ → Outcome
calls s m target = outcome (record (with_number s 30 (next_pc s)) { pc = target }) m (CallTo target)

abbrev pub returns_to : Registers → Space → ℕ → Outcome
returns_to s m target = outcome (record s { pc = target }) m (RetTo target)

abbrev pub fails : Registers → Space → AFault → Outcome
fails s m fault = outcome s m (Fault fault)

abbrev pub branch_pc : Bool → Registers → ℤ → ℕ
branch_pc taken s offset = if taken then moved s.pc offset 4 else next_pc s

abbrev pub branch_event : Bool → Registers → ℤ → AEvent
branch_event taken s offset = if taken then Goto (moved s.pc offset 4) else Next

abbrev pub goes_if : Bool → Registers → Space → ℤ → Outcome
goes_if taken s m offset = outcome (record s { pc = branch_pc taken s offset }) m (branch_event taken s offset)

-- A register is given a value, and with a sum its flags.
abbrev pub gives : Registers → Space → A64Reg → ℕ → Outcome
gives s m d v = next (with_target s d v) m

abbrev pub gives_sp : Registers → Space → A64Reg → ℕ → Outcome
gives_sp s m d v = next (with_target_sp s d v) m

abbrev pub gives_sum : Registers → Space → A64Reg → FlaggedSum → Outcome
gives_sum s m d v = next (with_flags (with_target s d v.value) v.flags) m

-- sp as a base is a multiple of 16
abbrev pub is_aligned : Registers → A64Reg → Bool
is_aligned s n = not (n.0 == 31) || (s.value n.0 % 16 == 0)

-- what an access answers: its fault is that of the base, and then the memory's
abbrev pub as_fault : {X : Type 0} → Result X MemBad → Result X AFault
as_fault (Ok v) = Ok v
as_fault (Err bad) = Err (Memory bad)

abbrev pub on_base : {X : Type 0} → Registers → A64Reg → Result X AFault → Result X AFault
on_base s n answer = if is_aligned s n then answer else Err Misaligned

-- an access is made, or its fault is told and nothing changed
abbrev pub on_access : {X : Type 0} → Registers → Space → Result X AFault → (X → Outcome) → Outcome
on_access s m (Ok v) done = done v
on_access s m (Err fault) done = fails s m fault

-- Loads and stores of one register: `bytes` bytes at the base and the offset in units of them.
abbrev pub place_of : Registers → A64Reg → ℕ → ℕ → ℕ
place_of s n offset bytes = wrapped (s.value n.0 + offset * bytes)

abbrev pub load_at : Registers → Space → A64Reg → ℕ → ℕ → Result ℕ AFault
load_at s m n place bytes = on_base s n (as_fault (load_of m place bytes))

abbrev pub loads : Registers → Space → A64Reg → A64Reg → ℕ → ℕ → (ℕ → ℕ) → Outcome
loads s m t n offset bytes extended =
    on_access s m (load_at s m n (place_of s n offset bytes) bytes) (λ v. gives s m t (extended v))

abbrev pub store_at : Registers → Space → A64Reg → ℕ → ℕ → Result (Unit {0}) AFault
store_at s m n place bytes = on_base s n (as_fault (store_of m place bytes))

abbrev pub stores : Registers → Space → A64Reg → A64Reg → ℕ → ℕ → Outcome
stores s m t n offset bytes =
    on_access s m (store_at s m n (place_of s n offset bytes) bytes)
    (λ u. next s (after_store m (place_of s n offset bytes) bytes (source s t)))

-- Pairs: the words at a place and 8 bytes on, both or neither.
abbrev pub both : {X : Type 0} → (ℕ → ℕ → X) → Result ℕ MemBad → Result ℕ MemBad → Result X MemBad
both made (Err bad) second = Err bad
both made (Ok a) (Err bad) = Err bad
both made (Ok a) (Ok b) = Ok (made a b)

abbrev pub words : ℕ → ℕ → Words
words a b = record { first = a; second = b }

abbrev pub load_pair_at : Registers → Space → A64Reg → ℕ → Result Words AFault
load_pair_at s m n place = on_base s n (as_fault (both words (load_of m place 8) (load_of m (wrapped (place + 8)) 8)))

abbrev pub with_words : Registers → A64Reg → A64Reg → Words → Registers
with_words s t t2 p = with_target (with_target s t p.first) t2 p.second

abbrev pub and_then : Result (Unit {0}) MemBad → Result (Unit {0}) MemBad → Result (Unit {0}) MemBad
and_then (Err bad) second = Err bad
and_then (Ok u) second = second

abbrev pub store_pair_at : Registers → Space → A64Reg → ℕ → Result (Unit {0}) AFault
store_pair_at s m n place = on_base s n (as_fault (and_then (store_of m place 8) (store_of m (wrapped (place + 8)) 8)))

abbrev pub after_pair : Space → ℕ → ℕ → ℕ → Space
after_pair m place a b = after_store (after_store m place 8 a) (wrapped (place + 8)) 8 b

abbrev pub stores_pair : Registers → Space → A64Reg → A64Reg → A64Reg → ℕ → Registers → Outcome
stores_pair s m t n t2 place after =
    on_access s m (store_pair_at s m n place) (λ u. next after (after_pair m place (source s t) (source s t2)))

-- what an instruction does that names no blocked register
abbrev pub act_of : AInstr → Registers → Space → Outcome
-- ADD (immediate)
act_of (AddImmediate d n imm shift12) s mem = gives_sp s mem d (sum_of (source_sp s n) (immediate_of imm shift12))
-- SUB (immediate)
act_of (SubImmediate d n imm shift12) s mem = gives_sp s mem d (difference_of (source_sp s n) (immediate_of imm shift12))
-- ADDS (immediate)
act_of (AddsImmediate d n imm shift12) s mem = gives_sum s mem d (adds_of (source_sp s n) (immediate_of imm shift12))
-- SUBS (immediate)
act_of (SubsImmediate d n imm shift12) s mem = gives_sum s mem d (subs_of (source_sp s n) (immediate_of imm shift12))
-- ADD (shifted register)
act_of (AddRegister d n m) s mem = gives s mem d (sum_of (source s n) (source s m))
-- SUB (shifted register)
act_of (SubRegister d n m) s mem = gives s mem d (difference_of (source s n) (source s m))
-- ADDS (shifted register)
act_of (AddsRegister d n m) s mem = gives_sum s mem d (adds_of (source s n) (source s m))
-- SUBS (shifted register)
act_of (SubsRegister d n m) s mem = gives_sum s mem d (subs_of (source s n) (source s m))
-- AND (shifted register)
act_of (AndRegister d n m) s mem = gives s mem d (bit_and (source s n) (source s m))
-- ORR (shifted register)
act_of (OrrRegister d n m) s mem = gives s mem d (bit_or (source s n) (source s m))
-- EOR (shifted register)
act_of (EorRegister d n m) s mem = gives s mem d (bit_xor (source s n) (source s m))
-- ORN (shifted register)
act_of (OrnRegister d n m) s mem = gives s mem d (bit_or (source s n) (complement (source s m)))
-- UDIV
act_of (Udiv d n m) s mem = gives s mem d (quotient_of (source s n) (source s m))
-- SDIV
act_of (Sdiv d n m) s mem = gives s mem d (signed_quotient_of (source s n) (source s m))
-- LSLV
act_of (Lslv d n m) s mem = gives s mem d (shifted_left (source s n) (source s m % 64))
-- LSRV
act_of (Lsrv d n m) s mem = gives s mem d (shifted_right (source s n) (source s m % 64))
-- ASRV
act_of (Asrv d n m) s mem = gives s mem d (shifted_right_signed (source s n) (source s m % 64))
-- MADD
act_of (Madd d n a m) s mem = gives s mem d (product_added (source s a) (source s n) (source s m))
-- MSUB
act_of (Msub d n a m) s mem = gives s mem d (product_subtracted (source s a) (source s n) (source s m))
-- MOVZ
act_of (Movz d imm hw) s mem = gives s mem d (quarter_of imm hw)
-- MOVK
act_of (Movk d imm hw) s mem = gives s mem d (with_quarter (source s d) imm hw)
-- MOVN
act_of (Movn d imm hw) s mem = gives s mem d (complement (quarter_of imm hw))
-- ADR
act_of (Adr d offset) s mem = gives s mem d (moved s.pc offset 1)
-- ADRP
act_of (Adrp d offset) s mem = gives s mem d (moved (s.pc / 4096 * 4096) offset 4096)
-- LDR (immediate)
act_of (LdrX t n offset) s mem = loads s mem t n offset 8 (λ v. v)
-- STR (immediate)
act_of (StrX t n offset) s mem = stores s mem t n offset 8
-- LDR (immediate)
act_of (LdrW t n offset) s mem = loads s mem t n offset 4 (λ v. v)
-- STR (immediate)
act_of (StrW t n offset) s mem = stores s mem t n offset 4
-- LDRH (immediate)
act_of (Ldrh t n offset) s mem = loads s mem t n offset 2 (λ v. v)
-- STRH (immediate)
act_of (Strh t n offset) s mem = stores s mem t n offset 2
-- LDRB (immediate)
act_of (Ldrb t n offset) s mem = loads s mem t n offset 1 (λ v. v)
-- STRB (immediate)
act_of (Strb t n offset) s mem = stores s mem t n offset 1
-- LDRSB (immediate)
act_of (Ldrsb t n offset) s mem = loads s mem t n offset 1 (sign_extended W8)
-- LDRSH (immediate)
act_of (Ldrsh t n offset) s mem = loads s mem t n offset 2 (sign_extended W16)
-- LDRSW (immediate)
act_of (Ldrsw t n offset) s mem = loads s mem t n offset 4 (sign_extended W32)
-- STP
act_of (Stp t n t2 offset) s mem = stores_pair s mem t n t2 (moved (source_sp s n) offset 8) s
-- LDP
act_of (Ldp t n t2 offset) s mem = on_access s mem (load_pair_at s mem n (moved (source_sp s n) offset 8)) (λ p. next (with_words s t t2 p) mem)
-- STP
act_of (StpPre t n t2 offset) s mem = stores_pair s mem t n t2 (moved (source_sp s n) offset 8) (with_target_sp s n (moved (source_sp s n) offset 8))
-- LDP
act_of (LdpPost t n t2 offset) s mem = on_access s mem (load_pair_at s mem n (source_sp s n)) (λ p. next (with_target_sp (with_words s t t2 p) n (moved (source_sp s n) offset 8)) mem)
-- B
act_of (B offset) s mem = goes s mem (moved s.pc offset 4)
-- BL
act_of (Bl offset) s mem = calls s mem (moved s.pc offset 4)
-- B.cond
act_of (BCond condition offset) s mem = goes_if (holds condition s.af) s mem offset
-- CBZ
act_of (Cbz t offset) s mem = goes_if (source s t == 0) s mem offset
-- CBNZ
act_of (Cbnz t offset) s mem = goes_if (not (source s t == 0)) s mem offset
-- BR
act_of (Br n) s mem = goes s mem (source s n)
-- BLR
act_of (Blr n) s mem = calls s mem (source s n)
-- RET
act_of (Ret n) s mem = returns_to s mem (source s n)
-- CSINC
act_of (Csinc d n condition m) s mem = gives s mem d (if holds condition s.af then source s n else sum_of (source s m) 1)
-- UBFM
act_of (Ubfm d n imms immr) s mem = gives s mem d (bitfield_of (source s n) imms immr)
-- SBFM
act_of (Sbfm d n imms immr) s mem = gives s mem d (signed_bitfield_of (source s n) imms immr)
-- NOP
act_of Nop s mem = next s mem
-- BRK
act_of (Brk imm) s mem = fails s mem Halt

-- what an instruction does
abbrev pub effect_of : AInstr → Registers → Space → Outcome
effect_of i s m = if names_blocked i then fails s m Blocked else act_of i s m
