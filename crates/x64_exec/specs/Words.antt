-- Words of the table of effects: numbers of 64 bits, flags, places, and how an instruction ends.
use Rattle.std.specs.Prelude.{ℕ, ℤ, negsuc, pos, ◌+◌, ◌-◌, ◌*◌, ◌/◌, ◌%◌, ◌^◌, ◌*ℤ◌, Bool, true, false, not, ◌&&◌, ◌||◌, ◌==◌, nat_lt, nat_le, int_le, int_div, int_rem, if◌then◌else◌, Option, Some, None, Result, Ok, Err}
use mathlib.Core.Bool.{beq}
use Rattle.hx_words.specs.TwosComplement.{bits_of, signed_of}
use Rattle.hx_mem.specs.Space.{Space, load_of, store_of, after_store}
use Rattle.hx_mem.specs.declared.fault.MemBad.{MemBad}
use Rattle.reg_map.specs.declared.registers.XFlags.{XFlags}
use Rattle.reg_map.specs.declared.registers.X64Reg.{X64Reg}
use Rattle.reg_map.specs.declared.registers.X64Reg.TheVariants.{Rax, Rcx, Rdx, Rsp}
use Rattle.reg_map.specs.Registers.{Registers, x64_value, with_x64}
use Rattle.x64_isa.specs.declared.instruction.Condition.{Condition}
use Rattle.x64_isa.specs.declared.instruction.Condition.TheVariants.{Overflow, NotOverflow, Below, AboveOrEqual, Equals, NotEquals, BelowOrEqual, Above, Sign, NotSign, LessThan, GreaterOrEqual, LessOrEqual, GreaterThan}
use Rattle.x64_isa.specs.declared.instruction.Place.{Place}
use Rattle.x64_isa.specs.declared.instruction.Place.TheVariants.{Base, Rip}
use Rattle.x64_exec.specs.declared.event.XEvent.{XEvent}
use Rattle.x64_exec.specs.declared.event.XEvent.TheVariants.{Next, Branch, Goto, CallTo, RetTo, Fault}
use Rattle.x64_exec.specs.declared.event.XFault.{XFault}
use Rattle.x64_exec.specs.declared.event.XFault.TheVariants.{Memory, Divide}
use Rattle.x64_exec.specs.declared.values.Flagged.{Flagged}
use Rattle.x64_exec.specs.declared.values.Shift.{Shift}
use Rattle.x64_exec.specs.declared.values.Shift.TheVariants.{Left, Right, RightSigned}
use Rattle.x64_exec.specs.declared.division.Division.{Division}

-- what an instruction leaves, and where control goes
pub record Effect : Type 0 where
  pub cpu : Registers
  pub mem : Space
  pub event : XEvent

abbrev pub effect : Registers → Space → XEvent → Effect
effect cpu mem event = record { cpu = cpu; mem = mem; event = event }

-- ---- numbers

-- a number modulo 2^64; the sum and the difference of two such numbers; and all 64 bits turned
abbrev pub word : ℕ → ℕ
word n = n % 2 ^ 64

abbrev pub plus : ℕ → ℕ → ℕ
plus a b = word (a + b)

abbrev pub minus : ℕ → ℕ → ℕ
minus a b = word (a + (2 ^ 64 - b))

abbrev pub complement : ℕ → ℕ
complement a = 2 ^ 64 - 1 - a

-- an address with a signed displacement
abbrev pub moved : ℕ → ℤ → ℕ
moved place z = plus place (bits_of 64 z)

-- the top bit and the low bit of a 64-bit number
abbrev pub is_negative : ℕ → Bool
is_negative n = nat_le (2 ^ 63) n

-- 64 copies of the top bit
abbrev pub signs : ℕ → ℕ
signs a = if is_negative a then 2 ^ 64 - 1 else 0

abbrev pub is_odd : ℕ → Bool
is_odd n = n % 2 == 1

-- the number is one of 64 signed bits
abbrev pub fits_signed : ℤ → Bool
fits_signed z = int_le (negsuc (2 ^ 63 - 1)) z && int_le z (pos (2 ^ 63 - 1))

-- ---- flags (SDM, Vol. 1, 3.4.3.1)

abbrev pub clear : XFlags
clear = record { cf = false; zf = false; sf = false; of = false }

-- after a + b: the carry; a zero result; its sign; a sum of two numbers of one sign that has the other
abbrev pub flags_of_plus : ℕ → ℕ → XFlags
flags_of_plus a b = record {
  cf = nat_le (2 ^ 64) (a + b);
  zf = plus a b == 0;
  sf = is_negative (plus a b);
  of = beq (is_negative a) (is_negative b) && not (beq (is_negative (plus a b)) (is_negative a));
}

-- after a - b: the borrow; a zero result; its sign; a difference of two signs whose result lacks the sign of
-- the first
abbrev pub flags_of_minus : ℕ → ℕ → XFlags
flags_of_minus a b = record {
  cf = nat_lt a b;
  zf = minus a b == 0;
  sf = is_negative (minus a b);
  of = not (beq (is_negative a) (is_negative b)) && not (beq (is_negative (minus a b)) (is_negative a));
}

-- after AND, OR, XOR and TEST
abbrev pub flags_of_bits : ℕ → XFlags
flags_of_bits v = record { cf = false; zf = v == 0; sf = is_negative v; of = false }

-- after IMUL: CF and OF where the signed product is no number of 64 bits; ZF and SF, which the manual leaves
-- undefined, are 0 here
abbrev pub is_cut : ℕ → ℕ → Bool
is_cut a b = not (fits_signed (signed_of 64 a *ℤ signed_of 64 b))

abbrev pub flags_of_product : ℕ → ℕ → XFlags
flags_of_product a b = record { cf = is_cut a b; zf = false; sf = false; of = is_cut a b }

-- ---- results and their flags

abbrev pub added : ℕ → ℕ → Flagged
added a b = record { value = plus a b; flags = flags_of_plus a b }

abbrev pub subtracted : ℕ → ℕ → Flagged
subtracted a b = record { value = minus a b; flags = flags_of_minus a b }

abbrev pub bitwise : ℕ → Flagged
bitwise v = record { value = v; flags = flags_of_bits v }

abbrev pub multiplied : ℕ → ℕ → Flagged
multiplied a b = record { value = word (a * b); flags = flags_of_product a b }

-- Shifts by n, from 1 to 63 (SDM, Vol. 2, SAL/SAR/SHL/SHR). CF is the last bit that left the number; OF is the
-- manual's for a shift by 1, and 0 for any other, where the manual leaves it undefined.
abbrev pub with_shift_flags : ℕ → ℕ → Bool → Bool → Flagged
with_shift_flags n v last changed = record {
  value = v;
  flags = record { cf = last; zf = v == 0; sf = is_negative v; of = (n == 1) && changed };
}

abbrev pub left_value : ℕ → ℕ → ℕ
left_value a n = word (a * 2 ^ n)

abbrev pub signed_value : ℕ → ℕ → ℕ
signed_value a n = if is_negative a then complement (complement a / 2 ^ n) else a / 2 ^ n

abbrev pub shifted : Shift → ℕ → ℕ → Flagged
shifted Left a n = with_shift_flags n (left_value a n) (is_odd (a / 2 ^ (64 - n))) (not (beq (is_odd (a / 2 ^ (64 - n))) (is_negative (left_value a n))))
shifted Right a n = with_shift_flags n (a / 2 ^ n) (is_odd (a / 2 ^ (n - 1))) (is_negative a)
shifted RightSigned a n = with_shift_flags n (signed_value a n) (is_odd (a / 2 ^ (n - 1))) false

-- Division of the 128 bits in two registers, the high ones first (SDM, Vol. 2, DIV and IDIV): nothing where the
-- divisor is 0 or the quotient is no number of 64 bits
abbrev pub dividend : ℕ → ℕ → ℕ
dividend high low = high * 2 ^ 64 + low

abbrev pub division : ℕ → ℕ → Division
division quotient remainder = record { quotient = quotient; remainder = remainder }

abbrev pub divided : ℕ → ℕ → ℕ → Option Division
divided high low d =
    if (d == 0) || nat_le (2 ^ 64) (dividend high low / d) then None
    else Some (division (dividend high low / d) (dividend high low % d))

-- the same of signed numbers, the quotient truncated toward 0
abbrev pub divided_signed : ℤ → ℤ → Option Division
divided_signed n d = if fits_signed (int_div n d) then Some (division (bits_of 64 (int_div n d)) (bits_of 64 (int_rem n d))) else None

abbrev pub signed_divided : ℕ → ℕ → ℕ → Option Division
signed_divided high low d =
    if d == 0 then None else divided_signed (signed_of 128 (dividend high low)) (signed_of 64 d)

-- ---- conditions (SDM, Vol. 1, appendix B)

abbrev pub holds : Condition → XFlags → Bool
holds Overflow f = f.of
holds NotOverflow f = not f.of
holds Below f = f.cf
holds AboveOrEqual f = not f.cf
holds Equals f = f.zf
holds NotEquals f = not f.zf
holds BelowOrEqual f = f.cf || f.zf
holds Above f = not (f.cf || f.zf)
holds Sign f = f.sf
holds NotSign f = not f.sf
holds LessThan f = not (beq f.sf f.of)
holds GreaterOrEqual f = beq f.sf f.of
holds LessOrEqual f = f.zf || not (beq f.sf f.of)
holds GreaterThan f = not (f.zf || not (beq f.sf f.of))

-- the low byte replaced by 1 or 0
abbrev pub with_truth : ℕ → Bool → ℕ
with_truth v b = v / 256 * 256 + (if b then 1 else 0)

-- ---- places and ends of an instruction of len bytes

-- the address of the next instruction
abbrev pub next_pc : ℕ → Registers → ℕ
next_pc len cpu = word (cpu.pc + len)

-- the address that a place names: beside RIP it counts from the next instruction
abbrev pub place_of : Place → ℕ → Registers → ℕ
place_of (Base base d) len cpu = moved (x64_value cpu base) d
place_of (Rip d) len cpu = moved (next_pc len cpu) d

-- the address that a displacement of a jump or a call names
abbrev pub target_of : ℤ → ℕ → Registers → ℕ
target_of rel len cpu = moved (next_pc len cpu) rel

-- an instruction that did its work, of which the next one follows after len bytes
abbrev pub goes_on : ℕ → Registers → Space → Effect
goes_on len cpu mem = effect (record cpu { pc = next_pc len cpu }) mem Next

-- an instruction that did nothing
abbrev pub faults : XFault → Registers → Space → Effect
faults fault cpu mem = effect cpu mem (Fault fault)

-- a jump
abbrev pub goes_to : ℕ → Registers → Space → Effect
goes_to target cpu mem = effect (record cpu { pc = target }) mem (Goto target)

-- a jump where it is taken
abbrev pub branch_pc : Bool → ℕ → ℕ → Registers → ℕ
branch_pc taken target len cpu = if taken then target else next_pc len cpu

abbrev pub branch_event : Bool → ℕ → XEvent
branch_event taken target = if taken then Branch target else Next

abbrev pub branches : Bool → ℕ → ℕ → Registers → Space → Effect
branches taken target len cpu mem = effect (record cpu { pc = branch_pc taken target len cpu }) mem (branch_event taken target)

-- a register gets a value, the flags stay; with flags; and flags alone
abbrev pub gives : X64Reg → ℕ → ℕ → Registers → Space → Effect
gives r v len cpu mem = goes_on len (with_x64 cpu r v) mem

abbrev pub gives_flagged : X64Reg → Flagged → ℕ → Registers → Space → Effect
gives_flagged r v len cpu mem = goes_on len (record (with_x64 cpu r v.value) { xf = v.flags }) mem

abbrev pub gives_flags : XFlags → ℕ → Registers → Space → Effect
gives_flags f len cpu mem = goes_on len (record cpu { xf = f }) mem

-- a shift by 0 changes nothing, flags neither
abbrev pub shifted_registers : Shift → X64Reg → ℕ → Registers → Registers
shifted_registers shift q n cpu =
    if n == 0 then cpu
    else record (with_x64 cpu q (shifted shift (x64_value cpu q) n).value) { xf = (shifted shift (x64_value cpu q) n).flags }

abbrev pub shifts : Shift → X64Reg → ℕ → ℕ → Registers → Space → Effect
shifts shift q n len cpu mem = goes_on len (shifted_registers shift q n cpu) mem

-- a division: the quotient is in rax and the remainder in rdx. The manual leaves the flags undefined; all four
-- are 0 here
abbrev pub divided_registers : Option Division → ℕ → Registers → Registers
divided_registers None len cpu = cpu
divided_registers (Some d) len cpu = record (with_x64 (with_x64 cpu Rax d.quotient) Rdx d.remainder) { xf = clear; pc = next_pc len cpu }

abbrev pub divided_event : Option Division → XEvent
divided_event None = Fault Divide
divided_event (Some d) = Next

abbrev pub divides : Option Division → ℕ → Registers → Space → Effect
divides d len cpu mem = effect (divided_registers d len cpu) mem (divided_event d)

-- ---- memory

-- what follows a load: what is done with the number, or the refusal
abbrev pub on_load : Result ℕ MemBad → Registers → Space → (ℕ → Effect) → Effect
on_load (Ok v) cpu mem done = done v
on_load (Err bad) cpu mem done = faults (Memory bad) cpu mem

-- what follows a store: the effect where it is done, or the refusal
abbrev pub stored : Result (Unit {0}) MemBad → Registers → Space → Effect → Effect
stored (Ok done) cpu mem after = after
stored (Err bad) cpu mem after = faults (Memory bad) cpu mem

-- a load of so many bytes into a register, and a store of the low bytes of a number
abbrev pub loads : X64Reg → ℕ → ℕ → (ℕ → ℕ) → ℕ → Registers → Space → Effect
loads r place bytes extended len cpu mem = on_load (load_of mem place bytes) cpu mem (λ v. gives r (extended v) len cpu mem)

abbrev pub stores : ℕ → ℕ → ℕ → ℕ → Registers → Space → Effect
stores place bytes v len cpu mem = stored (store_of mem place bytes) cpu mem (goes_on len cpu (after_store mem place bytes v))

-- a number goes below the stack pointer (SDM, PUSH)
abbrev pub pushes : ℕ → ℕ → Registers → Space → Effect
pushes v len cpu mem =
    let sp : ℕ = minus (x64_value cpu Rsp) 8 in
    stored (store_of mem sp 8) cpu mem (goes_on len (with_x64 cpu Rsp sp) (after_store mem sp 8 v))

-- the number at the stack pointer is taken; where it is given to rsp, it stays there (SDM, POP)
abbrev pub popped : Registers → Registers
popped cpu = with_x64 cpu Rsp (plus (x64_value cpu Rsp) 8)

abbrev pub pops : X64Reg → ℕ → Registers → Space → Effect
pops r len cpu mem = on_load (load_of mem (x64_value cpu Rsp) 8) cpu mem (λ v. goes_on len (with_x64 (popped cpu) r v) mem)

-- the return address goes below the stack pointer, and then control goes to the target (SDM, CALL)
abbrev pub calls : ℕ → ℕ → Registers → Space → Effect
calls target len cpu mem =
    let sp : ℕ = minus (x64_value cpu Rsp) 8 in
    stored (store_of mem sp 8) cpu mem (effect (record (with_x64 cpu Rsp sp) { pc = target }) (after_store mem sp 8 (next_pc len cpu)) (CallTo target))

-- a call and a jump whose target stands in memory: it is read first
abbrev pub calls_at : ℕ → ℕ → Registers → Space → Effect
calls_at place len cpu mem = on_load (load_of mem place 8) cpu mem (λ target. calls target len cpu mem)

abbrev pub goes_at : ℕ → Registers → Space → Effect
goes_at place cpu mem = on_load (load_of mem place 8) cpu mem (λ target. goes_to target cpu mem)

-- control goes to the address at the stack pointer, which is taken (SDM, RET)
abbrev pub returns : Registers → Space → Effect
returns cpu mem = on_load (load_of mem (x64_value cpu Rsp) 8) cpu mem (λ v. effect (record (popped cpu) { pc = v }) mem (RetTo v))
