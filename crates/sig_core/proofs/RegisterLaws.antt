-- Places of calls between Arm64EC functions.
use Rattle.std.proofs.Common.{◌≡◌, ℕ, zero, suc, ◌+◌, ◌*◌, ◌/◌, ◌<◌, ◌≤◌, max, Bool, true, false, cond, ltb, leb, List, Some, length, take, slice_get, refl, sym, ap, ◌∙◌, subst, add-one, arith}
use Rattle.std.proofs.lemmas.Bool.{leb-true, leb-false}
use Rattle.std.proofs.lemmas.List.{take_all}
use Rattle.sig_core.specs.declared.classes.Class.{Class}
use Rattle.sig_core.specs.declared.classes.Class.TheVariants.{Void, Word, Agg}
use Rattle.sig_core.specs.declared.places.Slot.{Slot}
use Rattle.sig_core.specs.declared.places.Slot.TheVariants.{Reg, RegPointer, Stack, StackPointer}
use Rattle.sig_core.specs.Places.{end_of, stack_of, places, HasRegister, HasByte, AreApart, AreWithin}
use Rattle.sig_core.specs.Registers.{is_large, ec_words, words_of, argument, is_in_registers, stack_words, in_registers, on_stack, ec_place}
use Rattle.sig_core.proofs.Fitting.{words_more}
use Rattle.sig_core.proofs.Spans.{AreInTurn, apart, within, rises, stack_more, place_within, place_is}

-- ---- what a place takes

one_by : (b : Bool) (n : ℕ) → b ≡ true → cond b 1 n ≡ 1
one_by true n e = refl
one_by false n e = absurd cc

large_word : (c : Class) → is_large c ≡ true → ec_words c ≡ 1
large_word Void e = absurd cc
large_word Word e = refl
large_word (Agg n) e = one_by (ltb 16 n) ((n + 7) / 8) e

of_registers : (b : Bool) (r w k : ℕ) → (b ≡ true → w ≡ 1) → HasRegister (cond b (RegPointer r) (Reg r w)) k → (r ≤ k) × (k < r + w)
of_registers true r w k one h = let o : w ≡ 1 = one refl in let e : r ≡ k = h in (omega arith, omega arith)
of_registers false r w k one h = h

no_register : (b : Bool) (o w k : ℕ) → HasRegister (cond b (StackPointer o) (Stack o w)) k → ⊥
no_register true o w k h = h
no_register false o w k h = h

no_byte : (b : Bool) (r w k : ℕ) → HasByte (cond b (RegPointer r) (Reg r w)) k → ⊥
no_byte true r w k h = h
no_byte false r w k h = h

of_bytes : (b : Bool) (o w k : ℕ) → (b ≡ true → w ≡ 1) → HasByte (cond b (StackPointer o) (Stack o w)) k → (o ≤ k) × (k < o + 8 * w)
of_bytes true o w k one h = let e : w ≡ 1 = one refl in (h.0, omega (arith, h.1))
of_bytes false o w k one h = h

no_end : (b : Bool) (r w : ℕ) → end_of (cond b (RegPointer r) (Reg r w)) ≡ 0
no_end true r w = refl
no_end false r w = refl

own_end : (b : Bool) (o w : ℕ) → (b ≡ true → w ≡ 1) → end_of (cond b (StackPointer o) (Stack o w)) ≡ o + 8 * w
own_end true o w one = let e : w ≡ 1 = one refl in omega arith
own_end false o w one = refl

-- ---- by whether it stands in registers

register_by : (t : Bool) (c : Class) (total o k : ℕ) → leb (total + ec_words c) 8 ≡ t → HasRegister (cond t (in_registers c total) (on_stack c o)) k
    → (total ≤ k) × (k < total + ec_words c) × (k < 8)
register_by true c total o k e h =
    let a = of_registers (is_large c) total (ec_words c) k (large_word c) h in
    let l : total + ec_words c ≤ 8 = leb-true (total + ec_words c) 8 e in
    (a.0, a.1, omega (arith, a.1))
register_by false c total o k e h = absurd (no_register (is_large c) o (ec_words c) k h)

pub ec_has_register : (args : List Class) (i k : ℕ) → HasRegister (ec_place args i) k
    → (words_of (take i args) ≤ k) × (k < words_of (take i args) + ec_words (argument args i)) × (k < 8)
ec_has_register args i k h = register_by (is_in_registers args i) (argument args i) (words_of (take i args)) (8 * stack_words args i) k refl h

byte_by : (t : Bool) (c : Class) (total m k : ℕ) → leb (total + ec_words c) 8 ≡ t → HasByte (cond t (in_registers c total) (on_stack c (8 * m))) k
    → (8 * m ≤ k) × (k < 8 * (m + cond t 0 (ec_words c))) × (8 < total + ec_words c)
byte_by true c total m k e h = absurd (no_byte (is_large c) total (ec_words c) k h)
byte_by false c total m k e h =
    let a = of_bytes (is_large c) (8 * m) (ec_words c) k (large_word c) h in
    (a.0, omega (arith, a.1), leb-false (total + ec_words c) 8 e)

pub ec_has_byte : (args : List Class) (i k : ℕ) → HasByte (ec_place args i) k
    → (8 * stack_words args i ≤ k) × (k < 8 * stack_words args (suc i)) × (8 < words_of (take i args) + ec_words (argument args i))
ec_has_byte args i k h = byte_by (is_in_registers args i) (argument args i) (words_of (take i args)) (stack_words args i) k refl h

end_by : (t : Bool) (c : Class) (total m : ℕ) → max (8 * m) (end_of (cond t (in_registers c total) (on_stack c (8 * m)))) ≡ 8 * (m + cond t 0 (ec_words c))
end_by true c total m = let e = no_end (is_large c) total (ec_words c) in omega arith
end_by false c total m = let e = own_end (is_large c) (8 * m) (ec_words c) (large_word c) in omega arith

-- ---- in turn

words_suc : (args : List Class) (i : ℕ) → i < length args → words_of (take (suc i) args) ≡ words_of (take i args) + ec_words (argument args i)
words_suc args i h = ap (λ n. words_of (take n args)) (sym (add-one i)) ∙ words_more args i h

stack_rises : (t : Bool) (m w : ℕ) → 8 * m ≤ 8 * (m + cond t 0 w)
stack_rises true m w = omega arith
stack_rises false m w = omega arith

words_rise : (args : List Class) (i : ℕ) → i < length args → words_of (take i args) ≤ words_of (take (suc i) args)
words_rise args i h = let e = words_suc args i h in omega arith

in_turn : (args : List Class) → AreInTurn (ec_place args) (length args) (λ i. words_of (take i args)) (λ i. 8 * stack_words args i)
in_turn args = record {
  registers_rise = words_rise args;
  bytes_rise = λ i l. stack_rises (is_in_registers args i) (stack_words args i) (ec_words (argument args i));
  register_in = λ i k l h. let a = ec_has_register args i k h in let e = words_suc args i l in (a.0, omega (arith, a.1));
  byte_in = λ i k l h. let a = ec_has_byte args i k h in (a.0, a.1);
}

pub ec_apart : (args : List Class) → AreApart (places (ec_place args) (length args))
ec_apart args = apart (ec_place args) (length args) (λ i. words_of (take i args)) (λ i. 8 * stack_words args i) (in_turn args)

pub ec_within : (args : List Class) → AreWithin (places (ec_place args) (length args)) 8 0 (stack_of (places (ec_place args) (length args)))
ec_within args = within (ec_place args) (length args) 8 0
    (λ i k l h. (ec_has_register args i k h).2)
    (λ i k l h. omega arith)

-- behind an argument on the stack none stands in registers
pub ec_after : (args : List Class) (i j b r : ℕ) (a c : Slot) → i < j → slice_get (places (ec_place args) (length args)) i ≡ Some a
    → slice_get (places (ec_place args) (length args)) j ≡ Some c → HasByte a b → HasRegister c r → ⊥
ec_after args i j b r a c l ea ec hb hr =
    let li = place_within (ec_place args) (length args) i a ea in
    let lj = place_within (ec_place args) (length args) j c ec in
    let byte = ec_has_byte args i b (subst (λ s. HasByte s b) (place_is (ec_place args) (length args) i a ea) hb) in
    let register = ec_has_register args j r (subst (λ s. HasRegister s r) (place_is (ec_place args) (length args) j c ec) hr) in
    let more = words_suc args i li in
    let up = rises (λ n. words_of (take n args)) (length args) (words_rise args) (suc i) j (omega arith) (omega arith) in
    omega (arith, byte.2, register.0, register.2, more, up)

-- ---- the stack

stack_to : (args : List Class) (n : ℕ) → stack_of (places (ec_place args) n) ≡ 8 * stack_words args n
stack_to args zero = refl
stack_to args (suc n) =
    stack_more (ec_place args) n ∙
    (ap (λ m. max m (end_of (ec_place args n))) (stack_to args n) ∙
    end_by (is_in_registers args n) (argument args n) (words_of (take n args)) (stack_words args n))

pub ec_stack : (args : List Class) → stack_of (places (ec_place args) (length args)) ≡ 8 * stack_words args (length args)
ec_stack args = stack_to args (length args)

some_by : (t : Bool) (m w : ℕ) → m + cond t 0 w ≤ m + w
some_by true m w = omega arith
some_by false m w = omega arith

stack_words_few : (args : List Class) (n : ℕ) → n ≤ length args → stack_words args n ≤ words_of (take n args)
stack_words_few args zero h = omega arith
stack_words_few args (suc n) h =
    let r = stack_words_few args n (omega arith) in
    let s = some_by (is_in_registers args n) (stack_words args n) (ec_words (argument args n)) in
    let e = words_suc args n (omega arith) in
    omega (arith, r, s, e)

pub ec_stack_few : (args : List Class) → stack_of (places (ec_place args) (length args)) ≤ 8 * words_of args
ec_stack_few args =
    let e = ec_stack args in
    let f = stack_words_few args (length args) (omega arith) in
    let g = ap words_of (take_all (length args) args (omega arith)) in
    omega arith
