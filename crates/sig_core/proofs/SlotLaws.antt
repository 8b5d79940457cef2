-- Places of calls by slots.
use Rattle.std.proofs.Common.{◌≡◌, ℕ, zero, suc, ◌+◌, ◌-◌, ◌*◌, ◌<◌, ◌≤◌, Bool, true, false, cond, ltb, List, Some, get_or, slice_get, refl, sym, ap, ◌∙◌, subst, arith, ⊎_elim}
use Rattle.std.proofs.lemmas.Bool.{cases_lt, ltb-true, ltb-false, lt-ltb, le-ltb}
use Rattle.sig_core.specs.declared.classes.Class.{Class}
use Rattle.sig_core.specs.declared.classes.Class.TheVariants.{Void, Word, Agg}
use Rattle.sig_core.specs.declared.places.Slot.{Slot}
use Rattle.sig_core.specs.declared.places.Slot.TheVariants.{Reg, RegPointer, Stack, StackPointer}
use Rattle.sig_core.specs.declared.places.ResultPlace.TheVariants.{Regs, Hidden}
use Rattle.sig_core.specs.Signatures.{is_by_pointer}
use Rattle.sig_core.specs.Places.{end_of, stack_of, places, HasRegister, HasByte, AreApart, AreWithin}
use Rattle.sig_core.specs.Slots.{hidden_slots, slot_register, in_register, on_stack, slot_place, argument_place, x64_result}
use Rattle.sig_core.proofs.Spans.{AreInTurn, apart, within, stack_more, place_is}

slot_register_is : (i : ℕ) → i < 4 → slot_register i ≡ i
slot_register_is zero h = refl
slot_register_is (suc zero) h = refl
slot_register_is (suc (suc zero)) h = refl
slot_register_is (suc (suc (suc zero))) h = refl
slot_register_is (suc (suc (suc (suc i)))) h = absurd (omega arith)

-- ---- what a place in a slot takes

of_register : (b : Bool) (r k : ℕ) → HasRegister (cond b (RegPointer r) (Reg r 1)) k → k ≡ r
of_register true r k h = sym h
of_register false r k h = omega (arith, h.0, h.1)

no_register : (b : Bool) (o k : ℕ) → HasRegister (cond b (StackPointer o) (Stack o 1)) k → ⊥
no_register true o k h = h
no_register false o k h = h

no_byte : (b : Bool) (r k : ℕ) → HasByte (cond b (RegPointer r) (Reg r 1)) k → ⊥
no_byte true r k h = h
no_byte false r k h = h

of_byte : (b : Bool) (o k : ℕ) → HasByte (cond b (StackPointer o) (Stack o 1)) k → (o ≤ k) × (k < o + 8)
of_byte true o k h = h
of_byte false o k h = (h.0, omega (arith, h.1))

no_end : (b : Bool) (r : ℕ) → end_of (cond b (RegPointer r) (Reg r 1)) ≡ 0
no_end true r = refl
no_end false r = refl

own_end : (b : Bool) (o : ℕ) → end_of (cond b (StackPointer o) (Stack o 1)) ≡ o + 8
own_end true o = refl
own_end false o = refl

register_by : (t : Bool) (first i k : ℕ) (c : Class) → ltb i 4 ≡ t
    → HasRegister (cond t (in_register c (slot_register i)) (on_stack c (8 * (i - first)))) k → (k ≡ i) × (i < 4)
register_by true first i k c e h = let l : i < 4 = ltb-true i 4 e in (of_register (is_by_pointer c) (slot_register i) k h ∙ slot_register_is i l, l)
register_by false first i k c e h = absurd (no_register (is_by_pointer c) (8 * (i - first)) k h)

pub slot_has_register : (first i k : ℕ) (c : Class) → HasRegister (slot_place first c i) k → (k ≡ i) × (i < 4)
slot_has_register first i k c h = register_by (ltb i 4) first i k c refl h

byte_by : (t : Bool) (first i k : ℕ) (c : Class) → ltb i 4 ≡ t
    → HasByte (cond t (in_register c (slot_register i)) (on_stack c (8 * (i - first)))) k → (8 * (i - first) ≤ k) × (k < 8 * (i - first) + 8) × (4 ≤ i)
byte_by true first i k c e h = absurd (no_byte (is_by_pointer c) (slot_register i) k h)
byte_by false first i k c e h = let b = of_byte (is_by_pointer c) (8 * (i - first)) k h in (b.0, b.1, ltb-false i 4 e)

pub slot_has_byte : (first i k : ℕ) (c : Class) → HasByte (slot_place first c i) k → (8 * (i - first) ≤ k) × (k < 8 * (i - first) + 8) × (4 ≤ i)
slot_has_byte first i k c h = byte_by (ltb i 4) first i k c refl h

low_end : (first i : ℕ) (c : Class) → i < 4 → end_of (slot_place first c i) ≡ 0
low_end first i c h = ap (λ t. end_of (cond t (in_register c (slot_register i)) (on_stack c (8 * (i - first))))) (lt-ltb i 4 h) ∙ no_end (is_by_pointer c) (slot_register i)

high_end : (first i : ℕ) (c : Class) → 4 ≤ i → end_of (slot_place first c i) ≡ 8 * (i - first) + 8
high_end first i c h = ap (λ t. end_of (cond t (in_register c (slot_register i)) (on_stack c (8 * (i - first))))) (le-ltb i 4 h) ∙ own_end (is_by_pointer c) (8 * (i - first))

-- ---- the places of arguments behind hidden slots

in_turn : (first n hidden : ℕ) (args : List Class) → first ≤ 4 → AreInTurn (argument_place first args hidden) n (λ i. hidden + i) (λ i. 8 * (hidden + i - first))
in_turn first n hidden args h = record {
  registers_rise = λ i l. omega arith;
  bytes_rise = λ i l. omega arith;
  register_in = λ i k l r. let a = slot_has_register first (hidden + i) k (get_or args i Void) r in (omega (arith, a.0), omega (arith, a.0));
  byte_in = λ i k l r. let a = slot_has_byte first (hidden + i) k (get_or args i Void) r in (a.0, omega (arith, a.1, a.2, h));
}

pub slots_apart : (first n hidden : ℕ) (args : List Class) → first ≤ 4 → AreApart (places (argument_place first args hidden) n)
slots_apart first n hidden args h = apart (argument_place first args hidden) n (λ i. hidden + i) (λ i. 8 * (hidden + i - first)) (in_turn first n hidden args h)

pub slots_within : (first n hidden low : ℕ) (args : List Class) → first ≤ 4 → low ≤ 8 * (4 - first)
    → AreWithin (places (argument_place first args hidden) n) 4 low (stack_of (places (argument_place first args hidden) n))
slots_within first n hidden low args h g = within (argument_place first args hidden) n 4 low
    (λ i k l r. let a = slot_has_register first (hidden + i) k (get_or args i Void) r in omega (arith, a.0, a.1))
    (λ i k l r. let a = slot_has_byte first (hidden + i) k (get_or args i Void) r in omega (arith, a.0, a.2, g))

-- ---- the stack

pub stack_low : (first hidden : ℕ) (args : List Class) (n : ℕ) → hidden + n ≤ 4 → stack_of (places (argument_place first args hidden) n) ≡ 0
stack_low first hidden args zero h = refl
stack_low first hidden args (suc n) h =
    let e = stack_more (argument_place first args hidden) n in
    let r = stack_low first hidden args n (omega arith) in
    let l = low_end first (hidden + n) (get_or args n Void) (omega arith) in
    omega arith

pub stack_high : (first hidden : ℕ) (args : List Class) (n : ℕ) → first ≤ 4 → hidden ≤ 4 → 4 < hidden + n
    → stack_of (places (argument_place first args hidden) n) ≡ 8 * (hidden + n - first)
stack_high first hidden args zero f h g = absurd (omega arith)
stack_high first hidden args (suc n) f h g =
    let e = stack_more (argument_place first args hidden) n in
    let own = high_end first (hidden + n) (get_or args n Void) (omega arith) in
    ⊎_elim
    (λ (l : 4 < hidden + n). let r = stack_high first hidden args n f h l in omega arith)
    (λ (l : hidden + n ≤ 4). let r = stack_low first hidden args n l in omega arith)
    (cases_lt 4 (hidden + n))

hidden_few : (b : Bool) → cond b 1 0 ≤ 1
hidden_few true = omega arith
hidden_few false = omega arith

pub hidden_slots_few : (c : Class) → hidden_slots c ≤ 4
hidden_slots_few c = let h = hidden_few (is_by_pointer c) in omega arith

pub x64_stack : (args : List Class) (c : Class) (n : ℕ)
    → stack_of (places (argument_place 0 args (hidden_slots c)) n) ≡ cond (ltb 4 (hidden_slots c + n)) (8 * (hidden_slots c + n)) 0
x64_stack args c n =
    ⊎_elim
    (λ (l : 4 < hidden_slots c + n). stack_high 0 (hidden_slots c) args n (omega arith) (hidden_slots_few c) l
    ∙ (let e : 8 * (hidden_slots c + n - 0) ≡ 8 * (hidden_slots c + n) = omega arith in e)
    ∙ sym (ap (λ t. cond t (8 * (hidden_slots c + n)) 0) (lt-ltb 4 (hidden_slots c + n) l)))
    (λ (l : hidden_slots c + n ≤ 4). stack_low 0 (hidden_slots c) args n l ∙ sym (ap (λ t. cond t (8 * (hidden_slots c + n)) 0) (le-ltb 4 (hidden_slots c + n) l)))
    (cases_lt 4 (hidden_slots c + n))

pub x64_stack_few : (args : List Class) (c : Class) (n : ℕ) → stack_of (places (argument_place 0 args (hidden_slots c)) n) ≤ 8 * (hidden_slots c + n)
x64_stack_few args c n =
    ⊎_elim
    (λ (l : 4 < hidden_slots c + n). let e = stack_high 0 (hidden_slots c) args n (omega arith) (hidden_slots_few c) l in omega arith)
    (λ (l : hidden_slots c + n ≤ 4). let e = stack_low 0 (hidden_slots c) args n l in omega arith)
    (cases_lt 4 (hidden_slots c + n))

pub variadic_stack : (args : List Class) (c : Class) (n : ℕ) → stack_of (places (argument_place 4 args (hidden_slots c)) n) ≡ 8 * (hidden_slots c + n - 4)
variadic_stack args c n =
    ⊎_elim
    (λ (l : 4 < hidden_slots c + n). stack_high 4 (hidden_slots c) args n (omega arith) (hidden_slots_few c) l)
    (λ (l : hidden_slots c + n ≤ 4). let e = stack_low 4 (hidden_slots c) args n l in omega arith)
    (cases_lt 4 (hidden_slots c + n))

-- ---- the hidden pointer

abbrev one_if : Bool → ℕ
one_if b = cond b 1 0

hidden_by : (b : Bool) (r : ℕ) → cond b (Hidden 0) (Regs 8 1) ≡ Hidden r → (one_if b ≡ 1) × (r ≡ 0)
hidden_by true r e = (refl, cc)
hidden_by false r e = absurd cc

hidden_is : (c : Class) (r : ℕ) → x64_result c ≡ Hidden r → (hidden_slots c ≡ 1) × (r ≡ 0)
hidden_is Void r e = absurd cc
hidden_is Word r e = absurd cc
hidden_is (Agg n) r e = hidden_by (is_by_pointer (Agg n)) r e

pub hidden_apart : (args : List Class) (c : Class) (n i r : ℕ) (a : Slot) → x64_result c ≡ Hidden r
    → slice_get (places (argument_place 0 args (hidden_slots c)) n) i ≡ Some a → HasRegister a r → ⊥
hidden_apart args c n i r a e at h =
    let own : HasRegister (argument_place 0 args (hidden_slots c) i) r = subst (λ s. HasRegister s r) (place_is (argument_place 0 args (hidden_slots c)) n i a at) h in
    let has = slot_has_register 0 (hidden_slots c + i) r (get_or args i Void) own in
    let is = hidden_is c r e in
    omega (arith, has.0, is.0, is.1)
