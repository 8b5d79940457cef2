-- Places that take the registers and the bytes from one number on to the next argument's.
use Rattle.std.proofs.Common.{◌≡◌, ℕ, zero, suc, ◌<◌, ◌≤◌, max, Some, length, slice_get, sym, ap, ◌∙◌, subst, add-one, arith, ⊎_elim}
use Rattle.std.proofs.lemmas.Bool.{cases_lt}
use Rattle.std.proofs.lemmas.List.Sums.{fold_push}
use Rattle.std.proofs.lemmas.List.FromFn.{length-map-range_with_len, get_or-map-range_with_len}
use Rattle.std.proofs.lemmas.Option.{slice_get_within, slice_get-get_or, get_or_from_slice_get}
use Rattle.sig_core.specs.declared.places.Slot.{Slot}
use Rattle.sig_core.specs.declared.places.Slot.TheVariants.{Reg, RegPointer, Stack, StackPointer}
use Rattle.sig_core.specs.Places.{end_of, stack_of, places, HasRegister, HasByte, AreApart, AreWithin}
use Rattle.sig_core.proofs.Steps.{places_more}

-- ---- an argument by its number

pub place_within : (place : ℕ → Slot) (n i : ℕ) (a : Slot) → slice_get (places place n) i ≡ Some a → i < n
place_within place n i a e = let h = slice_get_within (places place n) i a e in let l = length-map-range_with_len place 0 n in omega arith

pub place_is : (place : ℕ → Slot) (n i : ℕ) (a : Slot) → slice_get (places place n) i ≡ Some a → a ≡ place i
place_is place n i a e =
    sym (get_or_from_slice_get (places place n) i a a e) ∙ get_or-map-range_with_len place 0 n i i a (place_within place n i a e) (omega arith)

pub places_count : (place : ℕ → Slot) (n : ℕ) → length (places place n) ≡ n
places_count place n = length-map-range_with_len place 0 n

pub place_at : (place : ℕ → Slot) (n i : ℕ) → i < n → slice_get (places place n) i ≡ Some (place i)
place_at place n i h =
    let l = places_count place n in
    let within : i < length (places place n) = omega arith in
    slice_get-get_or (places place n) i (place i) within ∙ ap (λ s. Some s) (get_or-map-range_with_len place 0 n i i (place i) h (omega arith))

-- ---- the end of the stack

pub stack_more : (place : ℕ → Slot) (n : ℕ) → stack_of (places place (suc n)) ≡ max (stack_of (places place n)) (end_of (place n))
stack_more place n =
    ap (λ k. stack_of (places place k)) (sym (add-one n)) ∙ (ap stack_of (places_more place n) ∙ fold_push (λ end s. max end (end_of s)) 0 (places place n) (place n))

pub end_le_stack : (place : ℕ → Slot) (n i : ℕ) → i < n → end_of (place i) ≤ stack_of (places place n)
end_le_stack place zero i h = absurd (omega arith)
end_le_stack place (suc n) i h =
    ⊎_elim
    (λ (l : i < n). let e = stack_more place n in let r = end_le_stack place n i l in omega arith)
    (λ (g : n ≤ i). let same : n ≡ i = omega arith in let e = stack_more place n in subst (λ k. end_of (place k) ≤ stack_of (places place (suc n))) same (omega arith))
    (cases_lt i n)

byte_below_end : (a : Slot) (b : ℕ) → HasByte a b → b < end_of a
byte_below_end (Reg r n) b h = absurd h
byte_below_end (RegPointer r) b h = absurd h
byte_below_end (Stack o n) b h = h.1
byte_below_end (StackPointer o) b h = h.1

pub byte_below_stack : (place : ℕ → Slot) (n i b : ℕ) (a : Slot) → slice_get (places place n) i ≡ Some a → HasByte a b → b < stack_of (places place n)
byte_below_stack place n i b a e h =
    let l = byte_below_end a b h in
    let m = end_le_stack place n i (place_within place n i a e) in
    let same = ap end_of (place_is place n i a e) in
    omega arith

-- ---- numbers that rise with the arguments

pub rises : (f : ℕ → ℕ) (n : ℕ) → ((i : ℕ) → i < n → f i ≤ f (suc i)) → (i j : ℕ) → i ≤ j → j ≤ n → f i ≤ f j
rises f n up i zero h k = let e : i ≡ 0 = omega arith in subst (λ x. f x ≤ f 0) (sym e) (omega arith)
rises f n up i (suc j) h k =
    ⊎_elim
    (λ (l : i < suc j). let r = rises f n up i j (omega arith) (omega arith) in let u = up j (omega arith) in omega arith)
    (λ (g : suc j ≤ i). let e : suc j ≡ i = omega arith in subst (λ x. f x ≤ f (suc j)) e (omega arith))
    (cases_lt i (suc j))

-- what lies from f i on and before the next belongs to i alone
one_of_two : (f : ℕ → ℕ) (n : ℕ) → ((i : ℕ) → i < n → f i ≤ f (suc i)) → (i j k : ℕ) → i < n → j < n
    → f i ≤ k → k < f (suc i) → f j ≤ k → k < f (suc j) → i < j → ⊥
one_of_two f n up i j k hi hj a b c d l = let r = rises f n up (suc i) j (omega arith) (omega arith) in omega arith

pub belongs_to_one : (f : ℕ → ℕ) (n : ℕ) → ((i : ℕ) → i < n → f i ≤ f (suc i)) → (i j k : ℕ) → i < n → j < n
    → f i ≤ k → k < f (suc i) → f j ≤ k → k < f (suc j) → i ≡ j
belongs_to_one f n up i j k hi hj a b c d =
    ⊎_elim
    (λ (l : i < j). absurd (one_of_two f n up i j k hi hj a b c d l))
    (λ (g : j ≤ i). ⊎_elim
    (λ (l : j < i). absurd (one_of_two f n up j i k hj hi c d a b l))
    (λ (m : i ≤ j). omega arith)
    (cases_lt j i))
    (cases_lt i j)

-- the registers and the bytes of each place lie from one number on and before the next
pub record AreInTurn (place : ℕ → Slot) (n : ℕ) (registers bytes : ℕ → ℕ) : Type 0 where
  pub registers_rise : (i : ℕ) → i < n → registers i ≤ registers (suc i)
  pub bytes_rise : (i : ℕ) → i < n → bytes i ≤ bytes (suc i)
  pub register_in : (i k : ℕ) → i < n → HasRegister (place i) k → (registers i ≤ k) × (k < registers (suc i))
  pub byte_in : (i k : ℕ) → i < n → HasByte (place i) k → (bytes i ≤ k) × (k < bytes (suc i))

at_place : (P : Slot → ℕ → Type 0) (place : ℕ → Slot) (n i k : ℕ) (a : Slot) → slice_get (places place n) i ≡ Some a → P a k → P (place i) k
at_place P place n i k a e h = subst (λ s. P s k) (place_is place n i a e) h

pub apart : (place : ℕ → Slot) (n : ℕ) (registers bytes : ℕ → ℕ) → AreInTurn place n registers bytes → AreApart (places place n)
apart place n registers bytes turn = record {
  registers = λ i j k a b ea eb ha hb.
      let li = place_within place n i a ea in
      let lj = place_within place n j b eb in
      let p = turn.register_in i k li (at_place HasRegister place n i k a ea ha) in
      let q = turn.register_in j k lj (at_place HasRegister place n j k b eb hb) in
      belongs_to_one registers n turn.registers_rise i j k li lj p.0 p.1 q.0 q.1;
  bytes = λ i j k a b ea eb ha hb.
      let li = place_within place n i a ea in
      let lj = place_within place n j b eb in
      let p = turn.byte_in i k li (at_place HasByte place n i k a ea ha) in
      let q = turn.byte_in j k lj (at_place HasByte place n j k b eb hb) in
      belongs_to_one bytes n turn.bytes_rise i j k li lj p.0 p.1 q.0 q.1;
}

pub within : (place : ℕ → Slot) (n registers low : ℕ) → ((i k : ℕ) → i < n → HasRegister (place i) k → k < registers)
    → ((i k : ℕ) → i < n → HasByte (place i) k → low ≤ k) → AreWithin (places place n) registers low (stack_of (places place n))
within place n registers low below above = record {
  registers = λ i k a e h. below i k (place_within place n i a e) (at_place HasRegister place n i k a e h);
  above = λ i k a e h. above i k (place_within place n i a e) (at_place HasByte place n i k a e h);
  below = λ i k a e h. byte_below_stack place n i k a e h;
}
