-- The parts of a sequence.
use Rattle.std.proofs.Common.{◌≡◌, ℕ, ℤ, ◌^◌, ◌<◌, ◌≤◌, List, [], ◌∷◌, ◌++◌, length, take, drop, get_or, refl, sym, ap, ap₂, ◌∙◌, arith, length-drop, length-take}
use Rattle.std.proofs.lemmas.List.{take-append-drop, drop-take, take-take, drop-drop, take_at, length-take-le}
use Rattle.std.proofs.Common.{Bool, true, false, not, ◌&&◌, nat_eq}
use Rattle.std.proofs.lemmas.Bool.{eqb-true, eq-eqb, and_from}
use lib.Pointwise.{pointwise}
use Rattle.std.specs.Int.{w32, to_le_bytes}
use Rattle.hx_words.specs.LittleEndian.{number_of, bytes_of, AreBytes}
use Rattle.hx_words.specs.TwosComplement.{signed_of, bits_of, IsSigned}
use Rattle.hx_words.proofs.LittleEndianLaws.{number_of-bytes_of, bytes_of-number_of, AreBytes-take, AreBytes-drop}
use Rattle.hx_words.proofs.TwosComplementLaws.{bits_of-signed_of, signed_of-bits_of, bits_of_lt, IsSigned-signed_of}
use Rattle.hx_bits.proofs.Bytes.{bytes_low_first-bytes_of}
use Rattle.x64_isa.specs.Fields.{imm32}
use Rattle.fast_forward.specs.Sequence.{front, back, sequence_of, Jumps}

pub length-sequence_of : (z : ℤ) → length (sequence_of z) ≡ 16
unfolding sequence_of bytes_of
length-sequence_of z = refl

-- the bytes that the code puts together
abbrev pub listed : List ℕ → List ℕ
listed bs = 0x48 ∷ (0x8B ∷ (0xC4 ∷ (0x48 ∷ (0x89 ∷ (0x58 ∷ (0x20 ∷ (0x55 ∷ (0x5D ∷ (0xE9 ∷ (get_or bs 0 0 ∷ (get_or bs 1 0 ∷ (get_or bs 2 0 ∷ (get_or bs 3 0 ∷ (0xCC ∷ (0xCC ∷ [])))))))))))))))

of_number : (v : ℕ) → listed (bytes_of 4 v) ≡ front ++ (bytes_of 4 v ++ back)
unfolding bytes_of
of_number v = refl

pub made : (z : ℤ) (n : ℕ) (bs : List ℕ) → n ≡ bits_of 32 z → bs ≡ to_le_bytes w32 n → listed bs ≡ sequence_of z
unfolding sequence_of
made z n bs e f =
    ap listed (f ∙ bytes_low_first-bytes_of 4 n ∙ ap (bytes_of 4) e) ∙ of_number (bits_of 32 z)

both : (a b : Bool) → (a && b) ≡ true → (a ≡ true) × (b ≡ true)
both true b h = (refl, h)
both false b h = absurd (let no : ⊥ = cc in no)

was_true : (a : Bool) → not a ≡ false → a ≡ true
was_true true h = refl
was_true false h = absurd (let no : ⊥ = cc in no)

-- lists that compare as equal are equal, and the other way round
pub same_list : (xs ys : List ℕ) → pointwise nat_eq xs ys ≡ true → xs ≡ ys
same_list [] [] h = refl
same_list [] (y ∷ ys) h = absurd (let no : ⊥ = cc in no)
same_list (x ∷ xs) [] h = absurd (let no : ⊥ = cc in no)
same_list (x ∷ xs) (y ∷ ys) h = let p = both (nat_eq x y) (pointwise nat_eq xs ys) h in ap₂ (λ a r. a ∷ r) (eqb-true x y p.0) (same_list xs ys p.1)

same_itself : (xs : List ℕ) → pointwise nat_eq xs xs ≡ true
same_itself [] = refl
same_itself (x ∷ xs) = and_from (nat_eq x x) (pointwise nat_eq xs xs) (eq-eqb x x refl) (same_itself xs)

-- a comparison for another list, by what the test said
pub differs : (xs ys : List ℕ) (b : Bool) → b ≡ not (pointwise nat_eq xs ys) → b ≡ true → xs ≡ ys → ⊥
differs xs ys b e h s =
    let same : pointwise nat_eq xs ys ≡ true = ap (pointwise nat_eq xs) (sym s) ∙ same_itself xs in
    let no : ⊥ = grind (arith, e, h, same) in no

pub differs_not : (xs ys : List ℕ) (b : Bool) → b ≡ not (pointwise nat_eq xs ys) → b ≡ false → xs ≡ ys
differs_not xs ys b e h = same_list xs ys (was_true (pointwise nat_eq xs ys) (sym e ∙ h))

-- the three parts of the first sixteen bytes
pub three_parts : (xs : List ℕ) → take 16 xs ≡ take 10 xs ++ (take 4 (drop 10 xs) ++ take 2 (drop 14 xs))
three_parts xs =
    let low : take 10 (take 16 xs) ≡ take 10 xs = take-take 10 16 xs (omega arith) in
    let high : drop 10 (take 16 xs) ≡ take 6 (drop 10 xs) = drop-take 10 6 xs in
    let mid : take 4 (take 6 (drop 10 xs)) ≡ take 4 (drop 10 xs) = take-take 4 6 (drop 10 xs) (omega arith) in
    let end : drop 4 (take 6 (drop 10 xs)) ≡ take 2 (drop 4 (drop 10 xs)) = drop-take 4 2 (drop 10 xs) in
    let seam : drop 4 (drop 10 xs) ≡ drop 14 xs = drop-drop 4 10 xs in
    sym (take-append-drop 10 (take 16 xs))
    ∙ ap₂ (λ a b. a ++ b) low (high ∙ sym (take-append-drop 4 (take 6 (drop 10 xs))) ∙ ap₂ (λ a b. a ++ b) mid (end ∙ ap (take 2) seam))

-- bytes between the front and the back are those of their number
pub found : (xs : List ℕ) (n : ℕ) → AreBytes xs → 16 ≤ length xs → take 10 xs ≡ front → take 2 (drop 14 xs) ≡ back → n < 2 ^ 32 → n ≡ number_of (take 4 (drop 10 xs)) → Jumps xs (signed_of 32 n)
unfolding Jumps sequence_of
found xs n are long f b small e =
    let four : length (take 4 (drop 10 xs)) ≡ 4 = length-take-le 4 (drop 10 xs) (omega (arith, length-drop 10 xs)) in
    let mid : take 4 (drop 10 xs) ≡ bytes_of 4 n =
    sym (bytes_of-number_of (take 4 (drop 10 xs)) (AreBytes-take 4 (drop 10 xs) (AreBytes-drop 10 xs are)))
    ∙ ap (λ k. bytes_of k (number_of (take 4 (drop 10 xs)))) four ∙ ap (bytes_of 4) (sym e) in
    let back_to : n ≡ bits_of 32 (signed_of 32 n) = sym (bits_of-signed_of 32 n (omega arith) small) in (
      IsSigned-signed_of 32 n (omega arith) small,
      three_parts xs ∙ ap₂ (λ a c. a ++ c) f (ap₂ (λ a c. a ++ c) (mid ∙ ap (bytes_of 4) back_to) b),
    )

length_from : (xs : List ℕ) → length (take 16 xs) ≡ 16 → 16 ≤ length xs
length_from xs e = omega (arith, e, length-take 16 xs)

-- a sequence has its front and its back
front_of : (z : ℤ) → take 10 (sequence_of z) ≡ front
unfolding sequence_of bytes_of
front_of z = refl

mid_of : (z : ℤ) → take 4 (drop 10 (sequence_of z)) ≡ imm32 z
unfolding sequence_of bytes_of
mid_of z = refl

drop_end : (z : ℤ) → drop 14 (sequence_of z) ≡ back
unfolding sequence_of bytes_of
drop_end z = refl

module _ (xs : List ℕ) (z : ℤ) (h : Jumps xs z) where
  is : take 16 xs ≡ sequence_of z
  unfolding Jumps
  is = h.1

  pub has_front : take 10 xs ≡ front
  has_front = sym (take-take 10 16 xs (omega arith)) ∙ ap (take 10) is ∙ front_of z

  pub has_back : take 2 (drop 14 xs) ≡ back
  has_back = sym (drop-take 14 2 xs) ∙ ap (drop 14) is ∙ drop_end z

  pub has_mid : take 4 (drop 10 xs) ≡ imm32 z
  has_mid = sym (take-take 4 6 (drop 10 xs) (omega arith)) ∙ ap (take 4) (sym (drop-take 10 6 xs)) ∙ ap (λ l. take 4 (drop 10 l)) is ∙ mid_of z

  pub has_length : 16 ≤ length xs
  has_length = length_from xs (ap length is ∙ length-sequence_of z)

-- the distance is that of its bytes
pub one_distance : (xs : List ℕ) (y z : ℤ) → Jumps xs y → Jumps xs z → y ≡ z
unfolding Jumps
one_distance xs y z h g =
    let same : imm32 y ≡ imm32 z = sym (has_mid xs y h) ∙ has_mid xs z g in
    let back_from : (x : ℤ) → IsSigned 32 x → signed_of 32 (number_of (imm32 x)) ≡ x =
    (λ x s. ap (signed_of 32) (number_of-bytes_of 4 (bits_of 32 x) (bits_of_lt 32 x (omega arith) s)) ∙ signed_of-bits_of 32 x (omega arith) s) in
    sym (back_from y h.0) ∙ ap (λ l. signed_of 32 (number_of l)) same ∙ back_from z g.0

pub leads_back : (z : ℤ) (rest : List ℕ) → IsSigned 32 z → Jumps (sequence_of z ++ rest) z
unfolding Jumps
leads_back z rest s = (s, take_at (sequence_of z) rest 16 (length-sequence_of z))
