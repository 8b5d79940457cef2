-- Fields that are read, put and cut further.
use Rattle.std.proofs.Common.{◌≡◌, ℕ, ◌+◌, ◌-◌, ◌*◌, ◌/◌, ◌%◌, ◌^◌, ◌<◌, ◌≤◌, ◌⊎◌, arith, sym, ap, ◌∙◌, subst, mod-lt, ⊎_elim}
use Rattle.std.proofs.Math.Arith.{mod-mul}
use Rattle.std.proofs.Math.Pow.{mod-mod-pow}
use Rattle.std.proofs.Math.Nat.{div-div-eq-div-mul, mul_comm, mod-mod, mod-eq_of_lt, div-one}
use Rattle.std.proofs.lemmas.Nat.{pow-add, pow_pos, mod-mul-add, div-mul-add, div-add-mod'}
use Rattle.hx_bits.specs.Bits.{field_of, with_field}
use Rattle.hx_bits.proofs.Cuts.{below_with_pow}

-- a power of a sum, the low part last
cut_at : (lo len : ℕ) → 2 ^ (lo + len) ≡ 2 ^ len * 2 ^ lo
cut_at lo len = pow-add 2 lo len ∙ mul_comm (2 ^ lo) (2 ^ len)

-- a field is below its bound
pub field_of_lt : (lo len w : ℕ) → field_of lo len w < 2 ^ len
field_of_lt lo len w = mod-lt (w / 2 ^ lo) (pow_pos len)

-- the low part of a word, as the field above some bits and these bits
low_part : (lo len w : ℕ) → w % 2 ^ (lo + len) ≡ field_of lo len w * 2 ^ lo + w % 2 ^ lo
low_part lo len w = ap (λ k. w % k) (cut_at lo len) ∙ mod-mul w {m = 2 ^ len} {c = 2 ^ lo} (pow_pos len) (pow_pos lo)

-- so a field is a part of the low bits that hold it
field_of_low : (lo len w : ℕ) → w % 2 ^ (lo + len) / 2 ^ lo ≡ field_of lo len w
field_of_low lo len w =
    ap (λ k. k / 2 ^ lo) (low_part lo len w) ∙ div-mul-add (field_of lo len w) (2 ^ lo) (w % 2 ^ lo) (mod-lt w (pow_pos lo))

-- words with the same low bits have the same fields there
pub field_of-same_low : (lo len k w x : ℕ) → w % 2 ^ (k + (lo + len)) ≡ x % 2 ^ (k + (lo + len)) → field_of lo len w ≡ field_of lo len x
field_of-same_low lo len k w x e =
    sym (field_of_low lo len w)
    ∙ ap (λ m. m / 2 ^ lo) (sym (mod-mod-pow w k (lo + len)) ∙ ap (λ m. m % 2 ^ (lo + len)) e ∙ mod-mod-pow x k (lo + len))
    ∙ field_of_low lo len x

-- and words with the same high bits have the same fields there
pub field_of-same_high : (lo len k w x : ℕ) → w / 2 ^ lo ≡ x / 2 ^ lo → field_of (lo + k) len w ≡ field_of (lo + k) len x
field_of-same_high lo len k w x e =
    let up : (n : ℕ) → n / 2 ^ (lo + k) ≡ n / 2 ^ lo / 2 ^ k = λ n. ap (λ m. n / m) (pow-add 2 lo k) ∙ sym (div-div-eq-div-mul n (2 ^ lo) (2 ^ k)) in
    ap (λ m. m % 2 ^ len) (up w ∙ ap (λ m. m / 2 ^ k) e ∙ sym (up x))

-- the parts of a word with a field put into it
module _ (lo len w v : ℕ) (fits : v < 2 ^ len) where
  two_parts : with_field lo len w v ≡ (w / 2 ^ (lo + len) * 2 ^ len + v) * 2 ^ lo + w % 2 ^ lo
  two_parts = ap (λ k. w / 2 ^ (lo + len) * k + v * 2 ^ lo + w % 2 ^ lo) (cut_at lo len) ∙ grouped (w / 2 ^ (lo + len)) (2 ^ len) (2 ^ lo) v (w % 2 ^ lo)
    where
      grouped : (q b a v r : ℕ) → q * (b * a) + v * a + r ≡ (q * b + v) * a + r
      grouped q b a v r = omega arith

  high_of-with_field : with_field lo len w v / 2 ^ lo ≡ w / 2 ^ (lo + len) * 2 ^ len + v
  high_of-with_field = ap (λ k. k / 2 ^ lo) two_parts ∙ div-mul-add (w / 2 ^ (lo + len) * 2 ^ len + v) (2 ^ lo) (w % 2 ^ lo) (mod-lt w (pow_pos lo))

  low_of-with_field : with_field lo len w v % 2 ^ lo ≡ w % 2 ^ lo
  low_of-with_field = ap (λ k. k % 2 ^ lo) two_parts ∙ mod-mul-add (w / 2 ^ (lo + len) * 2 ^ len + v) (2 ^ lo) (w % 2 ^ lo) (mod-lt w (pow_pos lo))

  -- a field that was put is read back
  pub field_of-with_field : field_of lo len (with_field lo len w v) ≡ v
  field_of-with_field = ap (λ k. k % 2 ^ len) high_of-with_field ∙ mod-mul-add (w / 2 ^ (lo + len)) (2 ^ len) v fits

  above_with_field : with_field lo len w v / 2 ^ (lo + len) ≡ w / 2 ^ (lo + len)
  above_with_field =
      ap (λ k. with_field lo len w v / k) (pow-add 2 lo len) ∙ sym (div-div-eq-div-mul (with_field lo len w v) (2 ^ lo) (2 ^ len))
      ∙ ap (λ k. k / 2 ^ len) high_of-with_field ∙ div-mul-add (w / 2 ^ (lo + len)) (2 ^ len) v fits

  -- the fields below and above it are kept
  pub field_of-with_field_below : (at n : ℕ) → at + n ≤ lo → field_of at n (with_field lo len w v) ≡ field_of at n w
  field_of-with_field_below at n h =
      let k = lo - (at + n) in
      let e : lo ≡ k + (at + n) = omega arith in
      field_of-same_low at n k (with_field lo len w v) w (subst (λ m. with_field lo len w v % 2 ^ m ≡ w % 2 ^ m) e low_of-with_field)

  pub field_of-with_field_above : (at n : ℕ) → lo + len ≤ at → field_of at n (with_field lo len w v) ≡ field_of at n w
  field_of-with_field_above at n h =
      let k = at - (lo + len) in
      let e : lo + len + k ≡ at = omega arith in
      subst (λ m. field_of m n (with_field lo len w v) ≡ field_of m n w) e (field_of-same_high (lo + len) n k (with_field lo len w v) w above_with_field)

  pub field_of-with_field_apart : (at n : ℕ) → (at + n ≤ lo) ⊎ (lo + len ≤ at) → field_of at n (with_field lo len w v) ≡ field_of at n w
  field_of-with_field_apart at n d = ⊎_elim (λ h. field_of-with_field_below at n h) (λ h. field_of-with_field_above at n h) d

  -- the last of two puts stays
  pub with_field-with_field : (u : ℕ) → with_field lo len (with_field lo len w v) u ≡ with_field lo len w u
  with_field-with_field u = ap (λ k. k * 2 ^ (lo + len) + u * 2 ^ lo + with_field lo len w v % 2 ^ lo) above_with_field ∙ ap (λ k. w / 2 ^ (lo + len) * 2 ^ (lo + len) + u * 2 ^ lo + k) low_of-with_field

-- a put of what was read changes nothing
pub with_field-field_of : (lo len w : ℕ) → with_field lo len w (field_of lo len w) ≡ w
with_field-field_of lo len w =
    let whole : w / 2 ^ (lo + len) * 2 ^ (lo + len) + w % 2 ^ (lo + len) ≡ w = div-add-mod' w (2 ^ (lo + len)) in
    let low = low_part lo len w in
    grouped (w / 2 ^ (lo + len) * 2 ^ (lo + len)) (field_of lo len w * 2 ^ lo) (w % 2 ^ lo) (w % 2 ^ (lo + len)) w low whole
  where
    grouped : (a b c d w : ℕ) → d ≡ b + c → a + d ≡ w → a + b + c ≡ w
    grouped a b c d w e f = omega arith

-- a field of a field is a field of the word
pub field_of-field_of : (lo len at n w : ℕ) → at + n ≤ len → field_of at n (field_of lo len w) ≡ field_of (lo + at) n w
field_of-field_of lo len at n w h =
    let k = len - (at + n) in
    let e : k + (at + n) ≡ len = omega arith in
    let same : w / 2 ^ lo % 2 ^ len % 2 ^ (k + (at + n)) ≡ w / 2 ^ lo % 2 ^ (k + (at + n)) =
    subst (λ m. w / 2 ^ lo % 2 ^ m % 2 ^ (k + (at + n)) ≡ w / 2 ^ lo % 2 ^ (k + (at + n))) e (mod-mod (w / 2 ^ lo) (2 ^ (k + (at + n)))) in
    field_of-same_low at n k (field_of lo len w) (w / 2 ^ lo) same
    ∙ ap (λ m. m % 2 ^ n) (div-div-eq-div-mul w (2 ^ lo) (2 ^ at) ∙ ap (λ m. w / m) (sym (pow-add 2 lo at)))

-- a word of 32 bits stays one
pub with_field_lt : (lo len w v : ℕ) → lo + len ≤ 32 → w < 2 ^ 32 → v < 2 ^ len → with_field lo len w v < 2 ^ 32
with_field_lt = below_with_pow

-- the field of all bits is the word, and a put of it replaces the word
pub field_of-all : (len w : ℕ) → w < 2 ^ len → field_of 0 len w ≡ w
field_of-all len w h = ap (λ k. k % 2 ^ len) (div-one w) ∙ mod-eq_of_lt h
