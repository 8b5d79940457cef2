-- What a field leads to.
use Rattle.std.proofs.Common.{◌≡◌, ℕ, ℤ, pos, ◌+◌, ◌-◌, ◌*◌, ◌/◌, ◌%◌, ◌^◌, ◌<◌, inl, inr, ◌+ℤ◌, ◌-ℤ◌, ◌*ℤ◌, negsuc, ◌≤ℤ◌, int_div, Ok, refl, sym, ap, ap₂, ◌∙◌, arith}
use Rattle.std.proofs.Math.Nat.{div-add-mod, mul_comm, div-le_self}
use Rattle.std.proofs.lemmas.Bool.{cond-true, eq-eqb}
use Rattle.std.proofs.lemmas.Int.{ints}
use Rattle.hx_words.specs.TwosComplement.{signed_of, bits_of, IsSigned}
use Rattle.hx_words.proofs.TwosComplementLaws.{signed_of-bits_of, bits_of_lt}
use Rattle.hx_bits.specs.Bits.{field_of, with_field}
use Rattle.hx_bits.proofs.FieldLaws.{field_of-with_field, field_of-with_field_apart}
use Rattle.hx_names.specs.declared.pieces.SiteKind.TheVariants.{Addr64, Addr32Nb, Rel32, Branch26, PageBaseRel21, PageOffset12A, PageOffset12L}
use Rattle.link_reloc.specs.Sites.{becomes, page_field, with_page, access_size}
use Rattle.link_reloc.proofs.Passed.{fits_value, was_zero, was_multiple, was_within, was_signed, four_times, is_signed}

around : (a t n : ℤ) → a +ℤ (t -ℤ a +ℤ n) ≡ t +ℤ n
around a t n = omega (arith, ints)

there : (a t : ℤ) → a +ℤ (t -ℤ a) ≡ t
there a t = omega (arith, ints)

pub address : (s t b w v : ℕ) → becomes Addr64 s t b w ≡ Ok v → v ≡ (b + t + w) % 2 ^ 64
unfolding becomes
address s t b w v h = sym (fits_value ((b + t + w) % 2 ^ 64) v h)

natural : (z : ℤ) → pos 0 ≤ℤ z → pos (bits_of 32 z) ≡ z
natural (pos n) h = refl
natural (negsuc n) h = absurd (let no : ⊥ = omega (arith, ints, h) in no)

pub place : (s t b w v : ℕ) → becomes Addr32Nb s t b w ≡ Ok v → pos v ≡ pos t +ℤ signed_of 32 w
unfolding becomes
place s t b w v h =
    let z = pos t +ℤ signed_of 32 w in
    let p = was_within (pos 0) (pos (2 ^ 32 - 1)) (pos t +ℤ signed_of 32 w) (λ z. bits_of 32 z) v h in
    ap pos (sym p.1) ∙ natural (pos t +ℤ signed_of 32 w) p.0.0

pub relative : (s t b w v : ℕ) → becomes Rel32 s t b w ≡ Ok v → pos (s + 4) +ℤ signed_of 32 v ≡ pos t +ℤ signed_of 32 w
unfolding becomes
relative s t b w v h =
    let p = was_signed 32 (pos t -ℤ pos (s + 4) +ℤ signed_of 32 w) (λ z. bits_of 32 z) v (omega arith) h in
    let e : signed_of 32 v ≡ pos t -ℤ pos (s + 4) +ℤ signed_of 32 w = ap (signed_of 32) (sym p.1) ∙ signed_of-bits_of 32 (pos t -ℤ pos (s + 4) +ℤ signed_of 32 w) (omega arith) p.0 in
    ap (λ z. pos (s + 4) +ℤ z) e ∙ around (pos (s + 4)) (pos t) (signed_of 32 w)

-- the bits that a field holds
branch_field : (w v : ℕ) (z : ℤ) → IsSigned 26 z → with_field 0 26 w (bits_of 26 z) ≡ v → signed_of 26 (field_of 0 26 v) ≡ z
branch_field w v z s e =
    ap (λ v. signed_of 26 (field_of 0 26 v)) (sym e) ∙ ap (signed_of 26) (field_of-with_field 0 26 w (bits_of 26 z) (bits_of_lt 26 z (omega arith) s)) ∙ signed_of-bits_of 26 z (omega arith) s

pub branch : (s t b w v : ℕ) → becomes Branch26 s t b w ≡ Ok v → pos s +ℤ pos 4 *ℤ signed_of 26 (field_of 0 26 v) ≡ pos t
unfolding becomes
branch s t b w v h =
    let d = pos t -ℤ pos s in
    let p = was_zero (field_of 0 26 w) _ v h in
    let q = was_multiple 4 (pos t -ℤ pos s) _ v p.1 in
    let r = was_signed 26 (int_div (pos t -ℤ pos s) (pos 4)) (λ z. with_field 0 26 w (bits_of 26 z)) v (omega arith) q.1 in
    ap (λ z. pos s +ℤ pos 4 *ℤ z) (branch_field w v (int_div (pos t -ℤ pos s) (pos 4)) r.0 r.1)
    ∙ ap (λ z. pos s +ℤ z) (four_times (pos t -ℤ pos s) q.0) ∙ there (pos s) (pos t)

-- the 21 bits in their two fields
page_bits : (w bits : ℕ) → bits < 2 ^ 21 → page_field (with_page w bits) ≡ bits
page_bits w bits h =
    let x = with_field 5 19 w (bits / 4) in
    let high : field_of 5 19 (with_page w bits) ≡ bits / 4 =
    field_of-with_field_apart 29 2 (with_field 5 19 w (bits / 4)) (bits % 4) (omega arith) 5 19 (inl (omega arith))
    ∙ field_of-with_field 5 19 w (bits / 4) (omega arith) in
    let low : field_of 29 2 (with_page w bits) ≡ bits % 4 = field_of-with_field 29 2 (with_field 5 19 w (bits / 4)) (bits % 4) (omega arith) in
    ap₂ (λ a c. 4 * a + c) high low ∙ div-add-mod bits 4

pub page_base : (s t b w v : ℕ) → becomes PageBaseRel21 s t b w ≡ Ok v → pos (s / 4096) +ℤ signed_of 21 (page_field v) ≡ pos (t / 4096)
unfolding becomes
page_base s t b w v h =
    let p = was_zero (page_field w) _ v h in
    let z = pos (t / 4096) -ℤ pos (s / 4096) in
    let r = was_signed 21 (pos (t / 4096) -ℤ pos (s / 4096)) (λ z. with_page w (bits_of 21 z)) v (omega arith) p.1 in
    let e : signed_of 21 (page_field v) ≡ pos (t / 4096) -ℤ pos (s / 4096) =
    ap (λ v. signed_of 21 (page_field v)) (sym r.1)
    ∙ ap (signed_of 21) (page_bits w (bits_of 21 (pos (t / 4096) -ℤ pos (s / 4096))) (bits_of_lt 21 _ (omega arith) r.0))
    ∙ signed_of-bits_of 21 (pos (t / 4096) -ℤ pos (s / 4096)) (omega arith) r.0 in
    ap (λ z. pos (s / 4096) +ℤ z) e ∙ there (pos (s / 4096)) (pos (t / 4096))

pub near : (s t b w : ℕ) → s < 2 ^ 32 → t < 2 ^ 32 → page_field w ≡ 0 → (v : ℕ) × (becomes PageBaseRel21 s t b w ≡ Ok v)
unfolding becomes
near s t b w hs ht e =
    let a : s / 4096 < 2 ^ 20 = omega (arith, hs) in
    let c : t / 4096 < 2 ^ 20 = omega (arith, ht) in (
      with_page w (bits_of 21 (pos (t / 4096) -ℤ pos (s / 4096))),
      cond-true _ _ _ (eq-eqb (page_field w) 0 e)
          ∙ is_signed 21 (pos (t / 4096) -ℤ pos (s / 4096)) (λ z. with_page w (bits_of 21 z)) (omega (arith, ints, a, c)) (omega (arith, ints, a, c)),
    )

pub offset : (s t b w v : ℕ) → becomes PageOffset12A s t b w ≡ Ok v → field_of 10 12 v ≡ t % 4096
unfolding becomes
offset s t b w v h =
    let p = was_zero (field_of 10 12 w) _ v h in
    ap (field_of 10 12) (sym (fits_value _ v p.1)) ∙ field_of-with_field 10 12 w (t % 4096) (omega arith)

exact : (n k : ℕ) → n % k ≡ 0 → n / k * k ≡ n
exact n k h = omega (arith, div-add-mod n k, h, mul_comm k (n / k))

pub access : (s t b w v : ℕ) → becomes PageOffset12L s t b w ≡ Ok v → field_of 10 12 v * access_size v ≡ t % 4096
unfolding becomes
access s t b w v h =
    let p = was_zero (field_of 10 12 w) _ v h in
    let q = was_multiple (access_size w) (pos (t % 4096)) _ v p.1 in
    let e : with_field 10 12 w (t % 4096 / access_size w) ≡ v = fits_value _ v q.1 in
    let small : t % 4096 / access_size w < 2 ^ 12 = omega (arith, div-le_self (t % 4096) (access_size w)) in
    let f : field_of 10 12 v ≡ t % 4096 / access_size w = ap (field_of 10 12) (sym e) ∙ field_of-with_field 10 12 w (t % 4096 / access_size w) small in
    let g : access_size v ≡ access_size w = ap access_size (sym e) ∙ ap (λ k. 2 ^ k) (field_of-with_field_apart 10 12 w (t % 4096 / access_size w) small 30 2 (inr (omega arith))) in
    ap₂ (λ a c. a * c) f g ∙ exact (t % 4096) (access_size w) q.0
