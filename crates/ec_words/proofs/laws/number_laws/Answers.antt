use Rattle.std.proofs.Common.{◌≡◌, ◌<◌, ◌≤◌, ◌+◌, ◌*◌, ◌^◌, ◌&&◌, ◌==◌, ℕ, Bool, true, false, List, [], ◌∷◌, length, Some, None, if◌then◌else◌, nat_lt, refl, sym, ap, ap₂, subst, ◌∙◌, arith, lt-ltb, ltb-true}
use Rattle.std.proofs.lemmas.Bool.Decides.{nat_tests}
use Rattle.std.specs.Str.Parse.{digits_value, digits_value_after}
use Rattle.ec_words.specs.Numbers.{number_in, number_of, are_digits}
use Rattle.ec_words.proofs.Walks.{and_right}
use Rattle.ec_words.proofs.laws.number_laws.Goals as goal

abbrev passes : ℕ → List ℕ → Bool
passes base ds = nat_lt 0 (length ds) && (are_digits base ds && nat_lt (digits_value base ds) (2 ^ 64))

below_in : (base : ℕ) (ds : List ℕ) (n : ℕ) → number_in base ds ≡ Some n → n < 2 ^ 64
below_in base ds n e = go (passes base ds) refl e
  where
    go : (b : Bool) → passes base ds ≡ b → (if b then Some (digits_value base ds) else None) ≡ Some n → n < 2 ^ 64
    go true h is =
        let value : digits_value base ds ≡ n = cc in
        let small : nat_lt (digits_value base ds) (2 ^ 64) ≡ true = and_right (are_digits base ds) _ (and_right (nat_lt 0 (length ds)) _ h) in
        subst (λ m. m < 2 ^ 64) value (ltb-true (digits_value base ds) (2 ^ 64) small)
    go false h is = absurd (cc)

below : (text : List ℕ) (n : ℕ) → number_of text ≡ Some n → n < 2 ^ 64
below [] n e = below_in 10 [] n e
below (a ∷ []) n e = below_in 10 (a ∷ []) n e
below (a ∷ (b ∷ rest)) n e = go ((a == 48) && (b == 120)) e
  where
    go : (t : Bool) → (if t then number_in 16 rest else number_in 10 (a ∷ (b ∷ rest))) ≡ Some n → n < 2 ^ 64
    go true is = below_in 16 rest n is
    go false is = below_in 10 (a ∷ (b ∷ rest)) n is

zeros : (base digit : ℕ) (digits : List ℕ) → 1 ≤ base → number_in base (48 ∷ digit ∷ digits) ≡ number_in base (digit ∷ digits)
zeros base digit digits some =
    let ds : List ℕ = digit ∷ digits in
    let is_digit : nat_lt 0 base ≡ true = lt-ltb 0 base (omega arith) in
    let nothing : 0 * base + 0 ≡ 0 = omega arith in
    let longer : nat_lt 0 (length (48 ∷ digit ∷ digits)) ≡ true = lt-ltb 0 (length (48 ∷ digit ∷ digits)) (omega arith) in
    let long : nat_lt 0 (length (digit ∷ digits)) ≡ true = lt-ltb 0 (length (digit ∷ digits)) (omega arith) in
    ap₂ (λ t v. if nat_lt 0 (length (48 ∷ digit ∷ digits)) && ((t && are_digits base (digit ∷ digits)) && nat_lt (digits_value_after base v (digit ∷ digits)) (2 ^ 64)) then Some (digits_value_after base v (digit ∷ digits)) else None) is_digit nothing
    ∙ ap (λ t. if t && (are_digits base (digit ∷ digits) && nat_lt (digits_value base (digit ∷ digits)) (2 ^ 64)) then Some (digits_value base (digit ∷ digits)) else None) (longer ∙ sym long)

pub returns : goal.returns
returns c = record {
  below = below;
  zeros = zeros;
  «prefix» = refl;
  letters = λ x low high. grind (arith, nat_tests);
  multiple = λ n. omega arith;
  least = λ n. (omega arith, omega arith);
}
