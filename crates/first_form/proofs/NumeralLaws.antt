-- What the scanner reads as a numeral is one, and it reads each.
use Rattle.std.proofs.Common.{◌≡◌, ℕ, ◌+◌, ◌-◌, ◌*◌, ◌<◌, ◌≤◌, true, cond, List, [], ◌∷◌, length, Some, None, refl, ap, ◌∙◌, arith}
use Rattle.std.proofs.lemmas.Bool.{and_parts, and_from, ne_eqb, eqb-false}
use Rattle.std.proofs.lemmas.Option.{none-some, same_Some, cond_some}
use Rattle.first_form.specs.FirstForm.{is_digit, AreDigits, IsNumeral}
use Rattle.first_form.specs.Scanning.{digit_at, numeral_at}
use Rattle.first_form.proofs.Binds.{bind_some, some_bind, unless_some, some_unless}

digit_found : (b x : ℕ) → digit_at b ≡ Some x → (is_digit b ≡ true) × (b - 48 ≡ x)
unfolding digit_at
digit_found b x h = cond_some (is_digit b) (b - 48) x h

digit_again : (b : ℕ) → is_digit b ≡ true → digit_at b ≡ Some (b - 48)
unfolding digit_at
digit_again b h = ap (λ c. cond c (Some (b - 48)) None) h

two_digits : (a b : ℕ) → is_digit a ≡ true → is_digit b ≡ true → AreDigits (a ∷ b ∷ [])
two_digits a b ha hb = and_from (is_digit a) _ ha (and_from (is_digit b) true hb refl)

three_digits : (a b c : ℕ) → is_digit a ≡ true → is_digit b ≡ true → is_digit c ≡ true → AreDigits (a ∷ b ∷ c ∷ [])
three_digits a b c ha hb hc = and_from (is_digit a) _ ha (two_digits b c hb hc)

pub numeral_found : (text : List ℕ) (n : ℕ) → numeral_at text ≡ Some n → IsNumeral text n
unfolding numeral_at
numeral_found [] n h = absurd (none-some n h)
numeral_found (a ∷ []) n h =
    let x = digit_found a n h in
    record { digits = and_from (is_digit a) true x.0 refl; some = omega arith; short = omega arith; leading = λ _. refl; value = omega arith }
numeral_found (a ∷ b ∷ []) n h =
    let g = unless_some _ _ n h in
    let x = bind_some _ _ n g.1 in
    let y = bind_some _ _ n x.2 in
    let dx = digit_found a x.0 x.1 in
    let dy = digit_found b y.0 y.1 in
    let v : 10 * x.0 + y.0 ≡ n = same_Some _ _ y.2 in
    record { digits = two_digits a b dx.0 dy.0; some = omega arith; short = omega arith; leading = λ e. absurd (eqb-false a 48 g.0 e); value = omega arith }
numeral_found (a ∷ b ∷ c ∷ []) n h =
    let g = unless_some _ _ n h in
    let x = bind_some _ _ n g.1 in
    let y = bind_some _ _ n x.2 in
    let z = bind_some _ _ n y.2 in
    let dx = digit_found a x.0 x.1 in
    let dy = digit_found b y.0 y.1 in
    let dz = digit_found c z.0 z.1 in
    let v : 100 * x.0 + 10 * y.0 + z.0 ≡ n = same_Some _ _ z.2 in
    record { digits = three_digits a b c dx.0 dy.0 dz.0; some = omega arith; short = omega arith; leading = λ e. absurd (eqb-false a 48 g.0 e); value = omega arith }
numeral_found (a ∷ b ∷ c ∷ d ∷ ds) n h = absurd (none-some n h)

pub numeral_again : (text : List ℕ) (n : ℕ) → IsNumeral text n → numeral_at text ≡ Some n
unfolding numeral_at
numeral_again [] n h = absurd (let p : 0 < length {A = ℕ} [] = h.some in omega arith)
numeral_again (a ∷ []) n h =
    let parts = and_parts (is_digit a) true h.digits in
    digit_again a parts.0 ∙ ap Some (omega (arith, h.value))
numeral_again (a ∷ b ∷ []) n h =
    let pa = and_parts (is_digit a) _ h.digits in
    let pb = and_parts (is_digit b) true pa.1 in
    some_unless _ _ _ (ne_eqb a 48 (λ e. let two : 2 ≡ 1 = h.leading e in omega arith))
    (some_bind _ _ (a - 48) _ (digit_again a pa.0)
    (some_bind _ _ (b - 48) _ (digit_again b pb.0)
    (ap Some (omega (arith, h.value)))))
numeral_again (a ∷ b ∷ c ∷ []) n h =
    let pa = and_parts (is_digit a) _ h.digits in
    let pb = and_parts (is_digit b) _ pa.1 in
    let pc = and_parts (is_digit c) true pb.1 in
    some_unless _ _ _ (ne_eqb a 48 (λ e. let three : 3 ≡ 1 = h.leading e in omega arith))
    (some_bind _ _ (a - 48) _ (digit_again a pa.0)
    (some_bind _ _ (b - 48) _ (digit_again b pb.0)
    (some_bind _ _ (c - 48) _ (digit_again c pc.0)
    (ap Some (omega (arith, h.value))))))
numeral_again (a ∷ b ∷ c ∷ d ∷ ds) n h = absurd (let p : length (a ∷ b ∷ c ∷ d ∷ ds) ≤ 3 = h.short in omega arith)
