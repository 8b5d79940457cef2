-- The draws of function k follow those of the functions before it.
use Rattle.std.proofs.Common.{◌≡◌, ℕ, ◌+◌, ◌-◌, ◌*◌, ◌<◌, sym, ap, ◌∙◌, add-one, arith}
use Rattle.case_gen.specs.declared.units.Form.{Form}
use Rattle.case_gen.specs.declared.units.Choice.{Choice}
use Rattle.case_gen.specs.Numbers.{next_of, state_at}

one_more : (number n : ℕ) → state_at number (n + 1) ≡ next_of (state_at number n)
one_more number n = ap (state_at number) (add-one n)

pub first_draw : (number k : ℕ) → 0 < k → next_of (state_at number (3 * (k - 1))) ≡ state_at number (3 * k - 2)
first_draw number k h =
    let e : 3 * (k - 1) + 1 ≡ 3 * k - 2 = omega arith in
    sym (one_more number (3 * (k - 1))) ∙ ap (state_at number) e

pub second_draw : (number k : ℕ) → 0 < k → next_of (state_at number (3 * k - 2)) ≡ state_at number (3 * k - 1)
second_draw number k h =
    let e : 3 * k - 2 + 1 ≡ 3 * k - 1 = omega arith in
    sym (one_more number (3 * k - 2)) ∙ ap (state_at number) e

pub third_draw : (number k : ℕ) → 0 < k → next_of (state_at number (3 * k - 1)) ≡ state_at number (3 * k)
third_draw number k h =
    let e : 3 * k - 1 + 1 ≡ 3 * k = omega arith in
    sym (one_more number (3 * k - 1)) ∙ ap (state_at number) e

abbrev pub made : Form → ℕ → ℕ → Choice
made form target held = record { form = form; target = target; held = held }

pub same_choice : (form form2 : Form) (target target2 held held2 : ℕ) → form ≡ form2 → target ≡ target2 → held ≡ held2
    → made form target held ≡ made form2 target2 held2
same_choice form form2 target target2 held held2 f t h =
    ap (λ x. made x target held) f ∙ ap (λ x. made form2 x held) t ∙ ap (λ x. made form2 target2 x) h

pub no_draw : (number k : ℕ) → k ≡ 0 → state_at number (3 * (k - 1)) ≡ state_at number (3 * k)
no_draw number k h =
    let e : 3 * (k - 1) ≡ 3 * k = omega (arith, h) in
    ap (state_at number) e
