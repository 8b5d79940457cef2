-- Runs of so many steps, and what they count.
use Rattle.std.proofs.Common.{◌≡◌, ℕ, zero, suc, ◌+◌, refl, sym, ap, ◌∙◌, zero-add, add_assoc}
use Rattle.std.proofs.Math.Nat.{suc-add}
use Rattle.ir_core.specs.Worlds.{Codes, World, End, Config, Ended, Wrong}
use Rattle.ir_core.specs.Steps.{step, steps}
use Rattle.ir_core.specs.Accounts.{counted}

pub stays_ended : (p : Codes) (n : ℕ) (o : End) (w : World) → steps p n (Ended o w) ≡ Ended o w
stays_ended p zero o w = refl
stays_ended p (suc n) o w = stays_ended p n o w

pub stays_wrong : (p : Codes) (n : ℕ) (w : World) → steps p n (Wrong w) ≡ Wrong w
stays_wrong p zero w = refl
stays_wrong p (suc n) w = stays_wrong p n w

pub sum_of_steps : (p : Codes) (m n : ℕ) (c : Config) → steps p (m + n) c ≡ steps p n (steps p m c)
sum_of_steps p zero n c = ap (λ k. steps p k c) (zero-add n)
sum_of_steps p (suc m) n c = ap (λ k. steps p k c) (suc-add m n) ∙ sum_of_steps p m n (step p c)

pub sum_of_counts : (cost : Config → ℕ) (p : Codes) (m n : ℕ) (c : Config) → counted cost p (m + n) c ≡ counted cost p m c + counted cost p n (steps p m c)
sum_of_counts cost p zero n c = ap (λ k. counted cost p k c) (zero-add n) ∙ sym (zero-add (counted cost p n c))
sum_of_counts cost p (suc m) n c =
    ap (λ k. counted cost p k c) (suc-add m n) ∙
    (ap (λ k. cost c + k) (sum_of_counts cost p m n (step p c)) ∙
    sym (add_assoc (cost c) (counted cost p m (step p c)) (counted cost p n (steps p m (step p c)))))
