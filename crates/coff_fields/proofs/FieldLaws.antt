-- Auxiliary records are skipped one by one.
use Rattle.std.proofs.Common.{◌≡◌, ◌≢◌, ℕ, List, ◌+◌, ◌-◌, refl, sym, ◌∙◌, add-one}
use Rattle.std.proofs.lemmas.Bool.{ne_eqb}
use Rattle.coff_fields.specs.Fields.{skip_at, auxiliary_count}

pub skip_first : (b : List ℕ) (j n : ℕ) → n ≡ skip_at b j → n ≡ 0 → auxiliary_count b j ≡ skip_at b (j + 1)
unfolding skip_at
skip_first b j n e z = rw (add-one, sym e ∙ z) refl

pub skip_next : (b : List ℕ) (j n : ℕ) → n ≡ skip_at b j → n ≢ 0 → n - 1 ≡ skip_at b (j + 1)
unfolding skip_at
skip_next b j n e ne = rw (add-one, sym e, ne_eqb n 0 ne) refl

pub skip_none : (b : List ℕ) → 0 ≡ skip_at b 0
unfolding skip_at
skip_none b = refl
