-- Steps that may answer nothing, one after another.
use Rattle.std.proofs.Common.{◌≡◌, Bool, true, false, cond, Option, Some, None, refl, ap, ◌∙◌}
use Rattle.std.proofs.lemmas.Option.{none-some}
use Rattle.first_form.specs.Scanning.{◌>>=◌}

pub bind_some : {A B : Type 0} (o : Option A) (f : A → Option B) (y : B) → (o >>= f) ≡ Some y → (x : A) × (o ≡ Some x) × (f x ≡ Some y)
bind_some None f y h = absurd (none-some y h)
bind_some (Some x) f y h = (x, refl, h)

pub some_bind : {A B : Type 0} (o : Option A) (f : A → Option B) (x : A) (r : Option B) → o ≡ Some x → f x ≡ r → (o >>= f) ≡ r
some_bind o f x r h g = ap (λ p. p >>= f) h ∙ g

pub unless_some : {A : Type 0} (b : Bool) (o : Option A) (y : A) → cond b None o ≡ Some y → (b ≡ false) × (o ≡ Some y)
unless_some true o y h = absurd (none-some y h)
unless_some false o y h = (refl, h)

pub some_unless : {A : Type 0} (b : Bool) (o r : Option A) → b ≡ false → o ≡ r → cond b None o ≡ r
some_unless b o r h g = ap (λ c. cond c None o) h ∙ g
