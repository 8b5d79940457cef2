-- What the reader's tests decide.
use Rattle.std.proofs.Common.{◌≡◌, ℕ, true, false, List, Ok, Err, refl, sym, ap, ◌∙◌}
use Rattle.chpe_types.specs.declared.image.Meta.{Meta}
use Rattle.chpe_meta.specs.declared.refusal.MetaRefusal.TheVariants.{Bad}
use Rattle.chpe_meta.specs.Allowed.{in_order}
use Rattle.chpe_meta.specs.Reading.{bad_places, bad_meta, meta_in, meta_of}

pub places_refused : (b : List ℕ) (at : ℕ) → true ≡ bad_places b at → meta_of b at ≡ Err Bad
unfolding meta_of bad_meta
places_refused b at t = rw (sym t) refl

pub order_refused : (b : List ℕ) (at : ℕ) (m : Meta) → bad_places b at ≡ false → m ≡ meta_in b at → false ≡ in_order m → meta_of b at ≡ Err Bad
unfolding meta_of bad_meta
order_refused b at m f e g = let h : in_order (meta_in b at) ≡ false = ap (λ (x : Meta). in_order x) (sym e) ∙ sym g in rw (f, h) refl

pub is_read : (b : List ℕ) (at : ℕ) (m : Meta) → bad_places b at ≡ false → m ≡ meta_in b at → true ≡ in_order m → meta_of b at ≡ Ok m
unfolding meta_of bad_meta
is_read b at m f e g = let h : in_order (meta_in b at) ≡ true = ap (λ (x : Meta). in_order x) (sym e) ∙ sym g in rw (f, h) (ap (λ (x : Meta). Ok x) (sym e))
