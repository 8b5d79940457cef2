-- An image that a file has meets what the loader asks of it.
use Rattle.std.proofs.Common.{◌≡◌, ℕ, ◌%◌, ◌<◌, false, true, not, eqb, List, Ok, subst}
use Rattle.std.proofs.lemmas.Bool.{and_parts, or_parts, not-false, ltb-false, eqb-true}
use Rattle.file_words.specs.Firsts.{NoneHolds}
use Rattle.file_words.proofs.BelowLaws.{none_below}
use Rattle.file_words.proofs.FirstLaws.{first_accepted}
use Rattle.chpe_types.specs.declared.image.Image.{Image}
use Rattle.chpe_types.specs.Looks.{valid_meta_of}
use Rattle.chpe_meta.specs.Allowed.{in_order}
use Rattle.chpe_meta.specs.Reading.{bad_places, bad_meta, meta_in}
use Rattle.pe_fields.specs.Headers.{section_count, sections, stack}
use Rattle.pe_fields.specs.Space.{rest_at}
use Rattle.pe_fields.specs.Hybrid.{bad_hybrid}
use Rattle.pe_read.specs.Refusals.{holds, refusals, bad_stack, bad_section, bad_section_range, header_rva, bad_metadata}
use Rattle.pe_read.specs.Images.{image_in, image_of}
use Rattle.pe_loader.specs.Loading.{CanLoad, IsStack}
use Rattle.image_laws.proofs.SectionLaws.{placed, held}
use Rattle.image_laws.proofs.ImportLaws.{imports_lie}

stack_fits : (b : List ℕ) → bad_stack b ≡ false → IsStack (stack b)
unfolding bad_stack
stack_fits b f =
    let h = or_parts (not (eqb (stack b % 4096) 0)) _ f in
    record { pages = eqb-true (stack b % 4096) 0 (not-false (eqb (stack b % 4096) 0) h.0); most = ltb-false 268435456 (stack b) h.1 }

good_section : (b : List ℕ) → bad_section_range b ≡ false → (i : ℕ) → i < section_count b → bad_section b i ≡ false
unfolding bad_section_range
good_section b f i lt = none_below (bad_section b) (section_count b) i f lt

no_bad_meta : (b : List ℕ) → bad_metadata b ≡ false → bad_meta (rest_at (sections b) (header_rva b)) (header_rva b) ≡ false
unfolding bad_metadata bad_hybrid
no_bad_meta b f = (or_parts (bad_meta (rest_at (sections b) (header_rva b)) (header_rva b)) _ f).0

ordered : (r : List ℕ) (at : ℕ) → bad_meta r at ≡ false → valid_meta_of (meta_in r at) ≡ true
unfolding bad_meta
ordered r at f = (and_parts (valid_meta_of (meta_in r at)) _ (not-false (in_order (meta_in r at)) (or_parts (bad_places r at) _ f).1)).0

meets : (b : List ℕ) → NoneHolds (holds b) refusals → CanLoad (image_in b)
unfolding image_in sections
meets b none = record {
  stack = stack_fits b none.1.1.1.1.1.1.1.1.1.1.0;
  order = (placed b (section_count b) (good_section b none.1.1.1.1.1.1.1.1.1.1.1.1.0)).0;
  contents = held b (section_count b);
  slots = imports_lie b none.1.1.1.1.1.1.1.1.1.1.1.1.1.1.0;
  meta = ordered (rest_at (sections b) (header_rva b)) (header_rva b) (no_bad_meta b none.1.1.1.1.1.1.1.1.1.1.1.1.1.1.1.1.1.0);
}

pub loadable : (b : List ℕ) (i : Image) → image_of b ≡ Ok i → CanLoad i
unfolding image_of
loadable b i e = let h = first_accepted (holds b) refusals (image_in b) i e in subst CanLoad h.1 (meets b h.0)
