-- The list of refusals in parts, and what the answer of the reader says.
use Rattle.std.proofs.Common.{◌≡◌, ◌≢◌, ℕ, true, false, List, [], ◌∷◌, ◌++◌, Some, None, Result, Ok, Err, refl, sym, ap, subst, ◌∙◌}
use Rattle.std.specs.Prelude.{find, IfOk}
use Rattle.file_words.specs.Firsts.{first_of, NoneHolds, IsFirst}
use Rattle.file_words.proofs.FirstLaws.{first_skips, first_refused, first_accepted, find_first, find_none}
use Rattle.chpe_types.specs.declared.image.Image.{Image}
use Rattle.pe_read.specs.declared.refusal.ImageRefusal.{ImageRefusal}
use Rattle.pe_read.specs.declared.refusal.ImageRefusal.TheVariants.{Metadata, Entry, NoMemory}
use Rattle.pe_read.specs.Refusals.{bad_image_size, bad_section_range, bad_import, bad_base_relocation, bad_load_config, bad_metadata, bad_entry_point, holds, refusals}
use Rattle.pe_read.specs.Images.{image_in, image_of, Tells}
use Rattle.pe_read.specs.Stages.{header_refusals, section_refusals, directory_refusals}

abbrev meta_refusals : List ImageRefusal
meta_refusals = Metadata ∷ Entry ∷ []

abbrev after_sections : List ImageRefusal
after_sections = directory_refusals ++ meta_refusals

abbrev after_headers : List ImageRefusal
after_headers = section_refusals ++ after_sections

pub headers_refused : (b : List ℕ) (k : ImageRefusal) → Some k ≡ find (holds b) header_refusals → image_of b ≡ Err k
unfolding image_of
headers_refused b k e = find_first (holds b) header_refusals after_headers (image_in b) k (sym e)

past_headers : (b : List ℕ) → find (holds b) header_refusals ≡ None → image_of b ≡ first_of (holds b) after_headers (image_in b)
unfolding image_of
past_headers b e = first_skips (holds b) header_refusals after_headers (image_in b) (find_none (holds b) header_refusals e)

-- ---- what is known of a file that some tests haven't refused

pub size_known : (b : List ℕ) → find (holds b) header_refusals ≡ None → bad_image_size b ≡ false
size_known b e = let h = find_none (holds b) header_refusals e in h.1.1.1.1.1.1.1.1.1.0

pub range_known : (b : List ℕ) → find (holds b) section_refusals ≡ None → bad_section_range b ≡ false
range_known b e = let h = find_none (holds b) section_refusals e in h.1.0

pub import_known : (b : List ℕ) → find (holds b) directory_refusals ≡ None → bad_import b ≡ false
import_known b e = let h = find_none (holds b) directory_refusals e in h.1.0

pub blocks_known : (b : List ℕ) → find (holds b) directory_refusals ≡ None → bad_base_relocation b ≡ false
blocks_known b e = let h = find_none (holds b) directory_refusals e in h.1.1.0

pub config_known : (b : List ℕ) → find (holds b) directory_refusals ≡ None → bad_load_config b ≡ false
config_known b e = let h = find_none (holds b) directory_refusals e in h.1.1.1.0

-- ---- the answers

module _ (b : List ℕ) (headers : find (holds b) header_refusals ≡ None) where
  pub sections_refused : (k : ImageRefusal) → Some k ≡ find (holds b) section_refusals → image_of b ≡ Err k
  sections_refused k e = past_headers b headers ∙ find_first (holds b) section_refusals after_sections (image_in b) k (sym e)

module _ (b : List ℕ) (headers : find (holds b) header_refusals ≡ None) (tables : find (holds b) section_refusals ≡ None) where
  past_sections : image_of b ≡ first_of (holds b) after_sections (image_in b)
  past_sections = past_headers b headers ∙ first_skips (holds b) section_refusals after_sections (image_in b) (find_none (holds b) section_refusals tables)

  pub directories_refused : (k : ImageRefusal) → Some k ≡ find (holds b) directory_refusals → image_of b ≡ Err k
  directories_refused k e = past_sections ∙ find_first (holds b) directory_refusals meta_refusals (image_in b) k (sym e)

module _ (b : List ℕ) (headers : find (holds b) header_refusals ≡ None) (tables : find (holds b) section_refusals ≡ None) (directories : find (holds b) directory_refusals ≡ None) where
  past_directories : image_of b ≡ first_of (holds b) meta_refusals (image_in b)
  past_directories = past_sections b headers tables ∙ first_skips (holds b) directory_refusals meta_refusals (image_in b) (find_none (holds b) directory_refusals directories)

  pub meta_refused : (k : ImageRefusal) → k ≡ Metadata → bad_metadata b ≡ true → image_of b ≡ Err k
  meta_refused k e t = past_directories ∙ rw t (ap (λ (j : ImageRefusal). Err j) (sym e))

  pub entry_refused : bad_metadata b ≡ false → bad_entry_point b ≡ true → image_of b ≡ Err Entry
  entry_refused f t = past_directories ∙ rw (f, t) refl

  pub is_read : (i : Image) → bad_metadata b ≡ false → bad_entry_point b ≡ false → i ≡ image_in b → image_of b ≡ Ok i
  is_read i f g same = past_directories ∙ rw (f, g) (ap (λ (x : Image). Ok x) (sym same))

-- ---- what the clauses of `read` say beyond its exact answer

image_refused : (b : List ℕ) (k : ImageRefusal) → image_of b ≡ Err k → IsFirst (holds b) refusals k
unfolding image_of
image_refused b k e = first_refused (holds b) refusals (image_in b) k e

image_accepted : (b : List ℕ) (i : Image) → image_of b ≡ Ok i → NoneHolds (holds b) refusals × (image_in b ≡ i)
unfolding image_of
image_accepted b i e = first_accepted (holds b) refusals (image_in b) i e

pub is_refused : (b : List ℕ) (r : Result Image ImageRefusal) (k : ImageRefusal) → Tells r (image_of b) → r ≡ Err k → k ≢ NoMemory → IsFirst (holds b) refusals k
is_refused b r k given e ne = image_refused b k ((subst (λ (x : Result Image ImageRefusal). Tells x (image_of b)) e given) ne)

pub is_accepted : (b : List ℕ) (r : Result Image ImageRefusal) → Tells r (image_of b) → IfOk r (λ i. NoneHolds (holds b) refusals × (i ≡ image_in b))
is_accepted b (Ok i) given = let h = image_accepted b i given in (h.0, sym h.1)
is_accepted b (Err e) given = tt
