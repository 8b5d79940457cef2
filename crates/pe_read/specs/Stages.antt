-- The refusals in parts, by what must be known of a file before they are tried, and the metadata.
use Rattle.std.specs.Prelude.{◌≡◌, ◌≢◌, ℕ, true, false, List, [], ◌∷◌, Result, Ok, Err}
use Rattle.chpe_types.specs.declared.image.Meta.{Meta}
use Rattle.chpe_types.specs.Looks.{valid_meta_of}
use Rattle.chpe_meta.specs.Reading.{meta_in}
use Rattle.pe_fields.specs.Headers.{sections}
use Rattle.pe_fields.specs.Space.{rest_at}
use Rattle.pe_read.specs.declared.refusal.ImageRefusal.{ImageRefusal}
use Rattle.pe_read.specs.declared.refusal.ImageRefusal.TheVariants.{TooLarge, Short, DosMagic, PeOffset, PeMagic, Machine, OptionalSize, OptionalMagic, Alignment, ImageSize, StackSize, SectionTable, SectionRange, Directory, Import, BaseRelocation, LoadConfig, Metadata, NoMemory}
use Rattle.pe_read.specs.Refusals.{header_rva, bad_metadata}

abbrev pub header_refusals : List ImageRefusal
header_refusals = TooLarge ∷ Short ∷ DosMagic ∷ PeOffset ∷ PeMagic ∷ Machine ∷ OptionalSize ∷ OptionalMagic ∷ Alignment ∷ ImageSize ∷ StackSize ∷ []

abbrev pub section_refusals : List ImageRefusal
section_refusals = SectionTable ∷ SectionRange ∷ []

-- those that need the sections
abbrev pub directory_refusals : List ImageRefusal
directory_refusals = Directory ∷ Import ∷ BaseRelocation ∷ LoadConfig ∷ []

-- the metadata that the load configuration leads to
unfoldable pub meta_at : List ℕ → Meta
meta_at b = meta_in (rest_at (sections b) (header_rva b)) (header_rva b)

-- an answer is this metadata, or that the file has none, want of memory aside
abbrev pub MetaTells : List ℕ → Result Meta ImageRefusal → Type 0
MetaTells b (Ok m) = (bad_metadata b ≡ false) × ((m ≡ meta_at b) × (valid_meta_of m ≡ true))
MetaTells b (Err k) = k ≢ NoMemory → (k ≡ Metadata) × (bad_metadata b ≡ true)
