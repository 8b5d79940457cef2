-- The image in a file, or the first refusal of the list that holds in it.
use Rattle.std.specs.Prelude.{◌≡◌, ◌≢◌, ℕ, List, [], if◌then◌else◌, Result, Ok, Err}
use Rattle.chpe_types.specs.declared.image.ImportSlot.{ImportSlot}
use Rattle.chpe_types.specs.declared.image.Image.{Image}
use Rattle.chpe_meta.specs.Reading.{meta_in}
use Rattle.file_words.specs.Firsts.{first_of}
use Rattle.pe_fields.specs.Headers.{base, image_size, entry, stack, sections, directory_rva, directory_size}
use Rattle.pe_fields.specs.Space.{rest_at}
use Rattle.pe_fields.specs.Imports.{slots}
use Rattle.pe_fields.specs.Relocations as blocks
use Rattle.pe_read.specs.declared.refusal.ImageRefusal.{ImageRefusal}
use Rattle.pe_read.specs.declared.refusal.ImageRefusal.TheVariants.{NoMemory}
use Rattle.pe_read.specs.Refusals.{is_used, header_rva, holds, refusals}

unfoldable pub imports : List ℕ → List ImportSlot
imports b = if is_used b 1 then slots (sections b) (directory_rva b 1) else []

unfoldable pub sites : List ℕ → List ℕ
sites b = if is_used b 5 then blocks.sites (rest_at (sections b) (directory_rva b 5)) (directory_size b 5) else []

-- the image of a file in which no refusal holds
unfoldable pub image_in : List ℕ → Image
image_in b = record { base = base b; size = image_size b; entry = entry b; stack = stack b; sections = sections b; imports = imports b; sites = sites b; meta = meta_in (rest_at (sections b) (header_rva b)) (header_rva b) }

unfoldable pub image_of : List ℕ → Result Image ImageRefusal
image_of b = first_of (holds b) refusals (image_in b)

-- an answer is this one, want of memory aside
abbrev pub Tells : Result Image ImageRefusal → Result Image ImageRefusal → Type 0
Tells (Ok i) is = is ≡ Ok i
Tells (Err k) is = k ≢ NoMemory → is ≡ Err k
