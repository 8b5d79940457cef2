-- How an image stands in memory at the start (Microsoft, PE Format: section table, base relocations of kind
-- IMAGE_REL_BASED_DIR64, import address table).
use Rattle.std.specs.Prelude.{ℕ, ◌+◌, ◌-◌, ◌/◌, ◌%◌, ◌^◌, ◌==◌, ◌&&◌, Bool, true, false, nat_le, List, [], ◌∷◌, ◌++◌, length, replicate, Option, Some, None, if◌then◌else◌}
use Rattle.hx_words.specs.LittleEndian.{number_of, bytes_of}
use Rattle.hx_mem.specs.Segments.{Segment}
use Rattle.hx_mem.specs.Space.{Space, has, splice, read, after_add}
use Rattle.hx_mem.specs.declared.memory.GuardRange.{GuardRange}
use Rattle.reg_map.specs.Registers.{Registers}
use Rattle.chpe_types.specs.declared.image.Image.{Image}
use Rattle.chpe_types.specs.declared.image.ImageSection.{ImageSection}
use Rattle.chpe_types.specs.declared.image.ImportSlot.{ImportSlot}
use Rattle.x64_exec.specs.Words.{plus, minus, clear}
use Rattle.machine_rules.specs.declared.places.Service.{Service}
use Rattle.machine_rules.specs.State.{Machine, Code}
use Rattle.machine_rules.specs.Layout.{stack_top, guard_size, service_named, address_of}
use Rattle.machine_rules.specs.Steps.{no_flags}

-- ---- the base

-- a multiple of 65,536, at least 65,536, from which the image ends by 2^46
abbrev pub base_allowed : ℕ → ℕ → Bool
base_allowed size base = (base % 65536 == 0) && (nat_le 65536 base && nat_le (base + size) (2 ^ 46))

-- ---- sections

-- bytes of value 0
unfoldable pub zeros : ℕ → List ℕ
zeros n = replicate n 0

-- IMAGE_SCN_MEM_WRITE and IMAGE_SCN_MEM_EXECUTE
abbrev pub is_written : ℕ → Bool
is_written flags = flags / 2 ^ 31 % 2 == 1

abbrev pub is_executed : ℕ → Bool
is_executed flags = flags / 2 ^ 29 % 2 == 1

-- a section in memory: exactly as long as it is virtually, and zero past its contents
abbrev pub contents_of : ImageSection → List ℕ
contents_of s = s.bytes ++ zeros (s.size - length s.bytes)

abbrev pub segment_of : ℕ → ImageSection → Segment
segment_of base s = record { start = base + s.rva; bytes = contents_of s; write = is_written s.flags; exec = is_executed s.flags }

abbrev pub segments_of : ℕ → List ImageSection → List Segment
segments_of base [] = []
segments_of base (s ∷ ss) = segment_of base s ∷ segments_of base ss

-- ---- what the loader writes, whatever the rights of the section

-- bytes over those at an address
abbrev pub overwritten : List Segment → ℕ → List ℕ → List Segment
overwritten [] a bs = []
overwritten (r ∷ rs) a bs = if has r a then record r { bytes = splice r.bytes (a - r.start) bs } ∷ rs else r ∷ overwritten rs a bs

-- a number added to the 8 bytes at an address, modulo 2^64; where no section has them all, nothing changes
abbrev pub sum_over : List Segment → ℕ → ℕ → Option (List ℕ) → List Segment
sum_over rs a delta (Some bytes) = overwritten rs a (bytes_of 8 (plus (number_of bytes) delta))
sum_over rs a delta None = rs

abbrev pub relocated_at : ℕ → ℕ → List Segment → List Segment
relocated_at a delta rs = sum_over rs a delta (read rs a 8)

-- base relocations, in order
abbrev pub relocated : ℕ → ℕ → List ℕ → List Segment → List Segment
relocated base delta [] rs = rs
relocated base delta (site ∷ sites) rs = relocated base delta sites (relocated_at (base + site) delta rs)

-- the import slots get the addresses of the services, in order
abbrev pub with_service : Option Service → ℕ → List Segment → List Segment
with_service (Some service) a rs = overwritten rs a (bytes_of 8 (address_of service))
with_service None a rs = rs

abbrev pub bound : ℕ → List ImportSlot → List Segment → List Segment
bound base [] rs = rs
bound base (slot ∷ slots) rs = bound base slots (with_service (service_named slot.name) (base + slot.rva) rs)

-- ---- memory

abbrev pub no_memory : Space
no_memory = record { regions = []; guard = None }

abbrev pub mapped : List Segment → Space → Space
mapped [] m = m
mapped (r ∷ rs) m = mapped rs (after_add m r)

-- the sections of an image at a base, relocated and bound
abbrev pub loaded_segments : Image → ℕ → List Segment
loaded_segments image base = bound base image.imports (relocated base (minus base image.base) image.sites (segments_of base image.sections))

unfoldable pub loaded : Image → ℕ → Space
loaded image base = mapped (loaded_segments image base) no_memory

-- the stack, read and written, and the guard below it
abbrev pub stack_region : ℕ → Segment
stack_region stack = record { start = stack_top - stack; bytes = zeros stack; write = true; exec = false }

abbrev pub guard_range : ℕ → GuardRange
guard_range stack = record { start = stack_top - stack - guard_size; length = guard_size }

abbrev pub with_stack : Space → ℕ → Space
with_stack m stack = record (after_add m (stack_region stack)) { guard = Some (guard_range stack) }

-- ---- the start

-- the stack pointer is the stack's top, pc is the entry point, and all else is zero
abbrev pub start_value : ℕ → ℕ
start_value n = if n == 31 then stack_top else 0

abbrev pub start_registers : ℕ → Registers
start_registers entry = record { value = start_value; pc = entry; xf = clear; af = no_flags }

abbrev pub start : Image → ℕ → List ℕ → Machine
start image base input = record {
  guest = record { cpu = start_registers (base + image.entry); mem = with_stack (loaded image base) image.stack };
  input = input;
}

abbrev pub code_in : Image → ℕ → Code
code_in image base = record { ranges = image.meta.ranges; redirects = image.meta.redirects; base = base }
