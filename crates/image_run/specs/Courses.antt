-- What the run of an image comes to before its first step, by the file alone: this project's own. First there must be a
-- file of the name, then the file must be an image (`pe_read`), and then the image must be one that is loaded at the
-- base (`pe_loader`).
use Rattle.std.specs.Prelude.{◌≡◌, ℕ, Bool, IsTrue, IfSome, List, Option, Some, None, Result, Ok, Err, if◌then◌else◌}
use Rattle.hx_io.specs.Files.{Files}
use Rattle.chpe_types.specs.declared.image.Image.{Image}
use Rattle.machine_rules.specs.Loads.{base_allowed, start, code_in}
use Rattle.machine_rules.specs.State.{Goes}
use Rattle.pe_read.specs.declared.refusal.ImageRefusal.{ImageRefusal as Unread}
use Rattle.pe_read.specs.declared.refusal.ImageRefusal.TheVariants as file
use Rattle.pe_read.specs.Images.{image_of}
use Rattle.pe_loader.specs.declared.refusal.LoadRefusal.{LoadRefusal as Unloaded}
use Rattle.pe_loader.specs.declared.refusal.LoadRefusal.TheVariants as loader
use Rattle.pe_loader.specs.Refusals.{unknown_import, bad_site}
use Rattle.mixed_machine.specs.declared.machine.Machine.{Machine}
use Rattle.mixed_machine.specs.States.{after_of}
use Rattle.ec_report.specs.declared.kinds.ImageRefusal.{ImageRefusal}
use Rattle.ec_report.specs.declared.kinds.ImageRefusal.TheVariants as kind
use Rattle.ec_report.specs.declared.kinds.LoadRefusal.{LoadRefusal}
use Rattle.ec_report.specs.declared.kinds.LoadRefusal.TheVariants as load
use Rattle.image_run.specs.declared.refusal.RunRefusal.{RunRefusal}
use Rattle.image_run.specs.declared.refusal.RunRefusal.TheVariants as refusal
use Rattle.std.specs.Global.{Vec}

-- why an image isn't loaded
pub data LoadWhy : Type 0 where
  bad_base : LoadWhy
  unknown_name : List ℕ → LoadWhy
  bad_place : ℕ → LoadWhy

-- there is no file; or it is no image; or the image isn't loaded; or it is run
pub data ImageCourse : Type 0 where
  absent : ImageCourse
  unreadable : Unread → ImageCourse
  unloadable : LoadWhy → ImageCourse
  runs : Image → ImageCourse

abbrev pub by_site : Image → Option ℕ → ImageCourse
by_site i (Some rva) = unloadable (bad_place rva)
by_site i None = runs i

abbrev pub by_import : Image → Option (List ℕ) → ImageCourse
by_import i (Some name) = unloadable (unknown_name name)
by_import i None = by_site i (bad_site i.sections i.sites)

-- an image at a base
abbrev pub load_course : Image → ℕ → ImageCourse
load_course i base = if base_allowed i.size base then by_import i (unknown_import i.imports) else unloadable bad_base

abbrev pub read_course : Result Image Unread → ℕ → ImageCourse
read_course (Ok i) base = load_course i base
read_course (Err why) base = unreadable why

-- a file at a base
abbrev pub found_course : Option (List ℕ) → ℕ → ImageCourse
found_course None base = absent
found_course (Some bytes) base = read_course (image_of bytes) base

-- the file of a name at a base
abbrev pub image_course : Files → List ℕ → ℕ → ImageCourse
image_course files name base = found_course (files name) base

-- ---- what a refusal tells

abbrev pub why_of : ImageRefusal → Unread
why_of kind.TooLarge = file.TooLarge
why_of kind.Short = file.Short
why_of kind.DosMagic = file.DosMagic
why_of kind.PeOffset = file.PeOffset
why_of kind.PeMagic = file.PeMagic
why_of kind.Machine = file.Machine
why_of kind.OptionalSize = file.OptionalSize
why_of kind.OptionalMagic = file.OptionalMagic
why_of kind.Alignment = file.Alignment
why_of kind.ImageSize = file.ImageSize
why_of kind.StackSize = file.StackSize
why_of kind.SectionTable = file.SectionTable
why_of kind.SectionRange = file.SectionRange
why_of kind.Directory = file.Directory
why_of kind.Import = file.Import
why_of kind.BaseRelocation = file.BaseRelocation
why_of kind.LoadConfig = file.LoadConfig
why_of kind.Metadata = file.Metadata
why_of kind.Entry = file.Entry

abbrev pub load_why : LoadRefusal → LoadWhy
load_why load.BadBase = bad_base
load_why (load.UnknownImport name) = unknown_name name.items
load_why (load.BadRelocation rva) = bad_place rva

-- the course that a refusal tells, if it tells one
abbrev pub course_in : RunRefusal → Option ImageCourse
course_in refusal.Missing = Some absent
course_in refusal.StoreFault = None
course_in (refusal.Image why) = Some (unreadable (why_of why))
course_in (refusal.Load why) = Some (unloadable (load_why why))
course_in refusal.NoMemory = None

abbrev pub Refuses : ImageCourse → RunRefusal → Type 0
Refuses course why = IfSome (course_in why) (λ c. course ≡ c)

-- an answer is a run of an image where the course is one, or the refusal
abbrev pub Follows : {A : Type 0} → ImageCourse → Result A RunRefusal → Type 0
Follows course (Ok end) = (i : Image) × (course ≡ runs i)
Follows course (Err why) = Refuses course why

-- ---- what the parts tell

abbrev pub unread_course : Unread → Option ImageCourse
unread_course file.TooLarge = Some (unreadable file.TooLarge)
unread_course file.Short = Some (unreadable file.Short)
unread_course file.DosMagic = Some (unreadable file.DosMagic)
unread_course file.PeOffset = Some (unreadable file.PeOffset)
unread_course file.PeMagic = Some (unreadable file.PeMagic)
unread_course file.Machine = Some (unreadable file.Machine)
unread_course file.OptionalSize = Some (unreadable file.OptionalSize)
unread_course file.OptionalMagic = Some (unreadable file.OptionalMagic)
unread_course file.Alignment = Some (unreadable file.Alignment)
unread_course file.ImageSize = Some (unreadable file.ImageSize)
unread_course file.StackSize = Some (unreadable file.StackSize)
unread_course file.SectionTable = Some (unreadable file.SectionTable)
unread_course file.SectionRange = Some (unreadable file.SectionRange)
unread_course file.Directory = Some (unreadable file.Directory)
unread_course file.Import = Some (unreadable file.Import)
unread_course file.BaseRelocation = Some (unreadable file.BaseRelocation)
unread_course file.LoadConfig = Some (unreadable file.LoadConfig)
unread_course file.Metadata = Some (unreadable file.Metadata)
unread_course file.Entry = Some (unreadable file.Entry)
unread_course file.NoMemory = None

abbrev pub TellsFile : Unread → RunRefusal → Type 0
TellsFile why told = course_in told ≡ unread_course why

abbrev pub unloaded_course : Unloaded → Option ImageCourse
unloaded_course loader.BadBase = Some (unloadable bad_base)
unloaded_course (loader.UnknownImport name) = Some (unloadable (unknown_name name.items))
unloaded_course (loader.BadRelocation rva) = Some (unloadable (bad_place rva))
unloaded_course loader.NoMemory = None

abbrev pub TellsLoad : Unloaded → RunRefusal → Type 0
TellsLoad why told = course_in told ≡ unloaded_course why

-- the bytes of a file, or why it isn't run at any base
abbrev pub FindsFile : Option (List ℕ) → Result (Vec ℕ) RunRefusal → Type 0
FindsFile found (Ok bytes) = found ≡ Some bytes.items
FindsFile found (Err why) = (base : ℕ) → Refuses (found_course found base) why

abbrev pub ReadsImage : Result Image Unread → Result Image RunRefusal → Type 0
ReadsImage is (Ok i) = is ≡ Ok i
ReadsImage is (Err why) = (base : ℕ) → Refuses (read_course is base) why

-- a machine that stands at the start of an image at a base, whatever its input is
pub record IsStart (i : Image) (base : ℕ) (m : Machine) : Type 0 where
  pub state : (input : List ℕ) → after_of m input ≡ Goes (start i base input)
  pub code : m.code ≡ code_in i base

abbrev pub Starts : Image → ℕ → Result Machine RunRefusal → Type 0
Starts i base (Ok m) = (load_course i base ≡ runs i) × IsStart i base m
Starts i base (Err why) = Refuses (load_course i base) why

abbrev pub Opens : Result Image Unread → ℕ → Result Machine RunRefusal → Type 0
Opens is base (Ok m) = (i : Image) × (read_course is base ≡ runs i) × IsStart i base m
Opens is base (Err why) = Refuses (read_course is base) why

-- the same of a file, where it may be told
abbrev pub OpensFile : Bool → ImageCourse → ℕ → Result Machine RunRefusal → Type 0
OpensFile told course base (Ok m) = (i : Image) × (IsTrue told → course ≡ runs i) × IsStart i base m
OpensFile told course base (Err why) = IsTrue told → Refuses course why
