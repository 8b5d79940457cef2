-- The words of a line that stand for a kind: this project's own.
use Rattle.std.specs.Prelude.{ℕ, List, codes}
use Rattle.ec_report.specs.declared.kinds.StuckWhy.{StuckWhy}
use Rattle.ec_report.specs.declared.kinds.StuckWhy.TheVariants.{NoRange, Misaligned, BadInstruction, Blocked, Unmapped, Protected, Divide, Halt, BadSwitch, NoThunk, BadTarget}
use Rattle.c_typing.specs.declared.faults.TypeKind.{TypeKind}
use Rattle.c_typing.specs.declared.faults.TypeKind.TheVariants.{Redeclared, Unknown, Incomplete, BadType, NotValue, NotPlace, NoAddress, NotPointer, NoField, NotArray, NotInteger, NotScalar, Mismatch, NotFunction, ArgumentCount, VariadicCount, Variadic, BadInitial, Flow, BadAdjustor, Undefined, NoMain}
use Rattle.ec_report.specs.declared.kinds.LimitKind.{LimitKind}
use Rattle.ec_report.specs.declared.kinds.LimitKind.TheVariants.{Units, Objects, UnitBytes, AllBytes, Nodes, Functions, Parameters, Extras, StructBytes, FrameBytes, GlobalBytes, NameBytes}
use Rattle.ec_report.specs.declared.kinds.ImageRefusal.{ImageRefusal}
use Rattle.ec_report.specs.declared.kinds.ImageRefusal.TheVariants as image
use Rattle.ec_report.specs.declared.kinds.LoadRefusal.{LoadRefusal}
use Rattle.ec_report.specs.declared.kinds.LoadRefusal.TheVariants.{BadBase, UnknownImport, BadRelocation}

-- the word for a reason of the machine
abbrev pub why_name : StuckWhy → List ℕ
why_name NoRange = codes "NoRange"
why_name Misaligned = codes "Misaligned"
why_name BadInstruction = codes "BadInstruction"
why_name Blocked = codes "Blocked"
why_name Unmapped = codes "Unmapped"
why_name Protected = codes "Protected"
why_name Divide = codes "Divide"
why_name Halt = codes "Halt"
why_name BadSwitch = codes "BadSwitch"
why_name NoThunk = codes "NoThunk"
why_name BadTarget = codes "BadTarget"

-- the word for a rule of the types
abbrev pub type_name : TypeKind → List ℕ
type_name Redeclared = codes "Redeclared"
type_name Unknown = codes "Unknown"
type_name Incomplete = codes "Incomplete"
type_name BadType = codes "BadType"
type_name NotValue = codes "NotValue"
type_name NotPlace = codes "NotPlace"
type_name NoAddress = codes "NoAddress"
type_name NotPointer = codes "NotPointer"
type_name NoField = codes "NoField"
type_name NotArray = codes "NotArray"
type_name NotInteger = codes "NotInteger"
type_name NotScalar = codes "NotScalar"
type_name Mismatch = codes "Mismatch"
type_name NotFunction = codes "NotFunction"
type_name ArgumentCount = codes "ArgumentCount"
type_name VariadicCount = codes "VariadicCount"
type_name Variadic = codes "Variadic"
type_name BadInitial = codes "BadInitial"
type_name Flow = codes "Flow"
type_name BadAdjustor = codes "BadAdjustor"
type_name Undefined = codes "Undefined"
type_name NoMain = codes "NoMain"

-- the word for a limit
abbrev pub limit_name : LimitKind → List ℕ
limit_name Units = codes "units"
limit_name Objects = codes "objects"
limit_name UnitBytes = codes "unit-bytes"
limit_name AllBytes = codes "all-bytes"
limit_name Nodes = codes "nodes"
limit_name Functions = codes "functions"
limit_name Parameters = codes "parameters"
limit_name Extras = codes "extras"
limit_name StructBytes = codes "struct-bytes"
limit_name FrameBytes = codes "frame-bytes"
limit_name GlobalBytes = codes "global-bytes"
limit_name NameBytes = codes "name-bytes"

-- the word for a reason why a file isn't an image
abbrev pub image_name : ImageRefusal → List ℕ
image_name image.TooLarge = codes "TooLarge"
image_name image.Short = codes "Short"
image_name image.DosMagic = codes "DosMagic"
image_name image.PeOffset = codes "PeOffset"
image_name image.PeMagic = codes "PeMagic"
image_name image.Machine = codes "Machine"
image_name image.OptionalSize = codes "OptionalSize"
image_name image.OptionalMagic = codes "OptionalMagic"
image_name image.Alignment = codes "Alignment"
image_name image.ImageSize = codes "ImageSize"
image_name image.StackSize = codes "StackSize"
image_name image.SectionTable = codes "SectionTable"
image_name image.SectionRange = codes "SectionRange"
image_name image.Directory = codes "Directory"
image_name image.Import = codes "Import"
image_name image.BaseRelocation = codes "BaseRelocation"
image_name image.LoadConfig = codes "LoadConfig"
image_name image.Metadata = codes "Metadata"
image_name image.Entry = codes "Entry"

-- the word for a reason of the loader
abbrev pub load_name : LoadRefusal → List ℕ
load_name BadBase = codes "BadBase"
load_name (UnknownImport name) = codes "UnknownImport"
load_name (BadRelocation at) = codes "BadRelocation"
