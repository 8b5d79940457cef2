-- The limits of a program: what is counted, and the number that a count may not pass. Both are this
-- project's own.
use Rattle.std.specs.Prelude.{ℕ, zero, suc, ◌+◌, min, max, nat_lt, if◌then◌else◌, sum_by, List, [], ◌∷◌, ◌++◌, length, Option, Some, None}
use Rattle.c_types.specs.declared.types.Ty.TheVariants.{Struct}
use Rattle.c_types.specs.declared.types.FunTy.{FunTy}
use Rattle.c_types.specs.Layout.{size_of}
use Rattle.c_program.specs.declared.program.GlobalDef.{GlobalDef}
use Rattle.c_program.specs.declared.program.Program.{Program}
use Rattle.c_program.specs.Nodes.{program_nodes, small}
use Rattle.c_program.specs.FrameBytes.{frame_bytes_of}
use Rattle.ec_report.specs.declared.kinds.LimitKind.TheVariants.{Nodes, Functions, Parameters, Extras, StructBytes, FrameBytes, GlobalBytes, NameBytes}
use Rattle.ec_limits.specs.declared.counts.Count.{Count}
use Rattle.ec_limits.specs.declared.counts.Passed.{Passed}

-- the greatest number that the items give, and 0 where there is none
abbrev pub greatest_by : {A : Type 0} → (A → ℕ) → List A → ℕ
greatest_by f [] = 0
greatest_by f (x ∷ xs) = max (f x) (greatest_by f xs)

-- the greatest number at the places below n
unfoldable pub greatest_below : ℕ → (ℕ → ℕ) → ℕ
greatest_below zero f = 0
greatest_below (suc n) f = max (greatest_below n f) (f n)

-- how many of so many things a program can name: a place is a number below 2 ^ 32
abbrev pub places : ℕ → ℕ
places n = min n 4294967296

-- functions and adjustors, defined or declared
abbrev pub function_count : Program → ℕ
function_count p = length p.functions + length p.adjustors

-- the most parameters of a function's type
abbrev pub parameter_count : Program → ℕ
parameter_count p = greatest_by (λ (f : FunTy). length f.params) p.types.funs

-- the bytes of the greatest struct
abbrev pub struct_bytes : Program → ℕ
struct_bytes p = greatest_below (places (length p.types.structs)) (λ k. size_of p.types (Struct k))

-- the bytes of the greatest frame
abbrev pub frame_bytes : Program → ℕ
frame_bytes p = greatest_below (places (function_count p)) (frame_bytes_of p)

-- the bytes of all globals, defined or declared: each stands in the list once
abbrev pub global_bytes : Program → ℕ
global_bytes p = sum_by (λ (g : GlobalDef). size_of p.types g.ty) p.globals

-- What is counted of a program, in order: what it has so many of, then the bytes of its greatest struct, and then
-- those of frames, of globals and of names. The names are those of its units' texts, of which the longest is given.
abbrev pub of_nodes : Program → Count
of_nodes p = record { which = Nodes; most = 65536; count = program_nodes p }

abbrev pub of_functions : Program → Count
of_functions p = record { which = Functions; most = 4096; count = function_count p }

abbrev pub of_parameters : Program → Count
of_parameters p = record { which = Parameters; most = 64; count = parameter_count p }

abbrev pub of_extras : Program → Count
of_extras p = record { which = Extras; most = 256; count = p.extras }

abbrev pub amounts : Program → List Count
amounts p = of_nodes p ∷ of_functions p ∷ of_parameters p ∷ of_extras p ∷ []

abbrev pub of_structs : Program → Count
of_structs p = record { which = StructBytes; most = 65536; count = struct_bytes p }

abbrev pub of_frames : Program → Count
of_frames p = record { which = FrameBytes; most = 524288; count = frame_bytes p }

abbrev pub of_globals : Program → Count
of_globals p = record { which = GlobalBytes; most = 33554432; count = global_bytes p }

abbrev pub of_names : ℕ → Count
of_names longest = record { which = NameBytes; most = 255; count = longest }

abbrev pub rest : Program → ℕ → List Count
rest p longest = of_frames p ∷ of_globals p ∷ of_names longest ∷ []

abbrev pub counts : Program → ℕ → List Count
counts p longest = amounts p ++ of_structs p ∷ rest p longest

-- the first count that passes its number
abbrev pub first_passed : List Count → Option Passed
first_passed [] = None
first_passed (c ∷ cs) =
    if nat_lt c.most c.count then Some (record { which = c.which; count = small c.count }) else first_passed cs

-- A count in 64 bits. One that they don't hold, as the bytes of five globals of almost 2 ^ 62 bytes each,
-- is told as 2 ^ 64 - 1, which passes the same numbers.
abbrev pub told : Count → Count
told c = record { which = c.which; most = c.most; count = small c.count }

-- the first limit that a program passes
unfoldable pub passed : Program → ℕ → Option Passed
passed p longest = first_passed (counts p longest)
