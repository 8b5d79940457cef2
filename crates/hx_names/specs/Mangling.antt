-- Names of bodies and thunks (Microsoft, "Understanding Arm64EC ABI and assembly code": functions
-- compiled as Arm64EC are marked by a `#` in front of the name; entry and exit thunks are named by
-- the kind, the calling convention and the code of the signature).
use Rattle.std.specs.Prelude.{ℕ, Bool, true, false, List, [], ◌∷◌, ◌++◌, Option, Some, None, ◌==◌, if◌then◌else◌, codes}

-- the most bytes of a name
abbrev pub most_name : ℕ
most_name = 255

-- a `#`, and the name
abbrev pub mangled : List ℕ → List ℕ
mangled name = 35 ∷ name

-- what follows a leading `#`
abbrev pub unmangled : List ℕ → Option (List ℕ)
unmangled [] = None
unmangled (c ∷ rest) = if c == 35 then Some rest else None

abbrev pub thunk_name_of : Bool → List ℕ → List ℕ
thunk_name_of true code = codes "$ientry_thunk$cdecl$" ++ code
thunk_name_of false code = codes "$iexit_thunk$cdecl$" ++ code
