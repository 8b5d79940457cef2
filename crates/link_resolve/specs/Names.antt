-- Names of bodies, of guest exit thunks and of import slots (Microsoft, "Understanding Arm64EC ABI
-- and assembly code": the Arm64EC body of f is #f, its guest exit thunk #f$exit_thunk). Which
-- functions `ecrt.dll` has is this project's own.
use Rattle.std.specs.Prelude.{ℕ, ◌-◌, Bool, List, [], ◌∷◌, ◌++◌, length, take, drop, codes}
use Rattle.std.specs.List.{list_any}
use Rattle.std.specs.Str.{bytes_eq}

abbrev pub guest_end : List ℕ
guest_end = codes "$exit_thunk"

-- the name ends with $exit_thunk, which has 11 bytes
unfoldable pub is_guest_exit : List ℕ → Bool
is_guest_exit name = bytes_eq (drop (length name - 11) name) guest_end

-- what stands before these 11 bytes
abbrev pub before_guest_end : List ℕ → List ℕ
before_guest_end name = take (length name - 11) name

-- the slots of the services for x64 code, then those for EC code, then the three dispatchers
abbrev pub import_names : List (List ℕ)
import_names = codes "__imp_put_byte" ∷ codes "__imp_get_byte" ∷ codes "__imp_exit" ∷ codes "__imp_trap" ∷ codes "__imp_#put_byte" ∷ codes "__imp_#get_byte" ∷ codes "__imp_#exit" ∷ codes "__imp_#trap" ∷ codes "__os_arm64x_check_icall" ∷ codes "__os_arm64x_dispatch_call_no_redirect" ∷ codes "__os_arm64x_dispatch_ret" ∷ []

-- the name means a slot of the import table
unfoldable pub is_import : List ℕ → Bool
is_import name = list_any (bytes_eq name) import_names

abbrev pub main_name : List ℕ
main_name = codes "main"
