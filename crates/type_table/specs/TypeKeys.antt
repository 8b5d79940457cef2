-- Numbers that tell types apart, and the places where types stand first.
use Rattle.std.specs.Prelude.{◌≡◌, ℕ, Bool, true, false, List, [], ◌∷◌, Option, Some, None, bytes_eq}
use Rattle.std.specs.HashMap.{HashMap}
use Rattle.std.specs.Global.{Vec}
use Rattle.c_types.specs.declared.types.IntTy.{IntTy}
use Rattle.c_types.specs.declared.types.IntTy.TheVariants.{I8, U8, I16, U16, I32, U32, I64, U64}
use Rattle.c_types.specs.declared.types.Ty.{Ty}
use Rattle.c_types.specs.declared.types.Ty.TheVariants.{Void, Int, Ptr, Fun, Struct, Array}
use Rattle.c_types.specs.declared.types.FunTy.{FunTy}
use Rattle.c_types.specs.declared.types.StructDef.{StructDef}
use Rattle.c_types.specs.declared.types.Types.{Types}
use Rattle.named_rows.specs.Places.{Places}

abbrev pub int_number : IntTy → ℕ
int_number I8 = 0
int_number U8 = 1
int_number I16 = 2
int_number U16 = 3
int_number I32 = 4
int_number U32 = 5
int_number I64 = 6
int_number U64 = 7

-- the form of a type, the integer or the place that it names, and its number of elements
abbrev pub form_of : Ty → ℕ
form_of Void = 0
form_of (Int i) = 1
form_of (Ptr k) = 2
form_of (Fun k) = 3
form_of (Struct k) = 4
form_of (Array k n) = 5

abbrev pub named_by : Ty → ℕ
named_by Void = 0
named_by (Int i) = int_number i
named_by (Ptr k) = k
named_by (Fun k) = k
named_by (Struct k) = k
named_by (Array k n) = k

abbrev pub count_in : Ty → ℕ
count_in Void = 0
count_in (Int i) = 0
count_in (Ptr k) = 0
count_in (Fun k) = 0
count_in (Struct k) = 0
count_in (Array k n) = n

abbrev pub ty_key : Ty → List ℕ
ty_key t = form_of t ∷ named_by t ∷ count_in t ∷ []

abbrev pub keys_of : List Ty → List ℕ
keys_of [] = []
keys_of (t ∷ ts) = form_of t ∷ named_by t ∷ count_in t ∷ keys_of ts

abbrev pub mark : Bool → ℕ
mark false = 0
mark true = 1

-- a function's mark, its result and its parameters
abbrev pub fun_key : FunTy → List ℕ
fun_key f = mark f.variadic ∷ form_of f.result ∷ named_by f.result ∷ count_in f.result ∷ keys_of f.params

-- types are the same where their numbers are
abbrev pub is_ty : Ty → Ty → Bool
is_ty ty other = bytes_eq (ty_key other) (ty_key ty)

-- function types are equal where results, parameters and marks are
abbrev pub is_fun : FunTy → FunTy → Bool
is_fun f other = bytes_eq (fun_key other) (fun_key f)

abbrev pub has_tag : List ℕ → StructDef → Bool
has_tag tag s = bytes_eq s.tag tag

-- whether a struct that may stand has this tag
abbrev pub keeps_tag : Option StructDef → List ℕ → Bool
keeps_tag None tag = true
keeps_tag (Some s) tag = bytes_eq s.tag tag

-- What a table of types keeps: the first place of each type, and of each tag while the tags are known.
pub record IsIndexed {S : Type 0} (types : Types) (tys funs structs : HashMap (Vec ℕ) ℕ S) (known : Bool) : Type 0 where
  pub ty_firsts : Places ty_key tys types.tys
  pub fun_firsts : Places fun_key funs types.funs
  pub tag_firsts : known ≡ true → Places (λ (s : StructDef). s.tag) structs types.structs
