-- Signatures by the classes of their values: what both conventions know of a type (Microsoft, "x64 calling
-- convention", "Parameter passing": integers, pointers and structs by their sizes).
use Rattle.std.specs.Prelude.{◌≡◌, ℕ, ◌-◌, ◌^◌, ◌<◌, ◌≤◌, Bool, true, false, not, ◌==◌, ◌||◌, List, ◌++◌, length, Some, slice_get}
use Rattle.std.specs.List.{All}
use Rattle.std.proofs.Math.ListN.{replicate}
use Rattle.c_types.specs.declared.types.Ty.{Ty}
use Rattle.c_types.specs.declared.types.Ty.TheVariants as ty
use Rattle.c_types.specs.declared.types.Types.{Types}
use Rattle.c_types.specs.Layout.{size_of}
use Rattle.sig_core.specs.declared.classes.Class.{Class}
use Rattle.sig_core.specs.declared.classes.Class.TheVariants.{Void, Word, Agg}
use Rattle.sig_core.specs.declared.classes.Signature.{Signature}

-- the class of a type: void has no value, integers and pointers are words, and a struct is its bytes
abbrev pub class_in : Types → Ty → Class
class_in t ty.Void = Void
class_in t (ty.Int i) = Word
class_in t (ty.Ptr k) = Word
class_in t (ty.Fun k) = Word
class_in t (ty.Struct k) = Agg (size_of t (ty.Struct k))
class_in t (ty.Array k n) = Agg (size_of t (ty.Array k n))

-- a type that a function can take or give back: no array, and no struct of 2 ^ 32 bytes or more
abbrev pub IsPassed : Types → Ty → Type 0
IsPassed t ty.Void = Unit {0}
IsPassed t (ty.Int i) = Unit {0}
IsPassed t (ty.Ptr k) = Unit {0}
IsPassed t (ty.Fun k) = Unit {0}
IsPassed t (ty.Struct k) = size_of t (ty.Struct k) < 2 ^ 32
IsPassed t (ty.Array k n) = ⊥

-- a struct has 1 to 65,536 bytes
abbrev pub IsResult : Class → Type 0
IsResult Void = Unit {0}
IsResult Word = Unit {0}
IsResult (Agg n) = (1 ≤ n) × (n ≤ 65536)

-- an argument has a value
abbrev pub IsArgument : Class → Type 0
IsArgument Void = ⊥
IsArgument Word = Unit {0}
IsArgument (Agg n) = (1 ≤ n) × (n ≤ 65536)

-- the sizes that a slot of 8 bytes holds as they are
abbrev pub is_slot_size : ℕ → Bool
is_slot_size n = (n == 1) || (n == 2) || (n == 4) || (n == 8)

-- a struct of another size is passed and given back through a pointer on x64
abbrev pub is_by_pointer : Class → Bool
is_by_pointer Void = false
is_by_pointer Word = false
is_by_pointer (Agg n) = not (is_slot_size n)

-- of a variadic signature: the last fixed argument, which counts the extra ones, is a word, and the result fits a slot
pub record IsCounted (s : Signature) : Type 0 where
  pub count : slice_get s.args (length s.args - 1) ≡ Some Word
  pub result : is_by_pointer s.result ≡ false

-- the signatures that functions have here
pub record Allowed (s : Signature) : Type 0 where
  pub few : length s.args ≤ 64
  pub arguments : All IsArgument s.args
  pub result : IsResult s.result
  pub counted : s.variadic ≡ true → IsCounted s

-- the counts of extra arguments of a call: none where the signature isn't variadic
pub record AllowedExtras (s : Signature) (extras : ℕ) : Type 0 where
  pub few : extras ≤ 256
  pub fixed : s.variadic ≡ false → extras ≡ 0

-- the arguments of a call: the fixed ones, and so many words behind them
abbrev pub all_args : Signature → ℕ → List Class
all_args s extras = s.args ++ replicate extras Word
