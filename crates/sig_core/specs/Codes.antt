-- The code of a signature, as names of thunks have it (after LLVM's names of Arm64EC thunks, without its marks of
-- alignment): that of the result, `$`, and those of the arguments in order, with `v` for no value and for no argument,
-- `i8` for a word, and `m` and its bytes for a struct; last comes `$varargs` where the signature is variadic.
use Rattle.std.specs.Prelude.{ℕ, Bool, true, false, List, [], ◌∷◌, ◌++◌, codes, decimal}
use Rattle.std.specs.List.{flat_map}
use Rattle.sig_core.specs.declared.classes.Class.{Class}
use Rattle.sig_core.specs.declared.classes.Class.TheVariants.{Void, Word, Agg}
use Rattle.sig_core.specs.declared.classes.Signature.{Signature}

abbrev pub class_code : Class → List ℕ
class_code Void = codes "v"
class_code Word = codes "i8"
class_code (Agg n) = codes "m" ++ decimal n

abbrev pub args_code : List Class → List ℕ
args_code [] = codes "v"
args_code (c ∷ cs) = flat_map class_code (c ∷ cs)

abbrev pub variadic_code : Bool → List ℕ
variadic_code true = codes "$varargs"
variadic_code false = []

abbrev pub signature_code : Signature → List ℕ
signature_code s = class_code s.result ++ (codes "$" ++ (args_code s.args ++ variadic_code s.variadic))
