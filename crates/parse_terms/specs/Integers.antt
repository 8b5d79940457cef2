-- The integer types: their spellings, and a machine that reads them a word at a time.
use Rattle.std.specs.Prelude.{◌≡◌, ℕ, Bool, true, false, cond, List, [], ◌∷◌, Option, Some, None}
use Rattle.c_types.specs.declared.types.Span.{Span}
use Rattle.c_types.specs.declared.types.IntTy.{IntTy}
use Rattle.c_types.specs.declared.types.IntTy.TheVariants.{I8, U8, I16, U16, I32, U32, I64, U64}
use Rattle.c_lex.specs.declared.words.Word.{Word}
use Rattle.c_lex.specs.declared.words.Word.TheVariants as w
use Rattle.parse_terms.specs.declared.terminal.Terminal.{Terminal}
use Rattle.parse_terms.specs.declared.integers.IntWords.{IntWords}
use Rattle.parse_terms.specs.declared.integers.IntWords.TheVariants.{Sign, Short, Long, LongLong, Whole}
use Rattle.parse_terms.specs.Terminals.{word}

-- the sizes that words name
pub data Width : Type 0 where
  one two four eight : Width

-- the type of a width, unsigned or not
abbrev pub int_type : Bool → Width → IntTy
int_type false one = I8
int_type true one = U8
int_type false two = I16
int_type true two = U16
int_type false four = I32
int_type true four = U32
int_type false eight = I64
int_type true eight = U64

-- "char" | "short" ["int"] | "int" | "long" "long" ["int"]; the span is the first word's
pub data IsWidth : Width → Span → List Terminal → List Terminal → Type 0 where
  char : {s : Span} {a : List Terminal} → IsWidth one s (word w.Char s ∷ a) a
  short : {s : Span} {a : List Terminal} → IsWidth two s (word w.Short s ∷ a) a
  short_int : {s t : Span} {a : List Terminal} → IsWidth two s (word w.Short s ∷ word w.Int t ∷ a) a
  int : {s : Span} {a : List Terminal} → IsWidth four s (word w.Int s ∷ a) a
  long_long : {s t : Span} {a : List Terminal} → IsWidth eight s (word w.Long s ∷ word w.Long t ∷ a) a
  long_long_int : {s t u : Span} {a : List Terminal} → IsWidth eight s (word w.Long s ∷ word w.Long t ∷ word w.Int u ∷ a) a

-- inttype = ["signed" | "unsigned"] width | "signed" | "unsigned"; the span is the first word's
pub data IsInt : IntTy → Span → List Terminal → List Terminal → Type 0 where
  plain : {v : Width} {s : Span} {a b : List Terminal} → IsWidth v s a b → IsInt (int_type false v) s a b
  with_signed : {v : Width} {s t : Span} {a b : List Terminal} → IsWidth v t a b → IsInt (int_type false v) s (word w.Signed s ∷ a) b
  with_unsigned : {v : Width} {s t : Span} {a b : List Terminal} → IsWidth v t a b → IsInt (int_type true v) s (word w.Unsigned s ∷ a) b
  signed : {s : Span} {a : List Terminal} → IsInt I32 s (word w.Signed s ∷ a) a
  unsigned : {s : Span} {a : List Terminal} → IsInt U32 s (word w.Unsigned s ∷ a) a

abbrev pub int_begin : Word → Option IntWords
int_begin w.Signed = Some (Sign false)
int_begin w.Unsigned = Some (Sign true)
int_begin w.Char = Some (Whole I8)
int_begin w.Short = Some (Short false)
int_begin w.Int = Some (Whole I32)
int_begin w.Long = Some (Long false)
int_begin _ = None

abbrev pub sign_step : Word → Bool → Option IntWords
sign_step w.Char u = Some (Whole (int_type u one))
sign_step w.Short u = Some (Short u)
sign_step w.Int u = Some (Whole (int_type u four))
sign_step w.Long u = Some (Long u)
sign_step _ u = None

abbrev pub short_step : Word → Bool → Option IntWords
short_step w.Int u = Some (Whole (int_type u two))
short_step _ u = None

abbrev pub long_step : Word → Bool → Option IntWords
long_step w.Long u = Some (LongLong u)
long_step _ u = None

abbrev pub long_long_step : Word → Bool → Option IntWords
long_long_step w.Int u = Some (Whole (int_type u eight))
long_long_step _ u = None

abbrev pub int_step : Word → IntWords → Option IntWords
int_step v (Sign u) = sign_step v u
int_step v (Short u) = short_step v u
int_step v (Long u) = long_step v u
int_step v (LongLong u) = long_long_step v u
int_step v (Whole t) = None

abbrev pub int_finish : IntWords → Option IntTy
int_finish (Sign u) = Some (int_type u four)
int_finish (Short u) = Some (int_type u two)
int_finish (Long u) = None
int_finish (LongLong u) = Some (int_type u eight)
int_finish (Whole t) = Some t
