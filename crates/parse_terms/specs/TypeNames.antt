-- Types before a declared name: base { "*" }.
use Rattle.std.specs.Prelude.{◌≡◌, ℕ, Bool, true, false, List, [], ◌∷◌, ◌++◌, Option, Some, None}
use Rattle.c_types.specs.declared.types.Span.{Span}
use Rattle.c_types.specs.declared.types.IntTy.{IntTy}
use Rattle.c_tree.specs.declared.expressions.Name.{Name}
use Rattle.c_tree.specs.declared.expressions.Base.{Base}
use Rattle.c_tree.specs.declared.expressions.Base.TheVariants as base
use Rattle.c_tree.specs.declared.expressions.TypeName.{TypeName}
use Rattle.c_lex.specs.declared.words.Word.{Word}
use Rattle.c_lex.specs.declared.words.Word.TheVariants as w
use Rattle.c_lex.specs.declared.marks.Mark.{Mark}
use Rattle.c_lex.specs.declared.marks.Mark.TheVariants as m
use Rattle.parse_terms.specs.declared.answer.Answer.{Answer}
use Rattle.parse_terms.specs.declared.answer.Answer.TheVariants.{More, Done, Bad}
use Rattle.parse_terms.specs.declared.terminal.Sort.{Sort}
use Rattle.parse_terms.specs.declared.terminal.Sort.TheVariants as sort
use Rattle.parse_terms.specs.declared.terminal.Terminal.{Terminal}
use Rattle.parse_terms.specs.declared.integers.IntWords.{IntWords}
use Rattle.parse_terms.specs.declared.types.TypeState.{TypeState}
use Rattle.parse_terms.specs.declared.types.TypeState.TheVariants.{Opening, Tag, Words, Stars}
use Rattle.parse_terms.specs.Terminals.{term, word, mark, named, name_of}
use Rattle.parse_terms.specs.Integers.{IsInt, int_begin, int_step, int_finish}

-- base = "void" | inttype | "struct" ID | ID
pub data IsBase : Base → List Terminal → List Terminal → Type 0 where
  void : {s : Span} {a : List Terminal} → IsBase (base.Void s) (word w.Void s ∷ a) a
  integer : {t : IntTy} {s : Span} {a b : List Terminal} → IsInt t s a b → IsBase (base.Int t s) a b
  tagged : {x : List ℕ} {s t : Span} {a : List Terminal} → IsBase (base.Struct s (name_of x t)) (word w.Struct s ∷ named x t ∷ a) a
  typedef : {x : List ℕ} {s : Span} {a : List Terminal} → IsBase (base.Named (name_of x s)) (named x s ∷ a) a

-- { "*" }
pub data IsStars : List Span → List Terminal → List Terminal → Type 0 where
  no_stars : {a : List Terminal} → IsStars [] a a
  star : {ss : List Span} {s : Span} {a b : List Terminal} → IsStars ss a (mark m.Star s ∷ b) → IsStars (ss ++ s ∷ []) a b

abbrev pub type_name : Base → List Span → TypeName
type_name b ss = record { base = b; stars = ss }

-- base { "*" }
pub data IsTypeName : TypeName → List Terminal → List Terminal → Type 0 where
  type_named : {b : Base} {ss : List Span} {a c d : List Terminal} → IsBase b a c → IsStars ss c d → IsTypeName (type_name b ss) a d

abbrev pub integer_begun : Span → Option IntWords → Answer TypeState TypeName
integer_begun s None = Bad
integer_begun s (Some v) = More (Words s v)

abbrev pub word_opening : Span → Word → Answer TypeState TypeName
word_opening s w.Void = More (Stars (base.Void s) [])
word_opening s w.Struct = More (Tag s)
word_opening s v = integer_begun s (int_begin v)

abbrev pub opening_step : Sort → Span → Answer TypeState TypeName
opening_step (sort.Name x) s = More (Stars (base.Named (name_of x s)) [])
opening_step (sort.Word v) s = word_opening s v
opening_step _ s = Bad

abbrev pub mark_star : Mark → Span → Base → List Span → Answer TypeState TypeName
mark_star m.Star s b ss = More (Stars b (ss ++ s ∷ []))
mark_star k s b ss = Done (type_name b ss)

abbrev pub stars_step : Sort → Span → Base → List Span → Answer TypeState TypeName
stars_step (sort.Mark k) s b ss = mark_star k s b ss
stars_step k s b ss = Done (type_name b ss)

abbrev pub tag_step : Sort → Span → Span → Answer TypeState TypeName
tag_step (sort.Name x) s t = More (Stars (base.Struct t (name_of x s)) [])
tag_step _ s t = Bad

abbrev pub words_end : Sort → Span → Span → Option IntTy → Answer TypeState TypeName
words_end k s f None = Bad
words_end k s f (Some t) = stars_step k s (base.Int t f) []

abbrev pub words_more : Sort → Span → Span → IntWords → Option IntWords → Answer TypeState TypeName
words_more k s f v None = words_end k s f (int_finish v)
words_more k s f v (Some v') = More (Words f v')

abbrev pub words_step : Sort → Span → Span → IntWords → Answer TypeState TypeName
words_step (sort.Word x) s f v = words_more (sort.Word x) s f v (int_step x v)
words_step k s f v = words_end k s f (int_finish v)

abbrev pub type_step_at : Sort → Span → TypeState → Answer TypeState TypeName
type_step_at k s Opening = opening_step k s
type_step_at k s (Tag t) = tag_step k s t
type_step_at k s (Words f v) = words_step k s f v
type_step_at k s (Stars b ss) = stars_step k s b ss

abbrev pub type_step : Terminal → TypeState → Answer TypeState TypeName
type_step t st = type_step_at t.sort t.span st

-- a token that is no part of a type before it
abbrev pub Stops : Sort → Type 0
Stops (sort.Word v) = ⊥
Stops (sort.Mark m.Star) = ⊥
Stops _ = Unit {0}
