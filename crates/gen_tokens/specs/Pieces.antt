-- A text as pieces, each a token or a blank, and the tokens that they are (C, 6.4). The forms of pieces are this
-- project's own: those of the units that numbers stand for.
use Rattle.std.specs.Prelude.{ℕ, ◌+◌, ◌<◌, Bool, true, false, not, ◌&&◌, List, [], ◌∷◌, ◌++◌, length, decimal, is_some, Option, Some, None}
use Rattle.c_types.specs.declared.types.IntTy.TheVariants.{I32}
use Rattle.c_lex.specs.declared.words.Word.{Word}
use Rattle.c_lex.specs.declared.marks.Mark.{Mark}
use Rattle.c_lex.specs.declared.marks.Mark.TheVariants as mark
use Rattle.c_lex.specs.declared.token.TokKind.{TokKind}
use Rattle.c_lex.specs.declared.token.TokKind.TheVariants as kind
use Rattle.c_lex.specs.declared.token.Token.{Token}
use Rattle.c_lex.specs.Numbering.{word_number, word_text, mark_number, mark_text}
use Rattle.c_lex.specs.Spelling.{number_of_word}
use Rattle.c_lex.specs.Grammar.{is_name}

-- A space, an end of line, a reserved word, an identifier, the identifier `f` with a decimal number behind it, a
-- decimal number, or a mark.
pub data Piece : Type 0 where
  Space : Piece
  Line : Piece
  Reserved : Word → Piece
  Called : List ℕ → Piece
  Function : ℕ → Piece
  Constant : ℕ → Piece
  Sign : Mark → Piece

abbrev pub text_of : Piece → List ℕ
text_of Space = 32 ∷ []
text_of Line = 10 ∷ []
text_of (Reserved w) = word_text w
text_of (Called x) = x
text_of (Function k) = 102 ∷ decimal k
text_of (Constant k) = decimal k
text_of (Sign m) = mark_text m

-- the token that a piece is, if it is one
abbrev pub kind_of : Piece → Option TokKind
kind_of Space = None
kind_of Line = None
kind_of (Reserved w) = Some (kind.Word (word_number w))
kind_of (Called x) = Some (kind.Ident x)
kind_of (Function k) = Some (kind.Ident (102 ∷ decimal k))
kind_of (Constant k) = Some (kind.Number k I32)
kind_of (Sign m) = Some (kind.Mark (mark_number m))

-- the pieces one behind another
abbrev pub joined : List Piece → List ℕ
joined [] = []
joined (p ∷ ps) = text_of p ++ joined ps

abbrev pub before : Option TokKind → ℕ → ℕ → List Token → List Token
before None at end ts = ts
before (Some k) at end ts = record { kind = k; span = record { start = at; «end» = end } } ∷ ts

-- the tokens of pieces whose first byte stands at a place
abbrev pub tokens_at : ℕ → List Piece → List Token
tokens_at at [] = []
tokens_at at (p ∷ ps) = before (kind_of p) at (at + length (text_of p)) (tokens_at (at + length (text_of p)) ps)

-- What may stand behind a piece, so that no longer token stands there: no letter and no digit behind a word or a
-- number, and behind the mark of an operator a space.

abbrev pub ends_word : Piece → Bool
ends_word Space = true
ends_word Line = true
ends_word (Sign m) = true
ends_word _ = false

-- no longer mark begins with it
abbrev pub stands_alone : Mark → Bool
stands_alone mark.OpenParen = true
stands_alone mark.CloseParen = true
stands_alone mark.Semicolon = true
stands_alone mark.OpenBrace = true
stands_alone mark.CloseBrace = true
stands_alone mark.Comma = true
stands_alone mark.OpenBracket = true
stands_alone mark.CloseBracket = true
stands_alone mark.PlusPlus = true
stands_alone _ = false

abbrev pub is_operator : Mark → Bool
is_operator mark.Star = true
is_operator mark.Equal = true
is_operator mark.Minus = true
is_operator mark.Caret = true
is_operator mark.Less = true
is_operator mark.Plus = true
is_operator mark.Percent = true
is_operator _ = false

abbrev pub is_star : Mark → Bool
is_star mark.Star = true
is_star _ = false

-- the mark, and the piece behind it where it isn't one that stands alone
abbrev pub sign_apart : Mark → Piece → Bool
sign_apart m Space = is_operator m
sign_apart m (Called x) = is_star m
sign_apart m _ = false

abbrev pub either : Bool → Bool → Bool
either true b = true
either false b = b

-- an identifier, and no reserved word
abbrev pub is_called : List ℕ → Bool
is_called x = is_name x && not (is_some (number_of_word x))

abbrev pub is_apart : Piece → Piece → Bool
is_apart Space q = true
is_apart Line q = true
is_apart (Reserved w) q = ends_word q
is_apart (Called x) q = is_called x && ends_word q
is_apart (Function k) q = ends_word q
is_apart (Constant k) q = ends_word q
is_apart (Sign m) q = either (stands_alone m) (sign_apart m q)

-- a text ends with a blank
abbrev pub is_blank_piece : Piece → Bool
is_blank_piece Space = true
is_blank_piece Line = true
is_blank_piece _ = false

abbrev pub fits : Piece → List Piece → Bool
fits p [] = is_blank_piece p
fits p (q ∷ qs) = is_apart p q

abbrev pub all_fit : List Piece → Bool
all_fit [] = true
all_fit (p ∷ ps) = fits p ps && all_fit ps

-- identifiers that are some bytes, and numbers that an `int` holds
abbrev pub AreSmall : List Piece → Type 0
AreSmall [] = Unit {0}
AreSmall (Space ∷ ps) = AreSmall ps
AreSmall (Line ∷ ps) = AreSmall ps
AreSmall (Reserved w ∷ ps) = AreSmall ps
AreSmall (Called x ∷ ps) = AreSmall ps
AreSmall (Function k ∷ ps) = (k < 2147483648) × AreSmall ps
AreSmall (Constant k ∷ ps) = (k < 2147483648) × AreSmall ps
AreSmall (Sign m ∷ ps) = AreSmall ps
