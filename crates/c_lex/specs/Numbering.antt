-- The reserved words and the marks of the C subset, each with its spelling, numbered from 0 by their
-- first place in the grammar's productions; the words that no production takes come last.
use Rattle.std.specs.Prelude.{ℕ, List, [], ◌∷◌, Option, slice_get, codes}
use Rattle.c_lex.specs.declared.words.Word.{Word}
use Rattle.c_lex.specs.declared.words.Word.TheVariants as word
use Rattle.c_lex.specs.declared.marks.Mark.{Mark}
use Rattle.c_lex.specs.declared.marks.Mark.TheVariants as mark

-- the reserved words in the order of their numbers
abbrev pub words : List Word
words =
    word.Typedef ∷ word.Struct ∷ word.Extern ∷ word.Adjustor ∷ word.Void ∷ word.Signed ∷ word.Unsigned ∷ word.Char ∷ word.Short ∷ word.Int ∷ word.Long ∷ word.VaList ∷ word.Break ∷ word.Continue ∷ word.If ∷ word.Else ∷ word.While ∷ word.Do ∷ word.For ∷ word.Return ∷ word.VaStart ∷ word.VaEnd ∷ word.Sizeof ∷ word.VaArg ∷ word.Auto ∷ word.Case ∷ word.Const ∷ word.Default ∷ word.Double ∷ word.Enum ∷ word.Float ∷ word.Goto ∷ word.Inline ∷ word.Register ∷ word.Restrict ∷ word.Static ∷ word.Switch ∷ word.Union ∷ word.Volatile ∷ []

-- the marks in the order of their numbers
abbrev pub marks : List Mark
marks =
    mark.Star ∷ mark.OpenParen ∷ mark.CloseParen ∷ mark.Semicolon ∷ mark.OpenBrace ∷ mark.CloseBrace ∷ mark.Equal ∷ mark.Comma ∷ mark.Minus ∷ mark.OpenBracket ∷ mark.CloseBracket ∷ mark.Ellipsis ∷ mark.Ampersand ∷ mark.Dot ∷ mark.PlusEqual ∷ mark.MinusEqual ∷ mark.StarEqual ∷ mark.SlashEqual ∷ mark.PercentEqual ∷ mark.AmpersandEqual ∷ mark.BarEqual ∷ mark.CaretEqual ∷ mark.ShiftLeftEqual ∷ mark.ShiftRightEqual ∷ mark.Question ∷ mark.Colon ∷ mark.BarBar ∷ mark.AmpersandAmpersand ∷ mark.Bar ∷ mark.Caret ∷ mark.EqualEqual ∷ mark.NotEqual ∷ mark.Less ∷ mark.LessEqual ∷ mark.Greater ∷ mark.GreaterEqual ∷ mark.ShiftLeft ∷ mark.ShiftRight ∷ mark.Plus ∷ mark.Slash ∷ mark.Percent ∷ mark.PlusPlus ∷ mark.MinusMinus ∷ mark.Tilde ∷ mark.Exclamation ∷ mark.Arrow ∷ []

abbrev pub word_numbered : ℕ → Option Word
word_numbered n = slice_get words n

abbrev pub mark_numbered : ℕ → Option Mark
mark_numbered n = slice_get marks n

abbrev pub word_number : Word → ℕ
word_number word.Typedef = 0
word_number word.Struct = 1
word_number word.Extern = 2
word_number word.Adjustor = 3
word_number word.Void = 4
word_number word.Signed = 5
word_number word.Unsigned = 6
word_number word.Char = 7
word_number word.Short = 8
word_number word.Int = 9
word_number word.Long = 10
word_number word.VaList = 11
word_number word.Break = 12
word_number word.Continue = 13
word_number word.If = 14
word_number word.Else = 15
word_number word.While = 16
word_number word.Do = 17
word_number word.For = 18
word_number word.Return = 19
word_number word.VaStart = 20
word_number word.VaEnd = 21
word_number word.Sizeof = 22
word_number word.VaArg = 23
word_number word.Auto = 24
word_number word.Case = 25
word_number word.Const = 26
word_number word.Default = 27
word_number word.Double = 28
word_number word.Enum = 29
word_number word.Float = 30
word_number word.Goto = 31
word_number word.Inline = 32
word_number word.Register = 33
word_number word.Restrict = 34
word_number word.Static = 35
word_number word.Switch = 36
word_number word.Union = 37
word_number word.Volatile = 38

abbrev pub mark_number : Mark → ℕ
mark_number mark.Star = 0
mark_number mark.OpenParen = 1
mark_number mark.CloseParen = 2
mark_number mark.Semicolon = 3
mark_number mark.OpenBrace = 4
mark_number mark.CloseBrace = 5
mark_number mark.Equal = 6
mark_number mark.Comma = 7
mark_number mark.Minus = 8
mark_number mark.OpenBracket = 9
mark_number mark.CloseBracket = 10
mark_number mark.Ellipsis = 11
mark_number mark.Ampersand = 12
mark_number mark.Dot = 13
mark_number mark.PlusEqual = 14
mark_number mark.MinusEqual = 15
mark_number mark.StarEqual = 16
mark_number mark.SlashEqual = 17
mark_number mark.PercentEqual = 18
mark_number mark.AmpersandEqual = 19
mark_number mark.BarEqual = 20
mark_number mark.CaretEqual = 21
mark_number mark.ShiftLeftEqual = 22
mark_number mark.ShiftRightEqual = 23
mark_number mark.Question = 24
mark_number mark.Colon = 25
mark_number mark.BarBar = 26
mark_number mark.AmpersandAmpersand = 27
mark_number mark.Bar = 28
mark_number mark.Caret = 29
mark_number mark.EqualEqual = 30
mark_number mark.NotEqual = 31
mark_number mark.Less = 32
mark_number mark.LessEqual = 33
mark_number mark.Greater = 34
mark_number mark.GreaterEqual = 35
mark_number mark.ShiftLeft = 36
mark_number mark.ShiftRight = 37
mark_number mark.Plus = 38
mark_number mark.Slash = 39
mark_number mark.Percent = 40
mark_number mark.PlusPlus = 41
mark_number mark.MinusMinus = 42
mark_number mark.Tilde = 43
mark_number mark.Exclamation = 44
mark_number mark.Arrow = 45

-- the bytes of a reserved word
abbrev pub word_text : Word → List ℕ
word_text word.Typedef = codes "typedef"
word_text word.Struct = codes "struct"
word_text word.Extern = codes "extern"
word_text word.Adjustor = codes "__adjustor"
word_text word.Void = codes "void"
word_text word.Signed = codes "signed"
word_text word.Unsigned = codes "unsigned"
word_text word.Char = codes "char"
word_text word.Short = codes "short"
word_text word.Int = codes "int"
word_text word.Long = codes "long"
word_text word.VaList = codes "va_list"
word_text word.Break = codes "break"
word_text word.Continue = codes "continue"
word_text word.If = codes "if"
word_text word.Else = codes "else"
word_text word.While = codes "while"
word_text word.Do = codes "do"
word_text word.For = codes "for"
word_text word.Return = codes "return"
word_text word.VaStart = codes "va_start"
word_text word.VaEnd = codes "va_end"
word_text word.Sizeof = codes "sizeof"
word_text word.VaArg = codes "va_arg"
word_text word.Auto = codes "auto"
word_text word.Case = codes "case"
word_text word.Const = codes "const"
word_text word.Default = codes "default"
word_text word.Double = codes "double"
word_text word.Enum = codes "enum"
word_text word.Float = codes "float"
word_text word.Goto = codes "goto"
word_text word.Inline = codes "inline"
word_text word.Register = codes "register"
word_text word.Restrict = codes "restrict"
word_text word.Static = codes "static"
word_text word.Switch = codes "switch"
word_text word.Union = codes "union"
word_text word.Volatile = codes "volatile"

-- the bytes of a mark
abbrev pub mark_text : Mark → List ℕ
mark_text mark.Star = codes "*"
mark_text mark.OpenParen = codes "("
mark_text mark.CloseParen = codes ")"
mark_text mark.Semicolon = codes ";"
mark_text mark.OpenBrace = codes "{"
mark_text mark.CloseBrace = codes "}"
mark_text mark.Equal = codes "="
mark_text mark.Comma = codes ","
mark_text mark.Minus = codes "-"
mark_text mark.OpenBracket = codes "["
mark_text mark.CloseBracket = codes "]"
mark_text mark.Ellipsis = codes "..."
mark_text mark.Ampersand = codes "&"
mark_text mark.Dot = codes "."
mark_text mark.PlusEqual = codes "+="
mark_text mark.MinusEqual = codes "-="
mark_text mark.StarEqual = codes "*="
mark_text mark.SlashEqual = codes "/="
mark_text mark.PercentEqual = codes "%="
mark_text mark.AmpersandEqual = codes "&="
mark_text mark.BarEqual = codes "|="
mark_text mark.CaretEqual = codes "^="
mark_text mark.ShiftLeftEqual = codes "<<="
mark_text mark.ShiftRightEqual = codes ">>="
mark_text mark.Question = codes "?"
mark_text mark.Colon = codes ":"
mark_text mark.BarBar = codes "||"
mark_text mark.AmpersandAmpersand = codes "&&"
mark_text mark.Bar = codes "|"
mark_text mark.Caret = codes "^"
mark_text mark.EqualEqual = codes "=="
mark_text mark.NotEqual = codes "!="
mark_text mark.Less = codes "<"
mark_text mark.LessEqual = codes "<="
mark_text mark.Greater = codes ">"
mark_text mark.GreaterEqual = codes ">="
mark_text mark.ShiftLeft = codes "<<"
mark_text mark.ShiftRight = codes ">>"
mark_text mark.Plus = codes "+"
mark_text mark.Slash = codes "/"
mark_text mark.Percent = codes "%"
mark_text mark.PlusPlus = codes "++"
mark_text mark.MinusMinus = codes "--"
mark_text mark.Tilde = codes "~"
mark_text mark.Exclamation = codes "!"
mark_text mark.Arrow = codes "->"
