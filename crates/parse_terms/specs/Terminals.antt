-- Tokens as the grammar sees them: names, numbers, characters, texts, and reserved words and marks by
-- what they are in place of their numbers.
use Rattle.std.specs.Prelude.{◌≡◌, ℕ, List, [], ◌∷◌, Option, Some, None}
use Rattle.c_types.specs.declared.types.Span.{Span}
use Rattle.c_tree.specs.declared.expressions.Name.{Name}
use Rattle.c_lex.specs.declared.words.Word.{Word}
use Rattle.c_lex.specs.declared.marks.Mark.{Mark}
use Rattle.c_lex.specs.declared.token.TokKind.{TokKind}
use Rattle.c_lex.specs.declared.token.TokKind.TheVariants as kind
use Rattle.c_lex.specs.declared.token.Token.{Token}
use Rattle.c_lex.specs.Numbering.{word_numbered, mark_numbered}
use Rattle.parse_terms.specs.declared.terminal.Sort.{Sort}
use Rattle.parse_terms.specs.declared.terminal.Sort.TheVariants as sort
use Rattle.parse_terms.specs.declared.terminal.Terminal.{Terminal}

abbrev pub word_sort : Option Word → Sort
word_sort None = sort.Unknown
word_sort (Some w) = sort.Word w

abbrev pub mark_sort : Option Mark → Sort
mark_sort None = sort.Unknown
mark_sort (Some m) = sort.Mark m

abbrev pub sort_of : TokKind → Sort
sort_of (kind.Ident x) = sort.Name x
sort_of (kind.Word n) = word_sort (word_numbered n)
sort_of (kind.Number v t) = sort.Number v t
sort_of (kind.Char c) = sort.Char c
sort_of (kind.Text x) = sort.Text x
sort_of (kind.Mark n) = mark_sort (mark_numbered n)

abbrev pub term : Sort → Span → Terminal
term k s = record { sort = k; span = s }

abbrev pub terminal_of : Token → Terminal
terminal_of t = term (sort_of t.kind) t.span

abbrev pub word : Word → Span → Terminal
word w s = term (sort.Word w) s

abbrev pub mark : Mark → Span → Terminal
mark m s = term (sort.Mark m) s

abbrev pub named : List ℕ → Span → Terminal
named x s = term (sort.Name x) s

abbrev pub name_of : List ℕ → Span → Name
name_of x s = record { text = x; span = s }
