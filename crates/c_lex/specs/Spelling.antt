-- The numbers of reserved words and marks by their spelling (C, 6.4.1 and 6.4.6).
use Rattle.std.specs.Prelude.{ℕ, List, Option, position}
use Rattle.std.specs.Str.{bytes_eq}
use Rattle.c_lex.specs.Numbering.{words, word_text, marks, mark_text}

-- the number of the reserved word that a text is
unfoldable pub number_of_word : List ℕ → Option ℕ
number_of_word text = position (λ word. bytes_eq text (word_text word)) words

-- the number of the mark that a text is
unfoldable pub number_of_mark : List ℕ → Option ℕ
number_of_mark text = position (λ mark. bytes_eq text (mark_text mark)) marks
