-- The answer to a text, from those to its bytes and to its tokens.
use Rattle.std.proofs.Common.{◌≡◌, ℕ, List, Ok, Err, ap, ◌∙◌}
use Rattle.c_lex.specs.declared.token.Token.{Token}
use Rattle.c_lex.specs.declared.token.LexRefusal.{LexRefusal}
use Rattle.c_lex.specs.declared.token.LexRefusal.TheVariants as lexical
use Rattle.c_lex.specs.Reading.{tokens_of, Told}
use Rattle.c_tree.specs.declared.declarations.Unit.{Unit as Unit'}
use Rattle.c_parser.specs.declared.refusals.ParseRefusal.{ParseRefusal}
use Rattle.c_parser.specs.declared.refusals.ParseRefusal.TheVariants as syntactic
use Rattle.c_parser.specs.Answers.{answer_of, Gives}
use Rattle.ec_units.specs.Verdicts.{text_lexed, text_parsed, text_of, longest_lexed, longest_of, longest_in}
use Rattle.ec_units.specs.Steps.{ReadsText, told_lexical, told_syntactic}

pub read_lexical : (bytes : List ℕ) (e : LexRefusal) → Told e (tokens_of bytes) → ReadsText bytes (Err (told_lexical e))
unfolding text_of
read_lexical bytes (lexical.BadByte at) h = ap text_lexed h
read_lexical bytes (lexical.BadNumber at) h = ap text_lexed h
read_lexical bytes (lexical.Unclosed at) h = ap text_lexed h
read_lexical bytes (lexical.Directive at) h = ap text_lexed h
read_lexical bytes lexical.NoMemory h = tt

pub read_syntactic : (bytes : List ℕ) (tokens : List Token) (e : ParseRefusal) → tokens_of bytes ≡ Ok tokens → Gives (Err e) (answer_of tokens) → ReadsText bytes (Err (told_syntactic e))
unfolding text_of
read_syntactic bytes tokens (syntactic.Syntax at) h g = ap text_lexed h ∙ ap text_parsed g
read_syntactic bytes tokens syntactic.TooDeep h g = ap text_lexed h ∙ ap text_parsed g
read_syntactic bytes tokens syntactic.NoMemory h g = tt

pub read_unit : (bytes : List ℕ) (tokens : List Token) (u : Unit') → tokens_of bytes ≡ Ok tokens → answer_of tokens ≡ Ok u → text_of bytes ≡ Ok u
unfolding text_of
read_unit bytes tokens u h g = ap text_lexed h ∙ ap text_parsed g

pub read_longest : (bytes : List ℕ) (tokens : List Token) → tokens_of bytes ≡ Ok tokens → longest_of bytes ≡ longest_in tokens
unfolding longest_of
read_longest bytes tokens h = ap longest_lexed h
