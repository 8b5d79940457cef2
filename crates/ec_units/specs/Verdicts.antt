-- What units come to: the program that they are, or the first reason why they are none. The order of
-- reasons and the numbers of bytes are this project's own.
use Rattle.std.specs.Prelude.{◌≡◌, ℕ, ◌+◌, max, nat_lt, if◌then◌else◌, Bool, List, [], ◌∷◌, ◌++◌, map, length, Contains, Option, Some, None, IfSome, Result, Ok, Err}
use Rattle.std.specs.Global.{Vec}
use Rattle.hx_io.specs.Files.{Files}
use Rattle.c_lex.specs.declared.token.TokKind.{TokKind}
use Rattle.c_lex.specs.declared.token.TokKind.TheVariants as kind
use Rattle.c_lex.specs.declared.token.Token.{Token}
use Rattle.c_lex.specs.declared.token.LexRefusal.{LexRefusal}
use Rattle.c_lex.specs.declared.token.LexRefusal.TheVariants as lexical
use Rattle.c_lex.specs.Reading.{tokens_of}
use Rattle.c_tree.specs.declared.declarations.Unit.{Unit as Unit'}
use Rattle.c_parser.specs.declared.refusals.ParseRefusal.{ParseRefusal}
use Rattle.c_parser.specs.declared.refusals.ParseRefusal.TheVariants as syntactic
use Rattle.c_parser.specs.Answers.{answer_of}
use Rattle.c_program.specs.declared.program.Program.{Program}
use Rattle.c_typing.specs.declared.faults.UnitFault.{UnitFault}
use Rattle.c_typing.specs.Units.{typed}
use Rattle.ec_report.specs.declared.kinds.UnitRefusal.{UnitRefusal}
use Rattle.ec_report.specs.declared.kinds.UnitRefusal.TheVariants.{BadByte, BadNumber, Unclosed, Directive, Syntax, TooDeep, Typing}
use Rattle.ec_report.specs.declared.kinds.LimitKind.{LimitKind}
use Rattle.ec_report.specs.declared.kinds.LimitKind.TheVariants.{Units, UnitBytes, AllBytes}
use Rattle.ec_limits.specs.declared.counts.Passed.{Passed}
use Rattle.ec_limits.specs.Limits.{greatest_by, passed}
use Rattle.ec_units.specs.declared.units.Checked.{Checked}
use Rattle.ec_units.specs.declared.refusals.UnitsRefusal.{UnitsRefusal}
use Rattle.ec_units.specs.declared.refusals.UnitsRefusal.TheVariants as refusal

-- A text

-- No reading of a text answers want of memory: that case stands for none.
abbrev pub lexical_refusal : LexRefusal → UnitRefusal
lexical_refusal (lexical.BadByte at) = BadByte at
lexical_refusal (lexical.BadNumber at) = BadNumber at
lexical_refusal (lexical.Unclosed at) = Unclosed at
lexical_refusal (lexical.Directive at) = Directive at
lexical_refusal lexical.NoMemory = BadByte 0

-- Nor does the answer to a list of tokens.
abbrev pub syntactic_refusal : ParseRefusal → UnitRefusal
syntactic_refusal (syntactic.Syntax at) = Syntax at
syntactic_refusal syntactic.TooDeep = TooDeep
syntactic_refusal syntactic.NoMemory = Syntax 0

abbrev pub text_parsed : Result Unit' ParseRefusal → Result Unit' UnitRefusal
text_parsed (Ok u) = Ok u
text_parsed (Err e) = Err (syntactic_refusal e)

abbrev pub text_lexed : Result (List Token) LexRefusal → Result Unit' UnitRefusal
text_lexed (Ok tokens) = text_parsed (answer_of tokens)
text_lexed (Err e) = Err (lexical_refusal e)

-- the unit that bytes are, or why they are none
unfoldable pub text_of : List ℕ → Result Unit' UnitRefusal
text_of bytes = text_lexed (tokens_of bytes)

-- the bytes of an identifier
abbrev pub kind_bytes : TokKind → ℕ
kind_bytes (kind.Ident name) = length name
kind_bytes (kind.Word w) = 0
kind_bytes (kind.Number n t) = 0
kind_bytes (kind.Char c) = 0
kind_bytes (kind.Text t) = 0
kind_bytes (kind.Mark m) = 0

abbrev pub longest_in : List Token → ℕ
longest_in tokens = greatest_by (λ (t : Token). kind_bytes t.kind) tokens

abbrev pub longest_lexed : Result (List Token) LexRefusal → ℕ
longest_lexed (Ok tokens) = longest_in tokens
longest_lexed (Err e) = 0

-- the bytes of the longest identifier of a text
unfoldable pub longest_of : List ℕ → ℕ
longest_of bytes = longest_lexed (tokens_of bytes)

-- Units

-- why units are none: no file of this name, a count over its limit, or the unit of this number
pub data Reason : Type 0 where
  absent : List ℕ → Reason
  over : LimitKind → ℕ → Reason
  broken : ℕ → UnitRefusal → Reason

-- the program and the bytes of each unit, or the first reason
pub data Verdict : Type 0 where
  passes : Program → List (List ℕ) → Verdict
  refuses : Reason → Verdict

-- a unit's name, and the bytes of its file where there is one
pub record Named : Type 0 where
  pub name : List ℕ
  pub file : Option (List ℕ)

-- the units so far, the bytes of each, how many these are together, and the longest identifier
pub record Texts : Type 0 where
  pub units : List Unit'
  pub sources : List (List ℕ)
  pub bytes : ℕ
  pub longest : ℕ

abbrev pub no_texts : Texts
no_texts = record { units = []; sources = []; bytes = 0; longest = 0 }

-- one more text, which is this unit
abbrev pub with_unit : Texts → List ℕ → Unit' → Texts
with_unit so_far bytes u = record {
  units = so_far.units ++ (u ∷ []);
  sources = so_far.sources ++ (bytes ∷ []);
  bytes = so_far.bytes + length bytes;
  longest = max so_far.longest (longest_of bytes);
}

abbrev pub add_read : ℕ → Texts → List ℕ → Result Unit' UnitRefusal → Result Texts Reason
add_read k so_far bytes (Ok u) = Ok (with_unit so_far bytes u)
add_read k so_far bytes (Err e) = Err (broken k e)

-- a text of these bytes, within the bytes of all
abbrev pub add_text : ℕ → Texts → List ℕ → Result Texts Reason
add_text k so_far bytes =
    if nat_lt 4194304 (so_far.bytes + length bytes) then Err (over AllBytes (so_far.bytes + length bytes))
    else add_read k so_far bytes (text_of bytes)

-- the file of the unit of this number; of a longer one its own length isn't told
abbrev pub add_file : ℕ → Texts → List ℕ → Option (List ℕ) → Result Texts Reason
add_file k so_far name None = Err (absent name)
add_file k so_far name (Some bytes) = if nat_lt 1048576 (length bytes) then Err (over UnitBytes 1048577) else add_text k so_far bytes

abbrev pub and_then : {A : Type 0} → Result A Reason → (A → Result A Reason) → Result A Reason
and_then (Ok x) next = next x
and_then (Err why) next = Err why

-- units in order, from a number on
unfoldable pub add_units : ℕ → Texts → List Named → Result Texts Reason
add_units k so_far [] = Ok so_far
add_units k so_far (u ∷ us) = and_then (add_file k so_far u.name u.file) (λ texts. add_units (k + 1) texts us)

-- A program

abbrev pub within_limits : Program → List (List ℕ) → Option Passed → Verdict
within_limits p sources None = passes p sources
within_limits p sources (Some limit) = refuses (over limit.which limit.count)

abbrev pub after_types : Texts → Result Program UnitFault → Verdict
after_types texts (Ok p) = within_limits p texts.sources (passed p texts.longest)
after_types texts (Err e) = refuses (broken e.unit (Typing e.kind e.at))

abbrev pub after_texts : Bool → Result Texts Reason → Verdict
after_texts whole (Ok texts) = after_types texts (typed texts.units whole)
after_texts whole (Err why) = refuses why

-- the verdict on units that were found so: their number first, then each, then what they are together
unfoldable pub judged : Bool → List Named → Verdict
judged whole us =
    if nat_lt 64 (length us) then refuses (over Units (length us)) else after_texts whole (add_units 0 no_texts us)

-- each name with its file
abbrev pub named_in : Files → List (List ℕ) → List Named
named_in files names = map (λ (n : List ℕ). record { name = n; file = files n }) names

-- the verdict on the units of these names
abbrev pub verdict : Files → List (List ℕ) → Bool → Verdict
verdict files names whole = judged whole (named_in files names)

-- names with the bytes that were found, as many as both have
abbrev pub named_with : List (List ℕ) → List (List ℕ) → List Named
named_with [] sources = []
named_with (n ∷ ns) [] = []
named_with (n ∷ ns) (s ∷ ss) = record { name = n; file = Some s } ∷ named_with ns ss

-- What a call answers

-- the bytes of each
abbrev pub texts_of : Vec (Vec ℕ) → List (List ℕ)
texts_of sources = map (λ (v : Vec ℕ). v.items) sources.items

-- the reason that a refusal tells. A failing store and want of memory are none of the units'
abbrev pub reason_of : UnitsRefusal → Option Reason
reason_of (refusal.Missing name) = Some (absent name.items)
reason_of (refusal.Limit which count) = Some (over which count)
reason_of (refusal.Unit k why) = Some (broken k why)
reason_of refusal.StoreFault = None
reason_of refusal.NoMemory = None

-- the answer is the verdict's, where it is the units'
abbrev pub Fits : Verdict → Result Checked UnitsRefusal → Type 0
Fits v (Ok c) = v ≡ passes c.program (texts_of c.sources)
Fits v (Err e) = IfSome (reason_of e) (λ why. v ≡ refuses why)

-- what is missing has one of these names
abbrev pub IsOneOf : List (List ℕ) → UnitsRefusal → Type 0
IsOneOf names (refusal.Missing name) = Contains names name.items
IsOneOf names (refusal.Limit which count) = Unit {0}
IsOneOf names (refusal.Unit k why) = Unit {0}
IsOneOf names refusal.StoreFault = Unit {0}
IsOneOf names refusal.NoMemory = Unit {0}
