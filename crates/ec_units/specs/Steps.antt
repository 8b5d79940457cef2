-- What the parts of a call answer.
use Rattle.std.specs.Prelude.{◌≡◌, ℕ, max, List, [], ◌∷◌, ◌++◌, length, Option, Some, IfSome, Result, Ok, Err}
use Rattle.std.specs.Global.{Vec}
use Rattle.c_lex.specs.declared.token.LexRefusal.{LexRefusal}
use Rattle.c_lex.specs.declared.token.LexRefusal.TheVariants as lexical
use Rattle.c_parser.specs.declared.refusals.ParseRefusal.{ParseRefusal}
use Rattle.c_parser.specs.declared.refusals.ParseRefusal.TheVariants as syntactic
use Rattle.c_check.specs.declared.refusals.CheckRefusal.{CheckRefusal}
use Rattle.c_check.specs.declared.refusals.CheckRefusal.TheVariants as types
use Rattle.ec_report.specs.declared.kinds.UnitRefusal.TheVariants.{BadByte, BadNumber, Unclosed, Directive, Syntax, TooDeep, Typing}
use Rattle.ec_units.specs.declared.texts.Text.{Text}
use Rattle.ec_units.specs.declared.texts.TextRefusal.{TextRefusal}
use Rattle.ec_units.specs.declared.texts.TextRefusal.TheVariants.{Refused, NoMemory}
use Rattle.ec_units.specs.declared.state.Loaded.{Loaded}
use Rattle.ec_units.specs.declared.refusals.UnitsRefusal.{UnitsRefusal}
use Rattle.ec_units.specs.declared.refusals.UnitsRefusal.TheVariants as refusal
use Rattle.ec_units.specs.Verdicts.{Reason, Named, Texts, no_texts, text_of, longest_of, texts_of, reason_of, add_file, add_units, named_with}

-- a refusal of the bytes, of the tokens, or of the types of all units; want of memory is itself
abbrev pub told_lexical : LexRefusal → TextRefusal
told_lexical (lexical.BadByte at) = Refused (BadByte at)
told_lexical (lexical.BadNumber at) = Refused (BadNumber at)
told_lexical (lexical.Unclosed at) = Refused (Unclosed at)
told_lexical (lexical.Directive at) = Refused (Directive at)
told_lexical lexical.NoMemory = NoMemory

abbrev pub told_syntactic : ParseRefusal → TextRefusal
told_syntactic (syntactic.Syntax at) = Refused (Syntax at)
told_syntactic syntactic.TooDeep = Refused TooDeep
told_syntactic syntactic.NoMemory = NoMemory

abbrev pub told_types : CheckRefusal → UnitsRefusal
told_types (types.Bad unit kind at) = refusal.Unit unit (Typing kind at)
told_types types.NoMemory = refusal.NoMemory

-- the unit that bytes are, with their longest identifier, or why they are none
abbrev pub ReadsText : List ℕ → Result Text TextRefusal → Type 0
ReadsText bytes (Ok text) = (text_of bytes ≡ Ok text.unit) × (longest_of bytes ≡ text.longest_name)
ReadsText bytes (Err (Refused why)) = text_of bytes ≡ Err why
ReadsText bytes (Err NoMemory) = Unit {0}

-- the texts that were loaded
abbrev pub texts_in : Loaded → Texts
texts_in l = record { units = l.units.items; sources = texts_of l.sources; bytes = l.bytes; longest = l.longest_name }

-- one more text and its bytes, which makes so many bytes
abbrev pub with_text : Texts → Text → List ℕ → ℕ → Texts
with_text t text source bytes = record {
  units = t.units ++ (text.unit ∷ []);
  sources = t.sources ++ (source ∷ []);
  bytes = bytes;
  longest = max t.longest text.longest_name;
}

-- the texts that the call leaves, or the reason
abbrev pub LeavesTexts : Result Texts Reason → Result (Unit {0}) UnitsRefusal → Texts → Type 0
LeavesTexts rule (Ok u) new = rule ≡ Ok new
LeavesTexts rule (Err e) new = IfSome (reason_of e) (λ why. rule ≡ Err why)

-- a refusal of a text: it tells no missing file and no fault of the store
abbrev pub IsOfText : UnitsRefusal → Type 0
IsOfText (refusal.Missing name) = ⊥
IsOfText (refusal.Limit which count) = Unit {0}
IsOfText (refusal.Unit k why) = Unit {0}
IsOfText refusal.StoreFault = ⊥
IsOfText refusal.NoMemory = Unit {0}

-- that a unit of this name is missing
abbrev pub IsMissing : List ℕ → UnitsRefusal → Type 0
IsMissing name (refusal.Missing n) = n.items ≡ name
IsMissing name (refusal.Limit which count) = ⊥
IsMissing name (refusal.Unit k why) = ⊥
IsMissing name refusal.StoreFault = ⊥
IsMissing name refusal.NoMemory = Unit {0}

-- what is missing, if it is that, has this name
abbrev pub NamesMissing : List ℕ → UnitsRefusal → Type 0
NamesMissing name (refusal.Missing n) = n.items ≡ name
NamesMissing name (refusal.Limit which count) = Unit {0}
NamesMissing name (refusal.Unit k why) = Unit {0}
NamesMissing name refusal.StoreFault = Unit {0}
NamesMissing name refusal.NoMemory = Unit {0}

-- the bytes of a file of this name, or a reason that holds of it as any unit
abbrev pub FindsUnit : Option (List ℕ) → List ℕ → Result (Vec ℕ) UnitsRefusal → Type 0
FindsUnit file name (Ok bytes) = file ≡ Some bytes.items
FindsUnit file name (Err e) = IfSome (reason_of e) (λ why. (k : ℕ) (t : Texts) → add_file k t name file ≡ Err why)

-- one more text, of a file of this name
abbrev pub AddsFile : ℕ → Texts → List ℕ → Texts → Type 0
AddsFile k old name new = (bytes : List ℕ) × (add_file k old name (Some bytes) ≡ Ok new)

-- texts of files of these names, one each, whatever is found of the names behind them
pub record AreRead (names : List (List ℕ)) (texts : Texts) : Type 0 where
  pub each : length texts.sources ≡ length names
  pub first : (more : List Named) → add_units 0 no_texts (named_with names texts.sources ++ more) ≡ add_units (length names) texts more
