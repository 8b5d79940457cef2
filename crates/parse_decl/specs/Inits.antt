-- The initial values of globals, and a machine that reads one with a stack of its own. The number n is
-- the cap on heights: a value whose tree is higher is given up.
use Rattle.std.specs.Prelude.{◌≡◌, ℕ, ℤ, ◌+◌, max, cond, List, [], ◌∷◌, ◌++◌, map, Option, Some, None, nat_lt, nat_le}
use Rattle.c_types.specs.declared.types.Span.{Span}
use Rattle.c_types.specs.declared.types.IntTy.{IntTy}
use Rattle.c_tree.specs.declared.expressions.Name.{Name}
use Rattle.c_tree.specs.declared.declarations.Step.{Step}
use Rattle.c_tree.specs.declared.declarations.Step.TheVariants as step
use Rattle.c_tree.specs.declared.declarations.Init.{Init}
use Rattle.c_tree.specs.declared.declarations.Init.TheVariants as init
use Rattle.c_tree.specs.Height.{tallest, init_height}
use Rattle.c_lex.specs.declared.marks.Mark.{Mark}
use Rattle.c_lex.specs.declared.marks.Mark.TheVariants as m
use Rattle.parse_terms.specs.declared.answer.Answer.{Answer}
use Rattle.parse_terms.specs.declared.answer.Answer.TheVariants.{More, Done, Bad}
use Rattle.parse_terms.specs.declared.answer.Verdict.{Verdict}
use Rattle.parse_terms.specs.declared.answer.Verdict.TheVariants as verdict
use Rattle.parse_terms.specs.declared.terminal.Sort.{Sort}
use Rattle.parse_terms.specs.declared.terminal.Sort.TheVariants as sort
use Rattle.parse_terms.specs.declared.terminal.Terminal.{Terminal}
use Rattle.parse_terms.specs.Terminals.{term, mark, named, name_of}
use Rattle.parse_terms.specs.Declarators.{literal, number}
use Rattle.parse_decl.specs.declared.inits.InitPart.{InitPart}
use Rattle.parse_decl.specs.declared.inits.InitPart.TheVariants as part
use Rattle.parse_decl.specs.declared.inits.InitParts.{InitParts}
use Rattle.parse_decl.specs.declared.inits.InitParts.TheVariants as parts
use Rattle.parse_decl.specs.declared.inits.Address.{Address}
use Rattle.parse_decl.specs.declared.inits.InitFrame.{InitFrame}
use Rattle.parse_decl.specs.declared.inits.InitFocus.{InitFocus}
use Rattle.parse_decl.specs.declared.inits.InitFocus.TheVariants.{Value, Next, Negated, Addressed, Stepping, Dot, Bracket, Closing, Whole}
use Rattle.parse_decl.specs.declared.inits.InitState.{InitState}

-- ---- the grammar

abbrev pub address : Option Span → Name → List Step → Address
address o x ps = record { ampersand = o; name = x; steps = ps }

abbrev pub with_step : Address → Step → Address
with_step r p = address r.ampersand r.name (r.steps ++ p ∷ [])

-- ["&"] ID { "." ID | "[" NUM "]" }
pub data IsAddress : Address → List Terminal → List Terminal → Type 0 where
  place : {x : List ℕ} {s : Span} {a : List Terminal} → IsAddress (address None (name_of x s) []) (named x s ∷ a) a
  ampersand : {x : List ℕ} {s u : Span} {a : List Terminal} → IsAddress (address (Some u) (name_of x s) []) (mark m.Ampersand u ∷ named x s ∷ a) a
  field : {r : Address} {x : List ℕ} {s u : Span} {a b : List Terminal} → IsAddress r a (mark m.Dot s ∷ named x u ∷ b) → IsAddress (with_step r (step.Field s (name_of x u))) a b
  element : {r : Address} {v : ℕ} {t : IntTy} {s u e : Span} {a b : List Terminal} → IsAddress r a (mark m.OpenBracket s ∷ number v t u ∷ mark m.CloseBracket e ∷ b) →
      IsAddress (with_step r (step.Index s (literal v t u))) a b

abbrev pub address_init : Address → Init
address_init r = init.Name r.ampersand r.name r.steps

mutual
  -- init = ["-"] NUM | CHAR | TEXT | ["&"] ID { "." ID | "[" NUM "]" } | "{" init { "," init } [","] "}"
  pub data IsInit : Init → List Terminal → List Terminal → Type 0 where
    positive : {v : ℕ} {t : IntTy} {s : Span} {a : List Terminal} → IsInit (init.Number None (literal v t s)) (number v t s ∷ a) a
    negative : {v : ℕ} {t : IntTy} {s u : Span} {a : List Terminal} → IsInit (init.Number (Some u) (literal v t s)) (mark m.Minus u ∷ number v t s ∷ a) a
    char : {c : ℤ} {s : Span} {a : List Terminal} → IsInit (init.Char c s) (term (sort.Char c) s ∷ a) a
    text : {x : List ℕ} {s : Span} {a : List Terminal} → IsInit (init.Text x s) (term (sort.Text x) s ∷ a) a
    addressed : {r : Address} {a b : List Terminal} → IsAddress r a b → IsInit (address_init r) a b
    braces : {is : List Init} {s u : Span} {a b : List Terminal} → IsInits is a (mark m.CloseBrace u ∷ b) → IsInit (init.List s is) (mark m.OpenBrace s ∷ a) b
    with_comma : {is : List Init} {s u v : Span} {a b : List Terminal} → IsInits is a (mark m.Comma v ∷ mark m.CloseBrace u ∷ b) → IsInit (init.List s is) (mark m.OpenBrace s ∷ a) b

  -- init { "," init }
  pub data IsInits : List Init → List Terminal → List Terminal → Type 0 where
    first_init : {i : Init} {a b : List Terminal} → IsInit i a b → IsInits (i ∷ []) a b
    next_init : {is : List Init} {i : Init} {s : Span} {a b c : List Terminal} → IsInits is a (mark m.Comma s ∷ b) → IsInit i b c → IsInits (is ++ i ∷ []) a c

-- ---- values that are given up once they are too high

-- a tree that is no higher than n
abbrev pub cap_init : ℕ → Init → InitPart
cap_init n i = cond (nat_le (init_height i) n) (part.Built i (init_height i)) part.Deep

abbrev pub cap_inits : ℕ → List Init → InitParts
cap_inits n is = cond (nat_le (tallest (map init_height is)) n) (parts.Built is (tallest (map init_height is))) parts.Deep

-- one node without parts
abbrev pub init_leaf : Init → InitPart
init_leaf i = part.Built i 1

abbrev pub no_inits : InitParts
no_inits = parts.Built [] 0

abbrev pub more_inits : InitParts → InitPart → InitParts
more_inits (parts.Built is h) (part.Built i k) = parts.Built (is ++ i ∷ []) (max h k)
more_inits (parts.Built is h) part.Deep = parts.Deep
more_inits parts.Deep p = parts.Deep

abbrev pub list_of : ℕ → Span → InitParts → InitPart
list_of n s (parts.Built is h) = cond (nat_lt h n) (part.Built (init.List s is) (h + 1)) part.Deep
list_of n s parts.Deep = part.Deep

unfoldable pub with_init : InitParts → InitPart → InitParts
with_init = more_inits

unfoldable pub listed_init : ℕ → Span → InitParts → InitPart
listed_init = list_of

-- ---- what a token does

abbrev pub frame : Span → InitParts → InitFrame
frame s ps = record { brace = s; parts = ps }

abbrev pub init_state : InitFocus → List InitFrame → InitState
init_state f fs = record { focus = f; frames = fs }

-- where a value begins
abbrev pub init_start : InitState
init_start = init_state Value []

abbrev pub InitSaid : Type 0
InitSaid = Answer InitState InitPart

abbrev pub to_init : InitFocus → List InitFrame → InitSaid
to_init f fs = More (init_state f fs)

abbrev pub value_mark : Mark → Span → List InitFrame → InitSaid
value_mark m.Minus s fs = to_init (Negated s) fs
value_mark m.Ampersand s fs = to_init (Addressed s) fs
value_mark m.OpenBrace s fs = to_init Value (frame s no_inits ∷ fs)
value_mark _ s fs = Bad

-- a value is to begin
abbrev pub value_step : Sort → Span → List InitFrame → InitSaid
value_step (sort.Number v t) s fs = to_init (Whole (init_leaf (init.Number None (literal v t s)))) fs
value_step (sort.Char c) s fs = to_init (Whole (init_leaf (init.Char c s))) fs
value_step (sort.Text x) s fs = to_init (Whole (init_leaf (init.Text x s))) fs
value_step (sort.Name x) s fs = to_init (Stepping (address None (name_of x s) [])) fs
value_step (sort.Mark k) s fs = value_mark k s fs
value_step _ s fs = Bad

-- } behind the values of a list
abbrev pub shut : ℕ → List InitFrame → InitSaid
shut n (f ∷ fs) = to_init (Whole (listed_init n f.brace f.parts)) fs
shut n [] = Bad

-- behind a comma: a value is to begin, or the list ends
abbrev pub next_mark : ℕ → Mark → Span → List InitFrame → InitSaid
next_mark n m.CloseBrace s fs = shut n fs
next_mark n k s fs = value_mark k s fs

abbrev pub next_step : ℕ → Sort → Span → List InitFrame → InitSaid
next_step n (sort.Mark k) s fs = next_mark n k s fs
next_step n k s fs = value_step k s fs

abbrev pub negated_step : Sort → Span → Span → List InitFrame → InitSaid
negated_step (sort.Number v t) s u fs = to_init (Whole (init_leaf (init.Number (Some u) (literal v t s)))) fs
negated_step _ s u fs = Bad

abbrev pub addressed_step : Sort → Span → Span → List InitFrame → InitSaid
addressed_step (sort.Name x) s u fs = to_init (Stepping (address (Some u) (name_of x s) [])) fs
addressed_step _ s u fs = Bad

abbrev pub whole_in : ℕ → Mark → InitPart → InitFrame → List InitFrame → InitSaid
whole_in n m.Comma p f fs = to_init Next (frame f.brace (with_init f.parts p) ∷ fs)
whole_in n m.CloseBrace p f fs = shut n (frame f.brace (with_init f.parts p) ∷ fs)
whole_in n _ p f fs = Bad

abbrev pub whole_at : ℕ → Sort → InitPart → InitFrame → List InitFrame → InitSaid
whole_at n (sort.Mark k) p f fs = whole_in n k p f fs
whole_at n _ p f fs = Bad

-- behind a value
abbrev pub whole_step : ℕ → Sort → InitPart → List InitFrame → InitSaid
whole_step n k p [] = Done p
whole_step n k p (f ∷ fs) = whole_at n k p f fs

abbrev pub stepping_mark : ℕ → Mark → Span → Address → List InitFrame → InitSaid
stepping_mark n m.Dot s r fs = to_init (Dot r s) fs
stepping_mark n m.OpenBracket s r fs = to_init (Bracket r s) fs
stepping_mark n k s r fs = whole_step n (sort.Mark k) (init_leaf (address_init r)) fs

abbrev pub stepping_step : ℕ → Sort → Span → Address → List InitFrame → InitSaid
stepping_step n (sort.Mark k) s r fs = stepping_mark n k s r fs
stepping_step n k s r fs = whole_step n k (init_leaf (address_init r)) fs

abbrev pub dot_step : Sort → Span → Address → Span → List InitFrame → InitSaid
dot_step (sort.Name x) s r u fs = to_init (Stepping (with_step r (step.Field u (name_of x s)))) fs
dot_step _ s r u fs = Bad

abbrev pub bracket_step : Sort → Span → Address → Span → List InitFrame → InitSaid
bracket_step (sort.Number v t) s r u fs = to_init (Closing (with_step r (step.Index u (literal v t s)))) fs
bracket_step _ s r u fs = Bad

abbrev pub closing_mark : Mark → Address → List InitFrame → InitSaid
closing_mark m.CloseBracket r fs = to_init (Stepping r) fs
closing_mark _ r fs = Bad

abbrev pub closing_step : Sort → Address → List InitFrame → InitSaid
closing_step (sort.Mark k) r fs = closing_mark k r fs
closing_step _ r fs = Bad

abbrev pub init_step_at : ℕ → Terminal → InitFocus → List InitFrame → InitSaid
init_step_at n t Value fs = value_step t.sort t.span fs
init_step_at n t Next fs = next_step n t.sort t.span fs
init_step_at n t (Negated u) fs = negated_step t.sort t.span u fs
init_step_at n t (Addressed u) fs = addressed_step t.sort t.span u fs
init_step_at n t (Stepping r) fs = stepping_step n t.sort t.span r fs
init_step_at n t (Dot r u) fs = dot_step t.sort t.span r u fs
init_step_at n t (Bracket r u) fs = bracket_step t.sort t.span r u fs
init_step_at n t (Closing r) fs = closing_step t.sort r fs
init_step_at n t (Whole p) fs = whole_step n t.sort p fs

abbrev pub init_step : ℕ → Terminal → InitState → InitSaid
init_step n t st = init_step_at n t st.focus st.frames

-- a token that is no part of a value before it
abbrev pub EndsInit : Sort → Type 0
EndsInit (sort.Mark m.Dot) = ⊥
EndsInit (sort.Mark m.OpenBracket) = ⊥
EndsInit _ = Unit {0}

-- the part is that of a value between the tokens z and what is left, a
pub record IsInitRead (n : ℕ) (p : InitPart) (z a : List Terminal) : Type 0 where
  pub tree : Init
  pub is : p ≡ cap_init n tree
  pub reads : IsInit tree z a

-- the verdict says what was answered, and the state is the one that comes of it
abbrev pub InitSays : Verdict InitPart → InitSaid → InitState → Type 0
InitSays verdict.More o st = o ≡ More st
InitSays (verdict.Done p) o st = o ≡ Done p
InitSays verdict.Bad o st = o ≡ Bad
