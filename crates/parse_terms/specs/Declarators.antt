-- Declarators: decl = { "*" } ID { "[" NUM "]" }.
use Rattle.std.specs.Prelude.{◌≡◌, ℕ, List, [], ◌∷◌, ◌++◌}
use Rattle.c_types.specs.declared.types.Span.{Span}
use Rattle.c_types.specs.declared.types.IntTy.{IntTy}
use Rattle.c_tree.specs.declared.expressions.Name.{Name}
use Rattle.c_tree.specs.declared.expressions.Literal.{Literal}
use Rattle.c_tree.specs.declared.declarations.Decl.{Decl}
use Rattle.c_lex.specs.declared.marks.Mark.{Mark}
use Rattle.c_lex.specs.declared.marks.Mark.TheVariants as m
use Rattle.parse_terms.specs.declared.answer.Answer.{Answer}
use Rattle.parse_terms.specs.declared.answer.Answer.TheVariants.{More, Done, Bad}
use Rattle.parse_terms.specs.declared.terminal.Sort.{Sort}
use Rattle.parse_terms.specs.declared.terminal.Sort.TheVariants as sort
use Rattle.parse_terms.specs.declared.terminal.Terminal.{Terminal}
use Rattle.parse_terms.specs.declared.declarators.DeclState.{DeclState}
use Rattle.parse_terms.specs.declared.declarators.DeclState.TheVariants.{Stars, Named, Length, Closing}
use Rattle.parse_terms.specs.Terminals.{term, mark, named, name_of}
use Rattle.parse_terms.specs.TypeNames.{IsStars}

abbrev pub literal : ℕ → IntTy → Span → Literal
literal v t s = record { value = v; ty = t; span = s }

abbrev pub number : ℕ → IntTy → Span → Terminal
number v t s = term (sort.Number v t) s

abbrev pub decl : List Span → Name → List Literal → Decl
decl ss n ls = record { stars = ss; name = n; lengths = ls }

-- { "[" NUM "]" }
pub data IsLengths : List Literal → List Terminal → List Terminal → Type 0 where
  no_lengths : {a : List Terminal} → IsLengths [] a a
  length : {ls : List Literal} {v : ℕ} {t : IntTy} {s u r : Span} {a b : List Terminal} →
      IsLengths ls a (mark m.OpenBracket s ∷ number v t u ∷ mark m.CloseBracket r ∷ b) → IsLengths (ls ++ literal v t u ∷ []) a b

pub data IsDecl : Decl → List Terminal → List Terminal → Type 0 where
  declared : {ss : List Span} {x : List ℕ} {s : Span} {ls : List Literal} {a b c : List Terminal} →
      IsStars ss a (named x s ∷ b) → IsLengths ls b c → IsDecl (decl ss (name_of x s) ls) a c

abbrev pub star_or_bad : Mark → Span → List Span → Answer DeclState Decl
star_or_bad m.Star s ss = More (Stars (ss ++ s ∷ []))
star_or_bad k s ss = Bad

abbrev pub decl_stars_step : Sort → Span → List Span → Answer DeclState Decl
decl_stars_step (sort.Name x) s ss = More (Named (decl ss (name_of x s) []))
decl_stars_step (sort.Mark k) s ss = star_or_bad k s ss
decl_stars_step k s ss = Bad

abbrev pub open_or_done : Mark → Decl → Answer DeclState Decl
open_or_done m.OpenBracket d = More (Length d)
open_or_done k d = Done d

abbrev pub named_step : Sort → Decl → Answer DeclState Decl
named_step (sort.Mark k) d = open_or_done k d
named_step k d = Done d

abbrev pub length_step : Sort → Span → Decl → Answer DeclState Decl
length_step (sort.Number v t) s d = More (Closing (decl d.stars d.name (d.lengths ++ literal v t s ∷ [])))
length_step k s d = Bad

abbrev pub close_or_bad : Mark → Decl → Answer DeclState Decl
close_or_bad m.CloseBracket d = More (Named d)
close_or_bad k d = Bad

abbrev pub closing_step : Sort → Decl → Answer DeclState Decl
closing_step (sort.Mark k) d = close_or_bad k d
closing_step k d = Bad

abbrev pub decl_step_at : Sort → Span → DeclState → Answer DeclState Decl
decl_step_at k s (Stars ss) = decl_stars_step k s ss
decl_step_at k s (Named d) = named_step k d
decl_step_at k s (Length d) = length_step k s d
decl_step_at k s (Closing d) = closing_step k d

abbrev pub decl_step : Terminal → DeclState → Answer DeclState Decl
decl_step t st = decl_step_at t.sort t.span st
