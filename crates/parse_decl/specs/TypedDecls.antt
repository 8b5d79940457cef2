-- A base and a declarator behind it. The machine of types takes the base and the stars, and the
-- declarator goes on from them.
use Rattle.std.specs.Prelude.{◌≡◌, List, ◌∷◌}
use Rattle.c_types.specs.declared.types.Span.{Span}
use Rattle.c_tree.specs.declared.expressions.Base.{Base}
use Rattle.c_tree.specs.declared.declarations.Decl.{Decl}
use Rattle.c_lex.specs.declared.marks.Mark.TheVariants as m
use Rattle.parse_terms.specs.declared.terminal.Sort.{Sort}
use Rattle.parse_terms.specs.declared.terminal.Sort.TheVariants as sort
use Rattle.parse_terms.specs.declared.terminal.Terminal.{Terminal}
use Rattle.parse_terms.specs.declared.types.TypeState.TheVariants.{Opening}
use Rattle.parse_terms.specs.declared.declarators.DeclState.TheVariants.{Stars}
use Rattle.parse_terms.specs.Runs.{run, Finished}
use Rattle.parse_terms.specs.TypeNames.{IsBase, type_name, type_step}
use Rattle.parse_terms.specs.Declarators.{IsDecl, decl_step}

-- a token that is no part of a declarator before it
abbrev pub EndsDecl : Sort → Type 0
EndsDecl (sort.Mark m.OpenBracket) = ⊥
EndsDecl _ = Unit {0}

-- base decl
pub data IsTypedDecl : Base → Decl → List Terminal → List Terminal → Type 0 where
  typed : {y : Base} {d : Decl} {a b c : List Terminal} → IsBase y a b → IsDecl d b c → IsTypedDecl y d a c

-- a run of both machines: a type is over before the declarator's name, and the declarator is over
-- before t
pub record TypedRun (y : Base) (d : Decl) (a : List Terminal) (t : Terminal) (b : List Terminal) : Type 0 where
  pub stars : List Span
  pub rest : List Terminal
  pub types : run type_step a Opening ≡ Finished (type_name y stars) rest
  pub declares : run decl_step rest (Stars stars) ≡ Finished d (t ∷ b)
