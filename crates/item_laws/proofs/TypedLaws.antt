-- A machine that reads a base and a declarator behind it by the machines of types and of declarators.
use Rattle.std.proofs.Common.{◌≡◌, ℕ, List, [], ◌∷◌, ◌++◌, refl, sym, ap, ◌∙◌, subst}
use Rattle.c_types.specs.declared.types.Span.{Span}
use Rattle.c_tree.specs.declared.expressions.Base.{Base}
use Rattle.c_tree.specs.declared.expressions.TypeName.{TypeName}
use Rattle.c_tree.specs.declared.declarations.Decl.{Decl}
use Rattle.parse_terms.specs.declared.answer.Answer.{Answer}
use Rattle.parse_terms.specs.declared.answer.Answer.TheVariants.{More, Done, Bad}
use Rattle.parse_terms.specs.declared.terminal.Terminal.{Terminal}
use Rattle.parse_terms.specs.declared.types.TypeState.{TypeState}
use Rattle.parse_terms.specs.declared.types.TypeState.TheVariants as type_state
use Rattle.parse_terms.specs.declared.declarators.DeclState.{DeclState}
use Rattle.parse_terms.specs.declared.declarators.DeclState.TheVariants as decl_state
use Rattle.parse_terms.specs.Terminals.{named, name_of}
use Rattle.parse_terms.specs.Runs.{Outcome, Finished, after, run, Came}
use Rattle.parse_terms.specs.TypeNames.{IsBase, IsStars, no_stars, type_named, type_name, type_step}
use Rattle.parse_terms.specs.Declarators.{IsLengths, IsDecl, declared, decl, decl_step}
use Rattle.parse_terms.proofs.RunLaws.{lifted, hosted}
use Rattle.parse_terms.proofs.TypeLaws.{type_complete}
use Rattle.parse_decl.specs.Ends.{CanEnd}
use Rattle.parse_decl.specs.TypedDecls.{EndsDecl}
use Rattle.parse_decl.proofs.EndLaws.{somewhere, ends_hosted, type_ends}
use Rattle.parse_decl.proofs.DeclLaws.{decl_complete, named_complete}

module _ {S D : Type 0} (outer : Terminal → S → Answer S D) (in_type : TypeState → S) (in_decl : Base → DeclState → S) (ends : Base → Decl → Terminal → Answer S D) where
  -- behind the base the stars are those of the declarator
  abbrev pub type_over : TypeName → Terminal → Answer S D
  type_over n t = outer t (in_decl n.base (decl_state.Stars n.stars))

  pub record IsTyped : Type 0 where
    pub types : (t : Terminal) (x : TypeState) → outer t (in_type x) ≡ lifted type_step outer in_type type_over t (type_step t x)
    pub declares : (y : Base) (t : Terminal) (x : DeclState) → outer t (in_decl y x) ≡ lifted decl_step outer (in_decl y) (ends y) t (decl_step t x)

  module _ (typed : IsTyped) where
    pub typed_lands : {y : Base} {d : Decl} {a c e : List Terminal} (t : Terminal) (b : List Terminal) → e ≡ t ∷ b → IsBase y a c → IsDecl d c e → EndsDecl t.sort →
        run outer a (in_type type_state.Opening) ≡ after (ends y d t) (run outer b) (t ∷ b)
    typed_lands {y} {a = a} t b q f (declared {ss = ss} {x = x} {s = s} {ls = ls} {b = c} p l) h =
        hosted type_step outer in_type type_over typed.types a type_state.Opening (type_name y ss) (named x s) c (type_complete (named x s) c refl (type_named f p) tt)
        ∙ hosted decl_step outer (in_decl y) (ends y) (typed.declares y) (named x s ∷ c) (decl_state.Stars ss) (decl ss (name_of x s) ls) t b
        (named_complete ss x s t b (subst (λ z. IsLengths ls c z) q l) h)

    -- a declarator alone
    pub declarator_lands : (y : Base) {d : Decl} {c e : List Terminal} (t : Terminal) (b : List Terminal) → e ≡ t ∷ b → IsDecl d c e → EndsDecl t.sort →
        run outer c (in_decl y (decl_state.Stars [])) ≡ after (ends y d t) (run outer b) (t ∷ b)
    declarator_lands y {d} {c} t b q p h = hosted decl_step outer (in_decl y) (ends y) (typed.declares y) c (decl_state.Stars []) d t b (decl_complete t b q p h)

    -- a type is brought to its end by a name
    pub type_goes_on : (t : Terminal) → ((y : Base) (x : DeclState) → CanEnd S D outer (in_decl y x) t) → (x : TypeState) → CanEnd S D outer (in_type x) t
    type_goes_on t more x =
        let c = type_ends x (named [] somewhere) tt in
        let y = c.part_of.base in
        let z = decl_state.Named (decl c.part_of.stars (name_of [] somewhere) []) in
        ends_hosted type_step outer in_type type_over typed.types x (named [] somewhere) t c (in_decl y z) (typed.declares y (named [] somewhere) (decl_state.Stars c.part_of.stars)) (more y z)
