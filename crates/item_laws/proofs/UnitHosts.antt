-- The machines of the parts of an item inside that of units.
use Rattle.std.proofs.Common.{◌≡◌, ℕ, ◌+◌, ◌≤◌, max, Bool, true, false, cond, List, [], ◌∷◌, ◌++◌, map, Option, Some, None, refl, sym, ap, ◌∙◌, subst, arith}
use Rattle.c_types.specs.declared.types.Span.{Span}
use Rattle.c_tree.specs.declared.expressions.Name.{Name}
use Rattle.c_tree.specs.declared.expressions.Base.{Base}
use Rattle.c_tree.specs.declared.expressions.Base.TheVariants as base
use Rattle.c_tree.specs.declared.expressions.TypeName.{TypeName}
use Rattle.c_tree.specs.declared.statements.BlockItem.{BlockItem}
use Rattle.c_tree.specs.declared.declarations.Decl.{Decl}
use Rattle.c_tree.specs.declared.declarations.Field.{Field}
use Rattle.c_tree.specs.declared.declarations.Params.{Params}
use Rattle.c_tree.specs.declared.declarations.FunctionHead.{FunctionHead}
use Rattle.c_tree.specs.declared.declarations.GlobalDecl.{GlobalDecl}
use Rattle.c_tree.specs.declared.declarations.Item.{Item}
use Rattle.c_tree.specs.declared.declarations.Item.TheVariants as item
use Rattle.c_tree.specs.declared.declarations.Unit.{Unit as Unit'}
use Rattle.c_tree.specs.Height.{tallest, ones, field_height, params_height, item_height}
use Rattle.c_tree.proofs.Tallest.{tallest-append}
use Rattle.c_lex.specs.declared.words.Word.TheVariants as w
use Rattle.c_lex.specs.declared.marks.Mark.{Mark}
use Rattle.c_lex.specs.declared.marks.Mark.TheVariants as m
use Rattle.parse_terms.specs.declared.answer.Answer.{Answer}
use Rattle.parse_terms.specs.declared.answer.Answer.TheVariants.{More, Done, Bad}
use Rattle.parse_terms.specs.declared.terminal.Sort.{Sort}
use Rattle.parse_terms.specs.declared.terminal.Sort.TheVariants as sort
use Rattle.parse_terms.specs.declared.terminal.Terminal.{Terminal}
use Rattle.parse_terms.specs.declared.types.TypeState.{TypeState}
use Rattle.parse_terms.specs.declared.types.TypeState.TheVariants as type_state
use Rattle.parse_terms.specs.declared.declarators.DeclState.{DeclState}
use Rattle.parse_terms.specs.declared.declarators.DeclState.TheVariants as decl_state
use Rattle.parse_terms.specs.Terminals.{term, word, mark, named, name_of}
use Rattle.parse_terms.specs.Integers.{IsWidth, char, short, short_int, int, long_long, long_long_int, IsInt, plain, with_signed, with_unsigned, signed, unsigned}
use Rattle.parse_terms.specs.TypeNames.{IsBase, void, integer, tagged, typedef, IsStars, no_stars, star, IsTypeName, type_named, type_name, type_step}
use Rattle.parse_terms.specs.Declarators.{decl, decl_step}
use Rattle.parse_terms.specs.Runs.{Outcome, Ended, Finished, after, run}
use Rattle.parse_terms.proofs.RunLaws.{lifted, hosted}
use Rattle.parse_terms.proofs.TypeLaws.{type_complete}
use Rattle.parse_decl.specs.declared.params.ParamsState.{ParamsState}
use Rattle.parse_decl.specs.declared.params.ParamsState.TheVariants as params_state
use Rattle.parse_decl.specs.Params.{IsParams, params_step, all_named}
use Rattle.parse_decl.proofs.ParamsLaws.{params_complete}
use Rattle.parse_stmt.specs.declared.state.BodyState.{BodyState}
use Rattle.parse_stmt.specs.declared.parts.Capped.TheVariants.{Built}
use Rattle.parse_stmt.specs.StmtGrammar.{IsBlockItems}
use Rattle.parse_stmt.specs.StmtParts.{Body, cap_body}
use Rattle.parse_stmt.specs.StmtMachine.{body_start}
use Rattle.parse_item.specs.BodyAnswers.{body_answer}
use Rattle.parse_item.specs.declared.fields.FieldsState.{FieldsState}
use Rattle.parse_item.specs.declared.fields.FieldsState.TheVariants as fields
use Rattle.parse_item.specs.declared.typedefs.TypedefState.{TypedefState}
use Rattle.parse_item.specs.declared.typedefs.TypedefState.TheVariants as typedef_state
use Rattle.parse_item.specs.declared.adjustors.AdjustorState.{AdjustorState}
use Rattle.parse_item.specs.declared.globals.GlobalsState.{GlobalsState}
use Rattle.parse_item.specs.declared.globals.GlobalsState.TheVariants as globals_state
use Rattle.parse_item.specs.declared.items.ItemState.{ItemState}
use Rattle.parse_item.specs.declared.items.ItemState.TheVariants.{Typedef, Tag, Tagged, Fields, FieldsEnded, ExternType, ExternDecl, Adjustor, Typing, Named, Globals, Params as InParams, Head, Body as InBody}
use Rattle.parse_item.specs.declared.units.UnitState.{UnitState}
use Rattle.parse_item.specs.ItemGrammar.{head_of, unit_of, IsFields, first_field, next_field, IsField, a_field, IsDecls, first_decl, next_decl, IsGlobals, IsHead, a_head, IsItem, a_typedef, a_struct, an_extern, globals, a_function, a_definition, raised, lowered, IsItems, no_items, another_item, IsUnit, a_unit}
use Rattle.parse_item.specs.ItemParts.{GlobalsPart, ItemPart, ItemsPart, UnitPart, no_globals, cap_globals, cap_item, cap_items, cap_unit, globals_part, define_part, with_item, unit_part}
use Rattle.parse_item.specs.DeclarationMachines.{fields_step, typedef_step, adjustor_step, globals_step}
use Rattle.parse_item.specs.UnitMachine.{ItemSaid, typedef_said, adjustor_said, fields_said, extern_end, extern_declared, extern_typed, name_step, typed, globals_said, first_global, named_mark, named_step, params_said, head_mark, body_said, tagged_type, tagged_mark, tagged_step, item_begin, unit_state, unit_start, unit_said, unit_step, unit_finish}
use Rattle.item_laws.proofs.TypedLaws.{IsTyped}

module _ (n : ℕ) (ps : ItemsPart) where
  abbrev pub at : ItemState → UnitState
  at x = unit_state ps (Some x)

  -- an item is over
  abbrev pub over : ItemPart → Answer UnitState UnitPart
  over p = More (unit_state (with_item ps p) None)

  pub typedef_in : (s : Span) (t : Terminal) (v : Answer TypedefState FunctionHead) →
      unit_said ps (typedef_said s v) ≡ lifted typedef_step (unit_step n) (λ x. at (Typedef s x)) (λ h k. over (Built (item.Typedef s h) (params_height h.params + 1))) t v
  typedef_in s t (More x) = refl
  typedef_in s t (Done h) = refl
  typedef_in s t Bad = refl

  pub fields_in : (s : Span) (x : Name) (t : Terminal) (v : Answer FieldsState (List Field)) →
      unit_said ps (fields_said s x v) ≡ lifted fields_step (unit_step n) (λ y. at (Fields s x y)) (λ fs k. More (at (FieldsEnded s x fs))) t v
  fields_in s x t (More y) = refl
  fields_in s x t (Done fs) = refl
  fields_in s x t Bad = refl

  abbrev pub extern_over : Span → Base → Decl → Terminal → Answer UnitState UnitPart
  extern_over s y d k = unit_said ps (extern_end k.sort s y d)

  pub extern_decl_in : (s : Span) (y : Base) (t : Terminal) (v : Answer DeclState Decl) →
      unit_said ps (extern_declared t.sort s y v) ≡ lifted decl_step (unit_step n) (λ x. at (ExternDecl s y x)) (extern_over s y) t v
  extern_decl_in s y t (More x) = refl
  extern_decl_in s y t (Done d) = refl
  extern_decl_in s y t Bad = refl

  pub extern_type_in : (s : Span) (t : Terminal) (v : Answer TypeState TypeName) →
      unit_said ps (extern_typed t s v)
      ≡ lifted type_step (unit_step n) (λ x. at (ExternType s x)) (λ r k. unit_step n k (at (ExternDecl s r.base (decl_state.Stars r.stars)))) t v
  extern_type_in s t (More x) = refl
  extern_type_in s t (Done r) = refl
  extern_type_in s t Bad = refl

  pub extern_types : (s : Span) → IsTyped (unit_step n) (λ x. at (ExternType s x)) (λ y x. at (ExternDecl s y x)) (extern_over s)
  extern_types s = record { types = λ t x. extern_type_in s t (type_step t x); declares = λ y t x. extern_decl_in s y t (decl_step t x) }

  pub type_in : (t : Terminal) (v : Answer TypeState TypeName) →
      unit_said ps (typed t.sort t.span v) ≡ lifted type_step (unit_step n) (λ x. at (Typing x)) (λ r k. unit_said ps (name_step k.sort k.span r)) t v
  type_in t (More x) = refl
  type_in t (Done r) = refl
  type_in t Bad = refl

  pub globals_in : (y : Base) (t : Terminal) (v : Answer GlobalsState GlobalsPart) →
      unit_said ps (globals_said n y v) ≡ lifted (globals_step n) (unit_step n) (λ x. at (Globals y x)) (λ gs k. over (globals_part n y gs)) t v
  globals_in y t (More x) = refl
  globals_in y t (Done gs) = refl
  globals_in y t Bad = refl

  pub params_in : (r : TypeName) (x : Name) (t : Terminal) (v : Answer ParamsState Params) →
      unit_said ps (params_said r x v) ≡ lifted params_step (unit_step n) (λ y. at (InParams r x y)) (λ qs k. More (at (Head (head_of r x qs)))) t v
  params_in r x t (More y) = refl
  params_in r x t (Done qs) = refl
  params_in r x t Bad = refl

  pub body_in : (h : FunctionHead) (s : Span) (t : Terminal) (v : Answer BodyState Body) →
      unit_said ps (body_said n h s v) ≡ lifted (body_answer n) (unit_step n) (λ x. at (InBody h s x)) (λ xs k. over (define_part n h s xs)) t v
  body_in h s t (More x) = refl
  body_in h s t (Done xs) = refl
  body_in h s t Bad = refl

  pub adjustor_in : (s : Span) (t : Terminal) (v : Answer AdjustorState Item) → unit_said ps (adjustor_said s v) ≡ lifted (adjustor_step s) (unit_step n) (λ x. at (Adjustor s x)) (λ z k. over (Built z 1)) t v
  adjustor_in s t (More x) = refl
  adjustor_in s t (Done z) = refl
  adjustor_in s t Bad = refl
