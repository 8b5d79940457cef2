-- What is read is a unit of the grammar.
use Rattle.std.proofs.Common.{◌≡◌, ℕ, ◌+◌, ◌≤◌, Bool, true, false, cond, List, [], ◌∷◌, ◌++◌, Option, Some, None, refl, sym, ap, ◌∙◌, subst, arith}
use Rattle.c_types.specs.declared.types.Span.{Span}
use Rattle.c_tree.specs.declared.expressions.Name.{Name}
use Rattle.c_tree.specs.declared.expressions.Base.{Base}
use Rattle.c_tree.specs.declared.expressions.Base.TheVariants as base
use Rattle.c_tree.specs.declared.expressions.TypeName.{TypeName}
use Rattle.c_tree.specs.declared.declarations.Decl.{Decl}
use Rattle.c_tree.specs.declared.declarations.Field.{Field}
use Rattle.c_tree.specs.declared.declarations.Params.{Params}
use Rattle.c_tree.specs.declared.declarations.FunctionHead.{FunctionHead}
use Rattle.c_tree.specs.declared.declarations.Item.{Item}
use Rattle.c_tree.specs.declared.declarations.Item.TheVariants as item
use Rattle.c_tree.specs.Height.{params_height, item_height}
use Rattle.c_lex.specs.declared.words.Word.{Word}
use Rattle.c_lex.specs.declared.words.Word.TheVariants as w
use Rattle.c_lex.specs.declared.marks.Mark.{Mark}
use Rattle.c_lex.specs.declared.marks.Mark.TheVariants as m
use Rattle.parse_terms.specs.declared.answer.Answer.{Answer}
use Rattle.parse_terms.specs.declared.answer.Answer.TheVariants.{More, Done, Bad}
use Rattle.parse_terms.specs.declared.terminal.Sort.{Sort}
use Rattle.parse_terms.specs.declared.terminal.Sort.TheVariants as sort
use Rattle.parse_terms.specs.declared.terminal.Terminal.{Terminal}
use Rattle.parse_terms.specs.declared.types.TypeState.{TypeState}
use Rattle.parse_terms.specs.declared.types.TypeState.TheVariants as type_state
use Rattle.parse_terms.specs.declared.declarators.DeclState.{DeclState}
use Rattle.parse_terms.specs.declared.declarators.DeclState.TheVariants as decl_state
use Rattle.parse_terms.specs.Terminals.{term, word, mark, named, name_of}
use Rattle.parse_terms.specs.TypeNames.{IsBase, IsStars, IsTypeName, type_named, type_name, type_step}
use Rattle.parse_terms.specs.Declarators.{decl, IsDecl, decl_step}
use Rattle.parse_terms.specs.Runs.{run, Came, begun, taken}
use Rattle.parse_terms.proofs.TypeLaws.{type_sound}
use Rattle.parse_decl.specs.declared.params.ParamsState.{ParamsState}
use Rattle.parse_decl.specs.declared.params.ParamsState.TheVariants as params_state
use Rattle.parse_decl.specs.Params.{IsParams, params_step, all_named}
use Rattle.parse_decl.proofs.DeclLaws.{decl_sound}
use Rattle.parse_decl.proofs.ParamsLaws.{params_sound, params_end}
use Rattle.parse_stmt.specs.declared.state.BodyState.{BodyState}
use Rattle.parse_stmt.specs.declared.parts.Capped.TheVariants.{Built}
use Rattle.parse_stmt.specs.StmtGrammar.{IsBlockItems}
use Rattle.parse_stmt.specs.StmtParts.{Body, cap_body}
use Rattle.parse_stmt.specs.StmtMachine.{body_start}
use Rattle.parse_item.specs.BodyAnswers.{body_answer}
use Rattle.stmt_laws.specs.Bodies.{IsBodyRead}
use Rattle.parse_item.specs.declared.fields.FieldsState.{FieldsState}
use Rattle.parse_item.specs.declared.fields.FieldsState.TheVariants as fields
use Rattle.parse_item.specs.declared.typedefs.TypedefState.{TypedefState}
use Rattle.parse_item.specs.declared.typedefs.TypedefState.TheVariants as typedef
use Rattle.parse_item.specs.declared.adjustors.AdjustorState.{AdjustorState}
use Rattle.parse_item.specs.declared.adjustors.AdjustorState.TheVariants as adjustor
use Rattle.parse_item.specs.declared.globals.GlobalsState.{GlobalsState}
use Rattle.parse_item.specs.declared.globals.GlobalsState.TheVariants as globals_state
use Rattle.parse_item.specs.declared.items.ItemState.{ItemState}
use Rattle.parse_item.specs.declared.items.ItemState.TheVariants.{Typedef, Tag, Tagged, Fields, FieldsEnded, ExternType, ExternDecl, Adjustor, Typing, Named, Globals, Params as InParams, Head, Body as InBody}
use Rattle.parse_item.specs.declared.units.UnitState.{UnitState}
use Rattle.parse_item.specs.ItemGrammar.{head_of, unit_of, IsFields, IsGlobals, IsPointerHead, IsHead, a_head, IsItem, a_typedef, a_struct, an_extern, globals, a_function, a_definition, IsItems, no_items, another_item, IsUnit, a_unit}
use Rattle.parse_item.specs.ItemParts.{GlobalsPart, ItemPart, ItemsPart, UnitPart, no_globals, cap_item, cap_items, globals_part, define_part, with_item, unit_part}
use Rattle.parse_item.specs.DeclarationMachines.{fields_step, typedef_step, adjustor_step, globals_step}
use Rattle.parse_item.specs.UnitMachine.{ItemSaid, typedef_said, adjustor_said, fields_said, fields_ended, extern_end, extern_declared, extern_typed, name_step, typed, begin_typed, globals_said, first_global, named_mark, named_step, params_said, head_mark, head_step, body_said, tag_step, tagged_type, tagged_mark, tagged_step, item_word, item_begin, item_step, unit_state, unit_start, unit_said, said_of, unit_step, finish_of, unit_finish}
use Rattle.item_laws.specs.Units.{IsUnitRead}
use Rattle.item_laws.proofs.ItemPartLaws.{low-cap, head-cap, no_items-cap, globals_part-cap, define_part-cap, with_item-cap, unit_part-cap}
use Rattle.item_laws.proofs.FieldLaws.{fields_sound}
use Rattle.item_laws.proofs.TypedefLaws.{typedef_sound, closed_params}
use Rattle.item_laws.proofs.AdjustorLaws.{adjustor_sound}
use Rattle.item_laws.proofs.GlobalLaws.{PGlobals, GlobalsAt, GlobalsTold, globals_begun, globals_told}
use Rattle.item_laws.proofs.UnitComplete.{fields_two}

-- a token is the mark that it is
as_mark : (P : Terminal → Type 0) {k : Mark} (t : Terminal) → t.sort ≡ sort.Mark k → P t → P (mark k t.span)
as_mark P t e p = subst (λ k. P (term k t.span)) e p

module _ (n : ℕ) (low : 4 ≤ n) (body_sound : (st : BodyState) (p : Body) (t : Terminal) (z a : List Terminal) → Came (body_answer n) body_start z st (t ∷ a) → body_answer n t st ≡ Done p → IsBodyRead n p z t a) where
  pub record PItem (p : ItemPart) (a b : List Terminal) : Type 0 where
    pub tree : Item
    pub is : p ≡ cap_item n tree
    pub reads : IsItem tree a b

  pub record PItems (ps : ItemsPart) (a b : List Terminal) : Type 0 where
    pub trees : List Item
    pub is : ps ≡ cap_items n trees
    pub reads : IsItems trees a b

  pub low_one : 1 ≤ n
  low_one = omega arith

  -- the state of an item that began at z is at a
  pub data ItemAt (z : List Terminal) : ItemState → List Terminal → Type 0 where
    in_typedef : {x : TypedefState} {c a : List Terminal} (s : Span) → z ≡ word w.Typedef s ∷ c → Came typedef_step (typedef.Typing type_state.Opening) c x a → ItemAt z (Typedef s x) a
    in_tag : {a : List Terminal} (s : Span) → z ≡ word w.Struct s ∷ a → ItemAt z (Tag s) a
    in_tagged : {a : List Terminal} (s : Span) (x : List ℕ) (t : Span) → z ≡ word w.Struct s ∷ named x t ∷ a → ItemAt z (Tagged s (name_of x t)) a
    in_fields : {y : FieldsState} {c a : List Terminal} (s : Span) (x : List ℕ) (t p : Span) → z ≡ word w.Struct s ∷ named x t ∷ mark m.OpenBrace p ∷ c →
        Came fields_step (fields.Between []) c y a → ItemAt z (Fields s (name_of x t) y) a
    in_ended : {fs : List Field} {c a : List Terminal} (s : Span) (x : List ℕ) (t p u : Span) → z ≡ word w.Struct s ∷ named x t ∷ mark m.OpenBrace p ∷ c →
        IsFields fs c (mark m.CloseBrace u ∷ a) → ItemAt z (FieldsEnded s (name_of x t) fs) a
    in_extern_type : {x : TypeState} {c a : List Terminal} (s : Span) → z ≡ word w.Extern s ∷ c → Came type_step type_state.Opening c x a → ItemAt z (ExternType s x) a
    in_extern_decl : {y : Base} {ss : List Span} {x : DeclState} {c g e a : List Terminal} (s : Span) → z ≡ word w.Extern s ∷ c → IsBase y c g → IsStars ss g e → Came decl_step (decl_state.Stars ss) e x a →
        ItemAt z (ExternDecl s y x) a
    in_adjustor : {x : AdjustorState} {c a : List Terminal} (s : Span) → z ≡ word w.Adjustor s ∷ c → Came (adjustor_step s) adjustor.Opening c x a → ItemAt z (Adjustor s x) a
    in_typing : {x : TypeState} {a : List Terminal} → Came type_step type_state.Opening z x a → ItemAt z (Typing x) a
    in_named : {y : Base} {ss : List Span} {a : List Terminal} (x : List ℕ) (s : Span) → IsTypeName (type_name y ss) z (named x s ∷ a) → ItemAt z (Named y ss (name_of x s)) a
    in_globals : {y : Base} {x : GlobalsState} {c a : List Terminal} → IsBase y z c → GlobalsAt n low_one c x a → ItemAt z (Globals y x) a
    in_params : {r : TypeName} {y : ParamsState} {c a : List Terminal} (x : List ℕ) (s u : Span) → IsTypeName r z (named x s ∷ mark m.OpenParen u ∷ c) → Came params_step params_state.Opening c y a →
        ItemAt z (InParams r (name_of x s) y) a
    in_head : {h : FunctionHead} {a : List Terminal} → IsHead h z a → ItemAt z (Head h) a
    in_body : {h : FunctionHead} {x : BodyState} {c a : List Terminal} (s : Span) → IsHead h z (mark m.OpenBrace s ∷ c) → all_named h.params.list ≡ true → Came (body_answer n) body_start c x a →
        ItemAt z (InBody h s x) a

  -- what an answer to a token before a says; the last token of an item is taken
  abbrev ItemTold : ItemSaid → List Terminal → List Terminal → Type 0
  ItemTold (More x) z a = ItemAt z x a
  ItemTold (Done p) z a = PItem p z a
  ItemTold Bad z a = Unit {0}

  -- ---- typedefs, adjustors and structs

  p_typedef : {h : FunctionHead} {z c a : List Terminal} (s u : Span) → z ≡ word w.Typedef s ∷ c → IsPointerHead h c (mark m.Semicolon u ∷ a) → PItem (Built (item.Typedef s h) (params_height h.params + 1)) z a
  p_typedef {h} {a = a} s u e d = record { tree = item.Typedef s h; is = head-cap n low (item.Typedef s h) h refl; reads = subst (λ l. IsItem (item.Typedef s h) l a) (sym e) (a_typedef d) }

  typedef_told : (t : Terminal) {z c : List Terminal} (s : Span) (x : TypedefState) (a : List Terminal) → z ≡ word w.Typedef s ∷ c → Came typedef_step (typedef.Typing type_state.Opening) c x (t ∷ a) →
      (v : Answer TypedefState FunctionHead) → typedef_step t x ≡ v → ItemTold (typedef_said s v) z a
  typedef_told t s x a e p (More x') q = in_typedef s e (taken p q)
  typedef_told t {c = c} s x a e p (Done h) q = let r = typedef_sound x h t c a p q in p_typedef s t.span e (as_mark (λ k. IsPointerHead h c (k ∷ a)) t r.1 r.0)
  typedef_told t s x a e p Bad q = tt

  adjustor_told : (t : Terminal) {z c : List Terminal} (s : Span) (x : AdjustorState) (a : List Terminal) → z ≡ word w.Adjustor s ∷ c → Came (adjustor_step s) adjustor.Opening c x (t ∷ a) →
      (v : Answer AdjustorState Item) → adjustor_step s t x ≡ v → ItemTold (adjustor_said s v) z a
  adjustor_told t s x a e p (More x') q = in_adjustor s e (taken p q)
  adjustor_told t {c = c} s x a e p (Done y) q =
      let r = adjustor_sound s x y t c a p q in record { tree = y; is = low-cap n y 1 (omega arith) r.1; reads = subst (λ l. IsItem y l a) (sym e) r.0 }
  adjustor_told t s x a e p Bad q = tt

  fields_told : (t : Terminal) {z c : List Terminal} (s : Span) (x : List ℕ) (u p : Span) (y : FieldsState) (a : List Terminal) → z ≡ word w.Struct s ∷ named x u ∷ mark m.OpenBrace p ∷ c →
      Came fields_step (fields.Between []) c y (t ∷ a) → (v : Answer FieldsState (List Field)) → fields_step t y ≡ v → ItemTold (fields_said s (name_of x u) v) z a
  fields_told t s x u p y a e f (More y') q = in_fields s x u p e (taken f q)
  fields_told t {c = c} s x u p y a e f (Done fs) q = let r = fields_sound y fs t c a f q in in_ended s x u p t.span e (as_mark (λ k. IsFields fs c (k ∷ a)) t r.1 r.0)
  fields_told t s x u p y a e f Bad q = tt

  struct_mark_told : (k : Mark) (l : Span) {z c : List Terminal} (s : Span) (x : List ℕ) (t p u : Span) (fs : List Field) (a : List Terminal) → z ≡ word w.Struct s ∷ named x t ∷ mark m.OpenBrace p ∷ c →
      IsFields fs c (mark m.CloseBrace u ∷ mark k l ∷ a) → ItemTold (fields_ended (sort.Mark k) s (name_of x t) fs) z a
  struct_mark_told m.Semicolon l s x t p u fs a e d = record {
    tree = item.Struct s (name_of x t) fs;
    is = low-cap n (item.Struct s (name_of x t) fs) 3 (omega arith) (ap (λ k. k + 1) (fields_two d));
    reads = subst (λ z. IsItem (item.Struct s (name_of x t) fs) z a) (sym e) (a_struct d);
  }
  struct_mark_told _ l s x t p u fs a e d = tt

  struct_told : (k : Sort) (l : Span) {z c : List Terminal} (s : Span) (x : List ℕ) (t p u : Span) (fs : List Field) (a : List Terminal) → z ≡ word w.Struct s ∷ named x t ∷ mark m.OpenBrace p ∷ c →
      IsFields fs c (mark m.CloseBrace u ∷ term k l ∷ a) → ItemTold (fields_ended k s (name_of x t) fs) z a
  struct_told (sort.Mark k) l s x t p u fs a e d = struct_mark_told k l s x t p u fs a e d
  struct_told (sort.Name y) l s x t p u fs a e d = tt
  struct_told (sort.Word y) l s x t p u fs a e d = tt
  struct_told (sort.Number y i) l s x t p u fs a e d = tt
  struct_told (sort.Char y) l s x t p u fs a e d = tt
  struct_told (sort.Text y) l s x t p u fs a e d = tt
  struct_told sort.Unknown l s x t p u fs a e d = tt

  -- ---- extern

  extern_mark_told : (k : Mark) (l : Span) {z c g : List Terminal} (s : Span) (y : Base) (d : Decl) (a : List Terminal) → z ≡ word w.Extern s ∷ c → IsBase y c g → IsDecl d g (mark k l ∷ a) →
      ItemTold (extern_end (sort.Mark k) s y d) z a
  extern_mark_told m.Semicolon l s y d a e f x = record {
    tree = item.Extern s y d;
    is = low-cap n (item.Extern s y d) 2 (omega arith) refl;
    reads = subst (λ z. IsItem (item.Extern s y d) z a) (sym e) (an_extern f x);
  }
  extern_mark_told _ l s y d a e f x = tt

  extern_end_told : (k : Sort) (l : Span) {z c g : List Terminal} (s : Span) (y : Base) (d : Decl) (a : List Terminal) → z ≡ word w.Extern s ∷ c → IsBase y c g → IsDecl d g (term k l ∷ a) →
      ItemTold (extern_end k s y d) z a
  extern_end_told (sort.Mark k) l s y d a e f x = extern_mark_told k l s y d a e f x
  extern_end_told (sort.Name v) l s y d a e f x = tt
  extern_end_told (sort.Word v) l s y d a e f x = tt
  extern_end_told (sort.Number v i) l s y d a e f x = tt
  extern_end_told (sort.Char v) l s y d a e f x = tt
  extern_end_told (sort.Text v) l s y d a e f x = tt
  extern_end_told sort.Unknown l s y d a e f x = tt

  extern_decl_told : (t : Terminal) {z c g o : List Terminal} (s : Span) {y : Base} {ss : List Span} (x : DeclState) (a : List Terminal) → z ≡ word w.Extern s ∷ c → IsBase y c g → IsStars ss g o →
      Came decl_step (decl_state.Stars ss) o x (t ∷ a) → (v : Answer DeclState Decl) → decl_step t x ≡ v → ItemTold (extern_declared t.sort s y v) z a
  extern_decl_told t s x a e f i p (More x') q = in_extern_decl s e f i (taken p q)
  extern_decl_told t s {y = y} x a e f i p (Done d) q = extern_end_told t.sort t.span s y d a e f (decl_sound i x d t a p q)
  extern_decl_told t s x a e f i p Bad q = tt

  extern_first_told : (t : Terminal) {z c : List Terminal} (s : Span) (r : TypeName) (a : List Terminal) → z ≡ word w.Extern s ∷ c → IsTypeName r c (t ∷ a) →
      ItemTold (extern_declared t.sort s r.base (decl_step t (decl_state.Stars r.stars))) z a
  extern_first_told t s r a e (type_named f i) = extern_decl_told t s (decl_state.Stars r.stars) a e f i begun (decl_step t (decl_state.Stars r.stars)) refl

  extern_type_told : (t : Terminal) {z c : List Terminal} (s : Span) (x : TypeState) (a : List Terminal) → z ≡ word w.Extern s ∷ c → Came type_step type_state.Opening c x (t ∷ a) →
      (v : Answer TypeState TypeName) → type_step t x ≡ v → ItemTold (extern_typed t s v) z a
  extern_type_told t s x a e p (More x') q = in_extern_type s e (taken p q)
  extern_type_told t {c = c} s x a e p (Done r) q = extern_first_told t s r a e (type_sound x r t c a p q)
  extern_type_told t s x a e p Bad q = tt

  -- ---- globals and functions

  name_told : (k : Sort) (s : Span) {z : List Terminal} (r : TypeName) (a : List Terminal) → IsTypeName r z (term k s ∷ a) → ItemTold (name_step k s r) z a
  name_told (sort.Name x) s r a d = in_named x s d
  name_told (sort.Mark x) s r a d = tt
  name_told (sort.Word x) s r a d = tt
  name_told (sort.Number x i) s r a d = tt
  name_told (sort.Char x) s r a d = tt
  name_told (sort.Text x) s r a d = tt
  name_told sort.Unknown s r a d = tt

  typed_told : (t : Terminal) {z : List Terminal} (x : TypeState) (a : List Terminal) → Came type_step type_state.Opening z x (t ∷ a) → (v : Answer TypeState TypeName) → type_step t x ≡ v →
      ItemTold (typed t.sort t.span v) z a
  typed_told t x a p (More x') q = in_typing (taken p q)
  typed_told t {z} x a p (Done r) q = name_told t.sort t.span r a (type_sound x r t z a p q)
  typed_told t x a p Bad q = tt

  globals_step_told : (t : Terminal) {z c : List Terminal} (y : Base) (a : List Terminal) → IsBase y z c → (v : Answer GlobalsState GlobalsPart) → GlobalsTold n low_one v c t a →
      ItemTold (globals_said n y v) z a
  globals_step_told t y a f (More x') r = in_globals f r
  globals_step_told t {c = c} y a f (Done gs) r = record {
    tree = item.Globals y r.0.trees;
    is = ap (globals_part n y) r.0.is ∙ globals_part-cap n y r.0.trees;
    reads = globals f (as_mark (λ k. IsGlobals r.0.trees c (k ∷ a)) t r.1 r.0.reads);
  }
  globals_step_told t y a f Bad r = tt

  first_told : (t : Terminal) {z : List Terminal} {y : Base} {ss : List Span} (x : List ℕ) (s : Span) (a : List Terminal) → IsTypeName (type_name y ss) z (named x s ∷ t ∷ a) →
      ItemTold (first_global n t y ss (name_of x s)) z a
  unfolding first_global
  first_told t x s a (type_named {b = y} {ss = ss} {c = c} f i) =
      let st = globals_state.Declaring no_globals (decl_state.Named (decl ss (name_of x s) [])) in
      globals_step_told t y a f (globals_step n t st) (globals_told n low_one t a (globals_begun n low_one i))

  named_mark_told : (k : Mark) (l : Span) {z : List Terminal} {y : Base} {ss : List Span} (x : List ℕ) (s : Span) (a : List Terminal) → IsTypeName (type_name y ss) z (named x s ∷ mark k l ∷ a) →
      ItemTold (named_mark n (mark k l) k y ss (name_of x s)) z a
  named_mark_told m.OpenParen l x s a d = in_params x s l d begun
  named_mark_told k l x s a d = first_told (mark k l) x s a d

  named_told : (k : Sort) (l : Span) {z : List Terminal} {y : Base} {ss : List Span} (x : List ℕ) (s : Span) (a : List Terminal) → IsTypeName (type_name y ss) z (named x s ∷ term k l ∷ a) →
      ItemTold (named_step n (term k l) k y ss (name_of x s)) z a
  named_told (sort.Mark k) l x s a d = named_mark_told k l x s a d
  named_told k l x s a d = first_told (term k l) x s a d

  params_told : (t : Terminal) {z c : List Terminal} (r : TypeName) (x : List ℕ) (s u : Span) (y : ParamsState) (a : List Terminal) → IsTypeName r z (named x s ∷ mark m.OpenParen u ∷ c) →
      Came params_step params_state.Opening c y (t ∷ a) → (v : Answer ParamsState Params) → params_step t y ≡ v → ItemTold (params_said r (name_of x s) v) z a
  params_told t r x s u y a d p (More y') q = in_params x s u d (taken p q)
  params_told t {c = c} r x s u y a d p (Done ps) q = in_head (a_head d (closed_params t (params_end ps y t q) (params_sound ps y t c a p q)))
  params_told t r x s u y a d p Bad q = tt

  brace_told : (s : Span) {z : List Terminal} (h : FunctionHead) (a : List Terminal) → IsHead h z (mark m.OpenBrace s ∷ a) → (v : Bool) → all_named h.params.list ≡ v → ItemTold (cond v (More (InBody h s body_start)) Bad) z a
  brace_told s h a d true e = in_body s d e begun
  brace_told s h a d false e = tt

  head_mark_told : (k : Mark) (s : Span) {z : List Terminal} (h : FunctionHead) (a : List Terminal) → IsHead h z (mark k s ∷ a) → ItemTold (head_mark k s h) z a
  head_mark_told m.Semicolon s h a d = record { tree = item.Declare h; is = head-cap n low (item.Declare h) h refl; reads = a_function d }
  head_mark_told m.OpenBrace s h a d = brace_told s h a d (all_named h.params.list) refl
  head_mark_told _ s h a d = tt

  head_told : (k : Sort) (s : Span) {z : List Terminal} (h : FunctionHead) (a : List Terminal) → IsHead h z (term k s ∷ a) → ItemTold (head_step k s h) z a
  head_told (sort.Mark k) s h a d = head_mark_told k s h a d
  head_told (sort.Name x) s h a d = tt
  head_told (sort.Word x) s h a d = tt
  head_told (sort.Number x i) s h a d = tt
  head_told (sort.Char x) s h a d = tt
  head_told (sort.Text x) s h a d = tt
  head_told sort.Unknown s h a d = tt

  body_told : (t : Terminal) {z c : List Terminal} (s : Span) (h : FunctionHead) (x : BodyState) (a : List Terminal) → IsHead h z (mark m.OpenBrace s ∷ c) → all_named h.params.list ≡ true →
      Came (body_answer n) body_start c x (t ∷ a) → (v : Answer BodyState Body) → body_answer n t x ≡ v → ItemTold (body_said n h s v) z a
  body_told t s h x a d e p (More x') q = in_body s d e (taken p q)
  body_told t {c = c} s h x a d e p (Done xs) q =
      let r = body_sound x xs t c a p q in
      record {
        tree = item.Define h s r.items;
        is = ap (define_part n h s) r.is ∙ define_part-cap n low_one h s r.items;
        reads = a_definition d e (as_mark (λ k. IsBlockItems r.items c (k ∷ a)) t r.ends r.reads);
      }
  body_told t s h x a d e p Bad q = tt

  -- ---- where an item begins

  tag_told : (k : Sort) (l : Span) {z : List Terminal} (s : Span) (a : List Terminal) → z ≡ word w.Struct s ∷ term k l ∷ a → ItemTold (tag_step k l s) z a
  tag_told (sort.Name x) l s a e = in_tagged s x l e
  tag_told (sort.Mark x) l s a e = tt
  tag_told (sort.Word x) l s a e = tt
  tag_told (sort.Number x i) l s a e = tt
  tag_told (sort.Char x) l s a e = tt
  tag_told (sort.Text x) l s a e = tt
  tag_told sort.Unknown l s a e = tt

  struct_came : {z : List Terminal} (s : Span) (x : List ℕ) (t : Span) (a : List Terminal) → z ≡ word w.Struct s ∷ named x t ∷ a → Came type_step type_state.Opening z (type_state.Stars (base.Struct s (name_of x t)) []) a
  struct_came s x t a e = subst (λ l. Came type_step type_state.Opening l (type_state.Stars (base.Struct s (name_of x t)) []) a) (sym e) (taken (taken begun refl) refl)

  tagged_type_told : (k : Terminal) {z : List Terminal} (s : Span) (x : List ℕ) (t : Span) (a : List Terminal) → z ≡ word w.Struct s ∷ named x t ∷ k ∷ a → ItemTold (tagged_type k s (name_of x t)) z a
  unfolding tagged_type
  tagged_type_told k s x t a e =
      typed_told k (type_state.Stars (base.Struct s (name_of x t)) []) a (struct_came s x t (k ∷ a) e) (type_step k (type_state.Stars (base.Struct s (name_of x t)) [])) refl

  tagged_mark_told : (k : Mark) (l : Span) {z : List Terminal} (s : Span) (x : List ℕ) (t : Span) (a : List Terminal) → z ≡ word w.Struct s ∷ named x t ∷ mark k l ∷ a →
      ItemTold (tagged_mark (mark k l) k s (name_of x t)) z a
  tagged_mark_told m.OpenBrace l s x t a e = in_fields s x t l e begun
  tagged_mark_told k l s x t a e = tagged_type_told (mark k l) s x t a e

  tagged_told : (k : Sort) (l : Span) {z : List Terminal} (s : Span) (x : List ℕ) (t : Span) (a : List Terminal) → z ≡ word w.Struct s ∷ named x t ∷ term k l ∷ a →
      ItemTold (tagged_step (term k l) k s (name_of x t)) z a
  tagged_told (sort.Mark k) l s x t a e = tagged_mark_told k l s x t a e
  tagged_told k l s x t a e = tagged_type_told (term k l) s x t a e

  opening_told : (t : Terminal) (a : List Terminal) → ItemTold (typed t.sort t.span (type_step t type_state.Opening)) (t ∷ a) a
  opening_told t a = typed_told t type_state.Opening a begun (type_step t type_state.Opening) refl

  word_told : (k : Word) (s : Span) (a : List Terminal) → ItemTold (item_word (word k s) k) (word k s ∷ a) a
  unfolding begin_typed
  word_told w.Typedef s a = in_typedef s refl begun
  word_told w.Struct s a = in_tag s refl
  word_told w.Extern s a = in_extern_type s refl begun
  word_told w.Adjustor s a = in_adjustor s refl begun
  word_told k s a = opening_told (word k s) a

  begin_told : (k : Sort) (s : Span) (a : List Terminal) → ItemTold (item_begin (term k s) k) (term k s ∷ a) a
  unfolding begin_typed
  begin_told (sort.Word k) s a = word_told k s a
  begin_told k s a = opening_told (term k s) a

  item_told : (t : Terminal) {x : ItemState} {z : List Terminal} (a : List Terminal) → ItemAt z x (t ∷ a) → ItemTold (item_step n t x) z a
  item_told t a (in_typedef {x = x} s e p) = typedef_told t s x a e p (typedef_step t x) refl
  item_told t a (in_tag s e) = tag_told t.sort t.span s a e
  item_told t a (in_tagged s x l e) = tagged_told t.sort t.span s x l a e
  item_told t a (in_fields {y = y} s x l p e f) = fields_told t s x l p y a e f (fields_step t y) refl
  item_told t a (in_ended {fs = fs} s x l p u e d) = struct_told t.sort t.span s x l p u fs a e d
  item_told t a (in_extern_type {x = x} s e p) = extern_type_told t s x a e p (type_step t x) refl
  item_told t a (in_extern_decl {x = x} s e f i p) = extern_decl_told t s x a e f i p (decl_step t x) refl
  item_told t a (in_adjustor {x = x} s e p) = adjustor_told t s x a e p (adjustor_step s t x) refl
  item_told t a (in_typing {x = x} p) = typed_told t x a p (type_step t x) refl
  item_told t a (in_named x s d) = named_told t.sort t.span x s a d
  item_told t a (in_globals {y = y} {x = x} f g) = globals_step_told t y a f (globals_step n t x) (globals_told n low_one t a g)
  item_told t a (in_params {r = r} {y = y} x s u d p) = params_told t r x s u y a d p (params_step t y) refl
  item_told t a (in_head {h = h} d) = head_told t.sort t.span h a d
  item_told t a (in_body {h = h} {x = x} s d e p) = body_told t s h x a d e p (body_answer n t x) refl

  -- ---- units

  module _ (all : List Terminal) where
    -- the state of a unit that began with all is at a
    pub data UnitAt : UnitState → List Terminal → Type 0 where
      between : {ps : ItemsPart} {a : List Terminal} → PItems ps all a → UnitAt (unit_state ps None) a
      in_item : {ps : ItemsPart} {x : ItemState} {z a : List Terminal} → PItems ps all z → ItemAt z x a → UnitAt (unit_state ps (Some x)) a

    abbrev UnitTold : Answer UnitState UnitPart → List Terminal → Type 0
    UnitTold (More st) a = UnitAt st a
    UnitTold (Done p) a = ⊥
    UnitTold Bad a = Unit {0}

    p_item : {ps : ItemsPart} {p : ItemPart} {z a : List Terminal} → PItems ps all z → PItem p z a → PItems (with_item ps p) all a
    p_item {ps} {p} f x = record {
      trees = f.trees ++ x.tree ∷ [];
      is = ap (λ q. with_item q p) f.is ∙ ap (with_item (cap_items n f.trees)) x.is ∙ with_item-cap n f.trees x.tree;
      reads = another_item f.reads x.reads;
    }

    said_told : {ps : ItemsPart} {z : List Terminal} (a : List Terminal) → PItems ps all z → (v : ItemSaid) → ItemTold v z a → UnitTold (unit_said ps v) a
    said_told a f (More x) r = in_item f r
    said_told a f (Done p) r = between (p_item f r)
    said_told a f Bad r = tt

    unit_told : (t : Terminal) {st : UnitState} (a : List Terminal) → UnitAt st (t ∷ a) → UnitTold (unit_step n t st) a
    unit_told t a (between f) = said_told a f (item_begin t t.sort) (begin_told t.sort t.span a)
    unit_told t a (in_item {x = x} f d) = said_told a f (item_step n t x) (item_told t a d)

    pub unit_at : {st : UnitState} {a : List Terminal} → Came (unit_step n) unit_start all st a → UnitAt st a
    unit_at begun = between (record { trees = []; is = no_items-cap n; reads = no_items })
    unit_at {a = a} (taken {t = t} c e) = subst (λ v. UnitTold v a) e (unit_told t a (unit_at c))

    finish_told : {st : UnitState} (p : UnitPart) → UnitAt st [] → unit_finish n st ≡ Some p → IsUnitRead n p all
    finish_told p (between {ps = ps} f) e =
        let q : unit_part n ps ≡ p = cc in record { tree = unit_of f.trees; is = sym q ∙ ap (unit_part n) f.is ∙ unit_part-cap n f.trees; reads = a_unit f.reads }
    finish_told p (in_item f d) e = let never : ⊥ = cc in absurd never

    -- what is read is a unit
    pub unit_sound : (st : UnitState) (p : UnitPart) → Came (unit_step n) unit_start all st [] → unit_finish n st ≡ Some p → IsUnitRead n p all
    unit_sound st p c e = finish_told p (unit_at c) e
