-- Each unit of the grammar is read.
use Rattle.std.proofs.Common.{◌≡◌, ℕ, ◌+◌, ◌≤◌, max, Bool, true, false, cond, List, [], ◌∷◌, ◌++◌, map, Option, Some, None, refl, sym, ap, ◌∙◌, subst, arith}
use Rattle.c_types.specs.declared.types.Span.{Span}
use Rattle.c_tree.specs.declared.expressions.Name.{Name}
use Rattle.c_tree.specs.declared.expressions.Base.{Base}
use Rattle.c_tree.specs.declared.expressions.Base.TheVariants as base
use Rattle.c_tree.specs.declared.expressions.TypeName.{TypeName}
use Rattle.c_tree.specs.declared.statements.BlockItem.{BlockItem}
use Rattle.c_tree.specs.declared.declarations.Decl.{Decl}
use Rattle.c_tree.specs.declared.declarations.Field.{Field}
use Rattle.c_tree.specs.declared.declarations.Params.{Params}
use Rattle.c_tree.specs.declared.declarations.FunctionHead.{FunctionHead}
use Rattle.c_tree.specs.declared.declarations.GlobalDecl.{GlobalDecl}
use Rattle.c_tree.specs.declared.declarations.Item.{Item}
use Rattle.c_tree.specs.declared.declarations.Item.TheVariants as item
use Rattle.c_tree.specs.declared.declarations.Unit.{Unit as Unit'}
use Rattle.c_tree.specs.Height.{tallest, ones, field_height, params_height, item_height}
use Rattle.c_tree.proofs.Tallest.{tallest-append}
use Rattle.c_lex.specs.declared.words.Word.TheVariants as w
use Rattle.c_lex.specs.declared.marks.Mark.{Mark}
use Rattle.c_lex.specs.declared.marks.Mark.TheVariants as m
use Rattle.parse_terms.specs.declared.answer.Answer.{Answer}
use Rattle.parse_terms.specs.declared.answer.Answer.TheVariants.{More, Done, Bad}
use Rattle.parse_terms.specs.declared.terminal.Sort.{Sort}
use Rattle.parse_terms.specs.declared.terminal.Sort.TheVariants as sort
use Rattle.parse_terms.specs.declared.terminal.Terminal.{Terminal}
use Rattle.parse_terms.specs.declared.types.TypeState.{TypeState}
use Rattle.parse_terms.specs.declared.types.TypeState.TheVariants as type_state
use Rattle.parse_terms.specs.declared.declarators.DeclState.{DeclState}
use Rattle.parse_terms.specs.declared.declarators.DeclState.TheVariants as decl_state
use Rattle.parse_terms.specs.Terminals.{term, word, mark, named, name_of}
use Rattle.parse_terms.specs.Integers.{IsWidth, char, short, short_int, int, long_long, long_long_int, IsInt, plain, with_signed, with_unsigned, signed, unsigned}
use Rattle.parse_terms.specs.TypeNames.{IsBase, void, integer, tagged, typedef, IsStars, no_stars, star, IsTypeName, type_named, type_name, type_step}
use Rattle.parse_terms.specs.Declarators.{literal, decl, decl_step}
use Rattle.parse_terms.specs.Runs.{Outcome, Ended, Finished, after, run}
use Rattle.parse_terms.proofs.RunLaws.{lifted, hosted}
use Rattle.parse_terms.proofs.TypeLaws.{type_complete}
use Rattle.parse_decl.specs.declared.params.ParamsState.{ParamsState}
use Rattle.parse_decl.specs.declared.params.ParamsState.TheVariants as params_state
use Rattle.parse_decl.specs.Params.{IsParams, params_step, all_named}
use Rattle.parse_decl.proofs.ParamsLaws.{params_complete}
use Rattle.parse_stmt.specs.declared.state.BodyState.{BodyState}
use Rattle.parse_stmt.specs.declared.parts.Capped.TheVariants.{Built}
use Rattle.parse_stmt.specs.StmtGrammar.{IsBlockItems}
use Rattle.parse_stmt.specs.StmtParts.{Body, cap_body}
use Rattle.parse_stmt.specs.StmtMachine.{body_start}
use Rattle.parse_item.specs.BodyAnswers.{body_answer}
use Rattle.parse_item.specs.declared.fields.FieldsState.{FieldsState}
use Rattle.parse_item.specs.declared.fields.FieldsState.TheVariants as fields
use Rattle.parse_item.specs.declared.typedefs.TypedefState.{TypedefState}
use Rattle.parse_item.specs.declared.typedefs.TypedefState.TheVariants as typedef_state
use Rattle.parse_item.specs.declared.globals.GlobalsState.{GlobalsState}
use Rattle.parse_item.specs.declared.globals.GlobalsState.TheVariants as globals_state
use Rattle.parse_item.specs.declared.items.ItemState.{ItemState}
use Rattle.parse_item.specs.declared.items.ItemState.TheVariants.{Typedef, Tag, Tagged, Fields, FieldsEnded, ExternType, ExternDecl, Adjustor, Typing, Named, Globals, Params as InParams, Head, Body as InBody}
use Rattle.parse_item.specs.declared.units.UnitState.{UnitState}
use Rattle.parse_item.specs.ItemGrammar.{head_of, unit_of, IsFields, first_field, next_field, IsField, a_field, IsDecls, first_decl, next_decl, IsGlobals, IsHead, a_head, IsItem, a_typedef, a_struct, an_extern, globals, a_function, a_definition, raised, lowered, IsItems, no_items, another_item, IsUnit, a_unit}
use Rattle.parse_item.specs.ItemParts.{GlobalsPart, ItemPart, ItemsPart, UnitPart, no_globals, cap_globals, cap_item, cap_items, cap_unit, globals_part, define_part, with_item, unit_part}
use Rattle.parse_item.specs.DeclarationMachines.{fields_step, typedef_step, globals_step}
use Rattle.parse_item.specs.UnitMachine.{ItemSaid, typedef_said, fields_said, extern_end, extern_declared, extern_typed, name_step, typed, begin_typed, globals_said, first_global, named_mark, named_step, params_said, head_mark, body_said, tagged_type, tagged_mark, tagged_step, item_begin, unit_state, unit_start, unit_said, unit_step, unit_finish}
use Rattle.item_laws.specs.Units.{RunsTo}
use Rattle.item_laws.proofs.ItemPartLaws.{low-cap, head-cap, no_globals-cap, no_items-cap, globals_part-cap, define_part-cap, with_item-cap, unit_part-cap}
use Rattle.item_laws.proofs.TypedLaws.{IsTyped, typed_lands}
use Rattle.item_laws.proofs.UnitHosts.{typedef_in, fields_in, extern_over, extern_types, type_in, globals_in, params_in, body_in}
use Rattle.item_laws.proofs.FieldLaws.{fields_complete}
use Rattle.item_laws.proofs.TypedefLaws.{typedef_complete}
use Rattle.item_laws.proofs.GlobalLaws.{NoParen, Behind, globals_land}

-- ---- heights of fields

-- each list of declarators has one
decls_one : {ds : List Decl} {a b : List Terminal} → IsDecls ds a b → ones ds ≡ 1
decls_one (first_decl d) = refl
decls_one (next_decl {ds = ds} {d = d} e x) = at ds
  where
    at : (ds : List Decl) → ones (ds ++ d ∷ []) ≡ 1
    at [] = refl
    at (y ∷ ds) = refl

field_two : {f : Field} {a b : List Terminal} → IsField f a b → field_height f ≡ 2
field_two (a_field y d) = ap (λ k. k + 1) (decls_one d)

pub fields_two : {fs : List Field} {a b : List Terminal} → IsFields fs a b → tallest (map field_height fs) ≡ 2
fields_two (first_field {f = f} d) = let e : field_height f ≡ 2 = field_two d in omega arith
fields_two (next_field {fs = fs} {f = f} e d) =
    let x : tallest (map field_height (fs ++ f ∷ [])) ≡ max (tallest (map field_height fs)) (field_height f) = tallest-append field_height fs f in
    let y : tallest (map field_height fs) ≡ 2 = fields_two e in
    let z : field_height f ≡ 2 = field_two d in
    omega arith

-- ---- no { begins the tokens

abbrev NoBrace : Sort → Type 0
NoBrace (sort.Mark m.OpenBrace) = ⊥
NoBrace _ = Unit {0}

record Next (a : List Terminal) : Type 0 where
  first : Terminal
  others : List Terminal
  is : a ≡ first ∷ others
  no_brace : NoBrace first.sort

stars_next : {ss : List Span} {a e : List Terminal} (t : Terminal) (b : List Terminal) → e ≡ t ∷ b → IsStars ss a e → NoBrace t.sort → Next a
stars_next t b q no_stars h = record { first = t; others = b; is = q; no_brace = h }
stars_next t b q (star {s = s} {b = c} d) h = stars_next (mark m.Star s) c refl d tt

module _ (n : ℕ) (low : 4 ≤ n) (body_complete : (xs : List BlockItem) (s : Span) (a b : List Terminal) → IsBlockItems xs a (mark m.CloseBrace s ∷ b) → run (body_answer n) a body_start ≡ Finished (cap_body n xs) (mark m.CloseBrace s ∷ b)) where
  abbrev go : List Terminal → UnitState → Outcome UnitState UnitPart
  go = run (unit_step n)

  module _ (ps : ItemsPart) where
    abbrev at : ItemState → UnitState
    at x = unit_state ps (Some x)

    abbrev over : ItemPart → Answer UnitState UnitPart
    over p = More (unit_state (with_item ps p) None)

    abbrev between : UnitState
    between = unit_state ps None

    -- ---- where the type of an item begins

    width_begin : {v : _} {s : Span} {a b : List Terminal} → IsWidth v s a b → go a between ≡ go a (at (Typing type_state.Opening))
    unfolding begin_typed
    width_begin char = refl
    width_begin short = refl
    width_begin short_int = refl
    width_begin int = refl
    width_begin long_long = refl
    width_begin long_long_int = refl

    int_begin : {i : _} {s : Span} {a b : List Terminal} → IsInt i s a b → go a between ≡ go a (at (Typing type_state.Opening))
    unfolding begin_typed
    int_begin (plain d) = width_begin d
    int_begin (with_signed d) = refl
    int_begin (with_unsigned d) = refl
    int_begin signed = refl
    int_begin unsigned = refl

    tagged_other : (t : Terminal) (k : Mark) (s : Span) (x : Name) → NoBrace (sort.Mark k) → tagged_mark t k s x ≡ tagged_type t s x
    tagged_other t m.OpenBrace s x h = absurd h
    tagged_other t k s x h = refl

    tagged_no_brace : (t : Terminal) (k : Sort) (s : Span) (x : Name) → NoBrace k → tagged_step t k s x ≡ tagged_type t s x
    tagged_no_brace t (sort.Mark k) s x h = tagged_other t k s x h
    tagged_no_brace t (sort.Name y) s x h = refl
    tagged_no_brace t (sort.Word y) s x h = refl
    tagged_no_brace t (sort.Number y i) s x h = refl
    tagged_no_brace t (sort.Char y) s x h = refl
    tagged_no_brace t (sort.Text y) s x h = refl
    tagged_no_brace t sort.Unknown s x h = refl

    base_begin : {y : Base} {a c : List Terminal} → Next c → IsBase y a c → go a between ≡ go a (at (Typing type_state.Opening))
    unfolding begin_typed tagged_type
    base_begin f void = refl
    base_begin f (integer d) = int_begin d
    base_begin f typedef = refl
    base_begin f (tagged {x = x} {s = s} {t = t} {a = c}) =
        ap (λ l. go l (at (Tagged s (name_of x t)))) f.is
        ∙ ap (λ v. after (unit_said ps v) (go f.others) (f.first ∷ f.others)) (tagged_no_brace f.first f.first.sort s (name_of x t) f.no_brace)
        ∙ sym (ap (λ l. go l (at (Typing (type_state.Stars (base.Struct s (name_of x t)) [])))) f.is)

    type_begin : {r : TypeName} {a : List Terminal} (x : List ℕ) (s : Span) (b : List Terminal) → IsTypeName r a (named x s ∷ b) → go a between ≡ go a (at (Typing type_state.Opening))
    type_begin x s b (type_named y i) = base_begin (stars_next (named x s) b refl i tt) y

    -- up to the first name
    name_lands : {r : TypeName} {a : List Terminal} (x : List ℕ) (s : Span) (b : List Terminal) → IsTypeName r a (named x s ∷ b) → go a between ≡ go b (at (Named r.base r.stars (name_of x s)))
    name_lands {r} {a} x s b d =
        type_begin x s b d
        ∙ hosted type_step (unit_step n) (λ y. at (Typing y)) (λ q k. unit_said ps (name_step k.sort k.span q)) (λ k y. type_in n ps k (type_step k y)) a type_state.Opening r (named x s) b
        (type_complete (named x s) b refl d tt)

    named_other : (t : Terminal) (k : Mark) (y : Base) (ss : List Span) (x : Name) → NoParen (sort.Mark k) → named_mark n t k y ss x ≡ first_global n t y ss x
    named_other t m.OpenParen y ss x h = absurd h
    named_other t k y ss x h = refl

    named_no_paren : (t : Terminal) (k : Sort) (y : Base) (ss : List Span) (x : Name) → NoParen k → named_step n t k y ss x ≡ first_global n t y ss x
    named_no_paren t (sort.Mark k) y ss x h = named_other t k y ss x h
    named_no_paren t (sort.Name z) y ss x h = refl
    named_no_paren t (sort.Word z) y ss x h = refl
    named_no_paren t (sort.Number z i) y ss x h = refl
    named_no_paren t (sort.Char z) y ss x h = refl
    named_no_paren t (sort.Text z) y ss x h = refl
    named_no_paren t sort.Unknown y ss x h = refl

    global_begin : (y : Base) (ss : List Span) (x : Name) {a : List Terminal} → Behind a → go a (at (Named y ss x)) ≡ go a (at (Globals y (globals_state.Declaring no_globals (decl_state.Named (decl ss x [])))))
    unfolding first_global
    global_begin y ss x f =
        ap (λ l. go l (at (Named y ss x))) f.is
        ∙ ap (λ v. after (unit_said ps v) (go f.others) (f.first ∷ f.others)) (named_no_paren f.first f.first.sort y ss x f.no_paren)
        ∙ sym (ap (λ l. go l (at (Globals y (globals_state.Declaring no_globals (decl_state.Named (decl ss x [])))))) f.is)

    globals_item : {y : Base} {gs : List GlobalDecl} (u : Span) (a b c : List Terminal) → IsBase y a b → IsGlobals gs b (mark m.Semicolon u ∷ c) → go a between ≡ go c (unit_state (with_item ps (cap_item n (item.Globals y gs))) None)
    globals_item {y} {gs} u a b c f d =
        let one : 1 ≤ n = omega arith in
        let x = globals_land n one (mark m.Semicolon u) c refl d tt in
        name_lands x.text x.span x.rest (type_named f x.begins)
        ∙ global_begin y x.stars (name_of x.text x.span) x.behind
        ∙ ap (λ p. go x.rest (at (Globals y (globals_state.Declaring p (decl_state.Named (decl x.stars (name_of x.text x.span) [])))))) (no_globals-cap n)
        ∙ hosted (globals_step n) (unit_step n) (λ z. at (Globals y z)) (λ g k. over (globals_part n y g)) (λ k z. globals_in n ps y k (globals_step n k z)) x.rest
        (globals_state.Declaring (cap_globals n []) (decl_state.Named (decl x.stars (name_of x.text x.span) []))) (cap_globals n gs) (mark m.Semicolon u) c x.runs
        ∙ ap (λ p. go c (unit_state (with_item ps p) None)) (globals_part-cap n y gs)

    -- the head of a function
    head_lands : {h : FunctionHead} {a c : List Terminal} → IsHead h a c → go a between ≡ go c (at (Head h))
    head_lands (a_head {t = r} {x = x} {ps = qs} {s = s} {u = u} {v = v} {b = b} {c = c} d i) =
        name_lands x s (mark m.OpenParen u ∷ b) d
        ∙ hosted params_step (unit_step n) (λ y. at (InParams (type_name r.base r.stars) (name_of x s) y)) (λ qs k. More (at (Head (head_of (type_name r.base r.stars) (name_of x s) qs))))
        (λ k y. params_in n ps (type_name r.base r.stars) (name_of x s) k (params_step k y)) b params_state.Opening qs (mark m.CloseParen v) c (params_complete v c refl i)

    definition_lands : (h : FunctionHead) (xs : List BlockItem) (s u : Span) (b c : List Terminal) → all_named h.params.list ≡ true → IsBlockItems xs b (mark m.CloseBrace u ∷ c) →
        go (mark m.OpenBrace s ∷ b) (at (Head h)) ≡ go c (unit_state (with_item ps (cap_item n (item.Define h s xs))) None)
    definition_lands h xs s u b c e d =
        ap (λ v. after (unit_said ps (cond v (More (InBody h s body_start)) Bad)) (go b) (mark m.OpenBrace s ∷ b)) e
        ∙ hosted (body_answer n) (unit_step n) (λ x. at (InBody h s x)) (λ ys k. over (define_part n h s ys)) (λ k x. body_in n ps h s k (body_answer n k x)) b body_start (cap_body n xs) (mark m.CloseBrace u) c
        (body_complete xs u b c d)
        ∙ ap (λ p. go c (unit_state (with_item ps p) None)) (define_part-cap n (omega arith) h s xs)

    as_item : (x : Item) (p : ItemPart) (b : List Terminal) → p ≡ cap_item n x → go b (unit_state (with_item ps p) None) ≡ go b (unit_state (with_item ps (cap_item n x)) None)
    as_item x p b e = ap (λ q. go b (unit_state (with_item ps q) None)) e

    item_lands : {x : Item} {a b : List Terminal} → IsItem x a b → go a between ≡ go b (unit_state (with_item ps (cap_item n x)) None)
    item_lands (a_typedef {h = h} {s = s} {u = u} {a = a} {b = b} d) =
        hosted typedef_step (unit_step n) (λ x. at (Typedef s x)) (λ h k. over (Built (item.Typedef s h) (params_height h.params + 1))) (λ k x. typedef_in n ps s k (typedef_step k x)) a
        (typedef_state.Typing type_state.Opening) h (mark m.Semicolon u) b (typedef_complete u b refl d)
        ∙ as_item (item.Typedef s h) (Built (item.Typedef s h) (params_height h.params + 1)) b (head-cap n low (item.Typedef s h) h refl)
    item_lands (a_struct {x = x} {fs = fs} {s = s} {t = t} {u = u} {v = v} {a = a} {b = b} d) =
        hosted fields_step (unit_step n) (λ y. at (Fields s (name_of x t) y)) (λ fs k. More (at (FieldsEnded s (name_of x t) fs))) (λ k y. fields_in n ps s (name_of x t) k (fields_step k y)) a (fields.Between []) fs
        (mark m.CloseBrace u) (mark m.Semicolon v ∷ b) (fields_complete u (mark m.Semicolon v ∷ b) refl d)
        ∙ as_item (item.Struct s (name_of x t) fs) (Built (item.Struct s (name_of x t) fs) 3) b (low-cap n (item.Struct s (name_of x t) fs) 3 (omega arith) (ap (λ k. k + 1) (fields_two d)))
    item_lands (an_extern {y = y} {d = d} {s = s} {u = u} {c = c} f x) =
        typed_lands (unit_step n) (λ z. at (ExternType s z)) (λ y z. at (ExternDecl s y z)) (extern_over n ps s) (extern_types n ps s) (mark m.Semicolon u) c refl f x tt
        ∙ as_item (item.Extern s y d) (Built (item.Extern s y d) 2) c (low-cap n (item.Extern s y d) 2 (omega arith) refl)
    item_lands (globals {u = u} {a = a} {b = b} {c = c} f d) = globals_item u a b c f d
    item_lands (a_function {h = h} {b = b} d) = head_lands d ∙ as_item (item.Declare h) (Built (item.Declare h) (params_height h.params + 1)) b (head-cap n low (item.Declare h) h refl)
    item_lands (a_definition {h = h} {xs = xs} {s = s} {u = u} {b = b} {c = c} d e i) = head_lands d ∙ definition_lands h xs s u b c e i
    item_lands (raised {x = x} {y = y} {v = v} {k = k} {i = i} {j = j} {s = s} {t = t} {p = p} {r = r} {e = e} {a = a}) =
        let z = item.Adjustor s (name_of x t) (name_of y p) (literal v i r) None (literal k j e) in as_item z (Built z 1) a (low-cap n z 1 (omega arith) refl)
    item_lands (lowered {x = x} {y = y} {v = v} {k = k} {i = i} {j = j} {s = s} {t = t} {p = p} {r = r} {d = d} {e = e} {a = a}) =
        let z = item.Adjustor s (name_of x t) (name_of y p) (literal v i r) (Some d) (literal k j e) in as_item z (Built z 1) a (low-cap n z 1 (omega arith) refl)

  items_land : {xs : List Item} {a b : List Terminal} → IsItems xs a b → go a (unit_state (cap_items n []) None) ≡ go b (unit_state (cap_items n xs) None)
  items_land no_items = refl
  items_land (another_item {xs = xs} {x = x} {c = c} e d) = items_land e ∙ item_lands (cap_items n xs) d ∙ ap (λ p. go c (unit_state p None)) (with_item-cap n xs x)

  pub unit_complete : {u : Unit'} {a : List Terminal} → IsUnit u a → RunsTo n unit_start a (cap_unit n u)
  unit_complete {a = a} (a_unit {xs = xs} d) = record {
    last = unit_state (cap_items n xs) None;
    runs = ap (λ p. go a (unit_state p None)) (no_items-cap n) ∙ items_land d;
    finishes = ap Some (unit_part-cap n xs);
  }
