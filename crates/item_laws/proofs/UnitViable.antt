-- What was taken begins a unit.
use Rattle.std.proofs.Common.{◌≡◌, ℕ, ◌+◌, ◌≤◌, Bool, true, false, cond, List, [], ◌∷◌, ◌++◌, Option, Some, None, refl, sym, ap, ◌∙◌, subst, arith}
use Rattle.c_types.specs.declared.types.Span.{Span}
use Rattle.c_types.specs.declared.types.IntTy.TheVariants.{I32}
use Rattle.c_tree.specs.declared.expressions.Name.{Name}
use Rattle.c_tree.specs.declared.expressions.Base.{Base}
use Rattle.c_tree.specs.declared.expressions.TypeName.{TypeName}
use Rattle.c_tree.specs.declared.declarations.Decl.{Decl}
use Rattle.c_tree.specs.declared.declarations.Field.{Field}
use Rattle.c_tree.specs.declared.declarations.Params.{Params}
use Rattle.c_tree.specs.declared.declarations.FunctionHead.{FunctionHead}
use Rattle.c_tree.specs.declared.declarations.Item.{Item}
use Rattle.c_tree.specs.declared.declarations.Item.TheVariants as item
use Rattle.c_tree.specs.Height.{params_height}
use Rattle.c_lex.specs.declared.marks.Mark.TheVariants as m
use Rattle.parse_terms.specs.declared.answer.Answer.{Answer}
use Rattle.parse_terms.specs.declared.answer.Answer.TheVariants.{More, Done, Bad}
use Rattle.parse_terms.specs.declared.terminal.Terminal.{Terminal}
use Rattle.parse_terms.specs.declared.types.TypeState.{TypeState}
use Rattle.parse_terms.specs.declared.declarators.DeclState.{DeclState}
use Rattle.parse_terms.specs.declared.declarators.DeclState.TheVariants as decl_state
use Rattle.parse_terms.specs.Terminals.{mark, named, name_of}
use Rattle.parse_terms.specs.TypeNames.{type_name, type_step}
use Rattle.parse_terms.specs.Declarators.{decl, decl_step}
use Rattle.parse_terms.specs.Runs.{Ended, after, run, Came}
use Rattle.parse_terms.proofs.RunLaws.{lifted, hosted}
use Rattle.parse_decl.specs.declared.params.ParamsState.{ParamsState}
use Rattle.parse_decl.specs.Ends.{CanEnd}
use Rattle.parse_decl.specs.Params.{params_step}
use Rattle.parse_decl.proofs.EndLaws.{somewhere, type_ends}
use Rattle.parse_decl.proofs.DeclLaws.{decl_ends}
use Rattle.parse_decl.proofs.ParamsLaws.{params_ends}
use Rattle.parse_stmt.specs.declared.state.BodyState.{BodyState}
use Rattle.parse_stmt.specs.declared.parts.Capped.TheVariants.{Built}
use Rattle.parse_stmt.specs.StmtParts.{Body}
use Rattle.parse_stmt.specs.StmtMachine.{body_start}
use Rattle.parse_item.specs.BodyAnswers.{body_answer}
use Rattle.stmt_laws.specs.Bodies.{IsBodyRead}
use Rattle.parse_item.specs.declared.fields.FieldsState.{FieldsState}
use Rattle.parse_item.specs.declared.fields.FieldsState.TheVariants as fields
use Rattle.parse_item.specs.declared.typedefs.TypedefState.{TypedefState}
use Rattle.parse_item.specs.declared.adjustors.AdjustorState.{AdjustorState}
use Rattle.parse_item.specs.declared.globals.GlobalsState.{GlobalsState}
use Rattle.parse_item.specs.declared.items.ItemState.{ItemState}
use Rattle.parse_item.specs.declared.items.ItemState.TheVariants.{Typedef, Tag, Tagged, Fields, FieldsEnded, ExternType, ExternDecl, Adjustor, Typing, Named, Globals, Params as InParams, Head, Body as InBody}
use Rattle.parse_item.specs.declared.units.UnitState.{UnitState}
use Rattle.parse_item.specs.ItemGrammar.{head_of}
use Rattle.parse_item.specs.ItemParts.{ItemPart, ItemsPart, UnitPart, no_globals, globals_part, define_part, with_item, unit_part, without_init}
use Rattle.parse_item.specs.DeclarationMachines.{fields_step, typedef_step, adjustor_step, globals_step}
use Rattle.parse_item.specs.UnitMachine.{name_step, first_global, unit_state, unit_start, unit_said, unit_step, unit_finish}
use Rattle.item_laws.specs.Units.{RunsTo, CanFinish}
use Rattle.item_laws.proofs.FieldLaws.{fields_ends}
use Rattle.item_laws.proofs.TypedefLaws.{typedef_ends}
use Rattle.item_laws.proofs.AdjustorLaws.{adjustor_ends}
use Rattle.item_laws.proofs.GlobalLaws.{globals_ends}
use Rattle.item_laws.proofs.UnitHosts.{at, over, typedef_in, fields_in, extern_over, extern_decl_in, extern_type_in, type_in, globals_in, params_in, body_in, adjustor_in}
use Rattle.item_laws.proofs.UnitSound.{ItemAt, in_typedef, in_tag, in_tagged, in_fields, in_ended, in_extern_type, in_extern_decl, in_adjustor, in_typing, in_named, in_globals, in_params, in_head, in_body, UnitAt, between, in_item, unit_at}

module _ (n : ℕ) (low : 4 ≤ n) (body_sound : (st : BodyState) (p : Body) (t : Terminal) (z a : List Terminal) → Came (body_answer n) body_start z st (t ∷ a) → body_answer n t st ≡ Done p → IsBodyRead n p z t a)
    (body_ends : (z : List Terminal) (st : BodyState) → Came (body_answer n) body_start z st [] → (s : Span) → CanEnd BodyState Body (body_answer n) st (mark m.CloseBrace s)) where
  module _ (ps : ItemsPart) where
    -- tokens bring the item that is being read to its end
    record ItemEnds (x : ItemState) : Type 0 where
      tokens : List Terminal
      part : ItemPart
      is : run (unit_step n) tokens (at n ps x) ≡ Ended (unit_state (with_item ps part) None)

    -- the item is over where a part of it is
    ends_with_part : {S D : Type 0} (step : Terminal → S → Answer S D) (within : S → ItemState) (ends : D → Terminal → Answer UnitState UnitPart) →
        ((k : Terminal) (s : S) → unit_step n k (at n ps (within s)) ≡ lifted step (unit_step n) (λ y. at n ps (within y)) ends k (step k s)) → (st : S) (u : Terminal) (c : CanEnd S D step st u) (p : ItemPart) →
        ends c.part_of u ≡ over n ps p → ItemEnds (within st)
    ends_with_part step within ends h st u c p e = record {
      tokens = c.tokens ++ u ∷ [];
      part = p;
      is = hosted step (unit_step n) (λ y. at n ps (within y)) ends h (c.tokens ++ u ∷ []) st c.part_of u [] (c.is []) ∙ ap (λ v. after v (run (unit_step n) []) (u ∷ [])) e;
    }

    -- the item goes on where a part of it is over
    ends_behind_part : {S D : Type 0} (step : Terminal → S → Answer S D) (within : S → ItemState) (ends : D → Terminal → Answer UnitState UnitPart) →
        ((k : Terminal) (s : S) → unit_step n k (at n ps (within s)) ≡ lifted step (unit_step n) (λ y. at n ps (within y)) ends k (step k s)) → (st : S) (u : Terminal) (c : CanEnd S D step st u) (x : ItemState) →
        ends c.part_of u ≡ More (at n ps x) → ItemEnds x → ItemEnds (within st)
    ends_behind_part step within ends h st u c x e d = record {
      tokens = c.tokens ++ u ∷ d.tokens;
      part = d.part;
      is = hosted step (unit_step n) (λ y. at n ps (within y)) ends h (c.tokens ++ u ∷ d.tokens) st c.part_of u d.tokens (c.is d.tokens) ∙ ap (λ v. after v (run (unit_step n) d.tokens) (u ∷ d.tokens)) e ∙ d.is;
    }

    -- a token first
    token_first : (u : Terminal) (x x' : ItemState) → unit_step n u (at n ps x) ≡ More (at n ps x') → ItemEnds x' → ItemEnds x
    token_first u x x' e d = record { tokens = u ∷ d.tokens; part = d.part; is = ap (λ v. after v (run (unit_step n) d.tokens) (u ∷ d.tokens)) e ∙ d.is }

    -- one token is left
    token_last : (u : Terminal) (x : ItemState) (p : ItemPart) → unit_step n u (at n ps x) ≡ over n ps p → ItemEnds x
    token_last u x p e = record { tokens = u ∷ []; part = p; is = ap (λ v. after v (run (unit_step n) []) (u ∷ [])) e }

    typedef_item : (s : Span) (x : TypedefState) → ItemEnds (Typedef s x)
    typedef_item s x =
        let c = typedef_ends somewhere x in
        ends_with_part typedef_step (Typedef s) (λ h k. over n ps (Built (item.Typedef s h) (params_height h.params + 1))) (λ k y. typedef_in n ps s k (typedef_step k y)) x (mark m.Semicolon somewhere) c
        (Built (item.Typedef s c.part_of) (params_height c.part_of.params + 1)) refl

    adjustor_item : (s : Span) (x : AdjustorState) → ItemEnds (Adjustor s x)
    adjustor_item s x =
        let c = adjustor_ends s somewhere x in
        ends_with_part (adjustor_step s) (Adjustor s) (λ z k. over n ps (Built z 1)) (λ k y. adjustor_in n ps s k (adjustor_step s k y)) x (mark m.Semicolon somewhere) c (Built c.part_of 1) refl

    ended_item : (s : Span) (x : Name) (fs : List Field) → ItemEnds (FieldsEnded s x fs)
    ended_item s x fs = token_last (mark m.Semicolon somewhere) (FieldsEnded s x fs) (Built (item.Struct s x fs) 3) refl

    fields_item : (s : Span) (x : Name) (y : FieldsState) → ItemEnds (Fields s x y)
    fields_item s x y =
        let c = fields_ends y somewhere in
        ends_behind_part fields_step (Fields s x) (λ fs k. More (at n ps (FieldsEnded s x fs))) (λ k z. fields_in n ps s x k (fields_step k z)) y (mark m.CloseBrace somewhere) c (FieldsEnded s x c.part_of) refl
        (ended_item s x c.part_of)

    tagged_item : (s : Span) (x : Name) → ItemEnds (Tagged s x)
    tagged_item s x = token_first (mark m.OpenBrace somewhere) (Tagged s x) (Fields s x (fields.Between [])) refl (fields_item s x (fields.Between []))

    extern_decl_item : (s : Span) (y : Base) (x : DeclState) → ItemEnds (ExternDecl s y x)
    extern_decl_item s y x =
        let c = decl_ends x (mark m.Semicolon somewhere) tt in
        ends_with_part decl_step (ExternDecl s y) (extern_over n ps s y) (λ k z. extern_decl_in n ps s y k (decl_step k z)) x (mark m.Semicolon somewhere) c (Built (item.Extern s y c.part_of) 2) refl

    extern_item : (s : Span) (x : TypeState) → ItemEnds (ExternType s x)
    extern_item s x =
        let c = type_ends x (named [] somewhere) tt in
        let y = c.part_of.base in
        let d = decl_state.Named (decl c.part_of.stars (name_of [] somewhere) []) in
        ends_behind_part type_step (ExternType s) (λ r k. unit_step n k (at n ps (ExternDecl s r.base (decl_state.Stars r.stars)))) (λ k z. extern_type_in n ps s k (type_step k z)) x (named [] somewhere) c (ExternDecl s y d) refl
        (extern_decl_item s y d)

    globals_item : (y : Base) (x : GlobalsState) → ItemEnds (Globals y x)
    globals_item y x =
        let c = globals_ends n (omega arith) x somewhere in
        ends_with_part (globals_step n) (Globals y) (λ gs k. over n ps (globals_part n y gs)) (λ k z. globals_in n ps y k (globals_step n k z)) x (mark m.Semicolon somewhere) c (globals_part n y c.part_of) refl

    named_item : (y : Base) (ss : List Span) (x : Name) → ItemEnds (Named y ss x)
    unfolding first_global
    named_item y ss x = token_last (mark m.Semicolon somewhere) (Named y ss x) (globals_part n y (without_init no_globals (decl ss x []))) refl

    typing_item : (x : TypeState) → ItemEnds (Typing x)
    typing_item x =
        let c = type_ends x (named [] somewhere) tt in
        ends_behind_part type_step Typing (λ r k. unit_said ps (name_step k.sort k.span r)) (λ k z. type_in n ps k (type_step k z)) x (named [] somewhere) c (Named c.part_of.base c.part_of.stars (name_of [] somewhere)) refl
        (named_item c.part_of.base c.part_of.stars (name_of [] somewhere))

    head_item : (h : FunctionHead) → ItemEnds (Head h)
    head_item h = token_last (mark m.Semicolon somewhere) (Head h) (Built (item.Declare h) (params_height h.params + 1)) refl

    params_item : (r : TypeName) (x : Name) (y : ParamsState) → ItemEnds (InParams r x y)
    params_item r x y =
        let c = params_ends y somewhere in
        ends_behind_part params_step (InParams r x) (λ qs k. More (at n ps (Head (head_of r x qs)))) (λ k z. params_in n ps r x k (params_step k z)) y (mark m.CloseParen somewhere) c (Head (head_of r x c.part_of)) refl
        (head_item (head_of r x c.part_of))

    body_item : (h : FunctionHead) (s : Span) (x : BodyState) (z : List Terminal) → Came (body_answer n) body_start z x [] → ItemEnds (InBody h s x)
    body_item h s x z q =
        let c = body_ends z x q somewhere in
        ends_with_part (body_answer n) (InBody h s) (λ xs k. over n ps (define_part n h s xs)) (λ k y. body_in n ps h s k (body_answer n k y)) x (mark m.CloseBrace somewhere) c (define_part n h s c.part_of) refl

    item_ends : {x : ItemState} {z : List Terminal} → ItemAt n low body_sound z x [] → ItemEnds x
    item_ends (in_typedef {x = x} s e p) = typedef_item s x
    item_ends (in_tag s e) = token_first (named [] somewhere) (Tag s) (Tagged s (name_of [] somewhere)) refl (tagged_item s (name_of [] somewhere))
    item_ends (in_tagged s x t e) = tagged_item s (name_of x t)
    item_ends (in_fields {y = y} s x t p e f) = fields_item s (name_of x t) y
    item_ends (in_ended {fs = fs} s x t p u e d) = ended_item s (name_of x t) fs
    item_ends (in_extern_type {x = x} s e p) = extern_item s x
    item_ends (in_extern_decl {y = y} {x = x} s e f i p) = extern_decl_item s y x
    item_ends (in_adjustor {x = x} s e p) = adjustor_item s x
    item_ends (in_typing {x = x} p) = typing_item x
    item_ends (in_named {y = y} {ss = ss} x s d) = named_item y ss (name_of x s)
    item_ends (in_globals {y = y} {x = x} f g) = globals_item y x
    item_ends (in_params {r = r} {y = y} x s u d p) = params_item r (name_of x s) y
    item_ends (in_head {h = h} d) = head_item h
    item_ends (in_body {h = h} {x = x} {c = c} s d e p) = body_item h s x c p

  unit_ends : {st : UnitState} {z : List Terminal} → UnitAt n low body_sound z st [] → CanFinish n st
  unit_ends (between {ps = ps} f) = record { tokens = []; part = unit_part n ps; finishes = record { last = unit_state ps None; runs = refl; finishes = refl } }
  unit_ends (in_item {ps = ps} f d) =
      let c = item_ends ps d in
      record { tokens = c.tokens; part = unit_part n (with_item ps c.part); finishes = record { last = unit_state (with_item ps c.part) None; runs = c.is; finishes = refl } }

  pub unit_completes : (z : List Terminal) (st : UnitState) → Came (unit_step n) unit_start z st [] → CanFinish n st
  unit_completes z st c = unit_ends (unit_at n low body_sound z c)
