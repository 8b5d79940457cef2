-- Whatever the machine holds can be completed.
use Rattle.std.proofs.Common.{◌≡◌, ℕ, ◌≤◌, true, false, List, [], ◌∷◌, ◌++◌, refl, ◌∙◌, subst}
use Rattle.c_types.specs.declared.types.Span.{Span}
use Rattle.c_tree.specs.declared.expressions.Name.{Name}
use Rattle.c_tree.specs.declared.expressions.Base.{Base}
use Rattle.c_tree.specs.declared.expressions.Base.TheVariants as base
use Rattle.c_tree.specs.declared.expressions.Expr.TheVariants as expr
use Rattle.c_tree.specs.declared.statements.ForStart.{ForStart}
use Rattle.c_tree.specs.declared.statements.Stmt.TheVariants as stmt
use Rattle.c_lex.specs.declared.words.Word.TheVariants as w
use Rattle.c_lex.specs.declared.marks.Mark.TheVariants as m
use Rattle.parse_terms.specs.declared.answer.Answer.TheVariants.{More}
use Rattle.parse_terms.specs.declared.terminal.Terminal.{Terminal}
use Rattle.parse_terms.specs.declared.types.TypeState.{TypeState}
use Rattle.parse_terms.specs.declared.declarators.DeclState.{DeclState}
use Rattle.parse_terms.specs.declared.declarators.DeclState.TheVariants as decl_state
use Rattle.parse_terms.specs.Terminals.{word, mark, named, name_of}
use Rattle.parse_terms.specs.TypeNames.{type_step}
use Rattle.parse_terms.specs.Declarators.{decl, decl_step}
use Rattle.parse_terms.specs.Runs.{Finished, run, Came, begun}
use Rattle.parse_decl.proofs.DeclLaws.{decl_ends}
use Rattle.parse_expr.specs.declared.parts.Part.{Part}
use Rattle.parse_expr.specs.declared.state.ExprState.{ExprState}
use Rattle.parse_expr.specs.ExprMachine.{start, expr_step, Ends}
use Rattle.parse_expr.proofs.ExprViable.{expr_completes}
use Rattle.parse_decl.specs.Ends.{CanEnd}
use Rattle.parse_decl.proofs.EndLaws.{ended_before, ends_now, ends_after, ends_hosted, type_ends}
use Rattle.parse_stmt.specs.declared.state.LocalPlace.{LocalPlace}
use Rattle.parse_stmt.specs.declared.state.LocalPlace.TheVariants as place
use Rattle.parse_stmt.specs.declared.state.Header.{Header}
use Rattle.parse_stmt.specs.declared.state.Header.TheVariants as header
use Rattle.parse_stmt.specs.declared.state.Slot.{Slot}
use Rattle.parse_stmt.specs.declared.state.Slot.TheVariants as slot
use Rattle.parse_stmt.specs.declared.state.Hole.{Hole}
use Rattle.parse_stmt.specs.declared.state.Hole.TheVariants as hole
use Rattle.parse_stmt.specs.declared.state.Frame.{Frame}
use Rattle.parse_stmt.specs.declared.state.Frame.TheVariants as frame
use Rattle.parse_stmt.specs.declared.state.Focus.{Focus}
use Rattle.parse_stmt.specs.declared.state.Focus.TheVariants as focus
use Rattle.parse_stmt.specs.declared.state.BodyState.{BodyState}
use Rattle.parse_stmt.specs.declared.parts.Capped.{Capped}
use Rattle.parse_stmt.specs.StmtParts.{leaf_part, ExprPart, OptionPart, DeclsPart, StmtPart, Body, of_part, no_decls, no_part, some_part, with_decl, with_stmt, with_locals, with_va_list, start_locals, start_part, for_head, block_part, effect_part, return_part, if_part, if_else_part, while_part, do_part, for_part}
use Rattle.parse_stmt.specs.StmtMachine.{state, idle, body_start, hole_effect, hole_step, body_step}
use Rattle.stmt_laws.proofs.StmtComplete.{Next, next, in_expr, expr_ends, expr_is, typing, type_ends_in, type_is, declaring, decl_ends_in, decl_is, did_then, did_else, did_while, did_for, IsLevel}
use Rattle.stmt_laws.proofs.StmtSound.{Room, top, nested, PlaceAt, in_block, in_for, Sound, s_item, s_stmt, s_ended, s_paren, s_semicolon, s_expr, s_optional, s_bare, s_typing, s_declaring, s_va_list, s_va_list_end, s_va_start_name, s_va_start_comma, s_va_start_last, s_va_end_name, s_va_close, HoleAt, at_effect, at_if, at_while, at_do, at_init, at_slot, came_sound}

abbrev somewhere : Span
somewhere = record { start = 0; end = 0 }

abbrev anyone : Terminal
anyone = named [] somewhere

abbrev no_name : Name
no_name = name_of [] somewhere

abbrev semicolon : Terminal
semicolon = mark m.Semicolon somewhere

abbrev opening : Terminal
opening = mark m.OpenParen somewhere

abbrev closing : Terminal
closing = mark m.CloseParen somewhere

module _ (n : ℕ) (low : 1 ≤ n) (last : Span) where
  abbrev end_mark : Terminal
  end_mark = mark m.CloseBrace last

  -- tokens bring the body to its end before its `}`
  abbrev Can : BodyState → Type 0
  Can st = CanEnd BodyState Body (body_step n) st end_mark

  abbrev here : Focus → Body → List Frame → BodyState
  here f d fs = state f idle d fs

  first : (u : Terminal) (st st' : BodyState) → body_step n u st ≡ More st' → Can st' → Can st
  first u st st' q c = ends_after (body_step n) u st st' end_mark q c

  -- ---- behind a statement

  record Closes (x : StmtPart) (d : Body) (fs : List Frame) : Type 0 where
    tokens : List Terminal
    part_of : Body
    quiet : (b : List Terminal) → Next true (tokens ++ end_mark ∷ b)
    is : (b : List Terminal) → run (body_step n) (tokens ++ end_mark ∷ b) (here (focus.Ended x) d fs) ≡ Finished part_of (end_mark ∷ b)

  -- the same tokens, where they find the same
  closes_same : (x x' : StmtPart) (d : Body) (fs gs : List Frame) → ((b : List Terminal) → Next true b → run (body_step n) b (here (focus.Ended x) d fs) ≡ run (body_step n) b (here (focus.Ended x') d gs)) → Closes x' d gs → Closes x d fs
  closes_same x x' d fs gs f c = record { tokens = c.tokens; part_of = c.part_of; quiet = c.quiet; is = λ b. f (c.tokens ++ end_mark ∷ b) (c.quiet b) ∙ c.is b }

  abbrev a_name : ExprPart
  a_name = leaf_part (expr.Name no_name)

  closes : (fs : List Frame) (x : StmtPart) (d : Body) → Closes x d fs
  closes [] x d = record { tokens = []; part_of = with_stmt d x; quiet = λ b. next true end_mark b (λ h. refl); is = λ b. refl }
  closes (frame.Nested s before ∷ fs) x d =
      let c = closes fs (block_part n s (with_stmt d x)) before in
      record {
        tokens = mark m.CloseBrace somewhere ∷ c.tokens;
        part_of = c.part_of;
        quiet = λ b. next true (mark m.CloseBrace somewhere) (c.tokens ++ end_mark ∷ b) (λ h. refl);
        is = λ b. c.is b;
      }
  closes (frame.Do s ∷ fs) x d =
      let c = closes fs (do_part n s x a_name) d in
      record {
        tokens = word w.While somewhere ∷ opening ∷ anyone ∷ closing ∷ semicolon ∷ c.tokens;
        part_of = c.part_of;
        quiet = λ b. next true (word w.While somewhere) (opening ∷ anyone ∷ closing ∷ semicolon ∷ (c.tokens ++ end_mark ∷ b)) (λ h. refl);
        is = λ b. c.is b;
      }
  closes (frame.Then s p ∷ fs) x d = closes_same x (if_part n s p x) d (frame.Then s p ∷ fs) fs (λ b y. did_then n low s p x y d fs) (closes fs (if_part n s p x) d)
  closes (frame.Else s p y ∷ fs) x d = closes_same x (if_else_part n s p y x) d (frame.Else s p y ∷ fs) fs (λ b z. did_else n low s p y x z d fs) (closes fs (if_else_part n s p y x) d)
  closes (frame.While s p ∷ fs) x d = closes_same x (while_part n s p x) d (frame.While s p ∷ fs) fs (λ b y. did_while n low s p x y d fs) (closes fs (while_part n s p x) d)
  closes (frame.For s h ∷ fs) x d = closes_same x (for_part n s h x) d (frame.For s h ∷ fs) fs (λ b y. did_for n low s h x y d fs) (closes fs (for_part n s h x) d)

  ended_can : (x : StmtPart) (d : Body) (fs : List Frame) → Can (here (focus.Ended x) d fs)
  ended_can x d fs = let c = closes fs x d in record { tokens = c.tokens; part_of = c.part_of; is = c.is }

  stmt_can : (d : Body) (fs : List Frame) → Can (here focus.Stmt d fs)
  stmt_can d fs = let x = leaf_part (stmt.Empty somewhere) in first semicolon (here focus.Stmt d fs) (here (focus.Ended x) d fs) refl (ended_can x d fs)

  item_can : (d : Body) (fs : List Frame) → IsLevel n low fs → Can (here focus.Item d fs)
  item_can d [] h = ends_now (body_step n) (here focus.Item d []) end_mark d refl
  item_can d (frame.Nested s before ∷ fs) h =
      first (mark m.CloseBrace somewhere) (here focus.Item d (frame.Nested s before ∷ fs)) (here (focus.Ended (block_part n s d)) before fs) refl (ended_can (block_part n s d) before fs)
  item_can d (frame.Then s p ∷ fs) h = absurd h
  item_can d (frame.Else s p x ∷ fs) h = absurd h
  item_can d (frame.While s p ∷ fs) h = absurd h
  item_can d (frame.Do s ∷ fs) h = absurd h
  item_can d (frame.For s x ∷ fs) h = absurd h

  semicolon_can : (x : StmtPart) (d : Body) (fs : List Frame) → Can (here (focus.Semicolon x) d fs)
  semicolon_can x d fs = first semicolon (here (focus.Semicolon x) d fs) (here (focus.Ended x) d fs) refl (ended_can x d fs)

  va_close_can : (x : StmtPart) (d : Body) (fs : List Frame) → Can (here (focus.VaClose x) d fs)
  va_close_can x d fs = first closing (here (focus.VaClose x) d fs) (here (focus.Semicolon x) d fs) refl (semicolon_can x d fs)

  -- ---- where an expression may be left out

  step_can : (s : Span) (i : Capped ForStart) (c : OptionPart) (d : Body) (fs : List Frame) → Can (here (focus.Optional (slot.Step s i c)) d fs)
  step_can s i c d fs = let r = frame.For s (for_head i c no_part) in first closing (here (focus.Optional (slot.Step s i c)) d fs) (here focus.Stmt d (r ∷ fs)) refl (stmt_can d (r ∷ fs))

  test_can : (s : Span) (i : Capped ForStart) (d : Body) (fs : List Frame) → Can (here (focus.Optional (slot.Test s i)) d fs)
  test_can s i d fs = first semicolon (here (focus.Optional (slot.Test s i)) d fs) (here (focus.Optional (slot.Step s i no_part)) d fs) refl (step_can s i no_part d fs)

  slot_can : (l : Slot) (d : Body) (fs : List Frame) → Can (here (focus.Optional l) d fs)
  slot_can (slot.Start s) d fs = let i = start_part no_part in first semicolon (here (focus.Optional (slot.Start s)) d fs) (here (focus.Optional (slot.Test s i)) d fs) refl (test_can s i d fs)
  slot_can (slot.Test s i) d fs = test_can s i d fs
  slot_can (slot.Step s i c) d fs = step_can s i c d fs
  slot_can (slot.Return s) d fs =
      let x = return_part n s no_part in first semicolon (here (focus.Optional (slot.Return s)) d fs) (here (focus.Ended x) d fs) refl (ended_can x d fs)

  -- ---- locals

  -- the frames where locals of a place are
  abbrev PlaceLevel : LocalPlace → List Frame → Type 0
  PlaceLevel place.Block fs = IsLevel n low fs
  PlaceLevel (place.For s) fs = Unit {0}

  room_level : {all : List Terminal} {d : Body} {fs : List Frame} {a : List Terminal} → Room n low all true d fs a → IsLevel n low fs
  room_level (top i) = tt
  room_level (nested s r i) = tt

  place_level : {all : List Terminal} {p : LocalPlace} {d : Body} {fs : List Frame} {a : List Terminal} → PlaceAt n low all p d fs a → PlaceLevel p fs
  place_level (in_block r) = room_level r
  place_level (in_for s t r) = tt

  declaring_can : (p : LocalPlace) (y : Base) (ds : DeclsPart) (z : DeclState) (d : Body) (fs : List Frame) → PlaceLevel p fs → Can (here (focus.Declaring p y ds z) d fs)
  declaring_can place.Block y ds z d fs h =
      let c = decl_ends z semicolon tt in
      let e = with_locals n y (with_decl ds c.part_of no_part) d in
      ends_hosted decl_step (body_step n) (declaring n low place.Block y ds d fs) (decl_ends_in n low place.Block y ds d fs) (λ k v. decl_is n low place.Block y ds d fs k (decl_step k v)) z semicolon end_mark c
      (here focus.Item e fs) refl (item_can e fs h)
  declaring_can (place.For s) y ds z d fs h =
      let c = decl_ends z semicolon tt in
      let i = start_locals n y (with_decl ds c.part_of no_part) in
      ends_hosted decl_step (body_step n) (declaring n low (place.For s) y ds d fs) (decl_ends_in n low (place.For s) y ds d fs) (λ k v. decl_is n low (place.For s) y ds d fs k (decl_step k v)) z semicolon end_mark c
      (here (focus.Optional (slot.Test s i)) d fs) refl (test_can s i d fs)

  typing_can : (p : LocalPlace) (y : TypeState) (d : Body) (fs : List Frame) → PlaceLevel p fs → Can (here (focus.Typing p y) d fs)
  typing_can p y d fs h =
      let c = type_ends y anyone tt in
      let z = decl_state.Named (decl c.part_of.stars no_name []) in
      ends_hosted type_step (body_step n) (typing n low p d fs) (type_ends_in n low p d fs) (λ k v. type_is n low p d fs k (type_step k v)) y anyone end_mark c
      (here (focus.Declaring p c.part_of.base no_decls z) d fs) refl (declaring_can p c.part_of.base no_decls z d fs h)

  bare_can : (p : LocalPlace) (x : Name) (d : Body) (fs : List Frame) → PlaceLevel p fs → Can (here (focus.Bare p x) d fs)
  bare_can p x d fs h =
      let z = decl_state.Named (decl [] no_name []) in
      first anyone (here (focus.Bare p x) d fs) (here (focus.Declaring p (base.Named x) no_decls z) d fs) refl (declaring_can p (base.Named x) no_decls z d fs h)

  -- ---- expressions

  -- an expression can be brought to its end before t, and the hole goes on
  expr_can : (h : Hole) (e : ExprState) (d : Body) (fs : List Frame) (z : List Terminal) → Came (expr_step n) (start (hole_effect h)) z e [] → (t : Terminal) → Ends t.sort →
      (goes : Part → BodyState) → ((p : Part) → hole_step n t.sort h (of_part p) (here focus.Item d fs) ≡ More (goes p)) → ((p : Part) → Can (goes p)) → Can (state (focus.Expr h) e d fs)
  expr_can h e d fs z c t g goes q can =
      let x = expr_completes n low (hole_effect h) z e c t g [] in
      let y : CanEnd ExprState Part (expr_step n) e t = record { tokens = x.tokens; part_of = x.part_of; is = ended_before (expr_step n) x.tokens e t x.part_of x.is } in
      ends_hosted (expr_step n) (body_step n) (in_expr n low h d fs) (expr_ends n low h d fs) (λ k v. expr_is n low h d fs k v (expr_step n k v)) e t end_mark y (goes x.part_of) (q x.part_of) (can x.part_of)

  -- where the hole's frames are a block's, if it wants one's
  abbrev HoleLevel : Hole → List Frame → Type 0
  HoleLevel (hole.Init p y ds z) fs = PlaceLevel p fs
  HoleLevel _ fs = Unit {0}

  hole_level : {all : List Terminal} {h : Hole} {d : Body} {fs : List Frame} {a : List Terminal} → HoleAt n low all h d fs a → HoleLevel h fs
  hole_level (at_effect r) = tt
  hole_level (at_if s t r) = tt
  hole_level (at_while s t r) = tt
  hole_level (at_do s t u r i) = tt
  hole_level (at_init s r i j k) = place_level r
  hole_level (at_slot r) = tt

  hole_can : (h : Hole) (e : ExprState) (d : Body) (fs : List Frame) (z : List Terminal) → HoleLevel h fs → Came (expr_step n) (start (hole_effect h)) z e [] → Can (state (focus.Expr h) e d fs)
  hole_can hole.Effect e d fs z h c =
      expr_can hole.Effect e d fs z c semicolon tt (λ p. here (focus.Ended (effect_part n (of_part p))) d fs) (λ p. refl) (λ p. ended_can (effect_part n (of_part p)) d fs)
  hole_can (hole.If s) e d fs z h c =
      expr_can (hole.If s) e d fs z c closing tt (λ p. here focus.Stmt d (frame.Then s (of_part p) ∷ fs)) (λ p. refl) (λ p. stmt_can d (frame.Then s (of_part p) ∷ fs))
  hole_can (hole.While s) e d fs z h c =
      expr_can (hole.While s) e d fs z c closing tt (λ p. here focus.Stmt d (frame.While s (of_part p) ∷ fs)) (λ p. refl) (λ p. stmt_can d (frame.While s (of_part p) ∷ fs))
  hole_can (hole.Do s x) e d fs z h c =
      expr_can (hole.Do s x) e d fs z c closing tt (λ p. here (focus.Semicolon (do_part n s x (of_part p))) d fs) (λ p. refl) (λ p. semicolon_can (do_part n s x (of_part p)) d fs)
  hole_can (hole.Init p y ds v) e d fs z h c =
      expr_can (hole.Init p y ds v) e d fs z c (mark m.Comma somewhere) tt (λ q. here (focus.Declaring p y (with_decl ds v (some_part (of_part q))) (decl_state.Stars [])) d fs) (λ q. refl)
      (λ q. declaring_can p y (with_decl ds v (some_part (of_part q))) (decl_state.Stars []) d fs h)
  hole_can (hole.Slot (slot.Start s)) e d fs z h c =
      expr_can (hole.Slot (slot.Start s)) e d fs z c semicolon tt (λ p. here (focus.Optional (slot.Test s (start_part (some_part (of_part p))))) d fs) (λ p. refl) (λ p. test_can s (start_part (some_part (of_part p))) d fs)
  hole_can (hole.Slot (slot.Test s i)) e d fs z h c =
      expr_can (hole.Slot (slot.Test s i)) e d fs z c semicolon tt (λ p. here (focus.Optional (slot.Step s i (some_part (of_part p)))) d fs) (λ p. refl) (λ p. step_can s i (some_part (of_part p)) d fs)
  hole_can (hole.Slot (slot.Step s i v)) e d fs z h c =
      expr_can (hole.Slot (slot.Step s i v)) e d fs z c closing tt (λ p. here focus.Stmt d (frame.For s (for_head i v (some_part (of_part p))) ∷ fs)) (λ p. refl)
      (λ p. stmt_can d (frame.For s (for_head i v (some_part (of_part p))) ∷ fs))
  hole_can (hole.Slot (slot.Return s)) e d fs z h c =
      expr_can (hole.Slot (slot.Return s)) e d fs z c semicolon tt (λ p. here (focus.Ended (return_part n s (some_part (of_part p)))) d fs) (λ p. refl) (λ p. ended_can (return_part n s (some_part (of_part p))) d fs)

  -- ---- the others

  va_last_can : (s : Span) (x : Name) (d : Body) (fs : List Frame) → Can (here (focus.VaStartLast s x) d fs)
  va_last_can s x d fs = let y = leaf_part (stmt.VaStart s x no_name) in first anyone (here (focus.VaStartLast s x) d fs) (here (focus.VaClose y) d fs) refl (va_close_can y d fs)

  va_comma_can : (s : Span) (x : Name) (d : Body) (fs : List Frame) → Can (here (focus.VaStartComma s x) d fs)
  va_comma_can s x d fs = first (mark m.Comma somewhere) (here (focus.VaStartComma s x) d fs) (here (focus.VaStartLast s x) d fs) refl (va_last_can s x d fs)

  va_start_can : (s : Span) (d : Body) (fs : List Frame) → Can (here (focus.VaStartName s) d fs)
  va_start_can s d fs = first anyone (here (focus.VaStartName s) d fs) (here (focus.VaStartComma s no_name) d fs) refl (va_comma_can s no_name d fs)

  va_end_can : (s : Span) (d : Body) (fs : List Frame) → Can (here (focus.VaEndName s) d fs)
  va_end_can s d fs = let y = leaf_part (stmt.VaEnd s no_name) in first anyone (here (focus.VaEndName s) d fs) (here (focus.VaClose y) d fs) refl (va_close_can y d fs)

  va_list_end_can : (s : Span) (x : Name) (d : Body) (fs : List Frame) → IsLevel n low fs → Can (here (focus.VaListEnd s x) d fs)
  va_list_end_can s x d fs h = first semicolon (here (focus.VaListEnd s x) d fs) (here focus.Item (with_va_list s x d) fs) refl (item_can (with_va_list s x d) fs h)

  va_list_can : (s : Span) (d : Body) (fs : List Frame) → IsLevel n low fs → Can (here (focus.VaList s) d fs)
  va_list_can s d fs h = first anyone (here (focus.VaList s) d fs) (here (focus.VaListEnd s no_name) d fs) refl (va_list_end_can s no_name d fs h)

  paren_can : (h : Header) (d : Body) (fs : List Frame) → Can (here (focus.Paren h) d fs)
  paren_can (header.If s) d fs = first opening (here (focus.Paren (header.If s)) d fs) (state (focus.Expr (hole.If s)) (start false) d fs) refl (hole_can (hole.If s) (start false) d fs [] tt begun)
  paren_can (header.While s) d fs = first opening (here (focus.Paren (header.While s)) d fs) (state (focus.Expr (hole.While s)) (start false) d fs) refl (hole_can (hole.While s) (start false) d fs [] tt begun)
  paren_can (header.Do s x) d fs = first opening (here (focus.Paren (header.Do s x)) d fs) (state (focus.Expr (hole.Do s x)) (start false) d fs) refl (hole_can (hole.Do s x) (start false) d fs [] tt begun)
  paren_can (header.For s) d fs = first opening (here (focus.Paren (header.For s)) d fs) (here (focus.Optional (slot.Start s)) d fs) refl (slot_can (slot.Start s) d fs)
  paren_can (header.VaStart s) d fs = first opening (here (focus.Paren (header.VaStart s)) d fs) (here (focus.VaStartName s) d fs) refl (va_start_can s d fs)
  paren_can (header.VaEnd s) d fs = first opening (here (focus.Paren (header.VaEnd s)) d fs) (here (focus.VaEndName s) d fs) refl (va_end_can s d fs)

  state_can : {all : List Terminal} {st : BodyState} {a : List Terminal} → a ≡ [] → Sound n low all st a → Can st
  state_can q (s_item {d = d} {fs = fs} r) = item_can d fs (room_level r)
  state_can q (s_stmt {d = d} {fs = fs} r) = stmt_can d fs
  state_can q (s_ended {x = x} {d = d} {fs = fs} r i) = ended_can x d fs
  state_can q (s_paren {h = h} {d = d} {fs = fs} r) = paren_can h d fs
  state_can q (s_semicolon {x = x} {d = d} {fs = fs} r i) = semicolon_can x d fs
  state_can q (s_expr {h = h} {e = e} {d = d} {fs = fs} {b = b} r c) = hole_can h e d fs b (hole_level r) (subst (λ l. Came (expr_step n) (start (hole_effect h)) b e l) q c)
  state_can q (s_optional {l = l} {d = d} {fs = fs} r) = slot_can l d fs
  state_can q (s_bare {p = p} {d = d} {fs = fs} x s r) = bare_can p (name_of x s) d fs (place_level r)
  state_can q (s_typing {p = p} {y = y} {d = d} {fs = fs} r i) = typing_can p y d fs (place_level r)
  state_can q (s_declaring {p = p} {y = y} {ds = ds} {z = z} {d = d} {fs = fs} r i j k) = declaring_can p y ds z d fs (place_level r)
  state_can q (s_va_list {d = d} {fs = fs} s r) = va_list_can s d fs (room_level r)
  state_can q (s_va_list_end {d = d} {fs = fs} x s t r) = va_list_end_can s (name_of x t) d fs (room_level r)
  state_can q (s_va_start_name {d = d} {fs = fs} s t r) = va_start_can s d fs
  state_can q (s_va_start_comma {d = d} {fs = fs} x s t u r) = va_comma_can s (name_of x u) d fs
  state_can q (s_va_start_last {d = d} {fs = fs} x s t u v r) = va_last_can s (name_of x u) d fs
  state_can q (s_va_end_name {d = d} {fs = fs} s t r) = va_end_can s d fs
  state_can q (s_va_close {x = x} {d = d} {fs = fs} r i) = va_close_can x d fs

-- what was taken can be brought to the end of a body
pub body_completes : (n : ℕ) → 1 ≤ n → (z : List Terminal) (st : BodyState) → Came (body_step n) body_start z st [] → (s : Span) → CanEnd BodyState Body (body_step n) st (mark m.CloseBrace s)
body_completes n low z st c s = state_can n low s refl (came_sound n low z c)
