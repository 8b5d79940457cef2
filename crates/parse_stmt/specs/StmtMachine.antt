-- What a token does to a function's body that is being read. The first argument is the cap on heights.
-- That this reads the statements of the grammar, and those alone, is proved of it (crate `stmt_laws`).
use Rattle.std.specs.Prelude.{◌≡◌, ℕ, Bool, true, false, cond, List, [], ◌∷◌}
use Rattle.c_types.specs.declared.types.Span.{Span}
use Rattle.c_tree.specs.declared.expressions.Name.{Name}
use Rattle.c_tree.specs.declared.expressions.Base.{Base}
use Rattle.c_tree.specs.declared.expressions.Base.TheVariants as base
use Rattle.c_tree.specs.declared.expressions.TypeName.{TypeName}
use Rattle.c_tree.specs.declared.expressions.Expr.TheVariants as expr
use Rattle.c_tree.specs.declared.declarations.Decl.{Decl}
use Rattle.c_tree.specs.declared.statements.Stmt.TheVariants as stmt
use Rattle.c_lex.specs.declared.words.Word.{Word}
use Rattle.c_lex.specs.declared.words.Word.TheVariants as w
use Rattle.c_lex.specs.declared.marks.Mark.{Mark}
use Rattle.c_lex.specs.declared.marks.Mark.TheVariants as m
use Rattle.parse_terms.specs.declared.answer.Answer.{Answer}
use Rattle.parse_terms.specs.declared.answer.Answer.TheVariants.{More, Done, Bad}
use Rattle.parse_terms.specs.declared.answer.Verdict.{Verdict}
use Rattle.parse_terms.specs.declared.answer.Verdict.TheVariants as verdict
use Rattle.parse_terms.specs.declared.terminal.Sort.{Sort}
use Rattle.parse_terms.specs.declared.terminal.Sort.TheVariants as sort
use Rattle.parse_terms.specs.declared.terminal.Terminal.{Terminal}
use Rattle.parse_terms.specs.declared.types.TypeState.{TypeState}
use Rattle.parse_terms.specs.declared.types.TypeState.TheVariants as type_state
use Rattle.parse_terms.specs.declared.declarators.DeclState.{DeclState}
use Rattle.parse_terms.specs.declared.declarators.DeclState.TheVariants as decl_state
use Rattle.parse_terms.specs.Terminals.{name_of}
use Rattle.parse_terms.specs.TypeNames.{type_step}
use Rattle.parse_terms.specs.Declarators.{decl_step}
use Rattle.parse_expr.specs.declared.parts.Part.{Part}
use Rattle.parse_expr.specs.declared.state.Focus.TheVariants.{Operated}
use Rattle.parse_expr.specs.declared.state.ExprState.{ExprState}
use Rattle.parse_expr.specs.Parts.{leaf}
use Rattle.parse_expr.specs.ExprMachine.{start, expr_step}
use Rattle.parse_expr.specs.ExprMachine as expr_machine
use Rattle.parse_stmt.specs.declared.state.LocalPlace.{LocalPlace}
use Rattle.parse_stmt.specs.declared.state.LocalPlace.TheVariants as place
use Rattle.parse_stmt.specs.declared.state.Header.{Header}
use Rattle.parse_stmt.specs.declared.state.Header.TheVariants as header
use Rattle.parse_stmt.specs.declared.state.Slot.{Slot}
use Rattle.parse_stmt.specs.declared.state.Slot.TheVariants as slot
use Rattle.parse_stmt.specs.declared.state.Hole.{Hole}
use Rattle.parse_stmt.specs.declared.state.Hole.TheVariants as hole
use Rattle.parse_stmt.specs.declared.state.Frame.{Frame}
use Rattle.parse_stmt.specs.declared.state.Frame.TheVariants as frame
use Rattle.parse_stmt.specs.declared.state.Focus.{Focus}
use Rattle.parse_stmt.specs.declared.state.Focus.TheVariants as focus
use Rattle.parse_stmt.specs.declared.state.BodyState.{BodyState}
use Rattle.parse_stmt.specs.StmtParts.{ExprPart, OptionPart, DeclsPart, StmtPart, Body, leaf_part, of_part, no_items, no_decls, no_part, some_part, with_decl, with_stmt, with_locals, with_va_list, start_locals, start_part, for_head, block_part, effect_part, return_part, if_part, if_else_part, while_part, do_part, for_part}

abbrev pub state : Focus → ExprState → Body → List Frame → BodyState
state f e d fs = record { focus = f; expr = e; done = d; frames = fs }

-- an expression that hasn't begun
abbrev pub idle : ExprState
idle = start false

-- where a function's body begins, after its `{`
abbrev pub body_start : BodyState
body_start = state focus.Item idle no_items []

abbrev pub Said : Type 0
Said = Answer BodyState Body

abbrev pub to : Focus → BodyState → Said
to f st = More (record st { focus = f })

-- a statement begins under one more frame
abbrev pub under : Frame → BodyState → Said
under r st = More (record st { focus = focus.Stmt; frames = r ∷ st.frames })

-- ---- expressions

-- whether an expression that may be left out has to be an effect
abbrev pub slot_effect : Slot → Bool
slot_effect (slot.Start s) = true
slot_effect (slot.Test s i) = false
slot_effect (slot.Step s i c) = true
slot_effect (slot.Return s) = false

abbrev pub hole_effect : Hole → Bool
hole_effect hole.Effect = true
hole_effect (hole.Slot l) = slot_effect l
hole_effect _ = false

-- an expression is to begin
abbrev pub begin : Hole → BodyState → Said
begin h st = More (record st { focus = focus.Expr h; expr = start (hole_effect h) })

-- the locals of one type are over
abbrev pub end_locals : ℕ → LocalPlace → Base → DeclsPart → BodyState → Said
end_locals n place.Block b ds st = More (record st { focus = focus.Item; done = with_locals n b ds st.done })
end_locals n (place.For s) b ds st = to (focus.Optional (slot.Test s (start_locals n b ds))) st

-- a declarator is over, and another is to come
abbrev pub next_decl : LocalPlace → Base → DeclsPart → BodyState → Said
next_decl p b ds st = to (focus.Declaring p b ds (decl_state.Stars [])) st

abbrev pub slot_close : Slot → OptionPart → BodyState → Said
slot_close (slot.Step s i c) e st = under (frame.For s (for_head i c e)) st
slot_close _ e st = Bad

abbrev pub slot_semicolon : ℕ → Slot → OptionPart → BodyState → Said
slot_semicolon n (slot.Start s) e st = to (focus.Optional (slot.Test s (start_part e))) st
slot_semicolon n (slot.Test s i) e st = to (focus.Optional (slot.Step s i e)) st
slot_semicolon n (slot.Step s i c) e st = Bad
slot_semicolon n (slot.Return s) e st = to (focus.Ended (return_part n s e)) st

abbrev pub hole_close : ℕ → Hole → ExprPart → BodyState → Said
hole_close n (hole.If s) e st = under (frame.Then s e) st
hole_close n (hole.While s) e st = under (frame.While s e) st
hole_close n (hole.Do s x) e st = to (focus.Semicolon (do_part n s x e)) st
hole_close n (hole.Slot l) e st = slot_close l (some_part e) st
hole_close n _ e st = Bad

abbrev pub hole_semicolon : ℕ → Hole → ExprPart → BodyState → Said
hole_semicolon n hole.Effect e st = to (focus.Ended (effect_part n e)) st
hole_semicolon n (hole.Init p b ds d) e st = end_locals n p b (with_decl ds d (some_part e)) st
hole_semicolon n (hole.Slot l) e st = slot_semicolon n l (some_part e) st
hole_semicolon n _ e st = Bad

abbrev pub hole_comma : Hole → ExprPart → BodyState → Said
hole_comma (hole.Init p b ds d) e st = next_decl p b (with_decl ds d (some_part e)) st
hole_comma _ e st = Bad

-- the expression e of a hole is over at a token
abbrev pub hole_step : ℕ → Sort → Hole → ExprPart → BodyState → Said
hole_step n (sort.Mark m.CloseParen) h e st = hole_close n h e st
hole_step n (sort.Mark m.Semicolon) h e st = hole_semicolon n h e st
hole_step n (sort.Mark m.Comma) h e st = hole_comma h e st
hole_step n _ h e st = Bad

abbrev pub expr_said : ℕ → Sort → Hole → Answer ExprState Part → BodyState → Said
expr_said n k h (More e) st = More (record st { focus = focus.Expr h; expr = e })
expr_said n k h (Done p) st = hole_step n k h (of_part p) (record st { expr = idle })
expr_said n k h Bad st = Bad

-- the expression at hand takes a token
abbrev pub expr_at : ℕ → Terminal → Hole → BodyState → Said
expr_at n t h st = expr_said n t.sort h (expr_step n t st.expr) st

-- A token begins an expression. What the machine of expressions says to it is long at a token that isn't
-- known, so this word doesn't compute by itself.
unfoldable pub feed : ℕ → Terminal → Hole → BodyState → Said
feed n t h st = expr_at n t h (record st { expr = start (hole_effect h) })

-- ---- locals

abbrev pub declared_mark : ℕ → Mark → LocalPlace → Base → DeclsPart → Decl → BodyState → Said
declared_mark n m.Equal p b ds d st = begin (hole.Init p b ds d) st
declared_mark n m.Comma p b ds d st = next_decl p b (with_decl ds d no_part) st
declared_mark n m.Semicolon p b ds d st = end_locals n p b (with_decl ds d no_part) st
declared_mark n _ p b ds d st = Bad

abbrev pub declared_step : ℕ → Sort → LocalPlace → Base → DeclsPart → Decl → BodyState → Said
declared_step n (sort.Mark k) p b ds d st = declared_mark n k p b ds d st
declared_step n _ p b ds d st = Bad

abbrev pub decl_said : ℕ → Sort → LocalPlace → Base → DeclsPart → Answer DeclState Decl → BodyState → Said
decl_said n k p b ds (More y) st = to (focus.Declaring p b ds y) st
decl_said n k p b ds (Done d) st = declared_step n k p b ds d st
decl_said n k p b ds Bad st = Bad

-- behind a type the stars are those of the first declarator
abbrev pub type_said : ℕ → Terminal → LocalPlace → Answer TypeState TypeName → BodyState → Said
type_said n t p (More y) st = to (focus.Typing p y) st
type_said n t p (Done y) st = decl_said n t.sort p y.base no_decls (decl_step t (decl_state.Stars y.stars)) st
type_said n t p Bad st = Bad

abbrev pub effect_hole : LocalPlace → Hole
effect_hole place.Block = hole.Effect
effect_hole (place.For s) = hole.Slot (slot.Start s)

-- an effect that is a name so far
abbrev pub named_expr : Name → ExprState
named_expr x = expr_machine.state true (Operated (leaf (expr.Name x))) []

abbrev pub bare_local : ℕ → Terminal → LocalPlace → Name → BodyState → Said
bare_local n t p x st = type_said n t p (type_step t (type_state.Stars (base.Named x) [])) st

-- a token behind a name that begins an effect, as a word that doesn't compute by itself
unfoldable pub named_effect : ℕ → Terminal → LocalPlace → Name → BodyState → Said
named_effect n t p x st = expr_at n t (effect_hole p) (record st { expr = named_expr x })

-- a name or `*` behind a name: the first name was a type's
abbrev pub bare_step : ℕ → Terminal → Sort → LocalPlace → Name → BodyState → Said
bare_step n t (sort.Name y) p x st = bare_local n t p x st
bare_step n t (sort.Mark m.Star) p x st = bare_local n t p x st
bare_step n t k p x st = named_effect n t p x st

-- the words that a type begins with
abbrev pub is_type_word : Word → Bool
is_type_word w.Void = true
is_type_word w.Struct = true
is_type_word w.Signed = true
is_type_word w.Unsigned = true
is_type_word w.Char = true
is_type_word w.Short = true
is_type_word w.Int = true
is_type_word w.Long = true
is_type_word _ = false

-- a type's first word, as a word that doesn't compute by itself
unfoldable pub begin_type : ℕ → Terminal → LocalPlace → BodyState → Said
begin_type n t p st = type_said n t p (type_step t type_state.Opening) st

-- ---- where a statement begins

abbrev pub stmt_word : ℕ → Terminal → Word → BodyState → Said
stmt_word n t w.If st = to (focus.Paren (header.If t.span)) st
stmt_word n t w.While st = to (focus.Paren (header.While t.span)) st
stmt_word n t w.Do st = under (frame.Do t.span) st
stmt_word n t w.For st = to (focus.Paren (header.For t.span)) st
stmt_word n t w.Break st = to (focus.Semicolon (leaf_part (stmt.Break t.span))) st
stmt_word n t w.Continue st = to (focus.Semicolon (leaf_part (stmt.Continue t.span))) st
stmt_word n t w.Return st = to (focus.Optional (slot.Return t.span)) st
stmt_word n t w.VaStart st = to (focus.Paren (header.VaStart t.span)) st
stmt_word n t w.VaEnd st = to (focus.Paren (header.VaEnd t.span)) st
stmt_word n t v st = feed n t hole.Effect st

abbrev pub stmt_mark : ℕ → Terminal → Mark → BodyState → Said
stmt_mark n t m.Semicolon st = to (focus.Ended (leaf_part (stmt.Empty t.span))) st
stmt_mark n t m.OpenBrace st = More (record st { focus = focus.Item; done = no_items; frames = frame.Nested t.span st.done ∷ st.frames })
stmt_mark n t k st = feed n t hole.Effect st

abbrev pub stmt_step : ℕ → Terminal → Sort → BodyState → Said
stmt_step n t (sort.Word v) st = stmt_word n t v st
stmt_step n t (sort.Mark k) st = stmt_mark n t k st
stmt_step n t k st = feed n t hole.Effect st

-- a `}`: the end of a block, or of the body
abbrev pub end_block : ℕ → List Frame → BodyState → Said
end_block n [] st = Done st.done
end_block n (frame.Nested s d ∷ fs) st = More (record st { focus = focus.Ended (block_part n s st.done); done = d; frames = fs })
end_block n _ st = Bad

abbrev pub item_word : ℕ → Terminal → Word → BodyState → Said
item_word n t w.VaList st = to (focus.VaList t.span) st
item_word n t v st = cond (is_type_word v) (begin_type n t place.Block st) (stmt_word n t v st)

abbrev pub item_mark : ℕ → Terminal → Mark → BodyState → Said
item_mark n t m.CloseBrace st = end_block n st.frames st
item_mark n t k st = stmt_mark n t k st

-- a local or a statement begins, or the block ends
abbrev pub item_step : ℕ → Terminal → Sort → BodyState → Said
item_step n t (sort.Name x) st = to (focus.Bare place.Block (name_of x t.span)) st
item_step n t (sort.Word v) st = item_word n t v st
item_step n t (sort.Mark k) st = item_mark n t k st
item_step n t k st = stmt_step n t k st

-- ---- behind a statement

abbrev pub is_else : Sort → Bool
is_else (sort.Word w.Else) = true
is_else _ = false

-- whether a frame ends where its last statement ends
abbrev pub frame_ends : Bool → Frame → Bool
frame_ends e (frame.Then s c) = cond e false true
frame_ends e (frame.Else s c y) = true
frame_ends e (frame.While s c) = true
frame_ends e (frame.For s h) = true
frame_ends e _ = false

-- the statement that a frame is with its last statement, where it is one
abbrev pub frame_ended : ℕ → Frame → StmtPart → StmtPart
frame_ended n (frame.Then s c) x = if_part n s c x
frame_ended n (frame.Else s c y) x = if_else_part n s c y x
frame_ended n (frame.While s c) x = while_part n s c x
frame_ended n (frame.For s h) x = for_part n s h x
frame_ended n _ x = x

-- What ends where the statement x ends, up to the block or the `do` around it. Where an `else`
-- follows, an `if` that has none doesn't end.
abbrev pub settle : ℕ → Bool → StmtPart → List Frame → StmtPart × List Frame
settle n e x (frame.Then s c ∷ fs) = let r = settle n e (if_part n s c x) fs in cond e (x, frame.Then s c ∷ fs) r
settle n e x (frame.Else s c y ∷ fs) = settle n e (if_else_part n s c y x) fs
settle n e x (frame.While s c ∷ fs) = settle n e (while_part n s c x) fs
settle n e x (frame.For s h ∷ fs) = settle n e (for_part n s h x) fs
settle n e x (frame.Do s ∷ fs) = (x, frame.Do s ∷ fs)
settle n e x (frame.Nested s d ∷ fs) = (x, frame.Nested s d ∷ fs)
settle n e x [] = (x, [])

-- an `else`, which the nearest `if` takes that has none; the frames are those of the state
abbrev pub attach : StmtPart → List Frame → BodyState → Said
attach x (frame.Then s c ∷ fs) st = More (record st { focus = focus.Stmt; frames = frame.Else s c x ∷ fs })
attach x _ st = Bad

abbrev pub do_step : Sort → Span → StmtPart → List Frame → BodyState → Said
do_step (sort.Word w.While) s x fs st = More (record st { focus = focus.Paren (header.Do s x); frames = fs })
do_step _ s x fs st = Bad

-- the statement is a block's, or a `while` is to come
abbrev pub after_stmt : ℕ → Terminal → StmtPart → List Frame → BodyState → Said
after_stmt n t x (frame.Do s ∷ fs) st = do_step t.sort s x fs st
after_stmt n t x fs st = item_step n t t.sort (record st { done = with_stmt st.done x; frames = fs })

abbrev pub ended_step : ℕ → Terminal → StmtPart → BodyState → Said
ended_step n t x st =
    let e = settle n true x st.frames in
    let r = settle n false x st.frames in
    cond (is_else t.sort) (attach e.0 e.1 (record st { frames = e.1 })) (after_stmt n t r.0 r.1 (record st { frames = r.1 }))

-- ---- inside a statement

abbrev pub opened : Header → BodyState → Said
opened (header.If s) st = begin (hole.If s) st
opened (header.While s) st = begin (hole.While s) st
opened (header.Do s x) st = begin (hole.Do s x) st
opened (header.For s) st = to (focus.Optional (slot.Start s)) st
opened (header.VaStart s) st = to (focus.VaStartName s) st
opened (header.VaEnd s) st = to (focus.VaEndName s) st

abbrev pub paren_step : Sort → Header → BodyState → Said
paren_step (sort.Mark m.OpenParen) h st = opened h st
paren_step _ h st = Bad

-- one mark, and then a focus
abbrev pub semicolon_step : Sort → Focus → BodyState → Said
semicolon_step (sort.Mark m.Semicolon) f st = to f st
semicolon_step _ f st = Bad

abbrev pub close_step : Sort → Focus → BodyState → Said
close_step (sort.Mark m.CloseParen) f st = to f st
close_step _ f st = Bad

abbrev pub comma_step : Sort → Focus → BodyState → Said
comma_step (sort.Mark m.Comma) f st = to f st
comma_step _ f st = Bad

abbrev pub va_list_name : Sort → Span → Span → BodyState → Said
va_list_name (sort.Name x) s u st = to (focus.VaListEnd u (name_of x s)) st
va_list_name _ s u st = Bad

abbrev pub va_list_end : Sort → Span → Name → BodyState → Said
va_list_end (sort.Mark m.Semicolon) u x st = More (record st { focus = focus.Item; done = with_va_list u x st.done })
va_list_end _ u x st = Bad

abbrev pub va_start_name : Sort → Span → Span → BodyState → Said
va_start_name (sort.Name x) s u st = to (focus.VaStartComma u (name_of x s)) st
va_start_name _ s u st = Bad

abbrev pub va_start_last : Sort → Span → Span → Name → BodyState → Said
va_start_last (sort.Name y) s u x st = to (focus.VaClose (leaf_part (stmt.VaStart u x (name_of y s)))) st
va_start_last _ s u x st = Bad

abbrev pub va_end_name : Sort → Span → Span → BodyState → Said
va_end_name (sort.Name x) s u st = to (focus.VaClose (leaf_part (stmt.VaEnd u (name_of x s)))) st
va_end_name _ s u st = Bad

-- where an expression may begin: behind `for (` locals may, too
abbrev pub optional_name : ℕ → Terminal → List ℕ → Slot → BodyState → Said
optional_name n t x (slot.Start s) st = to (focus.Bare (place.For s) (name_of x t.span)) st
optional_name n t x l st = feed n t (hole.Slot l) st

abbrev pub optional_word : ℕ → Terminal → Word → Slot → BodyState → Said
optional_word n t v (slot.Start s) st = cond (is_type_word v) (begin_type n t (place.For s) st) (feed n t (hole.Slot (slot.Start s)) st)
optional_word n t v l st = feed n t (hole.Slot l) st

abbrev pub optional_mark : ℕ → Terminal → Mark → Slot → BodyState → Said
optional_mark n t m.Semicolon l st = slot_semicolon n l no_part st
optional_mark n t m.CloseParen l st = slot_close l no_part st
optional_mark n t k l st = feed n t (hole.Slot l) st

abbrev pub optional_step : ℕ → Terminal → Sort → Slot → BodyState → Said
optional_step n t (sort.Name x) l st = optional_name n t x l st
optional_step n t (sort.Word v) l st = optional_word n t v l st
optional_step n t (sort.Mark k) l st = optional_mark n t k l st
optional_step n t k l st = feed n t (hole.Slot l) st

abbrev pub step_at : ℕ → Terminal → Focus → BodyState → Said
step_at n t focus.Item st = item_step n t t.sort st
step_at n t focus.Stmt st = stmt_step n t t.sort st
step_at n t (focus.Ended x) st = ended_step n t x st
step_at n t (focus.Paren h) st = paren_step t.sort h st
step_at n t (focus.Semicolon x) st = semicolon_step t.sort (focus.Ended x) st
step_at n t (focus.Expr h) st = expr_at n t h st
step_at n t (focus.Optional l) st = optional_step n t t.sort l st
step_at n t (focus.Bare p x) st = bare_step n t t.sort p x st
step_at n t (focus.Typing p y) st = type_said n t p (type_step t y) st
step_at n t (focus.Declaring p b ds y) st = decl_said n t.sort p b ds (decl_step t y) st
step_at n t (focus.VaList s) st = va_list_name t.sort t.span s st
step_at n t (focus.VaListEnd s x) st = va_list_end t.sort s x st
step_at n t (focus.VaStartName s) st = va_start_name t.sort t.span s st
step_at n t (focus.VaStartComma s x) st = comma_step t.sort (focus.VaStartLast s x) st
step_at n t (focus.VaStartLast s x) st = va_start_last t.sort t.span s x st
step_at n t (focus.VaEndName s) st = va_end_name t.sort t.span s st
step_at n t (focus.VaClose x) st = close_step t.sort (focus.Semicolon x) st

-- what a body's machine says to a token; each answer has a focus of its own
abbrev pub body_step : ℕ → Terminal → BodyState → Said
body_step n t st = step_at n t st.focus (record st { focus = focus.Item })

-- the verdict says what was answered, and the state is the one that comes of it
abbrev pub Says : Verdict Body → Said → BodyState → Type 0
Says verdict.More o st = o ≡ More st
Says (verdict.Done d) o st = o ≡ Done d
Says verdict.Bad o st = o ≡ Bad
