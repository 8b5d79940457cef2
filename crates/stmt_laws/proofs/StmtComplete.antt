-- What is in the grammar is read: the machine comes to the place behind it.
use Rattle.std.proofs.Common.{◌≡◌, ℕ, ◌≤◌, Bool, true, false, cond, List, [], ◌∷◌, ◌++◌, Option, Some, None, refl, sym, ap, ◌∙◌}
use Rattle.c_types.specs.declared.types.Span.{Span}
use Rattle.c_types.specs.declared.types.IntTy.{IntTy}
use Rattle.c_tree.specs.declared.expressions.Name.{Name}
use Rattle.c_tree.specs.declared.expressions.Base.{Base}
use Rattle.c_tree.specs.declared.expressions.Base.TheVariants as base
use Rattle.c_tree.specs.declared.expressions.TypeName.{TypeName}
use Rattle.c_tree.specs.declared.expressions.Expr.{Expr}
use Rattle.c_tree.specs.declared.declarations.Decl.{Decl}
use Rattle.c_tree.specs.declared.statements.LocalDecl.{LocalDecl}
use Rattle.c_tree.specs.declared.statements.Local.{Local}
use Rattle.c_tree.specs.declared.statements.ForStart.{ForStart}
use Rattle.c_tree.specs.declared.statements.BlockItem.{BlockItem}
use Rattle.c_tree.specs.declared.statements.BlockItem.TheVariants as block_item
use Rattle.c_tree.specs.declared.statements.Stmt.{Stmt}
use Rattle.c_tree.specs.declared.statements.Stmt.TheVariants as stmt
use Rattle.c_tree.proofs.HeightLaws.{stmt_height-Empty, stmt_height-Break, stmt_height-Continue, stmt_height-VaStart, stmt_height-VaEnd}
use Rattle.c_lex.specs.declared.words.Word.{Word}
use Rattle.c_lex.specs.declared.words.Word.TheVariants as w
use Rattle.c_lex.specs.declared.marks.Mark.{Mark}
use Rattle.c_lex.specs.declared.marks.Mark.TheVariants as m
use Rattle.parse_terms.specs.declared.answer.Answer.{Answer}
use Rattle.parse_terms.specs.declared.answer.Answer.TheVariants.{More, Done, Bad}
use Rattle.parse_terms.specs.declared.terminal.Sort.{Sort}
use Rattle.parse_terms.specs.declared.terminal.Sort.TheVariants as sort
use Rattle.parse_terms.specs.declared.terminal.Terminal.{Terminal}
use Rattle.parse_terms.specs.declared.types.TypeState.{TypeState}
use Rattle.parse_terms.specs.declared.types.TypeState.TheVariants as type_state
use Rattle.parse_terms.specs.declared.declarators.DeclState.{DeclState}
use Rattle.parse_terms.specs.declared.declarators.DeclState.TheVariants as decl_state
use Rattle.parse_terms.specs.Terminals.{term, word, mark, named, name_of}
use Rattle.parse_terms.specs.Integers.{char, short, short_int, int, long_long, long_long_int, IsInt, plain, with_signed, with_unsigned, signed, unsigned}
use Rattle.parse_terms.specs.TypeNames.{IsBase, void, integer, tagged, typedef, IsStars, no_stars, star, type_name, type_named, type_step}
use Rattle.parse_terms.specs.Declarators.{IsDecl, declared, decl_step}
use Rattle.parse_terms.specs.Runs.{Outcome, Finished, Failed, after, run}
use Rattle.parse_terms.proofs.RunLaws.{hosted, lifted}
use Rattle.parse_terms.proofs.TypeLaws.{type_complete}
use Rattle.parse_decl.specs.TypedDecls.{EndsDecl}
use Rattle.parse_decl.proofs.DeclLaws.{decl_complete}
use Rattle.parse_expr.specs.declared.parts.Part.{Part}
use Rattle.parse_expr.specs.declared.state.ExprState.{ExprState}
use Rattle.parse_expr.specs.ExprGrammar.{is_effect, IsAssign}
use Rattle.parse_expr.specs.Parts.{cap}
use Rattle.parse_expr.specs.ExprMachine.{start, expr_step, Ends}
use Rattle.parse_expr.proofs.ExprComplete.{expr_complete, effect_complete}
use Rattle.parse_stmt.specs.declared.state.LocalPlace.{LocalPlace}
use Rattle.parse_stmt.specs.declared.state.LocalPlace.TheVariants as place
use Rattle.parse_stmt.specs.declared.state.Slot.{Slot}
use Rattle.parse_stmt.specs.declared.state.Slot.TheVariants as slot
use Rattle.parse_stmt.specs.declared.state.Hole.{Hole}
use Rattle.parse_stmt.specs.declared.state.Hole.TheVariants as hole
use Rattle.parse_stmt.specs.declared.state.Frame.{Frame}
use Rattle.parse_stmt.specs.declared.state.Frame.TheVariants as frame
use Rattle.parse_stmt.specs.declared.state.Focus.{Focus}
use Rattle.parse_stmt.specs.declared.state.Focus.TheVariants as focus
use Rattle.parse_stmt.specs.declared.state.BodyState.{BodyState}
use Rattle.parse_stmt.specs.declared.parts.Capped.{Capped}
use Rattle.parse_stmt.specs.declared.parts.ForHead.{ForHead}
use Rattle.parse_stmt.specs.StmtGrammar.{IsLocalDecl, uninitialized, initialized, IsLocalDecls, no_decls as no_decls_read, another_decl, local_decls, IsVariables, variables, IsLocal, declared_local, va_list_local, IsForStart, start_local, start_effect, start_nothing, IsOptional, no_value, a_value, IsForStep, no_step, a_step, IsStmt, block_stmt, empty_stmt, effect_stmt, break_stmt, continue_stmt, if_alone, if_else, while_stmt, do_stmt, for_stmt, return_stmt, va_start_stmt, va_end_stmt, IsBlockItems, no_items as no_items_read, local_item, stmt_item}
use Rattle.parse_stmt.specs.StmtParts.{ExprPart, OptionPart, DeclsPart, StmtPart, Body, cap_body, of_part, no_decls, no_part, some_part, with_decl, with_stmt, with_locals, start_locals, start_part, head_of, for_head, return_part, if_part, if_else_part, while_part, for_part}
use Rattle.parse_stmt.specs.StmtMachine.{state, idle, body_start, Said, slot_effect, hole_effect, end_locals, next_decl, hole_step, expr_said, expr_at, feed, declared_step, decl_said, type_said, effect_hole, named_expr, named_effect, bare_step, is_type_word, begin_type, stmt_step, item_word, item_step, is_else, settle, attach, after_stmt, optional_step, body_step}
use Rattle.stmt_laws.proofs.PartLaws.{cap_expr, cap_option, cap_decls, cap_start, cap_head, cap_stmt, of_part-cap, stmt_leaf-cap, no_items-cap, no_decls-cap, no_part-cap, some_part-cap, with_decl-cap, with_stmt-cap, with_locals-cap, with_va_list-cap, start_locals-cap, start_part-cap, for_head-cap, block_part-cap, effect_part-cap, return_part-cap, if_part-cap, if_else_part-cap, while_part-cap, do_part-cap, for_part-cap}

false_true : false ≡ true → ⊥
false_true e = cc

-- a run that finished took its first token
pub not_bad : {S D : Type 0} (step : Terminal → S → Answer S D) (s : S) (t : Terminal) (a : List Terminal) (d : D) (c : List Terminal) → run step (t ∷ a) s ≡ Finished d c → step t s ≡ Bad → ⊥
not_bad step s t a d c q b = let bad : after (step t s) (run step a) (t ∷ a) ≡ Failed = ap (λ v. after v (run step a) (t ∷ a)) b in cc

pub not_empty : {S D : Type 0} (step : Terminal → S → Answer S D) (s : S) (d : D) (c : List Terminal) → run step [] s ≡ Finished d c → ⊥
not_empty step s d c q = cc

-- ---- the first token of a type, of a declarator, and behind a statement

record TypeWord (a : List Terminal) : Type 0 where
  first : Word
  at : Span
  others : List Terminal
  is : a ≡ word first at ∷ others
  good : is_type_word first ≡ true

type_word : (v : Word) (s : Span) (a : List Terminal) → is_type_word v ≡ true → TypeWord (word v s ∷ a)
type_word v s a h = record { first = v; at = s; others = a; is = refl; good = h }

int_first : {i : IntTy} {s : Span} {a b : List Terminal} → IsInt i s a b → TypeWord a
int_first {s = s} {b = b} (plain char) = type_word w.Char s b refl
int_first {s = s} {b = b} (plain short) = type_word w.Short s b refl
int_first {s = s} {b = b} (plain (short_int {t = t})) = type_word w.Short s (word w.Int t ∷ b) refl
int_first {s = s} {b = b} (plain int) = type_word w.Int s b refl
int_first {s = s} {b = b} (plain (long_long {t = t})) = type_word w.Long s (word w.Long t ∷ b) refl
int_first {s = s} {b = b} (plain (long_long_int {t = t} {u = u})) = type_word w.Long s (word w.Long t ∷ word w.Int u ∷ b) refl
int_first {s = s} (with_signed {a = a} d) = type_word w.Signed s a refl
int_first {s = s} (with_unsigned {a = a} d) = type_word w.Unsigned s a refl
int_first {s = s} {b = b} signed = type_word w.Signed s b refl
int_first {s = s} {b = b} unsigned = type_word w.Unsigned s b refl

-- a token behind the name of a type
abbrev OpensDecl : Sort → Type 0
OpensDecl (sort.Name x) = Unit {0}
OpensDecl (sort.Mark m.Star) = Unit {0}
OpensDecl _ = ⊥

record DeclFirst (a : List Terminal) : Type 0 where
  first : Terminal
  others : List Terminal
  is : a ≡ first ∷ others
  good : OpensDecl first.sort

stars_first : {ss : List Span} {a c : List Terminal} (t : Terminal) (b : List Terminal) → c ≡ t ∷ b → IsStars ss a c → OpensDecl t.sort → DeclFirst a
stars_first t b e no_stars h = record { first = t; others = b; is = e; good = h }
stars_first t b e (star {s = s} {b = c} d) h = stars_first (mark m.Star s) c refl d tt

decl_first : {y : Decl} {a b : List Terminal} → IsDecl y a b → DeclFirst a
decl_first (declared {x = x} {s = s} {b = b} d e) = stars_first (named x s) b refl d tt

record FirstDecl (a : List Terminal) : Type 0 where
  tree : Decl
  rest : List Terminal
  reads : IsDecl tree a rest

local_decl_first : {x : LocalDecl} {a b : List Terminal} → IsLocalDecl x a b → FirstDecl a
local_decl_first (uninitialized {d = y} {b = b} d) = record { tree = y; rest = b; reads = d }
local_decl_first (initialized {d = y} {s = s} {b = b} d e) = record { tree = y; rest = mark m.Equal s ∷ b; reads = d }

decls_first : {ds : List LocalDecl} {x : LocalDecl} {a b c : List Terminal} → IsLocalDecls ds a b → IsLocalDecl x b c → FirstDecl a
decls_first no_decls_read e = local_decl_first e
decls_first (another_decl ds d) e = decls_first ds d

-- a token stands at b, and it is no `else` if o is true
pub record Next (o : Bool) (b : List Terminal) : Type 0 where
  pub first : Terminal
  pub others : List Terminal
  pub is : b ≡ first ∷ others
  pub quiet : o ≡ true → is_else first.sort ≡ false

pub next : (o : Bool) (t : Terminal) (b : List Terminal) → (o ≡ true → is_else t.sort ≡ false) → Next o (t ∷ b)
next o t b h = record { first = t; others = b; is = refl; quiet = h }

weaker : (o : Bool) {b : List Terminal} → Next true b → Next o b
weaker o x = record { first = x.first; others = x.others; is = x.is; quiet = λ h. x.quiet refl }

-- no expression begins with an `else`
expr_quiet : (n : ℕ) (e : Bool) (k : Sort) (s : Span) → (expr_step n (term k s) (start e) ≡ Bad → ⊥) → is_else k ≡ false
expr_quiet n e (sort.Word w.Else) s h = absurd (h refl)
expr_quiet n e (sort.Word v) s h = refl
expr_quiet n e (sort.Name x) s h = refl
expr_quiet n e (sort.Number v t) s h = refl
expr_quiet n e (sort.Char c) s h = refl
expr_quiet n e (sort.Text x) s h = refl
expr_quiet n e (sort.Mark k) s h = refl
expr_quiet n e sort.Unknown s h = refl

type_quiet : (v : Word) → is_type_word v ≡ true → is_else (sort.Word v) ≡ false
type_quiet w.Else h = absurd (false_true h)
type_quiet v h = refl

base_quiet : {y : Base} {a b : List Terminal} → IsBase y a b → Next true a
base_quiet (void {s = s} {a = a}) = next true (word w.Void s) a (λ h. refl)
base_quiet (integer d) = let x = int_first d in record { first = word x.first x.at; others = x.others; is = x.is; quiet = λ h. type_quiet x.first x.good }
base_quiet (tagged {x = x} {s = s} {t = t} {a = a}) = next true (word w.Struct s) (named x t ∷ a) (λ h. refl)
base_quiet (typedef {x = x} {s = s} {a = a}) = next true (named x s) a (λ h. refl)

variables_quiet : {y : Base} {ds : List LocalDecl} {a b : List Terminal} → IsVariables y ds a b → Next true a
variables_quiet (variables d e) = base_quiet d

local_quiet : {x : Local} {a b : List Terminal} → IsLocal x a b → Next true a
local_quiet (declared_local d) = variables_quiet d
local_quiet (va_list_local {x = x} {s = s} {t = t} {u = u} {a = a}) = next true (word w.VaList s) (named x t ∷ mark m.Semicolon u ∷ a) (λ h. refl)

module _ (n : ℕ) (low : 1 ≤ n) where
  abbrev pub go : List Terminal → BodyState → Outcome BodyState Body
  go = run (body_step n)

  abbrev pub at : Focus → Body → List Frame → BodyState
  at f d fs = state f idle d fs

  -- ---- expressions

  abbrev pub in_expr : Hole → Body → List Frame → ExprState → BodyState
  in_expr h d fs e = state (focus.Expr h) e d fs

  abbrev pub expr_ends : Hole → Body → List Frame → Part → Terminal → Said
  expr_ends h d fs p t = hole_step n t.sort h (of_part p) (at focus.Item d fs)

  pub expr_is : (h : Hole) (d : Body) (fs : List Frame) (t : Terminal) (e : ExprState) (v : Answer ExprState Part) →
      expr_said n t.sort h v (state focus.Item e d fs) ≡ lifted (expr_step n) (body_step n) (in_expr h d fs) (expr_ends h d fs) t v
  expr_is h d fs t e (More x) = refl
  expr_is h d fs t e (Done p) = refl
  expr_is h d fs t e Bad = refl

  expr_runs : {x : Expr} (e : Bool) (t : Terminal) → Ends t.sort → (e ≡ true → is_effect x ≡ true) → (a b : List Terminal) → IsAssign x a (t ∷ b) → run (expr_step n) a (start e) ≡ Finished (cap n x) (t ∷ b)
  expr_runs {x} false t h f a b d = expr_complete n low x t h a b d
  expr_runs {x} true t h f a b d = effect_complete n low x (f refl) t h a b d

  -- an expression in a hole is read, up to its end
  hole_lands : (h : Hole) {x : Expr} {a b : List Terminal} (t : Terminal) → Ends t.sort → (hole_effect h ≡ true → is_effect x ≡ true) → IsAssign x a (t ∷ b) → (d : Body) (fs : List Frame) →
      go a (in_expr h d fs (start (hole_effect h))) ≡ after (hole_step n t.sort h (cap_expr n x) (at focus.Item d fs)) (go b) (t ∷ b)
  hole_lands h {x} {a} {b} t g f y d fs =
      hosted (expr_step n) (body_step n) (in_expr h d fs) (expr_ends h d fs) (λ k s. expr_is h d fs k s (expr_step n k s)) a (start (hole_effect h)) (cap n x) t b (expr_runs (hole_effect h) t g f a b y)
      ∙ ap (λ p. after (hole_step n t.sort h p (at focus.Item d fs)) (go b) (t ∷ b)) (of_part-cap n x)

  -- ---- where an effect begins with a name, or a local

  bare_effect : (k : Sort) (s : Span) (p : LocalPlace) (x : Name) (st : BodyState) → (expr_step n (term k s) (named_expr x) ≡ Bad → ⊥) →
      bare_step n (term k s) k p x st ≡ expr_at n (term k s) (effect_hole p) (record st { expr = named_expr x })
  unfolding named_effect
  bare_effect (sort.Name y) s p x st g = absurd (g refl)
  bare_effect (sort.Mark m.Star) s p x st g = absurd (g refl)
  bare_effect (sort.Mark k) s p x st g = refl
  bare_effect (sort.Number v t) s p x st g = refl
  bare_effect (sort.Char c) s p x st g = refl
  bare_effect (sort.Text y) s p x st g = refl
  bare_effect (sort.Word v) s p x st g = refl
  bare_effect sort.Unknown s p x st g = refl

  bare_lands : (p : LocalPlace) (x : Name) (a : List Terminal) (q : Part) (c : List Terminal) → run (expr_step n) a (named_expr x) ≡ Finished q c → (d : Body) (fs : List Frame) →
      go a (at (focus.Bare p x) d fs) ≡ go a (in_expr (effect_hole p) d fs (named_expr x))
  bare_lands p x [] q c r d fs = absurd (not_empty (expr_step n) (named_expr x) q c r)
  bare_lands p x (t ∷ a) q c r d fs = ap (λ v. after v (go a) (t ∷ a)) (bare_effect t.sort t.span p x (at focus.Item d fs) (not_bad (expr_step n) (named_expr x) t a q c r))

  bare_type : (k : Sort) (s : Span) (p : LocalPlace) (x : Name) (st : BodyState) → OpensDecl k → bare_step n (term k s) k p x st ≡ type_said n (term k s) p (type_step (term k s) (type_state.Stars (base.Named x) [])) st
  bare_type (sort.Name y) s p x st g = refl
  bare_type (sort.Mark m.Star) s p x st g = refl
  bare_type _ s p x st g = absurd g

  -- ---- where a statement begins with an expression

  stmt_feeds : (k : Sort) (s : Span) (st : BodyState) → (expr_step n (term k s) (start true) ≡ Bad → ⊥) → stmt_step n (term k s) k st ≡ feed n (term k s) hole.Effect st
  stmt_feeds (sort.Word w.If) s st g = absurd (g refl)
  stmt_feeds (sort.Word w.While) s st g = absurd (g refl)
  stmt_feeds (sort.Word w.Do) s st g = absurd (g refl)
  stmt_feeds (sort.Word w.For) s st g = absurd (g refl)
  stmt_feeds (sort.Word w.Break) s st g = absurd (g refl)
  stmt_feeds (sort.Word w.Continue) s st g = absurd (g refl)
  stmt_feeds (sort.Word w.Return) s st g = absurd (g refl)
  stmt_feeds (sort.Word w.VaStart) s st g = absurd (g refl)
  stmt_feeds (sort.Word w.VaEnd) s st g = absurd (g refl)
  stmt_feeds (sort.Word v) s st g = refl
  stmt_feeds (sort.Mark m.Semicolon) s st g = absurd (g refl)
  stmt_feeds (sort.Mark m.OpenBrace) s st g = absurd (g refl)
  stmt_feeds (sort.Mark k) s st g = refl
  stmt_feeds (sort.Name x) s st g = refl
  stmt_feeds (sort.Number v t) s st g = refl
  stmt_feeds (sort.Char c) s st g = refl
  stmt_feeds (sort.Text x) s st g = refl
  stmt_feeds sort.Unknown s st g = refl

  -- no expression begins with the words of types
  type_word_bad : (v : Word) (s : Span) (e : Bool) → is_type_word v ≡ true → expr_step n (word v s) (start e) ≡ Bad
  type_word_bad w.Void s e h = refl
  type_word_bad w.Struct s e h = refl
  type_word_bad w.Signed s e h = refl
  type_word_bad w.Unsigned s e h = refl
  type_word_bad w.Char s e h = refl
  type_word_bad w.Short s e h = refl
  type_word_bad w.Int s e h = refl
  type_word_bad w.Long s e h = refl
  type_word_bad v s e h = absurd (false_true h)

  cond_false : {A : Type 0} (v : Bool) (x y : A) → (v ≡ true → ⊥) → cond v x y ≡ y
  cond_false true x y h = absurd (h refl)
  cond_false false x y h = refl

  item_word_feeds : (v : Word) (s : Span) (st : BodyState) → (expr_step n (word v s) (start true) ≡ Bad → ⊥) → item_word n (word v s) v st ≡ stmt_step n (word v s) (sort.Word v) st
  item_word_feeds w.VaList s st g = absurd (g refl)
  item_word_feeds v s st g = cond_false (is_type_word v) (begin_type n (word v s) place.Block st) (stmt_step n (word v s) (sort.Word v) st) (λ h. g (type_word_bad v s true h))

  abbrev NotName : Sort → Type 0
  NotName (sort.Name x) = ⊥
  NotName _ = Unit {0}

  item_feeds : (k : Sort) (s : Span) (st : BodyState) → (expr_step n (term k s) (start true) ≡ Bad → ⊥) → NotName k → item_step n (term k s) k st ≡ feed n (term k s) hole.Effect st
  item_feeds (sort.Word v) s st g h = item_word_feeds v s st g ∙ stmt_feeds (sort.Word v) s st g
  item_feeds (sort.Mark m.CloseBrace) s st g h = absurd (g refl)
  item_feeds (sort.Mark m.Semicolon) s st g h = absurd (g refl)
  item_feeds (sort.Mark m.OpenBrace) s st g h = absurd (g refl)
  item_feeds (sort.Mark k) s st g h = refl
  item_feeds (sort.Name x) s st g h = absurd h
  item_feeds (sort.Number v t) s st g h = refl
  item_feeds (sort.Char c) s st g h = refl
  item_feeds (sort.Text x) s st g h = refl
  item_feeds sort.Unknown s st g h = refl

  -- no name behind `for (`
  abbrev NotStart : Sort → Slot → Type 0
  NotStart k (slot.Start u) = NotName k
  NotStart k _ = Unit {0}

  -- where an expression may be left out
  optional_feeds : (k : Sort) (s : Span) (l : Slot) (st : BodyState) → (expr_step n (term k s) (start (slot_effect l)) ≡ Bad → ⊥) → NotStart k l →
      optional_step n (term k s) k l st ≡ feed n (term k s) (hole.Slot l) st
  optional_feeds (sort.Name x) s (slot.Start u) st g h = absurd h
  optional_feeds (sort.Name x) s (slot.Test u i) st g h = refl
  optional_feeds (sort.Name x) s (slot.Step u i c) st g h = refl
  optional_feeds (sort.Name x) s (slot.Return u) st g h = refl
  optional_feeds (sort.Word v) s (slot.Start u) st g h = cond_false (is_type_word v) (begin_type n (word v s) (place.For u) st) (feed n (word v s) (hole.Slot (slot.Start u)) st) (λ q. g (type_word_bad v s true q))
  optional_feeds (sort.Word v) s (slot.Test u i) st g h = refl
  optional_feeds (sort.Word v) s (slot.Step u i c) st g h = refl
  optional_feeds (sort.Word v) s (slot.Return u) st g h = refl
  optional_feeds (sort.Mark m.Semicolon) s l st g h = absurd (g refl)
  optional_feeds (sort.Mark m.CloseParen) s l st g h = absurd (g refl)
  optional_feeds (sort.Mark k) s l st g h = refl
  optional_feeds (sort.Number v t) s l st g h = refl
  optional_feeds (sort.Char c) s l st g h = refl
  optional_feeds (sort.Text x) s l st g h = refl
  optional_feeds sort.Unknown s l st g h = refl

  stmt_begins : (a : List Terminal) (q : Part) (c : List Terminal) → run (expr_step n) a (start true) ≡ Finished q c → (d : Body) (fs : List Frame) →
      go a (at focus.Stmt d fs) ≡ go a (in_expr hole.Effect d fs (start true))
  unfolding feed
  stmt_begins [] q c r d fs = absurd (not_empty (expr_step n) (start true) q c r)
  stmt_begins (t ∷ a) q c r d fs = ap (λ v. after v (go a) (t ∷ a)) (stmt_feeds t.sort t.span (at focus.Item d fs) (not_bad (expr_step n) (start true) t a q c r))

  item_begins_at : (k : Sort) (s : Span) (a : List Terminal) (q : Part) (c : List Terminal) → run (expr_step n) (term k s ∷ a) (start true) ≡ Finished q c → (d : Body) (fs : List Frame) →
      go (term k s ∷ a) (at focus.Item d fs) ≡ go (term k s ∷ a) (in_expr hole.Effect d fs (start true))
  unfolding feed
  item_begins_at (sort.Name x) s a q c r d fs = bare_lands place.Block (name_of x s) a q c r d fs
  item_begins_at k s a q c r d fs = ap (λ v. after v (go a) (term k s ∷ a)) (item_feeds k s (at focus.Item d fs) (not_bad (expr_step n) (start true) (term k s) a q c r) tt)

  item_begins : (a : List Terminal) (q : Part) (c : List Terminal) → run (expr_step n) a (start true) ≡ Finished q c → (d : Body) (fs : List Frame) →
      go a (at focus.Item d fs) ≡ go a (in_expr hole.Effect d fs (start true))
  item_begins [] q c r d fs = absurd (not_empty (expr_step n) (start true) q c r)
  item_begins (t ∷ a) q c r d fs = item_begins_at t.sort t.span a q c r d fs

  slot_begins_at : (k : Sort) (s : Span) (l : Slot) → NotStart k l → (a : List Terminal) (q : Part) (c : List Terminal) → run (expr_step n) (term k s ∷ a) (start (slot_effect l)) ≡ Finished q c → (d : Body) (fs : List Frame) →
      go (term k s ∷ a) (at (focus.Optional l) d fs) ≡ go (term k s ∷ a) (in_expr (hole.Slot l) d fs (start (slot_effect l)))
  unfolding feed
  slot_begins_at k s l h a q c r d fs = ap (λ v. after v (go a) (term k s ∷ a)) (optional_feeds k s l (at focus.Item d fs) (not_bad (expr_step n) (start (slot_effect l)) (term k s) a q c r) h)

  start_begins_at : (k : Sort) (s u : Span) (a : List Terminal) (q : Part) (c : List Terminal) → run (expr_step n) (term k s ∷ a) (start true) ≡ Finished q c → (d : Body) (fs : List Frame) →
      go (term k s ∷ a) (at (focus.Optional (slot.Start u)) d fs) ≡ go (term k s ∷ a) (in_expr (hole.Slot (slot.Start u)) d fs (start true))
  unfolding feed
  start_begins_at (sort.Name x) s u a q c r d fs = bare_lands (place.For u) (name_of x s) a q c r d fs
  start_begins_at k s u a q c r d fs = slot_begins_at k s (slot.Start u) tt a q c r d fs

  slot_begins : (l : Slot) (a : List Terminal) (q : Part) (c : List Terminal) → run (expr_step n) a (start (slot_effect l)) ≡ Finished q c → (d : Body) (fs : List Frame) →
      go a (at (focus.Optional l) d fs) ≡ go a (in_expr (hole.Slot l) d fs (start (slot_effect l)))
  slot_begins l [] q c r d fs = absurd (not_empty (expr_step n) (start (slot_effect l)) q c r)
  slot_begins (slot.Start u) (t ∷ a) q c r d fs = start_begins_at t.sort t.span u a q c r d fs
  slot_begins (slot.Test u i) (t ∷ a) q c r d fs = slot_begins_at t.sort t.span (slot.Test u i) tt a q c r d fs
  slot_begins (slot.Step u i e) (t ∷ a) q c r d fs = slot_begins_at t.sort t.span (slot.Step u i e) tt a q c r d fs
  slot_begins (slot.Return u) (t ∷ a) q c r d fs = slot_begins_at t.sort t.span (slot.Return u) tt a q c r d fs

  slot_lands : (l : Slot) {x : Expr} {a b : List Terminal} (t : Terminal) → Ends t.sort → (slot_effect l ≡ true → is_effect x ≡ true) → IsAssign x a (t ∷ b) → (d : Body) (fs : List Frame) →
      go a (at (focus.Optional l) d fs) ≡ after (hole_step n t.sort (hole.Slot l) (cap_expr n x) (at focus.Item d fs)) (go b) (t ∷ b)
  slot_lands l {x} {a} {b} t g f y d fs = slot_begins l a (cap n x) (t ∷ b) (expr_runs (slot_effect l) t g f a b y) d fs ∙ hole_lands (hole.Slot l) t g f y d fs

  effect_ends : {e : Expr} {s : Span} {a b : List Terminal} → is_effect e ≡ true → IsAssign e a (mark m.Semicolon s ∷ b) → (d : Body) (fs : List Frame) →
      go a (in_expr hole.Effect d fs (start true)) ≡ go b (at (focus.Ended (cap_stmt n (stmt.Effect e))) d fs)
  effect_ends {e} {s} {a} {b} f y d fs =
      hole_lands hole.Effect (mark m.Semicolon s) tt (λ h. f) y d fs ∙ ap (λ p. go b (at (focus.Ended p) d fs)) (effect_part-cap n e)

  -- ---- locals

  -- where the locals of a place begin, and where they are over
  abbrev pub before_locals : LocalPlace → Focus
  before_locals place.Block = focus.Item
  before_locals (place.For s) = focus.Optional (slot.Start s)

  abbrev pub after_locals : LocalPlace → Base → DeclsPart → Body → List Frame → BodyState
  after_locals place.Block b ds d fs = at focus.Item (with_locals n b ds d) fs
  after_locals (place.For s) b ds d fs = at (focus.Optional (slot.Test s (start_locals n b ds))) d fs

  locals_end : (p : LocalPlace) (b : Base) (ds : DeclsPart) (d : Body) (fs : List Frame) → end_locals n p b ds (at focus.Item d fs) ≡ More (after_locals p b ds d fs)
  locals_end place.Block b ds d fs = refl
  locals_end (place.For s) b ds d fs = refl

  opens_type : (p : LocalPlace) (v : Word) (s : Span) → is_type_word v ≡ true → (d : Body) (fs : List Frame) →
      body_step n (word v s) (at (before_locals p) d fs) ≡ begin_type n (word v s) p (at focus.Item d fs)
  opens_type place.Block w.VaList s h d fs = absurd (false_true h)
  opens_type place.Block v s h d fs = ap (λ b. cond b (begin_type n (word v s) place.Block (at focus.Item d fs)) (stmt_step n (word v s) (sort.Word v) (at focus.Item d fs))) h
  opens_type (place.For u) v s h d fs = ap (λ b. cond b (begin_type n (word v s) (place.For u) (at focus.Item d fs)) (feed n (word v s) (hole.Slot (slot.Start u)) (at focus.Item d fs))) h

  opens_run : (p : LocalPlace) (v : Word) (s : Span) (a : List Terminal) → is_type_word v ≡ true → (d : Body) (fs : List Frame) →
      go (word v s ∷ a) (at (before_locals p) d fs) ≡ go (word v s ∷ a) (at (focus.Typing p type_state.Opening) d fs)
  unfolding begin_type
  opens_run p v s a h d fs = ap (λ y. after y (go a) (word v s ∷ a)) (opens_type p v s h d fs)

  names_type : (p : LocalPlace) (x : List ℕ) (s : Span) (a : List Terminal) (d : Body) (fs : List Frame) →
      go (named x s ∷ a) (at (before_locals p) d fs) ≡ go a (at (focus.Bare p (name_of x s)) d fs)
  names_type place.Block x s a d fs = refl
  names_type (place.For u) x s a d fs = refl

  bare_run : (p : LocalPlace) (x : Name) {a : List Terminal} → DeclFirst a → (d : Body) (fs : List Frame) →
      go a (at (focus.Bare p x) d fs) ≡ go a (at (focus.Typing p (type_state.Stars (base.Named x) [])) d fs)
  bare_run p x y d fs =
      ap (λ l. go l (at (focus.Bare p x) d fs)) y.is
      ∙ ap (λ v. after v (go y.others) (y.first ∷ y.others)) (bare_type y.first.sort y.first.span p x (at focus.Item d fs) y.good)
      ∙ sym (ap (λ l. go l (at (focus.Typing p (type_state.Stars (base.Named x) [])) d fs)) y.is)

  type_opens : (p : LocalPlace) {y : Base} {a b : List Terminal} → IsBase y a b → DeclFirst b → (d : Body) (fs : List Frame) →
      go a (at (before_locals p) d fs) ≡ go a (at (focus.Typing p type_state.Opening) d fs)
  type_opens p (void {s = s} {a = a}) h d fs = opens_run p w.Void s a refl d fs
  type_opens p (tagged {x = x} {s = s} {t = t} {a = a}) h d fs = opens_run p w.Struct s (named x t ∷ a) refl d fs
  type_opens p (typedef {x = x} {s = s} {a = a}) h d fs = names_type p x s a d fs ∙ bare_run p (name_of x s) h d fs
  type_opens p (integer i) h d fs =
      let y = int_first i in
      ap (λ l. go l (at (before_locals p) d fs)) y.is ∙ opens_run p y.first y.at y.others y.good d fs ∙ sym (ap (λ l. go l (at (focus.Typing p type_state.Opening) d fs)) y.is)

  abbrev pub typing : LocalPlace → Body → List Frame → TypeState → BodyState
  typing p d fs y = at (focus.Typing p y) d fs

  abbrev pub type_ends_in : LocalPlace → Body → List Frame → TypeName → Terminal → Said
  type_ends_in p d fs y t = decl_said n t.sort p y.base no_decls (decl_step t (decl_state.Stars y.stars)) (at focus.Item d fs)

  pub type_is : (p : LocalPlace) (d : Body) (fs : List Frame) (t : Terminal) (v : Answer TypeState TypeName) →
      type_said n t p v (at focus.Item d fs) ≡ lifted type_step (body_step n) (typing p d fs) (type_ends_in p d fs) t v
  type_is p d fs t (More y) = refl
  type_is p d fs t (Done y) = refl
  type_is p d fs t Bad = refl

  abbrev pub declaring : LocalPlace → Base → DeclsPart → Body → List Frame → DeclState → BodyState
  declaring p b ds d fs y = at (focus.Declaring p b ds y) d fs

  abbrev pub decl_ends_in : LocalPlace → Base → DeclsPart → Body → List Frame → Decl → Terminal → Said
  decl_ends_in p b ds d fs y t = declared_step n t.sort p b ds y (at focus.Item d fs)

  pub decl_is : (p : LocalPlace) (b : Base) (ds : DeclsPart) (d : Body) (fs : List Frame) (t : Terminal) (v : Answer DeclState Decl) →
      decl_said n t.sort p b ds v (at focus.Item d fs) ≡ lifted decl_step (body_step n) (declaring p b ds d fs) (decl_ends_in p b ds d fs) t v
  decl_is p b ds d fs t (More y) = refl
  decl_is p b ds d fs t (Done y) = refl
  decl_is p b ds d fs t Bad = refl

  stars_land : (p : LocalPlace) (b : Base) (ds : DeclsPart) {ss : List Span} {a c : List Terminal} → IsStars ss a c → (d : Body) (fs : List Frame) →
      go a (declaring p b ds d fs (decl_state.Stars [])) ≡ go c (declaring p b ds d fs (decl_state.Stars ss))
  stars_land p b ds no_stars d fs = refl
  stars_land p b ds (star i) d fs = stars_land p b ds i d fs

  -- the type is over, and the first declarator stands at c
  base_lands : (p : LocalPlace) {b : Base} {y : Decl} {a c e : List Terminal} → IsBase b a c → IsDecl y c e → (d : Body) (fs : List Frame) →
      go a (at (before_locals p) d fs) ≡ go c (declaring p b no_decls d fs (decl_state.Stars []))
  base_lands p {b} {a = a} i (declared {ss = ss} {x = x} {s = s} {b = r} j k) d fs =
      type_opens p i (stars_first (named x s) r refl j tt) d fs
      ∙ hosted type_step (body_step n) (typing p d fs) (type_ends_in p d fs) (λ t y. type_is p d fs t (type_step t y)) a type_state.Opening (type_name b ss) (named x s) r (type_complete (named x s) r refl (type_named i j) tt)
      ∙ sym (stars_land p b no_decls j d fs)

  -- what separates declarators
  abbrev pub IsSeparator : Mark → Type 0
  IsSeparator m.Comma = Unit {0}
  IsSeparator m.Semicolon = Unit {0}
  IsSeparator _ = ⊥

  abbrev pub decl_over : Mark → LocalPlace → Base → DeclsPart → BodyState → Said
  decl_over m.Comma p b ds st = next_decl p b ds st
  decl_over m.Semicolon p b ds st = end_locals n p b ds st
  decl_over _ p b ds st = Bad

  uninitialized_over : (k : Mark) → IsSeparator k → (p : LocalPlace) (b : Base) (ds : DeclsPart) (y : Decl) (st : BodyState) → declared_step n (sort.Mark k) p b ds y st ≡ decl_over k p b (with_decl ds y no_part) st
  uninitialized_over m.Comma h p b ds y st = refl
  uninitialized_over m.Semicolon h p b ds y st = refl
  uninitialized_over _ h p b ds y st = absurd h

  initialized_over : (k : Mark) → IsSeparator k → (p : LocalPlace) (b : Base) (ds : DeclsPart) (y : Decl) (e : ExprPart) (st : BodyState) → hole_step n (sort.Mark k) (hole.Init p b ds y) e st ≡ decl_over k p b (with_decl ds y (some_part e)) st
  initialized_over m.Comma h p b ds y e st = refl
  initialized_over m.Semicolon h p b ds y e st = refl
  initialized_over _ h p b ds y e st = absurd h

  separator_decl : (k : Mark) → IsSeparator k → EndsDecl (sort.Mark k)
  separator_decl m.Comma h = tt
  separator_decl m.Semicolon h = tt
  separator_decl _ h = absurd h

  separator_expr : (k : Mark) → IsSeparator k → Ends (sort.Mark k)
  separator_expr m.Comma h = tt
  separator_expr m.Semicolon h = tt
  separator_expr _ h = absurd h

  decl_hosted : (p : LocalPlace) (b : Base) (ds : DeclsPart) {y : Decl} {a c : List Terminal} (t : Terminal) → EndsDecl t.sort → IsDecl y a (t ∷ c) → (d : Body) (fs : List Frame) →
      go a (declaring p b ds d fs (decl_state.Stars [])) ≡ after (declared_step n t.sort p b ds y (at focus.Item d fs)) (go c) (t ∷ c)
  decl_hosted p b ds {y} {a} {c} t h i d fs =
      hosted decl_step (body_step n) (declaring p b ds d fs) (decl_ends_in p b ds d fs) (λ k z. decl_is p b ds d fs k (decl_step k z)) a (decl_state.Stars []) y t c (decl_complete t c refl i h)

  local_decl_lands : (k : Mark) → IsSeparator k → (s : Span) (p : LocalPlace) (b : Base) (ds : List LocalDecl) {x : LocalDecl} {a c : List Terminal} → IsLocalDecl x a (mark k s ∷ c) → (d : Body) (fs : List Frame) →
      go a (declaring p b (cap_decls n ds) d fs (decl_state.Stars [])) ≡ after (decl_over k p b (cap_decls n (ds ++ x ∷ [])) (at focus.Item d fs)) (go c) (mark k s ∷ c)
  local_decl_lands k h s p b ds {c = c} (uninitialized {d = y} i) d fs =
      decl_hosted p b (cap_decls n ds) (mark k s) (separator_decl k h) i d fs
      ∙ ap (λ v. after v (go c) (mark k s ∷ c)) (uninitialized_over k h p b (cap_decls n ds) y (at focus.Item d fs))
      ∙ ap (λ o. after (decl_over k p b (with_decl (cap_decls n ds) y o) (at focus.Item d fs)) (go c) (mark k s ∷ c)) (no_part-cap n)
      ∙ ap (λ q. after (decl_over k p b q (at focus.Item d fs)) (go c) (mark k s ∷ c)) (with_decl-cap n low ds y None)
  local_decl_lands k h s p b ds {c = c} (initialized {d = y} {e = e} {s = u} i j) d fs =
      decl_hosted p b (cap_decls n ds) (mark m.Equal u) tt i d fs
      ∙ hole_lands (hole.Init p b (cap_decls n ds) y) (mark k s) (separator_expr k h) (λ q. absurd (false_true q)) j d fs
      ∙ ap (λ v. after v (go c) (mark k s ∷ c)) (initialized_over k h p b (cap_decls n ds) y (cap_expr n e) (at focus.Item d fs))
      ∙ ap (λ o. after (decl_over k p b (with_decl (cap_decls n ds) y o) (at focus.Item d fs)) (go c) (mark k s ∷ c)) (some_part-cap n e)
      ∙ ap (λ q. after (decl_over k p b q (at focus.Item d fs)) (go c) (mark k s ∷ c)) (with_decl-cap n low ds y (Some e))

  local_decls_land : (p : LocalPlace) (b : Base) {ds : List LocalDecl} {a c : List Terminal} → IsLocalDecls ds a c → (d : Body) (fs : List Frame) →
      go a (declaring p b (cap_decls n []) d fs (decl_state.Stars [])) ≡ go c (declaring p b (cap_decls n ds) d fs (decl_state.Stars []))
  local_decls_land p b no_decls_read d fs = refl
  local_decls_land p b (another_decl {ds = ds} {s = s} i j) d fs = local_decls_land p b i d fs ∙ local_decl_lands m.Comma tt s p b ds j d fs

  variables_land : (p : LocalPlace) {b : Base} {ds : List LocalDecl} {a c : List Terminal} → IsVariables b ds a c → (d : Body) (fs : List Frame) →
      go a (at (before_locals p) d fs) ≡ go c (after_locals p b (cap_decls n ds) d fs)
  variables_land p {b} {c = e} (variables {s = s} {c = c} i (local_decls {ds = ds} {d = x} j k)) d fs =
      let f = decls_first j k in
      base_lands p i f.reads d fs
      ∙ ap (λ q. go c (declaring p b q d fs (decl_state.Stars []))) (no_decls-cap n)
      ∙ local_decls_land p b j d fs
      ∙ local_decl_lands m.Semicolon tt s p b ds k d fs
      ∙ ap (λ v. after v (go e) (mark m.Semicolon s ∷ e)) (locals_end p b (cap_decls n (ds ++ x ∷ [])) d fs)

  local_lands : (xs : List BlockItem) {x : Local} {a b : List Terminal} → IsLocal x a b → (fs : List Frame) → go a (at focus.Item (cap_body n xs) fs) ≡ go b (at focus.Item (cap_body n (xs ++ block_item.Local x ∷ [])) fs)
  local_lands xs {b = e} (declared_local {b = b} {ds = ds} i) fs =
      variables_land place.Block i (cap_body n xs) fs ∙ ap (λ q. go e (at focus.Item q fs)) (with_locals-cap n b ds xs)
  local_lands xs {b = e} (va_list_local {x = x} {s = s} {t = t}) fs = ap (λ q. go e (at focus.Item q fs)) (with_va_list-cap n low s (name_of x t) xs)

  -- ---- the parentheses of a `for`, and what may be left out

  start_lands : (s : Span) {i : ForStart} {a b : List Terminal} → IsForStart i a b → (d : Body) (fs : List Frame) →
      go a (at (focus.Optional (slot.Start s)) d fs) ≡ go b (at (focus.Optional (slot.Test s (cap_start n i))) d fs)
  start_lands s {b = e} (start_local {b = b} {ds = ds} i) d fs =
      variables_land (place.For s) i d fs ∙ ap (λ q. go e (at (focus.Optional (slot.Test s q)) d fs)) (start_locals-cap n b ds)
  start_lands s {b = b} (start_effect {e = e} {s = u} f y) d fs =
      slot_lands (slot.Start s) (mark m.Semicolon u) tt (λ h. f) y d fs
      ∙ ap (λ q. go b (at (focus.Optional (slot.Test s (start_part q))) d fs)) (some_part-cap n e)
      ∙ ap (λ q. go b (at (focus.Optional (slot.Test s q)) d fs)) (start_part-cap n (Some e))
  start_lands s {b = b} start_nothing d fs =
      ap (λ q. go b (at (focus.Optional (slot.Test s (start_part q))) d fs)) (no_part-cap n)
      ∙ ap (λ q. go b (at (focus.Optional (slot.Test s q)) d fs)) (start_part-cap n None)

  test_lands : (s : Span) (i : Capped ForStart) {c : Option Expr} {a b : List Terminal} → IsOptional c a b → (d : Body) (fs : List Frame) →
      go a (at (focus.Optional (slot.Test s i)) d fs) ≡ go b (at (focus.Optional (slot.Step s i (cap_option n c))) d fs)
  test_lands s i {b = b} no_value d fs = ap (λ q. go b (at (focus.Optional (slot.Step s i q)) d fs)) (no_part-cap n)
  test_lands s i {b = b} (a_value {e = e} {s = u} y) d fs =
      slot_lands (slot.Test s i) (mark m.Semicolon u) tt (λ h. absurd (false_true h)) y d fs ∙ ap (λ q. go b (at (focus.Optional (slot.Step s i q)) d fs)) (some_part-cap n e)

  step_lands : (s : Span) (i : Capped ForStart) (c : OptionPart) {e : Option Expr} {a b : List Terminal} → IsForStep e a b → (d : Body) (fs : List Frame) →
      go a (at (focus.Optional (slot.Step s i c)) d fs) ≡ go b (at focus.Stmt d (frame.For s (for_head i c (cap_option n e)) ∷ fs))
  step_lands s i c {b = b} no_step d fs = ap (λ q. go b (at focus.Stmt d (frame.For s (for_head i c q) ∷ fs))) (no_part-cap n)
  step_lands s i c {b = b} (a_step {e = e} {s = u} f y) d fs =
      slot_lands (slot.Step s i c) (mark m.CloseParen u) tt (λ h. f) y d fs ∙ ap (λ q. go b (at focus.Stmt d (frame.For s (for_head i c q) ∷ fs))) (some_part-cap n e)

  return_lands : (s : Span) {e : Option Expr} {a b : List Terminal} → IsOptional e a b → (d : Body) (fs : List Frame) →
      go a (at (focus.Optional (slot.Return s)) d fs) ≡ go b (at (focus.Ended (cap_stmt n (stmt.Return s e))) d fs)
  return_lands s {b = b} no_value d fs =
      ap (λ q. go b (at (focus.Ended (return_part n s q)) d fs)) (no_part-cap n) ∙ ap (λ q. go b (at (focus.Ended q) d fs)) (return_part-cap n s None)
  return_lands s {b = b} (a_value {e = e} {s = u} y) d fs =
      slot_lands (slot.Return s) (mark m.Semicolon u) tt (λ h. absurd (false_true h)) y d fs
      ∙ ap (λ q. go b (at (focus.Ended (return_part n s q)) d fs)) (some_part-cap n e)
      ∙ ap (λ q. go b (at (focus.Ended q) d fs)) (return_part-cap n s (Some e))

  -- ---- behind a statement

  quiet_step : (x : StmtPart) (d : Body) (fs : List Frame) (t : Terminal) (b : List Terminal) → is_else t.sort ≡ false →
      go (t ∷ b) (at (focus.Ended x) d fs) ≡ after (after_stmt n t (settle n false x fs).0 (settle n false x fs).1 (at focus.Item d (settle n false x fs).1)) (go b) (t ∷ b)
  quiet_step x d fs t b q =
      ap (λ v. after (cond v (attach (settle n true x fs).0 (settle n true x fs).1 (at focus.Item d (settle n true x fs).1)) (after_stmt n t (settle n false x fs).0 (settle n false x fs).1 (at focus.Item d (settle n false x fs).1))) (go b) (t ∷ b)) q

  along : {o : Bool} {b : List Terminal} → Next o b → (st st' : BodyState) → ((t : Terminal) (c : List Terminal) → (o ≡ true → is_else t.sort ≡ false) → go (t ∷ c) st ≡ go (t ∷ c) st') → go b st ≡ go b st'
  along x st st' f = ap (λ l. go l st) x.is ∙ f x.first x.others x.quiet ∙ sym (ap (λ l. go l st') x.is)

  pub did_then : (s : Span) (c : ExprPart) (x : StmtPart) {b : List Terminal} → Next true b → (d : Body) (fs : List Frame) →
      go b (at (focus.Ended x) d (frame.Then s c ∷ fs)) ≡ go b (at (focus.Ended (if_part n s c x)) d fs)
  did_then s c x y d fs =
      along y (at (focus.Ended x) d (frame.Then s c ∷ fs)) (at (focus.Ended (if_part n s c x)) d fs)
      (λ t b q. quiet_step x d (frame.Then s c ∷ fs) t b (q refl) ∙ sym (quiet_step (if_part n s c x) d fs t b (q refl)))

  pub did_else : {o : Bool} (s : Span) (c : ExprPart) (y x : StmtPart) {b : List Terminal} → Next o b → (d : Body) (fs : List Frame) →
      go b (at (focus.Ended x) d (frame.Else s c y ∷ fs)) ≡ go b (at (focus.Ended (if_else_part n s c y x)) d fs)
  did_else s c y x z d fs = along z (at (focus.Ended x) d (frame.Else s c y ∷ fs)) (at (focus.Ended (if_else_part n s c y x)) d fs) (λ t b q. refl)

  pub did_while : {o : Bool} (s : Span) (c : ExprPart) (x : StmtPart) {b : List Terminal} → Next o b → (d : Body) (fs : List Frame) →
      go b (at (focus.Ended x) d (frame.While s c ∷ fs)) ≡ go b (at (focus.Ended (while_part n s c x)) d fs)
  did_while s c x z d fs = along z (at (focus.Ended x) d (frame.While s c ∷ fs)) (at (focus.Ended (while_part n s c x)) d fs) (λ t b q. refl)

  pub did_for : {o : Bool} (s : Span) (h : Capped ForHead) (x : StmtPart) {b : List Terminal} → Next o b → (d : Body) (fs : List Frame) →
      go b (at (focus.Ended x) d (frame.For s h ∷ fs)) ≡ go b (at (focus.Ended (for_part n s h x)) d fs)
  did_for s h x z d fs = along z (at (focus.Ended x) d (frame.For s h ∷ fs)) (at (focus.Ended (for_part n s h x)) d fs) (λ t b q. refl)

  -- the innermost frame is a block's
  abbrev pub IsLevel : List Frame → Type 0
  IsLevel [] = Unit {0}
  IsLevel (frame.Nested s d ∷ fs) = Unit {0}
  IsLevel _ = ⊥

  did_level : (x : StmtPart) (d : Body) (fs : List Frame) → IsLevel fs → {b : List Terminal} → Next true b → go b (at (focus.Ended x) d fs) ≡ go b (at focus.Item (with_stmt d x) fs)
  did_level x d [] h y = along y (at (focus.Ended x) d []) (at focus.Item (with_stmt d x) []) (λ t b q. quiet_step x d [] t b (q refl))
  did_level x d (frame.Nested s e ∷ fs) h y =
      along y (at (focus.Ended x) d (frame.Nested s e ∷ fs)) (at focus.Item (with_stmt d x) (frame.Nested s e ∷ fs)) (λ t b q. quiet_step x d (frame.Nested s e ∷ fs) t b (q refl))
  did_level x d (frame.Then s c ∷ fs) h y = absurd h
  did_level x d (frame.Else s c z ∷ fs) h y = absurd h
  did_level x d (frame.While s c ∷ fs) h y = absurd h
  did_level x d (frame.Do s ∷ fs) h y = absurd h
  did_level x d (frame.For s c ∷ fs) h y = absurd h

  -- ---- statements

  effect_quiet : (a : List Terminal) (q : Part) (c : List Terminal) → run (expr_step n) a (start true) ≡ Finished q c → Next true a
  effect_quiet [] q c r = absurd (not_empty (expr_step n) (start true) q c r)
  effect_quiet (t ∷ a) q c r = next true t a (λ h. expr_quiet n true t.sort t.span (not_bad (expr_step n) (start true) t a q c r))

  -- no statement begins with an `else`
  stmt_quiet : {o : Bool} {x : Stmt} {a b : List Terminal} → IsStmt o x a b → Next true a
  stmt_quiet (block_stmt {s = s} {a = a} d) = next true (mark m.OpenBrace s) a (λ h. refl)
  stmt_quiet (empty_stmt {s = s} {a = a}) = next true (mark m.Semicolon s) a (λ h. refl)
  stmt_quiet {a = a} {b = b} (effect_stmt {e = e} {s = s} f y) = effect_quiet a (cap n e) (mark m.Semicolon s ∷ b) (effect_complete n low e f (mark m.Semicolon s) tt a b y)
  stmt_quiet (break_stmt {s = s} {t = t} {a = a}) = next true (word w.Break s) (mark m.Semicolon t ∷ a) (λ h. refl)
  stmt_quiet (continue_stmt {s = s} {t = t} {a = a}) = next true (word w.Continue s) (mark m.Semicolon t ∷ a) (λ h. refl)
  stmt_quiet (if_alone {s = s} {t = t} {a = a} c x) = next true (word w.If s) (mark m.OpenParen t ∷ a) (λ h. refl)
  stmt_quiet (if_else {s = s} {t = t} {a = a} c x y) = next true (word w.If s) (mark m.OpenParen t ∷ a) (λ h. refl)
  stmt_quiet (while_stmt {s = s} {t = t} {a = a} c x) = next true (word w.While s) (mark m.OpenParen t ∷ a) (λ h. refl)
  stmt_quiet (do_stmt {s = s} {a = a} x c) = next true (word w.Do s) a (λ h. refl)
  stmt_quiet (for_stmt {s = s} {t = t} {a = a} i c e x) = next true (word w.For s) (mark m.OpenParen t ∷ a) (λ h. refl)
  stmt_quiet (return_stmt {s = s} {a = a} e) = next true (word w.Return s) a (λ h. refl)
  stmt_quiet (va_start_stmt {x = x} {y = y} {s = s} {t = t} {u = u} {v = v} {p = p} {q = q} {r = r} {a = a}) =
      next true (word w.VaStart s) (mark m.OpenParen t ∷ named x u ∷ mark m.Comma v ∷ named y p ∷ mark m.CloseParen q ∷ mark m.Semicolon r ∷ a) (λ h. refl)
  stmt_quiet (va_end_stmt {x = x} {s = s} {t = t} {u = u} {q = q} {r = r} {a = a}) =
      next true (word w.VaEnd s) (mark m.OpenParen t ∷ named x u ∷ mark m.CloseParen q ∷ mark m.Semicolon r ∷ a) (λ h. refl)

  -- a statement of a block
  item_like : {o : Bool} {x : Stmt} {a b : List Terminal} → IsStmt o x a b → (d : Body) (fs : List Frame) → go a (at focus.Item d fs) ≡ go a (at focus.Stmt d fs)
  item_like (block_stmt x) d fs = refl
  item_like empty_stmt d fs = refl
  item_like {a = a} {b = b} (effect_stmt {e = e} {s = s} f y) d fs =
      let r = effect_complete n low e f (mark m.Semicolon s) tt a b y in
      item_begins a (cap n e) (mark m.Semicolon s ∷ b) r d fs ∙ sym (stmt_begins a (cap n e) (mark m.Semicolon s ∷ b) r d fs)
  item_like break_stmt d fs = refl
  item_like continue_stmt d fs = refl
  item_like (if_alone c x) d fs = refl
  item_like (if_else c x y) d fs = refl
  item_like (while_stmt c x) d fs = refl
  item_like (do_stmt x c) d fs = refl
  item_like (for_stmt i c e x) d fs = refl
  item_like (return_stmt e) d fs = refl
  item_like va_start_stmt d fs = refl
  item_like va_end_stmt d fs = refl

  leaf_lands : (x : Stmt) (b : List Terminal) (d : Body) (fs : List Frame) (p : StmtPart) → p ≡ cap_stmt n x → go b (at (focus.Ended p) d fs) ≡ go b (at (focus.Ended (cap_stmt n x)) d fs)
  leaf_lands x b d fs p q = ap (λ y. go b (at (focus.Ended y) d fs)) q

  mutual
    pub stmt_lands : {o : Bool} {x : Stmt} {a b : List Terminal} → IsStmt o x a b → (d : Body) (fs : List Frame) → Next o b → go a (at focus.Stmt d fs) ≡ go b (at (focus.Ended (cap_stmt n x)) d fs)
    stmt_lands {b = b} (block_stmt {xs = xs} {s = s} {t = t} {a = a} x) d fs y =
        ap (λ q. go a (at focus.Item q (frame.Nested s d ∷ fs))) (no_items-cap n)
        ∙ items_land x (frame.Nested s d ∷ fs) tt (next true (mark m.CloseBrace t) b (λ h. refl))
        ∙ ap (λ q. go b (at (focus.Ended q) d fs)) (block_part-cap n s xs)
    stmt_lands {b = b} (empty_stmt {s = s}) d fs y = leaf_lands (stmt.Empty s) b d fs _ (stmt_leaf-cap n low (stmt.Empty s) (stmt_height-Empty s))
    stmt_lands {a = a} {b = b} (effect_stmt {e = e} {s = s} f y) d fs z =
        stmt_begins a (cap n e) (mark m.Semicolon s ∷ b) (effect_complete n low e f (mark m.Semicolon s) tt a b y) d fs ∙ effect_ends f y d fs
    stmt_lands {b = b} (break_stmt {s = s}) d fs y = leaf_lands (stmt.Break s) b d fs _ (stmt_leaf-cap n low (stmt.Break s) (stmt_height-Break s))
    stmt_lands {b = b} (continue_stmt {s = s}) d fs y = leaf_lands (stmt.Continue s) b d fs _ (stmt_leaf-cap n low (stmt.Continue s) (stmt_height-Continue s))
    stmt_lands {b = b} (if_alone {c = c} {x = x} {s = s} {u = u} i j) d fs y =
        hole_lands (hole.If s) (mark m.CloseParen u) tt (λ h. absurd (false_true h)) i d fs
        ∙ stmt_lands j d (frame.Then s (cap_expr n c) ∷ fs) (weaker _ y)
        ∙ did_then s (cap_expr n c) (cap_stmt n x) y d fs
        ∙ ap (λ q. go b (at (focus.Ended q) d fs)) (if_part-cap n s c x)
    stmt_lands {b = b} (if_else {c = c} {x = x} {y = y} {s = s} {u = u} {v = v} {d = e} i j k) d fs z =
        hole_lands (hole.If s) (mark m.CloseParen u) tt (λ h. absurd (false_true h)) i d fs
        ∙ stmt_lands j d (frame.Then s (cap_expr n c) ∷ fs) (next false (word w.Else v) e (λ h. absurd (false_true h)))
        ∙ stmt_lands k d (frame.Else s (cap_expr n c) (cap_stmt n x) ∷ fs) z
        ∙ did_else s (cap_expr n c) (cap_stmt n x) (cap_stmt n y) z d fs
        ∙ ap (λ q. go b (at (focus.Ended q) d fs)) (if_else_part-cap n s c x y)
    stmt_lands {b = b} (while_stmt {c = c} {x = x} {s = s} {u = u} i j) d fs y =
        hole_lands (hole.While s) (mark m.CloseParen u) tt (λ h. absurd (false_true h)) i d fs
        ∙ stmt_lands j d (frame.While s (cap_expr n c) ∷ fs) y
        ∙ did_while s (cap_expr n c) (cap_stmt n x) y d fs
        ∙ ap (λ q. go b (at (focus.Ended q) d fs)) (while_part-cap n s c x)
    stmt_lands {b = b} (do_stmt {o = o} {c = c} {x = x} {s = s} {t = t} {u = u} {v = v} {b = e} i j) d fs y =
        stmt_lands i d (frame.Do s ∷ fs) (next o (word w.While t) (mark m.OpenParen u ∷ e) (λ h. refl))
        ∙ hole_lands (hole.Do s (cap_stmt n x)) (mark m.CloseParen v) tt (λ h. absurd (false_true h)) j d fs
        ∙ ap (λ q. go b (at (focus.Ended q) d fs)) (do_part-cap n s x c)
    stmt_lands {b = b} (for_stmt {i = i} {c = c} {e = e} {x = x} {s = s} {f = g} j k l y) d fs z =
        start_lands s j d fs
        ∙ test_lands s (cap_start n i) k d fs
        ∙ step_lands s (cap_start n i) (cap_option n c) l d fs
        ∙ ap (λ q. go g (at focus.Stmt d (frame.For s q ∷ fs))) (for_head-cap n i c e)
        ∙ stmt_lands y d (frame.For s (cap_head n (head_of i (c, e))) ∷ fs) z
        ∙ did_for s (cap_head n (head_of i (c, e))) (cap_stmt n x) z d fs
        ∙ ap (λ q. go b (at (focus.Ended q) d fs)) (for_part-cap n s (head_of i (c, e)) x)
    stmt_lands (return_stmt {s = s} i) d fs y = return_lands s i d fs
    stmt_lands {b = b} (va_start_stmt {x = x} {y = y} {s = s} {u = u} {p = p}) d fs z =
        leaf_lands (stmt.VaStart s (name_of x u) (name_of y p)) b d fs _ (stmt_leaf-cap n low (stmt.VaStart s (name_of x u) (name_of y p)) (stmt_height-VaStart s (name_of x u) (name_of y p)))
    stmt_lands {b = b} (va_end_stmt {x = x} {s = s} {u = u}) d fs z =
        leaf_lands (stmt.VaEnd s (name_of x u)) b d fs _ (stmt_leaf-cap n low (stmt.VaEnd s (name_of x u)) (stmt_height-VaEnd s (name_of x u)))

    pub items_land : {xs : List BlockItem} {a b : List Terminal} → IsBlockItems xs a b → (fs : List Frame) → IsLevel fs → Next true b →
        go a (at focus.Item (cap_body n []) fs) ≡ go b (at focus.Item (cap_body n xs) fs)
    items_land no_items_read fs h y = refl
    items_land (local_item {xs = xs} i j) fs h y = items_land i fs h (local_quiet j) ∙ local_lands xs j fs
    items_land {b = c} (stmt_item {o = o} {xs = xs} {x = x} i j) fs h y =
        items_land i fs h (stmt_quiet j)
        ∙ item_like j (cap_body n xs) fs
        ∙ stmt_lands j (cap_body n xs) fs (weaker o y)
        ∙ did_level (cap_stmt n x) (cap_body n xs) fs h y
        ∙ ap (λ q. go c (at focus.Item q fs)) (with_stmt-cap n xs x)

-- a body is read whole, up to the `}` that ends it
pub body_complete : (n : ℕ) → 1 ≤ n → (xs : List BlockItem) (s : Span) (a b : List Terminal) → IsBlockItems xs a (mark m.CloseBrace s ∷ b) → run (body_step n) a body_start ≡ Finished (cap_body n xs) (mark m.CloseBrace s ∷ b)
body_complete n low xs s a b d =
    ap (λ q. run (body_step n) a (state focus.Item idle q [])) (no_items-cap n) ∙ items_land n low d [] tt (next true (mark m.CloseBrace s) b (λ h. refl))
