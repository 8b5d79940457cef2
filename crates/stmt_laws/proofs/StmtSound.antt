-- What the machine holds is in the grammar.
use Rattle.std.proofs.Common.{◌≡◌, ℕ, ◌≤◌, Bool, true, false, cond, List, [], ◌∷◌, ◌++◌, Option, Some, None, refl, ap, ◌∙◌, subst}
use Rattle.c_types.specs.declared.types.Span.{Span}
use Rattle.c_tree.specs.declared.expressions.Base.{Base}
use Rattle.c_tree.specs.declared.expressions.Base.TheVariants as base
use Rattle.c_tree.specs.declared.expressions.TypeName.{TypeName}
use Rattle.c_tree.specs.declared.expressions.Expr.{Expr}
use Rattle.c_tree.specs.declared.declarations.Decl.{Decl}
use Rattle.c_tree.specs.declared.statements.LocalDecl.{LocalDecl}
use Rattle.c_tree.specs.declared.statements.Local.TheVariants as local
use Rattle.c_tree.specs.declared.statements.ForStart.{ForStart}
use Rattle.c_tree.specs.declared.statements.ForStart.TheVariants as start_tree
use Rattle.c_tree.specs.declared.statements.BlockItem.{BlockItem}
use Rattle.c_tree.specs.declared.statements.BlockItem.TheVariants as block_item
use Rattle.c_tree.specs.declared.statements.Stmt.{Stmt}
use Rattle.c_tree.specs.declared.statements.Stmt.TheVariants as stmt
use Rattle.c_tree.specs.Height.{expr_height, optional_height, start_height, stmt_height}
use Rattle.c_tree.proofs.HeightLaws.{stmt_height-Empty, stmt_height-Break, stmt_height-Continue, stmt_height-VaStart, stmt_height-VaEnd}
use Rattle.c_lex.specs.declared.words.Word.{Word}
use Rattle.c_lex.specs.declared.words.Word.TheVariants as w
use Rattle.c_lex.specs.declared.marks.Mark.{Mark}
use Rattle.c_lex.specs.declared.marks.Mark.TheVariants as m
use Rattle.parse_terms.specs.declared.answer.Answer.{Answer}
use Rattle.parse_terms.specs.declared.answer.Answer.TheVariants.{More, Done, Bad}
use Rattle.parse_terms.specs.declared.terminal.Sort.{Sort}
use Rattle.parse_terms.specs.declared.terminal.Sort.TheVariants as sort
use Rattle.parse_terms.specs.declared.terminal.Terminal.{Terminal}
use Rattle.parse_terms.specs.declared.types.TypeState.{TypeState}
use Rattle.parse_terms.specs.declared.types.TypeState.TheVariants as type_state
use Rattle.parse_terms.specs.declared.declarators.DeclState.{DeclState}
use Rattle.parse_terms.specs.declared.declarators.DeclState.TheVariants as decl_state
use Rattle.parse_terms.specs.Terminals.{term, word, mark, named, name_of}
use Rattle.parse_terms.specs.TypeNames.{IsBase, typedef, no_stars, IsTypeName, type_named, type_step}
use Rattle.parse_terms.specs.Declarators.{IsDecl, decl_step}
use Rattle.parse_terms.specs.Runs.{Came, begun, taken}
use Rattle.parse_terms.proofs.TypeLaws.{TypeAt, TypeSaid, type_said as type_law}
use Rattle.parse_decl.proofs.DeclLaws.{DeclAt, at_stars, DeclSaid, decl_said as decl_law}
use Rattle.parse_expr.specs.declared.parts.Part.{Part}
use Rattle.parse_expr.specs.declared.state.ExprState.{ExprState}
use Rattle.parse_expr.specs.ExprGrammar.{is_effect, IsAssign}
use Rattle.parse_expr.specs.ExprMachine.{start, expr_step, IsRead}
use Rattle.parse_expr.proofs.ExprSound.{expr_sound}
use Rattle.parse_stmt.specs.declared.state.LocalPlace.{LocalPlace}
use Rattle.parse_stmt.specs.declared.state.LocalPlace.TheVariants as place
use Rattle.parse_stmt.specs.declared.state.Header.{Header}
use Rattle.parse_stmt.specs.declared.state.Header.TheVariants as header
use Rattle.parse_stmt.specs.declared.state.Slot.{Slot}
use Rattle.parse_stmt.specs.declared.state.Slot.TheVariants as slot
use Rattle.parse_stmt.specs.declared.state.Hole.{Hole}
use Rattle.parse_stmt.specs.declared.state.Hole.TheVariants as hole
use Rattle.parse_stmt.specs.declared.state.Frame.{Frame}
use Rattle.parse_stmt.specs.declared.state.Frame.TheVariants as frame
use Rattle.parse_stmt.specs.declared.state.Focus.{Focus}
use Rattle.parse_stmt.specs.declared.state.Focus.TheVariants as focus
use Rattle.parse_stmt.specs.declared.state.BodyState.{BodyState}
use Rattle.parse_stmt.specs.declared.parts.Capped.{Capped}
use Rattle.parse_stmt.specs.declared.parts.ForHead.{ForHead}
use Rattle.parse_stmt.specs.StmtGrammar.{local_decl, uninitialized, initialized, IsLocalDecls, no_decls as no_decls_read, another_decl, IsLocals, local_decls, variables, declared_local, va_list_local, IsForStart, start_local, start_effect, start_nothing, IsOptional, no_value, a_value, IsForStep, no_step, a_step, IsStmt, block_stmt, empty_stmt, effect_stmt, break_stmt, continue_stmt, if_alone, if_else, while_stmt, do_stmt, for_stmt, return_stmt, va_start_stmt, va_end_stmt, IsBlockItems, no_items as no_items_read, local_item, stmt_item}
use Rattle.parse_stmt.specs.StmtParts.{decls_height, items_height, capped, leaf_part, ExprPart, OptionPart, DeclsPart, StmtPart, Body, cap_body, of_part, no_items, no_decls, no_part, some_part, with_decl, with_stmt, with_locals, with_va_list, start_locals, start_part, head_of, for_head, block_part, effect_part, return_part, if_part, if_else_part, while_part, do_part, for_part}
use Rattle.parse_stmt.specs.StmtMachine.{state, idle, body_start, Said, slot_effect, hole_effect, end_locals, slot_close, slot_semicolon, hole_close, hole_semicolon, hole_comma, hole_step, expr_said, expr_at, feed, declared_mark, declared_step, decl_said, type_said, effect_hole, named_expr, named_effect, bare_local, bare_step, is_type_word, begin_type, stmt_word, stmt_mark, stmt_step, end_block, item_word, item_mark, item_step, settle, attach, do_step, after_stmt, ended_step, opened, paren_step, semicolon_step, close_step, comma_step, va_list_name, va_list_end, va_start_name, va_start_last, va_end_name, optional_name, optional_word, optional_mark, optional_step, body_step}
use Rattle.stmt_laws.proofs.PartLaws.{head_height, cap_expr, cap_option, cap_decls, cap_start, cap_head, cap_stmt, of_part-cap, stmt_leaf-cap, no_items-cap, no_decls-cap, no_part-cap, some_part-cap, with_decl-cap, with_stmt-cap, with_locals-cap, with_va_list-cap, start_locals-cap, start_part-cap, for_head-cap, block_part-cap, effect_part-cap, return_part-cap, if_part-cap, if_else_part-cap, while_part-cap, do_part-cap, for_part-cap}
use Rattle.stmt_laws.specs.Bodies.{IsBodyRead}

-- what stands in the parentheses of a `for`
pub data IsHead : ForHead → List Terminal → List Terminal → Type 0 where
  a_head : {i : ForStart} {c e : Option Expr} {a b d f : List Terminal} → IsForStart i a b → IsOptional c b d → IsForStep e d f → IsHead (head_of i (c, e)) a f

-- an expression that is an effect, if e says so
pub data IsIn (e : Bool) : Expr → List Terminal → List Terminal → Type 0 where
  in_hole : {x : Expr} {a b : List Terminal} → (e ≡ true → is_effect x ≡ true) → IsAssign x a b → IsIn e x a b

assign_of : {e : Bool} {x : Expr} {a b : List Terminal} → IsIn e x a b → IsAssign x a b
assign_of (in_hole f d) = d

effect_of : {x : Expr} {a b : List Terminal} → IsIn true x a b → is_effect x ≡ true
effect_of (in_hole f d) = f refl

comma_of : {ds : List LocalDecl} {s : Span} {a c : List Terminal} → IsLocals ds a (mark m.Comma s ∷ c) → IsLocalDecls ds a c
comma_of (local_decls i j) = another_decl i j

for_of : {o : Bool} {h : ForHead} {x : Stmt} {s t : Span} {a b c : List Terminal} → IsHead h a b → IsStmt o x b c → IsStmt o (stmt.For s h.start h.test h.step x) (word w.For s ∷ mark m.OpenParen t ∷ a) c
for_of (a_head i c e) x = for_stmt i c e x

module _ (n : ℕ) (low : 1 ≤ n) where
  -- a part is that of a tree between the tokens a and b
  pub record Held (A : Type 0) (height : A → ℕ) (R : A → List Terminal → List Terminal → Type 0) (p : Capped A) (a b : List Terminal) : Type 0 where
    pub tree : A
    pub is : p ≡ capped n tree (height tree)
    pub reads : R tree a b

  abbrev pub HExpr : Bool → ExprPart → List Terminal → List Terminal → Type 0
  HExpr e p a b = Held Expr expr_height (IsIn e) p a b

  abbrev pub HOptional : OptionPart → List Terminal → List Terminal → Type 0
  HOptional p a b = Held (Option Expr) optional_height IsOptional p a b

  abbrev pub HDecls : DeclsPart → List Terminal → List Terminal → Type 0
  HDecls p a b = Held (List LocalDecl) decls_height IsLocalDecls p a b

  abbrev pub HLocals : DeclsPart → List Terminal → List Terminal → Type 0
  HLocals p a b = Held (List LocalDecl) decls_height IsLocals p a b

  abbrev pub HStart : Capped ForStart → List Terminal → List Terminal → Type 0
  HStart p a b = Held ForStart start_height IsForStart p a b

  abbrev pub HHead : Capped ForHead → List Terminal → List Terminal → Type 0
  HHead p a b = Held ForHead head_height IsHead p a b

  abbrev pub HStmt : Bool → StmtPart → List Terminal → List Terminal → Type 0
  HStmt o p a b = Held Stmt stmt_height (IsStmt o) p a b

  abbrev pub HBody : Body → List Terminal → List Terminal → Type 0
  HBody p a b = Held (List BlockItem) items_height IsBlockItems p a b

  -- ---- what is done with parts

  h_leaf : (x : Stmt) {a b : List Terminal} → stmt_height x ≡ 1 → IsStmt false x a b → HStmt false (leaf_part x) a b
  h_leaf x h d = record { tree = x; is = stmt_leaf-cap n low x h; reads = d }

  h_no_items : (a : List Terminal) → HBody no_items a a
  h_no_items a = record { tree = []; is = no_items-cap n; reads = no_items_read }

  h_no_decls : (a : List Terminal) → HDecls no_decls a a
  h_no_decls a = record { tree = []; is = no_decls-cap n; reads = no_decls_read }

  h_with_stmt : {o : Bool} {d : Body} {x : StmtPart} {a b c : List Terminal} → HBody d a b → HStmt o x b c → HBody (with_stmt d x) a c
  h_with_stmt {x = x} i j = record {
    tree = i.tree ++ block_item.Stmt j.tree ∷ [];
    is = ap (λ v. with_stmt v x) i.is ∙ ap (with_stmt (cap_body n i.tree)) j.is ∙ with_stmt-cap n i.tree j.tree;
    reads = stmt_item i.reads j.reads;
  }

  h_with_va_list : {d : Body} {a b : List Terminal} (x : List ℕ) (s t u : Span) → HBody d a (word w.VaList s ∷ named x t ∷ mark m.Semicolon u ∷ b) → HBody (with_va_list s (name_of x t) d) a b
  h_with_va_list x s t u i = record {
    tree = i.tree ++ block_item.Local (local.VaList s (name_of x t)) ∷ [];
    is = ap (with_va_list s (name_of x t)) i.is ∙ with_va_list-cap n low s (name_of x t) i.tree;
    reads = local_item i.reads va_list_local;
  }

  h_with_locals : {d : Body} {b : Base} {ds : DeclsPart} (s : Span) {a c e f : List Terminal} → HBody d a c → IsBase b c e → HLocals ds e (mark m.Semicolon s ∷ f) → HBody (with_locals n b ds d) a f
  h_with_locals {d} {b} {ds} s i j k = record {
    tree = i.tree ++ block_item.Local (local.Declared b k.tree) ∷ [];
    is = ap (λ v. with_locals n b v d) k.is ∙ ap (with_locals n b (cap_decls n k.tree)) i.is ∙ with_locals-cap n b k.tree i.tree;
    reads = local_item i.reads (declared_local (variables j k.reads));
  }

  h_start_locals : {b : Base} {ds : DeclsPart} (s : Span) {c e f : List Terminal} → IsBase b c e → HLocals ds e (mark m.Semicolon s ∷ f) → HStart (start_locals n b ds) c f
  h_start_locals {b} s j k = record {
    tree = start_tree.Local b k.tree;
    is = ap (start_locals n b) k.is ∙ start_locals-cap n b k.tree;
    reads = start_local (variables j k.reads);
  }

  h_start_effect : {p : ExprPart} (s : Span) {a b : List Terminal} → HExpr true p a (mark m.Semicolon s ∷ b) → HStart (start_part (some_part p)) a b
  h_start_effect s i = record {
    tree = start_tree.Effect i.tree;
    is = ap (λ v. start_part (some_part v)) i.is ∙ ap start_part (some_part-cap n i.tree) ∙ start_part-cap n (Some i.tree);
    reads = start_effect (effect_of i.reads) (assign_of i.reads);
  }

  h_start_nothing : (s : Span) (a : List Terminal) → HStart (start_part no_part) (mark m.Semicolon s ∷ a) a
  h_start_nothing s a = record { tree = start_tree.Nothing; is = ap start_part (no_part-cap n) ∙ start_part-cap n None; reads = start_nothing }

  h_value : {p : ExprPart} (s : Span) {a b : List Terminal} → HExpr false p a (mark m.Semicolon s ∷ b) → HOptional (some_part p) a b
  h_value s i = record { tree = Some i.tree; is = ap some_part i.is ∙ some_part-cap n i.tree; reads = a_value (assign_of i.reads) }

  h_no_value : (s : Span) (a : List Terminal) → HOptional no_part (mark m.Semicolon s ∷ a) a
  h_no_value s a = record { tree = None; is = no_part-cap n; reads = no_value }

  h_head : {i : Capped ForStart} {c : OptionPart} {p : ExprPart} (s : Span) {a b d f : List Terminal} → HStart i a b → HOptional c b d → HExpr true p d (mark m.CloseParen s ∷ f) → HHead (for_head i c (some_part p)) a f
  h_head {i} {c} {p} s x y z = record {
    tree = head_of x.tree (y.tree, Some z.tree);
    is = ap (λ v. for_head v c (some_part p)) x.is
        ∙ ap (λ v. for_head (cap_start n x.tree) v (some_part p)) y.is
        ∙ ap (λ v. for_head (cap_start n x.tree) (cap_option n y.tree) v) (ap some_part z.is ∙ some_part-cap n z.tree)
        ∙ for_head-cap n x.tree y.tree (Some z.tree);
    reads = a_head x.reads y.reads (a_step (effect_of z.reads) (assign_of z.reads));
  }

  h_head_short : {i : Capped ForStart} {c : OptionPart} (s : Span) {a b f : List Terminal} → HStart i a b → HOptional c b (mark m.CloseParen s ∷ f) → HHead (for_head i c no_part) a f
  h_head_short {i} {c} s x y = record {
    tree = head_of x.tree (y.tree, None);
    is = ap (λ v. for_head v c no_part) x.is
        ∙ ap (λ v. for_head (cap_start n x.tree) v no_part) y.is
        ∙ ap (λ v. for_head (cap_start n x.tree) (cap_option n y.tree) v) (no_part-cap n)
        ∙ for_head-cap n x.tree y.tree None;
    reads = a_head x.reads y.reads no_step;
  }

  h_decl : {ds : DeclsPart} {y : Decl} {a b c : List Terminal} → HDecls ds a b → IsDecl y b c → HLocals (with_decl ds y no_part) a c
  h_decl {ds} {y} i j = record {
    tree = i.tree ++ local_decl y None ∷ [];
    is = ap (λ v. with_decl v y no_part) i.is ∙ ap (with_decl (cap_decls n i.tree) y) (no_part-cap n) ∙ with_decl-cap n low i.tree y None;
    reads = local_decls i.reads (uninitialized j);
  }

  h_init : {ds : DeclsPart} {y : Decl} {p : ExprPart} (s : Span) {a b e c : List Terminal} → HDecls ds a b → IsDecl y b (mark m.Equal s ∷ e) → HExpr false p e c → HLocals (with_decl ds y (some_part p)) a c
  h_init {ds} {y} {p} s i j k = record {
    tree = i.tree ++ local_decl y (Some k.tree) ∷ [];
    is = ap (λ v. with_decl v y (some_part p)) i.is
        ∙ ap (with_decl (cap_decls n i.tree) y) (ap some_part k.is ∙ some_part-cap n k.tree)
        ∙ with_decl-cap n low i.tree y (Some k.tree);
    reads = local_decls i.reads (initialized j (assign_of k.reads));
  }

  h_comma : {ds : DeclsPart} (s : Span) {a c : List Terminal} → HLocals ds a (mark m.Comma s ∷ c) → HDecls ds a c
  h_comma s i = record { tree = i.tree; is = i.is; reads = comma_of i.reads }

  h_block : {d : Body} (s t : Span) {a b : List Terminal} → HBody d a (mark m.CloseBrace t ∷ b) → HStmt false (block_part n s d) (mark m.OpenBrace s ∷ a) b
  h_block s t i = record { tree = stmt.Block s i.tree; is = ap (block_part n s) i.is ∙ block_part-cap n s i.tree; reads = block_stmt i.reads }

  h_effect : {p : ExprPart} (s : Span) {a b : List Terminal} → HExpr true p a (mark m.Semicolon s ∷ b) → HStmt false (effect_part n p) a b
  h_effect s i = record { tree = stmt.Effect i.tree; is = ap (effect_part n) i.is ∙ effect_part-cap n i.tree; reads = effect_stmt (effect_of i.reads) (assign_of i.reads) }

  h_return : {p : OptionPart} (s : Span) {a b : List Terminal} → HOptional p a b → HStmt false (return_part n s p) (word w.Return s ∷ a) b
  h_return s i = record { tree = stmt.Return s i.tree; is = ap (return_part n s) i.is ∙ return_part-cap n s i.tree; reads = return_stmt i.reads }

  h_if : {o : Bool} {p : ExprPart} {x : StmtPart} (s t u : Span) {a b c : List Terminal} → HExpr false p a (mark m.CloseParen u ∷ b) → HStmt o x b c → HStmt true (if_part n s p x) (word w.If s ∷ mark m.OpenParen t ∷ a) c
  h_if {x = x} s t u i j = record {
    tree = stmt.If s i.tree j.tree;
    is = ap (λ v. if_part n s v x) i.is ∙ ap (if_part n s (cap_expr n i.tree)) j.is ∙ if_part-cap n s i.tree j.tree;
    reads = if_alone (assign_of i.reads) j.reads;
  }

  h_if_else : {o : Bool} {p : ExprPart} {x y : StmtPart} (s t u v : Span) {a b c d : List Terminal} → HExpr false p a (mark m.CloseParen u ∷ b) → HStmt false x b (word w.Else v ∷ c) → HStmt o y c d →
      HStmt o (if_else_part n s p x y) (word w.If s ∷ mark m.OpenParen t ∷ a) d
  h_if_else {p = p} {x = x} {y = y} s t u v i j k = record {
    tree = stmt.IfElse s i.tree j.tree k.tree;
    is = ap (λ z. if_else_part n s z x y) i.is
        ∙ ap (λ z. if_else_part n s (cap_expr n i.tree) z y) j.is
        ∙ ap (if_else_part n s (cap_expr n i.tree) (cap_stmt n j.tree)) k.is
        ∙ if_else_part-cap n s i.tree j.tree k.tree;
    reads = if_else (assign_of i.reads) j.reads k.reads;
  }

  h_while : {o : Bool} {p : ExprPart} {x : StmtPart} (s t u : Span) {a b c : List Terminal} → HExpr false p a (mark m.CloseParen u ∷ b) → HStmt o x b c → HStmt o (while_part n s p x) (word w.While s ∷ mark m.OpenParen t ∷ a) c
  h_while {x = x} s t u i j = record {
    tree = stmt.While s i.tree j.tree;
    is = ap (λ v. while_part n s v x) i.is ∙ ap (while_part n s (cap_expr n i.tree)) j.is ∙ while_part-cap n s i.tree j.tree;
    reads = while_stmt (assign_of i.reads) j.reads;
  }

  h_do : {o : Bool} {p : ExprPart} {x : StmtPart} (s t u v r : Span) {a b c : List Terminal} → HStmt o x a (word w.While t ∷ mark m.OpenParen u ∷ b) → HExpr false p b (mark m.CloseParen v ∷ mark m.Semicolon r ∷ c) →
      HStmt false (do_part n s x p) (word w.Do s ∷ a) c
  h_do {p = p} s t u v r j i = record {
    tree = stmt.Do s j.tree i.tree;
    is = ap (λ z. do_part n s z p) j.is ∙ ap (do_part n s (cap_stmt n j.tree)) i.is ∙ do_part-cap n s j.tree i.tree;
    reads = do_stmt j.reads (assign_of i.reads);
  }

  h_for : {o : Bool} {h : Capped ForHead} {x : StmtPart} (s t : Span) {a b c : List Terminal} → HHead h a b → HStmt o x b c → HStmt o (for_part n s h x) (word w.For s ∷ mark m.OpenParen t ∷ a) c
  h_for {x = x} s t i j = record {
    tree = stmt.For s i.tree.start i.tree.test i.tree.step j.tree;
    is = ap (λ v. for_part n s v x) i.is ∙ ap (for_part n s (cap_head n i.tree)) j.is ∙ for_part-cap n s i.tree j.tree;
    reads = for_of i.reads j.reads;
  }

  module _ (all : List Terminal) where
    -- ---- where the machine is

    -- What waits stands between all and a; the first argument says whether a block's items are there.
    pub data Room : Bool → Body → List Frame → List Terminal → Type 0 where
      top : {d : Body} {a : List Terminal} → HBody d all a → Room true d [] a
      nested : {l : Bool} {before d : Body} {fs : List Frame} {b a : List Terminal} (s : Span) → Room l before fs (mark m.OpenBrace s ∷ b) → HBody d b a → Room true d (frame.Nested s before ∷ fs) a
      then_room : {l : Bool} {d : Body} {p : ExprPart} {fs : List Frame} {b a : List Terminal} (s t u : Span) → Room l d fs (word w.If s ∷ mark m.OpenParen t ∷ b) → HExpr false p b (mark m.CloseParen u ∷ a) →
          Room false d (frame.Then s p ∷ fs) a
      else_room : {l : Bool} {d : Body} {p : ExprPart} {x : StmtPart} {fs : List Frame} {b c a : List Terminal} (s t u v : Span) → Room l d fs (word w.If s ∷ mark m.OpenParen t ∷ b) → HExpr false p b (mark m.CloseParen u ∷ c) →
          HStmt false x c (word w.Else v ∷ a) → Room false d (frame.Else s p x ∷ fs) a
      while_room : {l : Bool} {d : Body} {p : ExprPart} {fs : List Frame} {b a : List Terminal} (s t u : Span) → Room l d fs (word w.While s ∷ mark m.OpenParen t ∷ b) → HExpr false p b (mark m.CloseParen u ∷ a) →
          Room false d (frame.While s p ∷ fs) a
      do_room : {l : Bool} {d : Body} {fs : List Frame} {a : List Terminal} (s : Span) → Room l d fs (word w.Do s ∷ a) → Room false d (frame.Do s ∷ fs) a
      for_room : {l : Bool} {d : Body} {h : Capped ForHead} {fs : List Frame} {b a : List Terminal} (s t : Span) → Room l d fs (word w.For s ∷ mark m.OpenParen t ∷ b) → HHead h b a → Room false d (frame.For s h ∷ fs) a

    -- where locals begin
    pub data PlaceAt : LocalPlace → Body → List Frame → List Terminal → Type 0 where
      in_block : {d : Body} {fs : List Frame} {a : List Terminal} → Room true d fs a → PlaceAt place.Block d fs a
      in_for : {l : Bool} {d : Body} {fs : List Frame} {a : List Terminal} (s t : Span) → Room l d fs (word w.For s ∷ mark m.OpenParen t ∷ a) → PlaceAt (place.For s) d fs a

    -- behind the word of a header
    pub data HeaderAt : Header → Body → List Frame → List Terminal → Type 0 where
      if_header : {l : Bool} {d : Body} {fs : List Frame} {a : List Terminal} (s : Span) → Room l d fs (word w.If s ∷ a) → HeaderAt (header.If s) d fs a
      while_header : {l : Bool} {d : Body} {fs : List Frame} {a : List Terminal} (s : Span) → Room l d fs (word w.While s ∷ a) → HeaderAt (header.While s) d fs a
      do_header : {l o : Bool} {x : StmtPart} {d : Body} {fs : List Frame} {b a : List Terminal} (s t : Span) → Room l d fs (word w.Do s ∷ b) → HStmt o x b (word w.While t ∷ a) → HeaderAt (header.Do s x) d fs a
      for_header : {l : Bool} {d : Body} {fs : List Frame} {a : List Terminal} (s : Span) → Room l d fs (word w.For s ∷ a) → HeaderAt (header.For s) d fs a
      va_start_header : {l : Bool} {d : Body} {fs : List Frame} {a : List Terminal} (s : Span) → Room l d fs (word w.VaStart s ∷ a) → HeaderAt (header.VaStart s) d fs a
      va_end_header : {l : Bool} {d : Body} {fs : List Frame} {a : List Terminal} (s : Span) → Room l d fs (word w.VaEnd s ∷ a) → HeaderAt (header.VaEnd s) d fs a

    -- where an expression may be left out
    pub data SlotAt : Slot → Body → List Frame → List Terminal → Type 0 where
      at_start : {l : Bool} {d : Body} {fs : List Frame} {a : List Terminal} (s t : Span) → Room l d fs (word w.For s ∷ mark m.OpenParen t ∷ a) → SlotAt (slot.Start s) d fs a
      at_test : {l : Bool} {i : Capped ForStart} {d : Body} {fs : List Frame} {b a : List Terminal} (s t : Span) → Room l d fs (word w.For s ∷ mark m.OpenParen t ∷ b) → HStart i b a → SlotAt (slot.Test s i) d fs a
      at_step : {l : Bool} {i : Capped ForStart} {c : OptionPart} {d : Body} {fs : List Frame} {b e a : List Terminal} (s t : Span) → Room l d fs (word w.For s ∷ mark m.OpenParen t ∷ b) → HStart i b e → HOptional c e a →
          SlotAt (slot.Step s i c) d fs a
      at_return : {l : Bool} {d : Body} {fs : List Frame} {a : List Terminal} (s : Span) → Room l d fs (word w.Return s ∷ a) → SlotAt (slot.Return s) d fs a

    -- where an expression begins
    pub data HoleAt : Hole → Body → List Frame → List Terminal → Type 0 where
      at_effect : {l : Bool} {d : Body} {fs : List Frame} {a : List Terminal} → Room l d fs a → HoleAt hole.Effect d fs a
      at_if : {l : Bool} {d : Body} {fs : List Frame} {a : List Terminal} (s t : Span) → Room l d fs (word w.If s ∷ mark m.OpenParen t ∷ a) → HoleAt (hole.If s) d fs a
      at_while : {l : Bool} {d : Body} {fs : List Frame} {a : List Terminal} (s t : Span) → Room l d fs (word w.While s ∷ mark m.OpenParen t ∷ a) → HoleAt (hole.While s) d fs a
      at_do : {l o : Bool} {x : StmtPart} {d : Body} {fs : List Frame} {b a : List Terminal} (s t u : Span) → Room l d fs (word w.Do s ∷ b) → HStmt o x b (word w.While t ∷ mark m.OpenParen u ∷ a) → HoleAt (hole.Do s x) d fs a
      at_init : {p : LocalPlace} {y : Base} {ds : DeclsPart} {z : Decl} {d : Body} {fs : List Frame} {b c e a : List Terminal} (s : Span) → PlaceAt p d fs b → IsBase y b c → HDecls ds c e → IsDecl z e (mark m.Equal s ∷ a) →
          HoleAt (hole.Init p y ds z) d fs a
      at_slot : {l : Slot} {d : Body} {fs : List Frame} {a : List Terminal} → SlotAt l d fs a → HoleAt (hole.Slot l) d fs a

    -- a statement but for its `;`
    pub data Pending : StmtPart → List Terminal → List Terminal → Type 0 where
      p_break : {a : List Terminal} (s : Span) → Pending (leaf_part (stmt.Break s)) (word w.Break s ∷ a) a
      p_continue : {a : List Terminal} (s : Span) → Pending (leaf_part (stmt.Continue s)) (word w.Continue s ∷ a) a
      p_do : {o : Bool} {x : StmtPart} {p : ExprPart} {a b c : List Terminal} (s t u v : Span) → HStmt o x a (word w.While t ∷ mark m.OpenParen u ∷ b) → HExpr false p b (mark m.CloseParen v ∷ c) →
          Pending (do_part n s x p) (word w.Do s ∷ a) c
      p_va_start : {a : List Terminal} (x y : List ℕ) (s t u v q r : Span) →
          Pending (leaf_part (stmt.VaStart s (name_of x u) (name_of y q))) (word w.VaStart s ∷ mark m.OpenParen t ∷ named x u ∷ mark m.Comma v ∷ named y q ∷ mark m.CloseParen r ∷ a) a
      p_va_end : {a : List Terminal} (x : List ℕ) (s t u r : Span) → Pending (leaf_part (stmt.VaEnd s (name_of x u))) (word w.VaEnd s ∷ mark m.OpenParen t ∷ named x u ∷ mark m.CloseParen r ∷ a) a

    -- a statement but for its `)` and `;`
    pub data Unclosed : StmtPart → List Terminal → List Terminal → Type 0 where
      u_va_start : {a : List Terminal} (x y : List ℕ) (s t u v q : Span) →
          Unclosed (leaf_part (stmt.VaStart s (name_of x u) (name_of y q))) (word w.VaStart s ∷ mark m.OpenParen t ∷ named x u ∷ mark m.Comma v ∷ named y q ∷ a) a
      u_va_end : {a : List Terminal} (x : List ℕ) (s t u : Span) → Unclosed (leaf_part (stmt.VaEnd s (name_of x u))) (word w.VaEnd s ∷ mark m.OpenParen t ∷ named x u ∷ a) a

    abbrev pub here : Focus → Body → List Frame → BodyState
    here f d fs = state f idle d fs

    pub data Sound : BodyState → List Terminal → Type 0 where
      s_item : {d : Body} {fs : List Frame} {a : List Terminal} → Room true d fs a → Sound (here focus.Item d fs) a
      s_stmt : {l : Bool} {d : Body} {fs : List Frame} {a : List Terminal} → Room l d fs a → Sound (here focus.Stmt d fs) a
      s_ended : {l : Bool} {x : StmtPart} {d : Body} {fs : List Frame} {b a : List Terminal} → Room l d fs b → HStmt false x b a → Sound (here (focus.Ended x) d fs) a
      s_paren : {h : Header} {d : Body} {fs : List Frame} {a : List Terminal} → HeaderAt h d fs a → Sound (here (focus.Paren h) d fs) a
      s_semicolon : {l : Bool} {x : StmtPart} {d : Body} {fs : List Frame} {b a : List Terminal} → Room l d fs b → Pending x b a → Sound (here (focus.Semicolon x) d fs) a
      s_expr : {h : Hole} {e : ExprState} {d : Body} {fs : List Frame} {b a : List Terminal} → HoleAt h d fs b → Came (expr_step n) (start (hole_effect h)) b e a → Sound (state (focus.Expr h) e d fs) a
      s_optional : {l : Slot} {d : Body} {fs : List Frame} {a : List Terminal} → SlotAt l d fs a → Sound (here (focus.Optional l) d fs) a
      s_bare : {p : LocalPlace} {d : Body} {fs : List Frame} {a : List Terminal} (x : List ℕ) (s : Span) → PlaceAt p d fs (named x s ∷ a) → Sound (here (focus.Bare p (name_of x s)) d fs) a
      s_typing : {p : LocalPlace} {y : TypeState} {d : Body} {fs : List Frame} {b a : List Terminal} → PlaceAt p d fs b → TypeAt y b a → Sound (here (focus.Typing p y) d fs) a
      s_declaring : {p : LocalPlace} {y : Base} {ds : DeclsPart} {z : DeclState} {d : Body} {fs : List Frame} {b c e a : List Terminal} → PlaceAt p d fs b → IsBase y b c → HDecls ds c e → DeclAt e z a →
          Sound (here (focus.Declaring p y ds z) d fs) a
      s_va_list : {d : Body} {fs : List Frame} {a : List Terminal} (s : Span) → Room true d fs (word w.VaList s ∷ a) → Sound (here (focus.VaList s) d fs) a
      s_va_list_end : {d : Body} {fs : List Frame} {a : List Terminal} (x : List ℕ) (s t : Span) → Room true d fs (word w.VaList s ∷ named x t ∷ a) → Sound (here (focus.VaListEnd s (name_of x t)) d fs) a
      s_va_start_name : {l : Bool} {d : Body} {fs : List Frame} {a : List Terminal} (s t : Span) → Room l d fs (word w.VaStart s ∷ mark m.OpenParen t ∷ a) → Sound (here (focus.VaStartName s) d fs) a
      s_va_start_comma : {l : Bool} {d : Body} {fs : List Frame} {a : List Terminal} (x : List ℕ) (s t u : Span) → Room l d fs (word w.VaStart s ∷ mark m.OpenParen t ∷ named x u ∷ a) →
          Sound (here (focus.VaStartComma s (name_of x u)) d fs) a
      s_va_start_last : {l : Bool} {d : Body} {fs : List Frame} {a : List Terminal} (x : List ℕ) (s t u v : Span) → Room l d fs (word w.VaStart s ∷ mark m.OpenParen t ∷ named x u ∷ mark m.Comma v ∷ a) →
          Sound (here (focus.VaStartLast s (name_of x u)) d fs) a
      s_va_end_name : {l : Bool} {d : Body} {fs : List Frame} {a : List Terminal} (s t : Span) → Room l d fs (word w.VaEnd s ∷ mark m.OpenParen t ∷ a) → Sound (here (focus.VaEndName s) d fs) a
      s_va_close : {l : Bool} {x : StmtPart} {d : Body} {fs : List Frame} {b a : List Terminal} → Room l d fs b → Unclosed x b a → Sound (here (focus.VaClose x) d fs) a

    -- what is said to a token t before a
    abbrev pub IfSound : Said → Terminal → List Terminal → Type 0
    IfSound (More st) t a = Sound st a
    IfSound (Done p) t a = HBody p all (t ∷ a) × (t.sort ≡ sort.Mark m.CloseBrace)
    IfSound Bad t a = Unit {0}

    cond_case : {A : Type 0} (P : A → Type 0) (v : Bool) (x y : A) → (v ≡ true → P x) → (v ≡ false → P y) → P (cond v x y)
    cond_case P true x y f g = f refl
    cond_case P false x y f g = g refl

    -- ---- locals

    locals_sound : {p : LocalPlace} {y : Base} {ds : DeclsPart} {d : Body} {fs : List Frame} {b c a : List Terminal} (s : Span) (t : Terminal) → PlaceAt p d fs b → IsBase y b c → HLocals ds c (mark m.Semicolon s ∷ a) →
        IfSound (end_locals n p y ds (here focus.Item d fs)) t a
    locals_sound s t (in_block (top i)) j k = s_item (top (h_with_locals s i j k))
    locals_sound s t (in_block (nested u r i)) j k = s_item (nested u r (h_with_locals s i j k))
    locals_sound s t (in_for u v r) j k = s_optional (at_test u v r (h_start_locals s j k))

    declared_mark_sound : (k : Mark) (s : Span) {p : LocalPlace} {y : Base} {ds : DeclsPart} {z : Decl} {d : Body} {fs : List Frame} {b c e a : List Terminal} →
        PlaceAt p d fs b → IsBase y b c → HDecls ds c e → IsDecl z e (mark k s ∷ a) → IfSound (declared_mark n k p y ds z (here focus.Item d fs)) (mark k s) a
    declared_mark_sound m.Equal s r i j k = s_expr (at_init s r i j k) begun
    declared_mark_sound m.Comma s r i j k = s_declaring r i (h_comma s (h_decl j k)) (at_stars no_stars)
    declared_mark_sound m.Semicolon s r i j k = locals_sound s (mark m.Semicolon s) r i (h_decl j k)
    declared_mark_sound _ s r i j k = tt

    declared_sound : (k : Sort) (s : Span) {p : LocalPlace} {y : Base} {ds : DeclsPart} {z : Decl} {d : Body} {fs : List Frame} {b c e a : List Terminal} →
        PlaceAt p d fs b → IsBase y b c → HDecls ds c e → IsDecl z e (term k s ∷ a) → IfSound (declared_step n k p y ds z (here focus.Item d fs)) (term k s) a
    declared_sound (sort.Mark k) s r i j l = declared_mark_sound k s r i j l
    declared_sound (sort.Name x) s r i j l = tt
    declared_sound (sort.Number v t) s r i j l = tt
    declared_sound (sort.Char c) s r i j l = tt
    declared_sound (sort.Word v) s r i j l = tt
    declared_sound (sort.Text x) s r i j l = tt
    declared_sound sort.Unknown s r i j l = tt

    decl_sound : (t : Terminal) (a : List Terminal) (v : Answer DeclState Decl) {p : LocalPlace} {y : Base} {ds : DeclsPart} {d : Body} {fs : List Frame} {b c e : List Terminal} →
        PlaceAt p d fs b → IsBase y b c → HDecls ds c e → DeclSaid v e t a → IfSound (decl_said n t.sort p y ds v (here focus.Item d fs)) t a
    decl_sound t a (More z) r i j k = s_declaring r i j k
    decl_sound t a (Done z) r i j k = declared_sound t.sort t.span r i j k
    decl_sound t a Bad r i j k = tt

    typed_sound : (t : Terminal) (y : TypeName) {p : LocalPlace} {d : Body} {fs : List Frame} {b a : List Terminal} → PlaceAt p d fs b → IsTypeName y b (t ∷ a) →
        IfSound (decl_said n t.sort p y.base no_decls (decl_step t (decl_state.Stars y.stars)) (here focus.Item d fs)) t a
    typed_sound t y {a = a} r (type_named {ss = ss} {c = c} i j) = decl_sound t a (decl_step t (decl_state.Stars ss)) r i (h_no_decls c) (decl_law t (at_stars j))

    type_sound : (t : Terminal) (a : List Terminal) (v : Answer TypeState TypeName) {p : LocalPlace} {d : Body} {fs : List Frame} {b : List Terminal} → PlaceAt p d fs b → TypeSaid v b t a →
        IfSound (type_said n t p v (here focus.Item d fs)) t a
    type_sound t a (More y) r i = s_typing r i
    type_sound t a (Done y) r i = typed_sound t y r i
    type_sound t a Bad r i = tt

    begin_type_sound : (t : Terminal) {p : LocalPlace} {d : Body} {fs : List Frame} {a : List Terminal} → PlaceAt p d fs (t ∷ a) → IfSound (begin_type n t p (here focus.Item d fs)) t a
    unfolding begin_type
    begin_type_sound t {a = a} r = type_sound t a (type_step t type_state.Opening) r (type_law t type_state.Opening (t ∷ a) a refl)

    -- ---- expressions

    slot_close_sound : (s : Span) (t : Terminal) {l : Slot} {p : ExprPart} {d : Body} {fs : List Frame} {b a : List Terminal} → SlotAt l d fs b → HExpr (slot_effect l) p b (mark m.CloseParen s ∷ a) →
        IfSound (slot_close l (some_part p) (here focus.Item d fs)) t a
    slot_close_sound s t (at_start u v r) i = tt
    slot_close_sound s t (at_test u v r j) i = tt
    slot_close_sound s t (at_step u v r j k) i = s_stmt (for_room u v r (h_head s j k i))
    slot_close_sound s t (at_return u r) i = tt

    slot_semicolon_sound : (s : Span) (t : Terminal) {l : Slot} {p : ExprPart} {d : Body} {fs : List Frame} {b a : List Terminal} → SlotAt l d fs b → HExpr (slot_effect l) p b (mark m.Semicolon s ∷ a) →
        IfSound (slot_semicolon n l (some_part p) (here focus.Item d fs)) t a
    slot_semicolon_sound s t (at_start u v r) i = s_optional (at_test u v r (h_start_effect s i))
    slot_semicolon_sound s t (at_test u v r j) i = s_optional (at_step u v r j (h_value s i))
    slot_semicolon_sound s t (at_step u v r j k) i = tt
    slot_semicolon_sound s t (at_return u r) i = s_ended r (h_return u (h_value s i))

    hole_close_sound : (s : Span) (t : Terminal) {h : Hole} {p : ExprPart} {d : Body} {fs : List Frame} {b a : List Terminal} → HoleAt h d fs b → HExpr (hole_effect h) p b (mark m.CloseParen s ∷ a) →
        IfSound (hole_close n h p (here focus.Item d fs)) t a
    hole_close_sound s t (at_effect r) i = tt
    hole_close_sound s t (at_if u v r) i = s_stmt (then_room u v s r i)
    hole_close_sound s t (at_while u v r) i = s_stmt (while_room u v s r i)
    hole_close_sound s t (at_do u v q r j) i = s_semicolon r (p_do u v q s j i)
    hole_close_sound s t (at_init u r j k l) i = tt
    hole_close_sound s t (at_slot r) i = slot_close_sound s t r i

    hole_semicolon_sound : (s : Span) (t : Terminal) {h : Hole} {p : ExprPart} {d : Body} {fs : List Frame} {b a : List Terminal} → HoleAt h d fs b → HExpr (hole_effect h) p b (mark m.Semicolon s ∷ a) →
        IfSound (hole_semicolon n h p (here focus.Item d fs)) t a
    hole_semicolon_sound s t (at_effect r) i = s_ended r (h_effect s i)
    hole_semicolon_sound s t (at_if u v r) i = tt
    hole_semicolon_sound s t (at_while u v r) i = tt
    hole_semicolon_sound s t (at_do u v q r j) i = tt
    hole_semicolon_sound s t (at_init u r j k l) i = locals_sound s t r j (h_init u k l i)
    hole_semicolon_sound s t (at_slot r) i = slot_semicolon_sound s t r i

    hole_comma_sound : (s : Span) (t : Terminal) {h : Hole} {p : ExprPart} {d : Body} {fs : List Frame} {b a : List Terminal} → HoleAt h d fs b → HExpr (hole_effect h) p b (mark m.Comma s ∷ a) →
        IfSound (hole_comma h p (here focus.Item d fs)) t a
    hole_comma_sound s t (at_effect r) i = tt
    hole_comma_sound s t (at_if u v r) i = tt
    hole_comma_sound s t (at_while u v r) i = tt
    hole_comma_sound s t (at_do u v q r j) i = tt
    hole_comma_sound s t (at_init u r j k l) i = s_declaring r j (h_comma s (h_init u k l i)) (at_stars no_stars)
    hole_comma_sound s t (at_slot r) i = tt

    hole_sound : (k : Sort) (s : Span) {h : Hole} {p : ExprPart} {d : Body} {fs : List Frame} {b a : List Terminal} → HoleAt h d fs b → HExpr (hole_effect h) p b (term k s ∷ a) →
        IfSound (hole_step n k h p (here focus.Item d fs)) (term k s) a
    hole_sound (sort.Mark m.CloseParen) s r i = hole_close_sound s (mark m.CloseParen s) r i
    hole_sound (sort.Mark m.Semicolon) s r i = hole_semicolon_sound s (mark m.Semicolon s) r i
    hole_sound (sort.Mark m.Comma) s r i = hole_comma_sound s (mark m.Comma s) r i
    hole_sound _ s r i = tt

    h_read : (e : Bool) {p : Part} {z a : List Terminal} (t : Terminal) → IsRead n e p z t a → HExpr e (of_part p) z (t ∷ a)
    h_read e t i = record { tree = i.tree; is = ap of_part i.is ∙ of_part-cap n i.tree; reads = in_hole i.effect i.reads }

    expr_sound_at : (t : Terminal) {h : Hole} {e : ExprState} {d : Body} {fs : List Frame} {b a : List Terminal} → HoleAt h d fs b → Came (expr_step n) (start (hole_effect h)) b e (t ∷ a) →
        (v : Answer ExprState Part) → expr_step n t e ≡ v → IfSound (expr_said n t.sort h v (state focus.Item e d fs)) t a
    expr_sound_at t r c (More x) q = s_expr r (taken c q)
    expr_sound_at t {h = h} {e = e} {b = b} {a = a} r c (Done p) q = hole_sound t.sort t.span r (h_read (hole_effect h) t (expr_sound n low (hole_effect h) b e p t a c q))
    expr_sound_at t r c Bad q = tt

    expr_at_sound : (t : Terminal) {h : Hole} {e : ExprState} {d : Body} {fs : List Frame} {b a : List Terminal} → HoleAt h d fs b → Came (expr_step n) (start (hole_effect h)) b e (t ∷ a) → IfSound (expr_at n t h (state focus.Item e d fs)) t a
    expr_at_sound t {e = e} r c = expr_sound_at t r c (expr_step n t e) refl

    feed_sound : (t : Terminal) {h : Hole} {d : Body} {fs : List Frame} {a : List Terminal} → HoleAt h d fs (t ∷ a) → IfSound (feed n t h (here focus.Item d fs)) t a
    unfolding feed
    feed_sound t r = expr_at_sound t r begun

    -- ---- behind a name

    place_hole : {p : LocalPlace} {d : Body} {fs : List Frame} {a : List Terminal} → PlaceAt p d fs a → HoleAt (effect_hole p) d fs a
    place_hole (in_block r) = at_effect r
    place_hole (in_for s t r) = at_slot (at_start s t r)

    named_came : (p : LocalPlace) (x : List ℕ) (s : Span) (a : List Terminal) → Came (expr_step n) (start (hole_effect (effect_hole p))) (named x s ∷ a) (named_expr (name_of x s)) a
    named_came place.Block x s a = taken begun refl
    named_came (place.For u) x s a = taken begun refl

    bare_effect_sound : (t : Terminal) (x : List ℕ) (u : Span) {p : LocalPlace} {d : Body} {fs : List Frame} {a : List Terminal} → PlaceAt p d fs (named x u ∷ t ∷ a) →
        IfSound (expr_at n t (effect_hole p) (state focus.Item (named_expr (name_of x u)) d fs)) t a
    bare_effect_sound t x u {p = p} {a = a} r = expr_at_sound t (place_hole r) (named_came p x u (t ∷ a))

    bare_local_sound : (t : Terminal) (x : List ℕ) (u : Span) {p : LocalPlace} {d : Body} {fs : List Frame} {a : List Terminal} → PlaceAt p d fs (named x u ∷ t ∷ a) →
        IfSound (bare_local n t p (name_of x u) (here focus.Item d fs)) t a
    bare_local_sound t x u {a = a} r =
        type_sound t a (type_step t (type_state.Stars (base.Named (name_of x u)) [])) r
        (type_law t (type_state.Stars (base.Named (name_of x u)) []) (named x u ∷ t ∷ a) a (t ∷ a, typedef, no_stars))

    bare_sound : (k : Sort) (s : Span) (x : List ℕ) (u : Span) {p : LocalPlace} {d : Body} {fs : List Frame} {a : List Terminal} → PlaceAt p d fs (named x u ∷ term k s ∷ a) →
        IfSound (bare_step n (term k s) k p (name_of x u) (here focus.Item d fs)) (term k s) a
    unfolding named_effect
    bare_sound (sort.Name y) s x u r = bare_local_sound (named y s) x u r
    bare_sound (sort.Mark m.Star) s x u r = bare_local_sound (mark m.Star s) x u r
    bare_sound k s x u r = bare_effect_sound (term k s) x u r

    -- ---- where a statement begins

    stmt_word_sound : (v : Word) (s : Span) {l : Bool} {d : Body} {fs : List Frame} {a : List Terminal} → Room l d fs (word v s ∷ a) → IfSound (stmt_word n (word v s) v (here focus.Item d fs)) (word v s) a
    stmt_word_sound w.If s r = s_paren (if_header s r)
    stmt_word_sound w.While s r = s_paren (while_header s r)
    stmt_word_sound w.Do s r = s_stmt (do_room s r)
    stmt_word_sound w.For s r = s_paren (for_header s r)
    stmt_word_sound w.Break s r = s_semicolon r (p_break s)
    stmt_word_sound w.Continue s r = s_semicolon r (p_continue s)
    stmt_word_sound w.Return s r = s_optional (at_return s r)
    stmt_word_sound w.VaStart s r = s_paren (va_start_header s r)
    stmt_word_sound w.VaEnd s r = s_paren (va_end_header s r)
    stmt_word_sound v s r = feed_sound (word v s) (at_effect r)

    stmt_mark_sound : (k : Mark) (s : Span) {l : Bool} {d : Body} {fs : List Frame} {a : List Terminal} → Room l d fs (mark k s ∷ a) → IfSound (stmt_mark n (mark k s) k (here focus.Item d fs)) (mark k s) a
    stmt_mark_sound m.Semicolon s r = s_ended r (h_leaf (stmt.Empty s) (stmt_height-Empty s) empty_stmt)
    stmt_mark_sound m.OpenBrace s {a = a} r = s_item (nested s r (h_no_items a))
    stmt_mark_sound k s r = feed_sound (mark k s) (at_effect r)

    stmt_sound : (k : Sort) (s : Span) {l : Bool} {d : Body} {fs : List Frame} {a : List Terminal} → Room l d fs (term k s ∷ a) → IfSound (stmt_step n (term k s) k (here focus.Item d fs)) (term k s) a
    stmt_sound (sort.Word v) s r = stmt_word_sound v s r
    stmt_sound (sort.Mark k) s r = stmt_mark_sound k s r
    stmt_sound k s r = feed_sound (term k s) (at_effect r)

    end_sound : (s : Span) {d : Body} {fs : List Frame} {a : List Terminal} → Room true d fs (mark m.CloseBrace s ∷ a) → IfSound (end_block n fs (here focus.Item d fs)) (mark m.CloseBrace s) a
    end_sound s (top i) = (i, refl)
    end_sound s (nested u r i) = s_ended r (h_block u s i)

    item_word_sound : (v : Word) (s : Span) {d : Body} {fs : List Frame} {a : List Terminal} → Room true d fs (word v s ∷ a) → IfSound (item_word n (word v s) v (here focus.Item d fs)) (word v s) a
    item_word_sound w.VaList s r = s_va_list s r
    item_word_sound v s {d} {fs} {a} r =
        cond_case (λ x. IfSound x (word v s) a) (is_type_word v) (begin_type n (word v s) place.Block (here focus.Item d fs)) (stmt_word n (word v s) v (here focus.Item d fs))
        (λ yes. begin_type_sound (word v s) (in_block r)) (λ no. stmt_word_sound v s r)

    item_mark_sound : (k : Mark) (s : Span) {d : Body} {fs : List Frame} {a : List Terminal} → Room true d fs (mark k s ∷ a) → IfSound (item_mark n (mark k s) k (here focus.Item d fs)) (mark k s) a
    item_mark_sound m.CloseBrace s r = end_sound s r
    item_mark_sound k s r = stmt_mark_sound k s r

    item_sound : (k : Sort) (s : Span) {d : Body} {fs : List Frame} {a : List Terminal} → Room true d fs (term k s ∷ a) → IfSound (item_step n (term k s) k (here focus.Item d fs)) (term k s) a
    item_sound (sort.Name x) s r = s_bare x s (in_block r)
    item_sound (sort.Word v) s r = item_word_sound v s r
    item_sound (sort.Mark k) s r = item_mark_sound k s r
    item_sound k s r = stmt_sound k s r

    -- ---- behind a statement

    -- what is left where a statement ended
    data Rest : Body → StmtPart → List Frame → List Terminal → Type 0 where
      at_top : {o : Bool} {d : Body} {x : StmtPart} {b a : List Terminal} → HBody d all b → HStmt o x b a → Rest d x [] a
      at_nested : {l o : Bool} {before d : Body} {x : StmtPart} {fs : List Frame} {c b a : List Terminal} (s : Span) → Room l before fs (mark m.OpenBrace s ∷ c) → HBody d c b → HStmt o x b a → Rest d x (frame.Nested s before ∷ fs) a
      at_do_end : {l o : Bool} {d : Body} {x : StmtPart} {fs : List Frame} {b a : List Terminal} (s : Span) → Room l d fs (word w.Do s ∷ b) → HStmt o x b a → Rest d x (frame.Do s ∷ fs) a

    settled : {l o : Bool} {d : Body} {x : StmtPart} {fs : List Frame} {b a : List Terminal} → Room l d fs b → HStmt o x b a → Rest d (settle n false x fs).0 (settle n false x fs).1 a
    settled (top i) x = at_top i x
    settled (nested s r i) x = at_nested s r i x
    settled (then_room s t u r i) x = settled r (h_if s t u i x)
    settled (else_room s t u v r i j) x = settled r (h_if_else s t u v i j x)
    settled (while_room s t u r i) x = settled r (h_while s t u i x)
    settled (do_room s r) x = at_do_end s r x
    settled (for_room s t r i) x = settled r (h_for s t i x)

    do_sound : (k : Sort) (u : Span) (gs : List Frame) {l o : Bool} {d : Body} {x : StmtPart} {fs : List Frame} {b a : List Terminal} (s : Span) → Room l d fs (word w.Do s ∷ b) → HStmt o x b (term k u ∷ a) →
        IfSound (do_step k s x fs (here focus.Item d gs)) (term k u) a
    do_sound (sort.Word w.While) u gs s r i = s_paren (do_header s u r i)
    do_sound _ u gs s r i = tt

    after_sound : (t : Terminal) (gs : List Frame) {d : Body} {x : StmtPart} {fs : List Frame} {a : List Terminal} → Rest d x fs (t ∷ a) → IfSound (after_stmt n t x fs (here focus.Item d gs)) t a
    after_sound t gs (at_top i x) = item_sound t.sort t.span (top (h_with_stmt i x))
    after_sound t gs (at_nested s r i x) = item_sound t.sort t.span (nested s r (h_with_stmt i x))
    after_sound t gs (at_do_end s r x) = do_sound t.sort t.span gs s r x

    -- an `else` at v
    attach_sound : (v : Span) (gs : List Frame) {l : Bool} {d : Body} {x : StmtPart} {fs : List Frame} {b a : List Terminal} → Room l d fs b → HStmt false x b (word w.Else v ∷ a) →
        IfSound (attach (settle n true x fs).0 (settle n true x fs).1 (here focus.Item d gs)) (word w.Else v) a
    attach_sound v gs (top i) x = tt
    attach_sound v gs (nested s r i) x = tt
    attach_sound v gs (then_room s t u r i) x = s_stmt (else_room s t u v r i x)
    attach_sound v gs (else_room s t u q r i j) x = attach_sound v gs r (h_if_else s t u q i j x)
    attach_sound v gs (while_room s t u r i) x = attach_sound v gs r (h_while s t u i x)
    attach_sound v gs (do_room s r) x = tt
    attach_sound v gs (for_room s t r i) x = attach_sound v gs r (h_for s t i x)

    ended_sound : (k : Sort) (s : Span) (x : StmtPart) {l : Bool} {d : Body} {fs : List Frame} {b a : List Terminal} → Room l d fs b → HStmt false x b (term k s ∷ a) → IfSound (ended_step n (term k s) x (here focus.Item d fs)) (term k s) a
    ended_sound (sort.Word w.Else) s x {fs = fs} r i = attach_sound s (settle n true x fs).1 r i
    ended_sound k s x {fs = fs} r i = after_sound (term k s) (settle n false x fs).1 (settled r i)

    -- ---- inside a statement

    opened_sound : (u : Span) (t : Terminal) {h : Header} {d : Body} {fs : List Frame} {a : List Terminal} → HeaderAt h d fs (mark m.OpenParen u ∷ a) → IfSound (opened h (here focus.Item d fs)) t a
    opened_sound u t (if_header s r) = s_expr (at_if s u r) begun
    opened_sound u t (while_header s r) = s_expr (at_while s u r) begun
    opened_sound u t (do_header s v r i) = s_expr (at_do s v u r i) begun
    opened_sound u t (for_header s r) = s_optional (at_start s u r)
    opened_sound u t (va_start_header s r) = s_va_start_name s u r
    opened_sound u t (va_end_header s r) = s_va_end_name s u r

    paren_sound : (k : Sort) (s : Span) {h : Header} {d : Body} {fs : List Frame} {a : List Terminal} → HeaderAt h d fs (term k s ∷ a) → IfSound (paren_step k h (here focus.Item d fs)) (term k s) a
    paren_sound (sort.Mark m.OpenParen) s r = opened_sound s (mark m.OpenParen s) r
    paren_sound _ s r = tt

    pending_stmt : (s : Span) {x : StmtPart} {b a : List Terminal} → Pending x b (mark m.Semicolon s ∷ a) → HStmt false x b a
    pending_stmt s (p_break u) = h_leaf (stmt.Break u) (stmt_height-Break u) break_stmt
    pending_stmt s (p_continue u) = h_leaf (stmt.Continue u) (stmt_height-Continue u) continue_stmt
    pending_stmt s (p_do u v q r i j) = h_do u v q r s i j
    pending_stmt s (p_va_start x y u v q r i j) = h_leaf (stmt.VaStart u (name_of x q) (name_of y i)) (stmt_height-VaStart u (name_of x q) (name_of y i)) va_start_stmt
    pending_stmt s (p_va_end x u v q r) = h_leaf (stmt.VaEnd u (name_of x q)) (stmt_height-VaEnd u (name_of x q)) va_end_stmt

    closed : (s : Span) {x : StmtPart} {b a : List Terminal} → Unclosed x b (mark m.CloseParen s ∷ a) → Pending x b a
    closed s (u_va_start x y u v q r i) = p_va_start x y u v q r i s
    closed s (u_va_end x u v q) = p_va_end x u v q s

    semicolon_sound : (k : Sort) (s : Span) {l : Bool} {x : StmtPart} {d : Body} {fs : List Frame} {b a : List Terminal} → Room l d fs b → Pending x b (term k s ∷ a) → IfSound (semicolon_step k (focus.Ended x) (here focus.Item d fs)) (term k s) a
    semicolon_sound (sort.Mark m.Semicolon) s r i = s_ended r (pending_stmt s i)
    semicolon_sound _ s r i = tt

    close_sound : (k : Sort) (s : Span) {l : Bool} {x : StmtPart} {d : Body} {fs : List Frame} {b a : List Terminal} → Room l d fs b → Unclosed x b (term k s ∷ a) → IfSound (close_step k (focus.Semicolon x) (here focus.Item d fs)) (term k s) a
    close_sound (sort.Mark m.CloseParen) s r i = s_semicolon r (closed s i)
    close_sound _ s r i = tt

    comma_sound : (k : Sort) (q : Span) {l : Bool} {d : Body} {fs : List Frame} {a : List Terminal} (x : List ℕ) (s t u : Span) → Room l d fs (word w.VaStart s ∷ mark m.OpenParen t ∷ named x u ∷ term k q ∷ a) →
        IfSound (comma_step k (focus.VaStartLast s (name_of x u)) (here focus.Item d fs)) (term k q) a
    comma_sound (sort.Mark m.Comma) q x s t u r = s_va_start_last x s t u q r
    comma_sound _ q x s t u r = tt

    va_list_sound : (k : Sort) (u s : Span) {d : Body} {fs : List Frame} {a : List Terminal} → Room true d fs (word w.VaList s ∷ term k u ∷ a) → IfSound (va_list_name k u s (here focus.Item d fs)) (term k u) a
    va_list_sound (sort.Name x) u s r = s_va_list_end x s u r
    va_list_sound _ u s r = tt

    va_list_end_sound : (k : Sort) (u : Span) (x : List ℕ) (s t : Span) {d : Body} {fs : List Frame} {a : List Terminal} → Room true d fs (word w.VaList s ∷ named x t ∷ term k u ∷ a) →
        IfSound (va_list_end k s (name_of x t) (here focus.Item d fs)) (term k u) a
    va_list_end_sound (sort.Mark m.Semicolon) u x s t (top i) = s_item (top (h_with_va_list x s t u i))
    va_list_end_sound (sort.Mark m.Semicolon) u x s t (nested v r i) = s_item (nested v r (h_with_va_list x s t u i))
    va_list_end_sound _ u x s t r = tt

    va_start_sound : (k : Sort) (u s t : Span) {l : Bool} {d : Body} {fs : List Frame} {a : List Terminal} → Room l d fs (word w.VaStart s ∷ mark m.OpenParen t ∷ term k u ∷ a) → IfSound (va_start_name k u s (here focus.Item d fs)) (term k u) a
    va_start_sound (sort.Name x) u s t r = s_va_start_comma x s t u r
    va_start_sound _ u s t r = tt

    va_start_last_sound : (k : Sort) (q : Span) (x : List ℕ) (s t u v : Span) {l : Bool} {d : Body} {fs : List Frame} {a : List Terminal} →
        Room l d fs (word w.VaStart s ∷ mark m.OpenParen t ∷ named x u ∷ mark m.Comma v ∷ term k q ∷ a) → IfSound (va_start_last k q s (name_of x u) (here focus.Item d fs)) (term k q) a
    va_start_last_sound (sort.Name y) q x s t u v r = s_va_close r (u_va_start x y s t u v q)
    va_start_last_sound _ q x s t u v r = tt

    va_end_sound : (k : Sort) (u s t : Span) {l : Bool} {d : Body} {fs : List Frame} {a : List Terminal} → Room l d fs (word w.VaEnd s ∷ mark m.OpenParen t ∷ term k u ∷ a) → IfSound (va_end_name k u s (here focus.Item d fs)) (term k u) a
    va_end_sound (sort.Name x) u s t r = s_va_close r (u_va_end x s t u)
    va_end_sound _ u s t r = tt

    optional_name_sound : (x : List ℕ) (u : Span) {l : Slot} {d : Body} {fs : List Frame} {a : List Terminal} → SlotAt l d fs (named x u ∷ a) → IfSound (optional_name n (named x u) x l (here focus.Item d fs)) (named x u) a
    optional_name_sound x u (at_start s t r) = s_bare x u (in_for s t r)
    optional_name_sound x u (at_test s t r i) = feed_sound (named x u) (at_slot (at_test s t r i))
    optional_name_sound x u (at_step s t r i j) = feed_sound (named x u) (at_slot (at_step s t r i j))
    optional_name_sound x u (at_return s r) = feed_sound (named x u) (at_slot (at_return s r))

    optional_word_sound : (v : Word) (u : Span) {l : Slot} {d : Body} {fs : List Frame} {a : List Terminal} → SlotAt l d fs (word v u ∷ a) → IfSound (optional_word n (word v u) v l (here focus.Item d fs)) (word v u) a
    optional_word_sound v u {d = d} {fs = fs} {a = a} (at_start s t r) =
        cond_case (λ x. IfSound x (word v u) a) (is_type_word v) (begin_type n (word v u) (place.For s) (here focus.Item d fs)) (feed n (word v u) (hole.Slot (slot.Start s)) (here focus.Item d fs))
        (λ yes. begin_type_sound (word v u) (in_for s t r)) (λ no. feed_sound (word v u) (at_slot (at_start s t r)))
    optional_word_sound v u (at_test s t r i) = feed_sound (word v u) (at_slot (at_test s t r i))
    optional_word_sound v u (at_step s t r i j) = feed_sound (word v u) (at_slot (at_step s t r i j))
    optional_word_sound v u (at_return s r) = feed_sound (word v u) (at_slot (at_return s r))

    optional_semicolon_sound : (u : Span) {l : Slot} {d : Body} {fs : List Frame} {a : List Terminal} → SlotAt l d fs (mark m.Semicolon u ∷ a) → IfSound (slot_semicolon n l no_part (here focus.Item d fs)) (mark m.Semicolon u) a
    optional_semicolon_sound u {a = a} (at_start s t r) = s_optional (at_test s t r (h_start_nothing u a))
    optional_semicolon_sound u {a = a} (at_test s t r i) = s_optional (at_step s t r i (h_no_value u a))
    optional_semicolon_sound u (at_step s t r i j) = tt
    optional_semicolon_sound u {a = a} (at_return s r) = s_ended r (h_return s (h_no_value u a))

    optional_close_sound : (u : Span) {l : Slot} {d : Body} {fs : List Frame} {a : List Terminal} → SlotAt l d fs (mark m.CloseParen u ∷ a) → IfSound (slot_close l no_part (here focus.Item d fs)) (mark m.CloseParen u) a
    optional_close_sound u (at_start s t r) = tt
    optional_close_sound u (at_test s t r i) = tt
    optional_close_sound u (at_step s t r i j) = s_stmt (for_room s t r (h_head_short u i j))
    optional_close_sound u (at_return s r) = tt

    optional_mark_sound : (k : Mark) (u : Span) {l : Slot} {d : Body} {fs : List Frame} {a : List Terminal} → SlotAt l d fs (mark k u ∷ a) → IfSound (optional_mark n (mark k u) k l (here focus.Item d fs)) (mark k u) a
    optional_mark_sound m.Semicolon u r = optional_semicolon_sound u r
    optional_mark_sound m.CloseParen u r = optional_close_sound u r
    optional_mark_sound k u r = feed_sound (mark k u) (at_slot r)

    optional_sound : (k : Sort) (u : Span) {l : Slot} {d : Body} {fs : List Frame} {a : List Terminal} → SlotAt l d fs (term k u ∷ a) → IfSound (optional_step n (term k u) k l (here focus.Item d fs)) (term k u) a
    optional_sound (sort.Name x) u r = optional_name_sound x u r
    optional_sound (sort.Word v) u r = optional_word_sound v u r
    optional_sound (sort.Mark k) u r = optional_mark_sound k u r
    optional_sound k u r = feed_sound (term k u) (at_slot r)

    step_sound : (t : Terminal) {st : BodyState} {a : List Terminal} → Sound st (t ∷ a) → IfSound (body_step n t st) t a
    step_sound t (s_item r) = item_sound t.sort t.span r
    step_sound t (s_stmt r) = stmt_sound t.sort t.span r
    step_sound t (s_ended {x = x} r i) = ended_sound t.sort t.span x r i
    step_sound t (s_paren r) = paren_sound t.sort t.span r
    step_sound t (s_semicolon r i) = semicolon_sound t.sort t.span r i
    step_sound t (s_expr r c) = expr_at_sound t r c
    step_sound t (s_optional r) = optional_sound t.sort t.span r
    step_sound t (s_bare x s r) = bare_sound t.sort t.span x s r
    step_sound t {a = a} (s_typing {y = y} {b = b} r i) = type_sound t a (type_step t y) r (type_law t y b a i)
    step_sound t {a = a} (s_declaring {z = z} r i j k) = decl_sound t a (decl_step t z) r i j (decl_law t k)
    step_sound t (s_va_list s r) = va_list_sound t.sort t.span s r
    step_sound t (s_va_list_end x s u r) = va_list_end_sound t.sort t.span x s u r
    step_sound t (s_va_start_name s u r) = va_start_sound t.sort t.span s u r
    step_sound t (s_va_start_comma x s u v r) = comma_sound t.sort t.span x s u v r
    step_sound t (s_va_start_last x s u v q r) = va_start_last_sound t.sort t.span x s u v q r
    step_sound t (s_va_end_name s u r) = va_end_sound t.sort t.span s u r
    step_sound t (s_va_close r i) = close_sound t.sort t.span r i

    pub came_sound : {st : BodyState} {a : List Terminal} → Came (body_step n) body_start all st a → Sound st a
    came_sound begun = s_item (top (h_no_items all))
    came_sound {a = a} (taken {t = t} c q) = subst (λ v. IfSound v t a) q (step_sound t (came_sound c))

    read_of : (p : Body) (t : Terminal) (a : List Terminal) → HBody p all (t ∷ a) × (t.sort ≡ sort.Mark m.CloseBrace) → IsBodyRead n p all t a
    read_of p t a r = let i = r.0 in record { items = i.tree; is = i.is; reads = i.reads; ends = r.1 }

    -- what is read is a body
    pub body_sound : (st : BodyState) (p : Body) (t : Terminal) (a : List Terminal) → Came (body_step n) body_start all st (t ∷ a) → body_step n t st ≡ Done p → IsBodyRead n p all t a
    body_sound st p t a c q = read_of p t a (subst (λ v. IfSound v t a) q (step_sound t (came_sound c)))
