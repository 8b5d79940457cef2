-- The grammar of locals, statements and blocks (C, 6.7 and 6.8), a constructor for each production.
-- `IsX x a b` says that the tokens a begin with the tokens of x, and b is what is left.
use Rattle.std.specs.Prelude.{◌≡◌, ℕ, Bool, true, false, List, [], ◌∷◌, ◌++◌, Option, Some, None}
use Rattle.c_types.specs.declared.types.Span.{Span}
use Rattle.c_tree.specs.declared.expressions.Base.{Base}
use Rattle.c_tree.specs.declared.expressions.Expr.{Expr}
use Rattle.c_tree.specs.declared.declarations.Decl.{Decl}
use Rattle.c_tree.specs.declared.statements.LocalDecl.{LocalDecl}
use Rattle.c_tree.specs.declared.statements.Local.{Local}
use Rattle.c_tree.specs.declared.statements.Local.TheVariants as local
use Rattle.c_tree.specs.declared.statements.ForStart.{ForStart}
use Rattle.c_tree.specs.declared.statements.ForStart.TheVariants as start
use Rattle.c_tree.specs.declared.statements.BlockItem.{BlockItem}
use Rattle.c_tree.specs.declared.statements.BlockItem.TheVariants as block_item
use Rattle.c_tree.specs.declared.statements.Stmt.{Stmt}
use Rattle.c_tree.specs.declared.statements.Stmt.TheVariants as stmt
use Rattle.c_lex.specs.declared.words.Word.TheVariants as w
use Rattle.c_lex.specs.declared.marks.Mark.TheVariants as m
use Rattle.parse_terms.specs.declared.terminal.Terminal.{Terminal}
use Rattle.parse_terms.specs.Terminals.{word, mark, named, name_of}
use Rattle.parse_terms.specs.TypeNames.{IsBase}
use Rattle.parse_terms.specs.Declarators.{IsDecl}
use Rattle.parse_expr.specs.ExprGrammar.{is_effect, IsAssign}

abbrev pub local_decl : Decl → Option Expr → LocalDecl
local_decl d i = record { decl = d; init = i }

-- ldecl = decl ["=" assign]
pub data IsLocalDecl : LocalDecl → List Terminal → List Terminal → Type 0 where
  uninitialized : {d : Decl} {a b : List Terminal} → IsDecl d a b → IsLocalDecl (local_decl d None) a b
  initialized : {d : Decl} {e : Expr} {s : Span} {a b c : List Terminal} →
      IsDecl d a (mark m.Equal s ∷ b) → IsAssign e b c → IsLocalDecl (local_decl d (Some e)) a c

-- { ldecl "," }
pub data IsLocalDecls : List LocalDecl → List Terminal → List Terminal → Type 0 where
  no_decls : {a : List Terminal} → IsLocalDecls [] a a
  another_decl : {ds : List LocalDecl} {d : LocalDecl} {s : Span} {a b c : List Terminal} →
      IsLocalDecls ds a b → IsLocalDecl d b (mark m.Comma s ∷ c) → IsLocalDecls (ds ++ d ∷ []) a c

-- ldecl { "," ldecl }
pub data IsLocals : List LocalDecl → List Terminal → List Terminal → Type 0 where
  local_decls : {ds : List LocalDecl} {d : LocalDecl} {a b c : List Terminal} →
      IsLocalDecls ds a b → IsLocalDecl d b c → IsLocals (ds ++ d ∷ []) a c

-- base ldecl { "," ldecl } ";"
pub data IsVariables : Base → List LocalDecl → List Terminal → List Terminal → Type 0 where
  variables : {b : Base} {ds : List LocalDecl} {s : Span} {a c d : List Terminal} →
      IsBase b a c → IsLocals ds c (mark m.Semicolon s ∷ d) → IsVariables b ds a d

-- local = base ldecl { "," ldecl } ";" | "va_list" ID ";"
pub data IsLocal : Local → List Terminal → List Terminal → Type 0 where
  declared_local : {b : Base} {ds : List LocalDecl} {a c : List Terminal} → IsVariables b ds a c → IsLocal (local.Declared b ds) a c
  va_list_local : {x : List ℕ} {s t u : Span} {a : List Terminal} →
      IsLocal (local.VaList s (name_of x t)) (word w.VaList s ∷ named x t ∷ mark m.Semicolon u ∷ a) a

-- ( local | [effect] ";" ), where the local is no `va_list`
pub data IsForStart : ForStart → List Terminal → List Terminal → Type 0 where
  start_local : {b : Base} {ds : List LocalDecl} {a c : List Terminal} → IsVariables b ds a c → IsForStart (start.Local b ds) a c
  start_effect : {e : Expr} {s : Span} {a b : List Terminal} → is_effect e ≡ true → IsAssign e a (mark m.Semicolon s ∷ b) → IsForStart (start.Effect e) a b
  start_nothing : {s : Span} {a : List Terminal} → IsForStart start.Nothing (mark m.Semicolon s ∷ a) a

-- [assign] ";"
pub data IsOptional : Option Expr → List Terminal → List Terminal → Type 0 where
  no_value : {s : Span} {a : List Terminal} → IsOptional None (mark m.Semicolon s ∷ a) a
  a_value : {e : Expr} {s : Span} {a b : List Terminal} → IsAssign e a (mark m.Semicolon s ∷ b) → IsOptional (Some e) a b

-- [effect] ")"
pub data IsForStep : Option Expr → List Terminal → List Terminal → Type 0 where
  no_step : {s : Span} {a : List Terminal} → IsForStep None (mark m.CloseParen s ∷ a) a
  a_step : {e : Expr} {s : Span} {a b : List Terminal} → is_effect e ≡ true → IsAssign e a (mark m.CloseParen s ∷ b) → IsForStep (Some e) a b

mutual
  -- The first argument says whether the statement ends with an `if` that has no `else`: an `else`
  -- belongs to the nearest `if`.
  pub data IsStmt : Bool → Stmt → List Terminal → List Terminal → Type 0 where
    block_stmt : {xs : List BlockItem} {s t : Span} {a b : List Terminal} → IsBlockItems xs a (mark m.CloseBrace t ∷ b) → IsStmt false (stmt.Block s xs) (mark m.OpenBrace s ∷ a) b
    empty_stmt : {s : Span} {a : List Terminal} → IsStmt false (stmt.Empty s) (mark m.Semicolon s ∷ a) a
    effect_stmt : {e : Expr} {s : Span} {a b : List Terminal} → is_effect e ≡ true → IsAssign e a (mark m.Semicolon s ∷ b) → IsStmt false (stmt.Effect e) a b
    break_stmt : {s t : Span} {a : List Terminal} → IsStmt false (stmt.Break s) (word w.Break s ∷ mark m.Semicolon t ∷ a) a
    continue_stmt : {s t : Span} {a : List Terminal} → IsStmt false (stmt.Continue s) (word w.Continue s ∷ mark m.Semicolon t ∷ a) a
    if_alone : {o : Bool} {c : Expr} {x : Stmt} {s t u : Span} {a b d : List Terminal} →
        IsAssign c a (mark m.CloseParen u ∷ b) → IsStmt o x b d → IsStmt true (stmt.If s c x) (word w.If s ∷ mark m.OpenParen t ∷ a) d
    if_else : {o : Bool} {c : Expr} {x y : Stmt} {s t u v : Span} {a b d f : List Terminal} →
        IsAssign c a (mark m.CloseParen u ∷ b) → IsStmt false x b (word w.Else v ∷ d) → IsStmt o y d f →
        IsStmt o (stmt.IfElse s c x y) (word w.If s ∷ mark m.OpenParen t ∷ a) f
    while_stmt : {o : Bool} {c : Expr} {x : Stmt} {s t u : Span} {a b d : List Terminal} →
        IsAssign c a (mark m.CloseParen u ∷ b) → IsStmt o x b d → IsStmt o (stmt.While s c x) (word w.While s ∷ mark m.OpenParen t ∷ a) d
    do_stmt : {o : Bool} {c : Expr} {x : Stmt} {s t u v p : Span} {a b d : List Terminal} →
        IsStmt o x a (word w.While t ∷ mark m.OpenParen u ∷ b) → IsAssign c b (mark m.CloseParen v ∷ mark m.Semicolon p ∷ d) →
        IsStmt false (stmt.Do s x c) (word w.Do s ∷ a) d
    for_stmt : {o : Bool} {i : ForStart} {c e : Option Expr} {x : Stmt} {s t : Span} {a b d f g : List Terminal} →
        IsForStart i a b → IsOptional c b d → IsForStep e d f → IsStmt o x f g →
        IsStmt o (stmt.For s i c e x) (word w.For s ∷ mark m.OpenParen t ∷ a) g
    return_stmt : {e : Option Expr} {s : Span} {a b : List Terminal} → IsOptional e a b → IsStmt false (stmt.Return s e) (word w.Return s ∷ a) b
    va_start_stmt : {x y : List ℕ} {s t u v p q r : Span} {a : List Terminal} →
        IsStmt false (stmt.VaStart s (name_of x u) (name_of y p))
        (word w.VaStart s ∷ mark m.OpenParen t ∷ named x u ∷ mark m.Comma v ∷ named y p ∷ mark m.CloseParen q ∷ mark m.Semicolon r ∷ a) a
    va_end_stmt : {x : List ℕ} {s t u q r : Span} {a : List Terminal} →
        IsStmt false (stmt.VaEnd s (name_of x u)) (word w.VaEnd s ∷ mark m.OpenParen t ∷ named x u ∷ mark m.CloseParen q ∷ mark m.Semicolon r ∷ a) a

  -- { local | stmt }
  pub data IsBlockItems : List BlockItem → List Terminal → List Terminal → Type 0 where
    no_items : {a : List Terminal} → IsBlockItems [] a a
    local_item : {xs : List BlockItem} {d : Local} {a b c : List Terminal} → IsBlockItems xs a b → IsLocal d b c → IsBlockItems (xs ++ block_item.Local d ∷ []) a c
    stmt_item : {o : Bool} {xs : List BlockItem} {x : Stmt} {a b c : List Terminal} → IsBlockItems xs a b → IsStmt o x b c → IsBlockItems (xs ++ block_item.Stmt x ∷ []) a c
