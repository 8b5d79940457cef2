-- The grammar of declarations, definitions and units (C, 6.7 and 6.9), a constructor for each
-- production; adjustors are this project's own. `IsX x a b` says that the tokens a begin with the
-- tokens of x, and b is what is left.
use Rattle.std.specs.Prelude.{◌≡◌, ℕ, Bool, true, List, [], ◌∷◌, ◌++◌, Option, Some, None}
use Rattle.c_types.specs.declared.types.Span.{Span}
use Rattle.c_types.specs.declared.types.IntTy.{IntTy}
use Rattle.c_tree.specs.declared.expressions.Name.{Name}
use Rattle.c_tree.specs.declared.expressions.Base.{Base}
use Rattle.c_tree.specs.declared.expressions.TypeName.{TypeName}
use Rattle.c_tree.specs.declared.statements.BlockItem.{BlockItem}
use Rattle.c_tree.specs.declared.declarations.Decl.{Decl}
use Rattle.c_tree.specs.declared.declarations.Field.{Field}
use Rattle.c_tree.specs.declared.declarations.Params.{Params}
use Rattle.c_tree.specs.declared.declarations.Init.{Init}
use Rattle.c_tree.specs.declared.declarations.GlobalDecl.{GlobalDecl}
use Rattle.c_tree.specs.declared.declarations.FunctionHead.{FunctionHead}
use Rattle.c_tree.specs.declared.declarations.Item.{Item}
use Rattle.c_tree.specs.declared.declarations.Item.TheVariants as item
use Rattle.c_tree.specs.declared.declarations.Unit.{Unit as Unit'}
use Rattle.c_lex.specs.declared.words.Word.TheVariants as w
use Rattle.c_lex.specs.declared.marks.Mark.TheVariants as m
use Rattle.parse_terms.specs.declared.terminal.Terminal.{Terminal}
use Rattle.parse_terms.specs.Terminals.{word, mark, named, name_of}
use Rattle.parse_terms.specs.TypeNames.{IsBase, IsTypeName}
use Rattle.parse_terms.specs.Declarators.{literal, number, IsDecl}
use Rattle.parse_decl.specs.Params.{IsParams, all_named}
use Rattle.parse_decl.specs.Inits.{IsInit}
use Rattle.parse_stmt.specs.StmtGrammar.{IsBlockItems}

abbrev pub field_of : Base → List Decl → Field
field_of y ds = record { base = y; decls = ds }

abbrev pub global_of : Decl → Option Init → GlobalDecl
global_of d i = record { decl = d; init = i }

abbrev pub head_of : TypeName → Name → Params → FunctionHead
head_of t x ps = record { result = t; name = x; params = ps }

abbrev pub unit_of : List Item → Unit'
unit_of xs = record { items = xs }

-- decl { "," decl }
pub data IsDecls : List Decl → List Terminal → List Terminal → Type 0 where
  first_decl : {d : Decl} {a b : List Terminal} → IsDecl d a b → IsDecls (d ∷ []) a b
  next_decl : {ds : List Decl} {d : Decl} {s : Span} {a b c : List Terminal} → IsDecls ds a (mark m.Comma s ∷ b) → IsDecl d b c → IsDecls (ds ++ d ∷ []) a c

-- field = base decl { "," decl } ";"
pub data IsField : Field → List Terminal → List Terminal → Type 0 where
  a_field : {y : Base} {ds : List Decl} {s : Span} {a b c : List Terminal} → IsBase y a b → IsDecls ds b (mark m.Semicolon s ∷ c) → IsField (field_of y ds) a c

-- field { field }
pub data IsFields : List Field → List Terminal → List Terminal → Type 0 where
  first_field : {f : Field} {a b : List Terminal} → IsField f a b → IsFields (f ∷ []) a b
  next_field : {fs : List Field} {f : Field} {a b c : List Terminal} → IsFields fs a b → IsField f b c → IsFields (fs ++ f ∷ []) a c

-- decl ["=" init]
pub data IsGlobal : GlobalDecl → List Terminal → List Terminal → Type 0 where
  without_value : {d : Decl} {a b : List Terminal} → IsDecl d a b → IsGlobal (global_of d None) a b
  with_value : {d : Decl} {i : Init} {s : Span} {a b c : List Terminal} → IsDecl d a (mark m.Equal s ∷ b) → IsInit i b c → IsGlobal (global_of d (Some i)) a c

-- decl ["=" init] { "," decl ["=" init] }
pub data IsGlobals : List GlobalDecl → List Terminal → List Terminal → Type 0 where
  first_global : {g : GlobalDecl} {a b : List Terminal} → IsGlobal g a b → IsGlobals (g ∷ []) a b
  next_global : {gs : List GlobalDecl} {g : GlobalDecl} {s : Span} {a b c : List Terminal} →
      IsGlobals gs a (mark m.Comma s ∷ b) → IsGlobal g b c → IsGlobals (gs ++ g ∷ []) a c

-- base {"*"} ID "(" params ")"
pub data IsHead : FunctionHead → List Terminal → List Terminal → Type 0 where
  a_head : {t : TypeName} {x : List ℕ} {ps : Params} {s u v : Span} {a b c : List Terminal} →
      IsTypeName t a (named x s ∷ mark m.OpenParen u ∷ b) → IsParams ps b (mark m.CloseParen v ∷ c) → IsHead (head_of t (name_of x s) ps) a c

-- base {"*"} "(" "*" ID ")" "(" params ")"
pub data IsPointerHead : FunctionHead → List Terminal → List Terminal → Type 0 where
  a_pointer_head : {t : TypeName} {x : List ℕ} {ps : Params} {s p q r u v : Span} {a b c : List Terminal} →
      IsTypeName t a (mark m.OpenParen p ∷ mark m.Star q ∷ named x s ∷ mark m.CloseParen r ∷ mark m.OpenParen u ∷ b) → IsParams ps b (mark m.CloseParen v ∷ c) →
      IsPointerHead (head_of t (name_of x s) ps) a c

pub data IsItem : Item → List Terminal → List Terminal → Type 0 where
  -- "typedef" base {"*"} "(" "*" ID ")" "(" params ")" ";"
  a_typedef : {h : FunctionHead} {s u : Span} {a b : List Terminal} → IsPointerHead h a (mark m.Semicolon u ∷ b) → IsItem (item.Typedef s h) (word w.Typedef s ∷ a) b
  -- "struct" ID "{" field { field } "}" ";"
  a_struct : {x : List ℕ} {fs : List Field} {s t p u v : Span} {a b : List Terminal} → IsFields fs a (mark m.CloseBrace u ∷ mark m.Semicolon v ∷ b) →
      IsItem (item.Struct s (name_of x t) fs) (word w.Struct s ∷ named x t ∷ mark m.OpenBrace p ∷ a) b
  -- "extern" base decl ";"
  an_extern : {y : Base} {d : Decl} {s u : Span} {a b c : List Terminal} → IsBase y a b → IsDecl d b (mark m.Semicolon u ∷ c) → IsItem (item.Extern s y d) (word w.Extern s ∷ a) c
  -- base decl ["=" init] { "," decl ["=" init] } ";"
  globals : {y : Base} {gs : List GlobalDecl} {u : Span} {a b c : List Terminal} → IsBase y a b → IsGlobals gs b (mark m.Semicolon u ∷ c) → IsItem (item.Globals y gs) a c
  -- base {"*"} ID "(" params ")" ( ";" | block ); in a definition each parameter has its ID
  a_function : {h : FunctionHead} {u : Span} {a b : List Terminal} → IsHead h a (mark m.Semicolon u ∷ b) → IsItem (item.Declare h) a b
  a_definition : {h : FunctionHead} {xs : List BlockItem} {s u : Span} {a b c : List Terminal} → IsHead h a (mark m.OpenBrace s ∷ b) → all_named h.params.list ≡ true →
      IsBlockItems xs b (mark m.CloseBrace u ∷ c) → IsItem (item.Define h s xs) a c
  -- "__adjustor" ID "=" ID "," NUM "," ["-"] NUM ";"
  raised : {x y : List ℕ} {v k : ℕ} {i j : IntTy} {s t u p q r o e f : Span} {a : List Terminal} →
      IsItem (item.Adjustor s (name_of x t) (name_of y p) (literal v i r) None (literal k j e))
      (word w.Adjustor s ∷ named x t ∷ mark m.Equal u ∷ named y p ∷ mark m.Comma q ∷ number v i r ∷ mark m.Comma o ∷ number k j e ∷ mark m.Semicolon f ∷ a) a
  lowered : {x y : List ℕ} {v k : ℕ} {i j : IntTy} {s t u p q r o d e f : Span} {a : List Terminal} →
      IsItem (item.Adjustor s (name_of x t) (name_of y p) (literal v i r) (Some d) (literal k j e))
      (word w.Adjustor s ∷ named x t ∷ mark m.Equal u ∷ named y p ∷ mark m.Comma q ∷ number v i r ∷ mark m.Comma o ∷ mark m.Minus d ∷ number k j e ∷ mark m.Semicolon f ∷ a) a

-- { item }
pub data IsItems : List Item → List Terminal → List Terminal → Type 0 where
  no_items : {a : List Terminal} → IsItems [] a a
  another_item : {xs : List Item} {x : Item} {a b c : List Terminal} → IsItems xs a b → IsItem x b c → IsItems (xs ++ x ∷ []) a c

-- the whole list is a unit's
pub data IsUnit : Unit' → List Terminal → Type 0 where
  a_unit : {xs : List Item} {a : List Terminal} → IsItems xs a [] → IsUnit (unit_of xs) a
