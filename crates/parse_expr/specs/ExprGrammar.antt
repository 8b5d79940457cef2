-- The grammar of expressions, a constructor for each production. `IsX x a b` says that the tokens a
-- begin with the tokens of x, and b is what is left.
use Rattle.std.specs.Prelude.{◌≡◌, ℕ, ℤ, suc, ◌≤◌, Bool, true, false, List, [], ◌∷◌, ◌++◌}
use Rattle.c_types.specs.declared.types.Span.{Span}
use Rattle.c_types.specs.declared.types.IntTy.{IntTy}
use Rattle.c_tree.specs.declared.operators.UnaryOp.{UnaryOp}
use Rattle.c_tree.specs.declared.operators.UnaryOp.TheVariants as unary
use Rattle.c_tree.specs.declared.operators.BinaryOp.{BinaryOp}
use Rattle.c_tree.specs.declared.operators.AssignOp.{AssignOp}
use Rattle.c_tree.specs.declared.operators.Selector.{Selector}
use Rattle.c_tree.specs.declared.expressions.TypeName.{TypeName}
use Rattle.c_tree.specs.declared.expressions.Expr.{Expr, out-Expr}
use Rattle.c_tree.specs.declared.expressions.Expr.TheOpen.{Expr-F}
use Rattle.c_tree.specs.declared.expressions.Expr.TheVariants as expr
use Rattle.c_lex.specs.declared.words.Word.TheVariants as w
use Rattle.c_lex.specs.declared.marks.Mark.TheVariants as m
use Rattle.parse_terms.specs.declared.terminal.Sort.TheVariants as sort
use Rattle.parse_terms.specs.declared.terminal.Terminal.{Terminal}
use Rattle.parse_terms.specs.Terminals.{term, word, mark, named, name_of}
use Rattle.parse_terms.specs.Declarators.{literal, number}
use Rattle.parse_terms.specs.Integers.{IsInt}
use Rattle.parse_terms.specs.TypeNames.{IsTypeName}
use Rattle.parse_expr.specs.Operators.{level, binary_mark, assign_mark, prefix_mark, selector_mark}

abbrev pub is_effect_prefix : UnaryOp → Bool
is_effect_prefix unary.Increment = true
is_effect_prefix unary.Decrement = true
is_effect_prefix _ = false

abbrev pub is_effect_at : Expr-F Expr → Bool
is_effect_at (Expr-F.Call f s args) = true
is_effect_at (Expr-F.PostIncrement e s) = true
is_effect_at (Expr-F.PostDecrement e s) = true
is_effect_at (Expr-F.Unary op s e) = is_effect_prefix op
is_effect_at (Expr-F.Assign op s l r) = true
is_effect_at _ = false

-- the outermost form is an assignment, `++`, `--` or a call
unfoldable pub is_effect : Expr → Bool
is_effect e = is_effect_at (out-Expr e)

mutual
  -- assign = cond | unary ("=" | "+=" | ..) assign
  pub data IsAssign : Expr → List Terminal → List Terminal → Type 0 where
    plain : {e : Expr} {a b : List Terminal} → IsCond e a b → IsAssign e a b
    assigned : {l r : Expr} {s : Span} {a b c : List Terminal} (op : AssignOp) →
        IsUnary l a (mark (assign_mark op) s ∷ b) → IsAssign r b c → IsAssign (expr.Assign op s l r) a c

  -- cond = binary [ "?" assign ":" cond ]
  pub data IsCond : Expr → List Terminal → List Terminal → Type 0 where
    simple : {e : Expr} {a b : List Terminal} → IsBinary 1 e a b → IsCond e a b
    conditional : {c l r : Expr} {s t : Span} {a b d f : List Terminal} →
        IsBinary 1 c a (mark m.Question s ∷ b) → IsAssign l b (mark m.Colon t ∷ d) → IsCond r d f → IsCond (expr.Conditional c s l r) a f

  -- binary = unary { op unary }, whose operators all have the level n at least; grouped by levels, from the left
  pub data IsBinary : ℕ → Expr → List Terminal → List Terminal → Type 0 where
    operand : {n : ℕ} {e : Expr} {a b : List Terminal} → IsUnary e a b → IsBinary n e a b
    joined : {n : ℕ} {l r : Expr} {s : Span} {a b c : List Terminal} (op : BinaryOp) → n ≤ level op →
        IsBinary (level op) l a (mark (binary_mark op) s ∷ b) → IsBinary (suc (level op)) r b c → IsBinary n (expr.Binary op s l r) a c

  -- unary = ("++" | "--" | "-" | ..) unary | "(" inttype ")" unary | "sizeof" "(" base {"*"} ")" | postfix
  pub data IsUnary : Expr → List Terminal → List Terminal → Type 0 where
    prefixed : {e : Expr} {s : Span} {a b : List Terminal} (op : UnaryOp) → IsUnary e a b → IsUnary (expr.Unary op s e) (mark (prefix_mark op) s ∷ a) b
    cast : {e : Expr} {i : IntTy} {s t u : Span} {a b c : List Terminal} →
        IsInt i t a (mark m.CloseParen u ∷ b) → IsUnary e b c → IsUnary (expr.Cast s i t e) (mark m.OpenParen s ∷ a) c
    size_of : {t : TypeName} {s u v : Span} {a b : List Terminal} →
        IsTypeName t a (mark m.CloseParen v ∷ b) → IsUnary (expr.SizeOf s t) (word w.Sizeof s ∷ mark m.OpenParen u ∷ a) b
    postfix : {e : Expr} {a b : List Terminal} → IsPostfix e a b → IsUnary e a b

  -- postfix = primary { "(" [assign {"," assign}] ")" | "[" assign "]" | "." ID | "->" ID | "++" | "--" }
  pub data IsPostfix : Expr → List Terminal → List Terminal → Type 0 where
    -- primary = ID | NUM | CHAR | "(" assign ")" | "va_arg" "(" ID "," base {"*"} ")"
    name : {x : List ℕ} {s : Span} {a : List Terminal} → IsPostfix (expr.Name (name_of x s)) (named x s ∷ a) a
    number_of : {v : ℕ} {t : IntTy} {s : Span} {a : List Terminal} → IsPostfix (expr.Number (literal v t s)) (number v t s ∷ a) a
    char : {c : ℤ} {s : Span} {a : List Terminal} → IsPostfix (expr.Char c s) (term (sort.Char c) s ∷ a) a
    parenthesis : {e : Expr} {s u : Span} {a b : List Terminal} → IsAssign e a (mark m.CloseParen u ∷ b) → IsPostfix (expr.Paren s e) (mark m.OpenParen s ∷ a) b
    argument_of : {x : List ℕ} {t : TypeName} {s u v p q : Span} {a b : List Terminal} → IsTypeName t a (mark m.CloseParen q ∷ b) →
        IsPostfix (expr.VaArg s (name_of x v) t) (word w.VaArg s ∷ mark m.OpenParen u ∷ named x v ∷ mark m.Comma p ∷ a) b
    call_empty : {f : Expr} {s u : Span} {a b : List Terminal} → IsPostfix f a (mark m.OpenParen s ∷ mark m.CloseParen u ∷ b) → IsPostfix (expr.Call f s []) a b
    call : {f last : Expr} {args : List Expr} {s u : Span} {a b c d : List Terminal} →
        IsPostfix f a (mark m.OpenParen s ∷ b) → IsArguments args b c → IsAssign last c (mark m.CloseParen u ∷ d) →
        IsPostfix (expr.Call f s (args ++ last ∷ [])) a d
    index : {e i : Expr} {s u : Span} {a b c : List Terminal} → IsPostfix e a (mark m.OpenBracket s ∷ b) → IsAssign i b (mark m.CloseBracket u ∷ c) →
        IsPostfix (expr.Index e s i) a c
    select : {e : Expr} {x : List ℕ} {s u : Span} {a b : List Terminal} (k : Selector) → IsPostfix e a (mark (selector_mark k) s ∷ named x u ∷ b) →
        IsPostfix (expr.Select e k s (name_of x u)) a b
    incremented : {e : Expr} {s : Span} {a b : List Terminal} → IsPostfix e a (mark m.PlusPlus s ∷ b) → IsPostfix (expr.PostIncrement e s) a b
    decremented : {e : Expr} {s : Span} {a b : List Terminal} → IsPostfix e a (mark m.MinusMinus s ∷ b) → IsPostfix (expr.PostDecrement e s) a b

  -- { assign "," }
  pub data IsArguments : List Expr → List Terminal → List Terminal → Type 0 where
    no_arguments : {a : List Terminal} → IsArguments [] a a
    argument : {e : Expr} {args : List Expr} {s : Span} {a b c : List Terminal} →
        IsArguments args a b → IsAssign e b (mark m.Comma s ∷ c) → IsArguments (args ++ e ∷ []) a c
