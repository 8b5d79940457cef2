-- What the stack of frames holds, and what a token does to it. The first argument is the cap on
-- heights.
use Rattle.std.specs.Prelude.{◌≡◌, ℕ, ℤ, Bool, true, false, cond, List, [], ◌∷◌, ◌++◌, Option, Some, None, nat_le}
use Rattle.c_types.specs.declared.types.Span.{Span}
use Rattle.c_types.specs.declared.types.IntTy.{IntTy}
use Rattle.c_tree.specs.declared.operators.UnaryOp.{UnaryOp}
use Rattle.c_tree.specs.declared.operators.BinaryOp.{BinaryOp}
use Rattle.c_tree.specs.declared.operators.AssignOp.{AssignOp}
use Rattle.c_tree.specs.declared.operators.Selector.{Selector}
use Rattle.c_tree.specs.declared.expressions.Name.{Name}
use Rattle.c_tree.specs.declared.expressions.TypeName.{TypeName}
use Rattle.c_tree.specs.declared.expressions.Expr.{Expr}
use Rattle.c_tree.specs.declared.expressions.Expr.TheVariants as expr
use Rattle.c_lex.specs.declared.words.Word.{Word}
use Rattle.c_lex.specs.declared.words.Word.TheVariants as w
use Rattle.c_lex.specs.declared.marks.Mark.{Mark}
use Rattle.c_lex.specs.declared.marks.Mark.TheVariants as m
use Rattle.parse_terms.specs.declared.answer.Answer.{Answer}
use Rattle.parse_terms.specs.declared.answer.Answer.TheVariants.{More, Done, Bad}
use Rattle.parse_terms.specs.declared.answer.Verdict.{Verdict}
use Rattle.parse_terms.specs.declared.answer.Verdict.TheVariants as verdict
use Rattle.parse_terms.specs.declared.terminal.Sort.{Sort}
use Rattle.parse_terms.specs.declared.terminal.Sort.TheVariants as sort
use Rattle.parse_terms.specs.declared.terminal.Terminal.{Terminal}
use Rattle.parse_terms.specs.declared.integers.IntWords.{IntWords}
use Rattle.parse_terms.specs.declared.types.TypeState.{TypeState}
use Rattle.parse_terms.specs.declared.types.TypeState.TheVariants as type_state
use Rattle.parse_terms.specs.Terminals.{term, name_of}
use Rattle.parse_terms.specs.Declarators.{literal}
use Rattle.parse_terms.specs.Integers.{int_begin, int_step, int_finish}
use Rattle.parse_terms.specs.TypeNames.{type_step}
use Rattle.parse_terms.specs.Runs.{Finished, run}
use Rattle.parse_expr.specs.declared.operators.Follower.{Follower}
use Rattle.parse_expr.specs.declared.operators.Follower.TheVariants as follower
use Rattle.parse_expr.specs.declared.operators.Opener.{Opener}
use Rattle.parse_expr.specs.declared.operators.Opener.TheVariants as opener
use Rattle.parse_expr.specs.declared.parts.Part.{Part}
use Rattle.parse_expr.specs.declared.parts.Parts.{Parts}
use Rattle.parse_expr.specs.declared.state.Frame.{Frame}
use Rattle.parse_expr.specs.declared.state.Frame.TheVariants.{Prefix, Casting, Paren, Calling, Indexing, Left, Asking, Choosing, Assigning}
use Rattle.parse_expr.specs.declared.state.Focus.{Focus}
use Rattle.parse_expr.specs.declared.state.Focus.TheVariants.{Operand, Parened, CastWords, Argument, Selecting, SizeOpen, SizeType, VaOpen, VaName, VaComma, VaType, Operated, Whole}
use Rattle.parse_expr.specs.declared.state.ExprState.{ExprState}
use Rattle.parse_expr.specs.Operators.{level, follower_of, opener_of}
use Rattle.parse_expr.specs.ExprGrammar.{is_effect, IsAssign}
use Rattle.parse_expr.specs.Parts.{part_effect, cap, leaf, no_parts, prefixed, cast, parenthesized, selected, incremented, decremented, indexed, joined, assigned, chosen, called, with_argument}

abbrev pub state : Bool → Focus → List Frame → ExprState
state e f fs = record { effect = e; focus = f; frames = fs }

-- where an expression begins; it must be an effect if the first argument is true
abbrev pub start : Bool → ExprState
start e = state e Operand []

abbrev pub Said : Type 0
Said = Answer ExprState Part

abbrev pub to : Bool → Focus → List Frame → Said
to e f fs = More (state e f fs)

-- whether what waits in a frame binds at the level q or tighter
abbrev pub binds : ℕ → Frame → Bool
binds q (Prefix op s) = true
binds q (Casting s i t) = true
binds q (Left op s l) = nat_le q (level op)
binds q (Choosing c s l) = nat_le q 0
binds q (Assigning op s l) = nat_le q 0
binds q _ = false

-- the expression that a frame closes with its last part, where it has one
abbrev pub closed : ℕ → Frame → Part → Part
closed n (Prefix op s) p = prefixed n op s p
closed n (Casting s i t) p = cast n s i t p
closed n (Left op s l) p = joined n op s l p
closed n (Choosing c s l) p = chosen n c s l p
closed n (Assigning op s l) p = assigned n op s l p
closed n _ p = p

-- closes what binds at the level q or tighter; 0 closes assignments and conditionals too
abbrev pub reduce : ℕ → ℕ → Part → List Frame → Part × List Frame
reduce n q p (Prefix op s ∷ fs) = reduce n q (prefixed n op s p) fs
reduce n q p (Casting s i t ∷ fs) = reduce n q (cast n s i t p) fs
reduce n q p (Left op s l ∷ fs) = let r = reduce n q (joined n op s l p) fs in cond (nat_le q (level op)) r (p, Left op s l ∷ fs)
reduce n q p (Choosing c s l ∷ fs) = let r = reduce n q (chosen n c s l p) fs in cond (nat_le q 0) r (p, Choosing c s l ∷ fs)
reduce n q p (Assigning op s l ∷ fs) = let r = reduce n q (assigned n op s l p) fs in cond (nat_le q 0) r (p, Assigning op s l ∷ fs)
reduce n q p (Paren s ∷ fs) = (p, Paren s ∷ fs)
reduce n q p (Calling f s args ∷ fs) = (p, Calling f s args ∷ fs)
reduce n q p (Indexing e s ∷ fs) = (p, Indexing e s ∷ fs)
reduce n q p (Asking c s ∷ fs) = (p, Asking c s ∷ fs)
reduce n q p [] = (p, [])

-- ---- where an operand begins

abbrev pub opened : Opener → Span → Bool → List Frame → Said
opened opener.OpenParen s e fs = to e (Parened s) fs
opened (opener.Prefix op) s e fs = to e Operand (Prefix op s ∷ fs)
opened opener.CloseParen s e fs = Bad
opened opener.Nothing s e fs = Bad

abbrev pub word_operand : Word → Span → Bool → List Frame → Said
word_operand w.Sizeof s e fs = to e (SizeOpen s) fs
word_operand w.VaArg s e fs = to e (VaOpen s) fs
word_operand v s e fs = Bad

abbrev pub operand_step : Sort → Span → Bool → List Frame → Said
operand_step (sort.Name x) s e fs = to e (Operated (leaf (expr.Name (name_of x s)))) fs
operand_step (sort.Number v t) s e fs = to e (Operated (leaf (expr.Number (literal v t s)))) fs
operand_step (sort.Char c) s e fs = to e (Operated (leaf (expr.Char c s))) fs
operand_step (sort.Word v) s e fs = word_operand v s e fs
operand_step (sort.Mark k) s e fs = opened (opener_of k) s e fs
operand_step (sort.Text x) s e fs = Bad
operand_step sort.Unknown s e fs = Bad

-- after `(` at u where an operand begins: a cast or a parenthesised expression
abbrev pub parened_word : Option IntWords → Word → Span → Span → Bool → List Frame → Said
parened_word None v s u e fs = word_operand v s e (Paren u ∷ fs)
parened_word (Some x) v s u e fs = to e (CastWords u s x) fs

abbrev pub parened_step : Sort → Span → Span → Bool → List Frame → Said
parened_step (sort.Word v) s u e fs = parened_word (int_begin v) v s u e fs
parened_step k s u e fs = operand_step k s e (Paren u ∷ fs)

abbrev pub cast_more : Option IntWords → Span → Span → Bool → List Frame → Said
cast_more None u t e fs = Bad
cast_more (Some x) u t e fs = to e (CastWords u t x) fs

abbrev pub cast_end : Option IntTy → Span → Span → Bool → List Frame → Said
cast_end None u t e fs = Bad
cast_end (Some i) u t e fs = to e Operand (Casting u i t ∷ fs)

abbrev pub cast_close : Opener → IntWords → Span → Span → Bool → List Frame → Said
cast_close opener.CloseParen x u t e fs = cast_end (int_finish x) u t e fs
cast_close _ x u t e fs = Bad

abbrev pub cast_step : Sort → IntWords → Span → Span → Bool → List Frame → Said
cast_step (sort.Word v) x u t e fs = cast_more (int_step v x) u t e fs
cast_step (sort.Mark k) x u t e fs = cast_close (opener_of k) x u t e fs
cast_step _ x u t e fs = Bad

abbrev pub argument_opened : ℕ → Opener → Part → Span → Span → Bool → List Frame → Said
argument_opened n opener.CloseParen f u s e fs = to e (Operated (called n f u no_parts)) fs
argument_opened n k f u s e fs = opened k s e (Calling f u no_parts ∷ fs)

-- after the `(` of a call
abbrev pub argument_step : ℕ → Sort → Span → Part → Span → Bool → List Frame → Said
argument_step n (sort.Mark k) s f u e fs = argument_opened n (opener_of k) f u s e fs
argument_step n k s f u e fs = operand_step k s e (Calling f u no_parts ∷ fs)

abbrev pub select_step : ℕ → Sort → Span → Part → Selector → Span → Bool → List Frame → Said
select_step n (sort.Name x) s p k u e fs = to e (Operated (selected n p k u (name_of x s))) fs
select_step n _ s p k u e fs = Bad

abbrev pub open_step : Opener → Focus → Bool → List Frame → Said
open_step opener.OpenParen f e fs = to e f fs
open_step _ f e fs = Bad

-- a `(` that leads to a focus
abbrev pub paren_step : Sort → Focus → Bool → List Frame → Said
paren_step (sort.Mark k) f e fs = open_step (opener_of k) f e fs
paren_step _ f e fs = Bad

-- a `)` that leads to a focus
abbrev pub close_step : Opener → Focus → Bool → List Frame → Said
close_step opener.CloseParen f e fs = to e f fs
close_step _ f e fs = Bad

abbrev pub ending_step : Sort → Focus → Bool → List Frame → Said
ending_step (sort.Mark k) f e fs = close_step (opener_of k) f e fs
ending_step _ f e fs = Bad

abbrev pub size_type : Sort → Answer TypeState TypeName → Span → Bool → List Frame → Said
size_type k (More t) u e fs = to e (SizeType u t) fs
size_type k (Done t) u e fs = ending_step k (Whole (leaf (expr.SizeOf u t))) e fs
size_type k Bad u e fs = Bad

abbrev pub va_name_step : Sort → Span → Span → Bool → List Frame → Said
va_name_step (sort.Name x) s u e fs = to e (VaComma u (name_of x s)) fs
va_name_step _ s u e fs = Bad

abbrev pub va_comma_mark : Mark → Span → Name → Bool → List Frame → Said
va_comma_mark m.Comma u x e fs = to e (VaType u x type_state.Opening) fs
va_comma_mark _ u x e fs = Bad

abbrev pub va_comma_step : Sort → Span → Name → Bool → List Frame → Said
va_comma_step (sort.Mark k) u x e fs = va_comma_mark k u x e fs
va_comma_step _ u x e fs = Bad

abbrev pub va_type : Sort → Answer TypeState TypeName → Span → Name → Bool → List Frame → Said
va_type k (More t) u x e fs = to e (VaType u x t) fs
va_type k (Done t) u x e fs = ending_step k (Operated (leaf (expr.VaArg u x t))) e fs
va_type k Bad u x e fs = Bad

-- ---- behind an operand

-- an operator may follow: an effect's own outermost form is none
abbrev pub is_free : Bool → List Frame → Bool
is_free e [] = cond e false true
is_free e (f ∷ fs) = true

-- an assignment may follow a unary
abbrev pub is_assignable : List Frame → Bool
is_assignable (Left op s l ∷ fs) = false
is_assignable (Choosing c s l ∷ fs) = false
is_assignable (Prefix op s ∷ fs) = false
is_assignable (Casting s i t ∷ fs) = false
is_assignable _ = true

abbrev pub left_of : BinaryOp → Span → Bool → Part × List Frame → Said
left_of op s e (p, fs) = cond (is_free e fs) (to e Operand (Left op s p ∷ fs)) Bad

abbrev pub asking_of : Span → Bool → Part × List Frame → Said
asking_of s e (p, fs) = cond (is_free e fs) (to e Operand (Asking p s ∷ fs)) Bad

abbrev pub assigning_of : AssignOp → Span → Bool → Part × List Frame → Said
assigning_of op s e (p, fs) = cond (is_assignable fs) (to e Operand (Assigning op s p ∷ fs)) Bad

-- the expression is over
abbrev pub finish_part : Bool → Part → Said
finish_part false p = Done p
finish_part true p = cond (part_effect p) (Done p) Bad

abbrev pub close_of : ℕ → Bool → Part → List Frame → Said
close_of n e p (Paren s ∷ fs) = to e (Operated (parenthesized n s p)) fs
close_of n e p (Calling f s args ∷ fs) = to e (Operated (called n f s (with_argument args p))) fs
close_of n e p [] = finish_part e p
close_of n e p _ = Bad

abbrev pub bracket_of : ℕ → Bool → Part → List Frame → Said
bracket_of n e p (Indexing a s ∷ fs) = to e (Operated (indexed n a s p)) fs
bracket_of n e p _ = Bad

abbrev pub colon_of : Bool → Part → List Frame → Said
colon_of e p (Asking c s ∷ fs) = to e Operand (Choosing c s p ∷ fs)
colon_of e p _ = Bad

abbrev pub comma_of : Bool → Part → List Frame → Said
comma_of e p (Calling f s args ∷ fs) = to e Operand (Calling f s (with_argument args p) ∷ fs)
comma_of e p [] = finish_part e p
comma_of e p _ = Bad

abbrev pub semicolon_of : Bool → Part → List Frame → Said
semicolon_of e p [] = finish_part e p
semicolon_of e p _ = Bad

abbrev pub followed : ℕ → Follower → Span → Part → Bool → List Frame → Said
followed n follower.OpenParen s p e fs = to e (Argument p s) fs
followed n follower.OpenBracket s p e fs = to e Operand (Indexing p s ∷ fs)
followed n follower.Increment s p e fs = to e (Operated (incremented n p s)) fs
followed n follower.Decrement s p e fs = to e (Operated (decremented n p s)) fs
followed n (follower.Select k) s p e fs = to e (Selecting p k s) fs
followed n follower.Question s p e fs = asking_of s e (reduce n 1 p fs)
followed n (follower.Assign op) s p e fs = assigning_of op s e (reduce n 11 p fs)
followed n (follower.Binary op) s p e fs = left_of op s e (reduce n (level op) p fs)
followed n follower.CloseParen s p e fs = let r = reduce n 0 p fs in close_of n e r.0 r.1
followed n follower.CloseBracket s p e fs = let r = reduce n 0 p fs in bracket_of n e r.0 r.1
followed n follower.Colon s p e fs = let r = reduce n 0 p fs in colon_of e r.0 r.1
followed n follower.Comma s p e fs = let r = reduce n 0 p fs in comma_of e r.0 r.1
followed n follower.Semicolon s p e fs = let r = reduce n 0 p fs in semicolon_of e r.0 r.1
followed n follower.Nothing s p e fs = Bad

abbrev pub operated_step : ℕ → Sort → Span → Part → Bool → List Frame → Said
operated_step n (sort.Mark k) s p e fs = followed n (follower_of k) s p e fs
operated_step n _ s p e fs = Bad

abbrev pub is_postfix : Follower → Bool
is_postfix follower.OpenParen = true
is_postfix follower.OpenBracket = true
is_postfix follower.Increment = true
is_postfix follower.Decrement = true
is_postfix (follower.Select k) = true
is_postfix _ = false

-- behind a unary that is no postfix expression
abbrev pub whole_step : ℕ → Sort → Span → Part → Bool → List Frame → Said
whole_step n (sort.Mark k) s p e fs = cond (is_postfix (follower_of k)) Bad (followed n (follower_of k) s p e fs)
whole_step n _ s p e fs = Bad

abbrev pub step_at : ℕ → Terminal → Focus → Bool → List Frame → Said
step_at n t Operand e fs = operand_step t.sort t.span e fs
step_at n t (Parened u) e fs = parened_step t.sort t.span u e fs
step_at n t (CastWords u v x) e fs = cast_step t.sort x u v e fs
step_at n t (Argument f u) e fs = argument_step n t.sort t.span f u e fs
step_at n t (Selecting p k u) e fs = select_step n t.sort t.span p k u e fs
step_at n t (SizeOpen u) e fs = paren_step t.sort (SizeType u type_state.Opening) e fs
step_at n t (SizeType u x) e fs = size_type t.sort (type_step t x) u e fs
step_at n t (VaOpen u) e fs = paren_step t.sort (VaName u) e fs
step_at n t (VaName u) e fs = va_name_step t.sort t.span u e fs
step_at n t (VaComma u x) e fs = va_comma_step t.sort u x e fs
step_at n t (VaType u x y) e fs = va_type t.sort (type_step t y) u x e fs
step_at n t (Operated p) e fs = operated_step n t.sort t.span p e fs
step_at n t (Whole p) e fs = whole_step n t.sort t.span p e fs

-- what an expression's machine says to a token
abbrev pub expr_step : ℕ → Terminal → ExprState → Said
expr_step n t st = step_at n t st.focus st.effect st.frames

-- the verdict says what was answered, and the state is the one that comes of it
abbrev pub Says : Verdict Part → Said → ExprState → Type 0
Says verdict.More o st = o ≡ More st
Says (verdict.Done p) o st = o ≡ Done p
Says verdict.Bad o st = o ≡ Bad

-- the tokens that end an expression that no frame waits for
abbrev pub Ends : Sort → Type 0
Ends (sort.Mark m.CloseParen) = Unit {0}
Ends (sort.Mark m.Comma) = Unit {0}
Ends (sort.Mark m.Semicolon) = Unit {0}
Ends _ = ⊥

-- the part is that of an expression between the tokens z and the token t before a, which ends one; it
-- is an effect where it has to be one
pub record IsRead (n : ℕ) (e : Bool) (p : Part) (z : List Terminal) (t : Terminal) (a : List Terminal) : Type 0 where
  pub tree : Expr
  pub is : p ≡ cap n tree
  pub reads : IsAssign tree z (t ∷ a)
  pub effect : e ≡ true → is_effect tree ≡ true
  pub ends : Ends t.sort

-- tokens bring an expression that is being read to its end before t
pub record CanEnd (n : ℕ) (st : ExprState) (t : Terminal) (b : List Terminal) : Type 0 where
  pub tokens : List Terminal
  pub part_of : Part
  pub is : run (expr_step n) (tokens ++ t ∷ b) st ≡ Finished part_of (t ∷ b)
