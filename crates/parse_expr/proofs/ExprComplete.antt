-- What is in the grammar is read: the machine comes to the place behind it.
use Rattle.std.proofs.Common.{◌≡◌, ℕ, suc, ◌+◌, ◌≤◌, ◌<◌, Bool, true, false, cond, List, [], ◌∷◌, ◌++◌, Option, Some, None, nat_le, refl, sym, ap, ◌∙◌, subst, arith}
use Rattle.std.specs.Prelude.{ℤ}
use Rattle.std.proofs.lemmas.Bool.{le-leb, lt-leb}
use Rattle.c_types.specs.declared.types.Span.{Span}
use Rattle.c_types.specs.declared.types.IntTy.{IntTy}
use Rattle.c_types.specs.declared.types.IntTy.TheVariants.{I8, U8, I16, U16, I32, U32, I64, U64}
use Rattle.c_tree.specs.declared.operators.UnaryOp.{UnaryOp}
use Rattle.c_tree.specs.declared.operators.UnaryOp.TheVariants as unary
use Rattle.c_tree.specs.declared.operators.BinaryOp.{BinaryOp}
use Rattle.c_tree.specs.declared.operators.AssignOp.{AssignOp}
use Rattle.c_tree.specs.declared.operators.AssignOp.TheVariants as assign_op
use Rattle.c_tree.specs.declared.operators.Selector.{Selector}
use Rattle.c_tree.specs.declared.expressions.Name.{Name}
use Rattle.c_tree.specs.declared.expressions.TypeName.{TypeName}
use Rattle.c_tree.specs.declared.expressions.Expr.{Expr}
use Rattle.c_tree.specs.declared.expressions.Expr.TheVariants as expr
use Rattle.c_lex.specs.declared.words.Word.{Word}
use Rattle.c_lex.specs.declared.words.Word.TheVariants as w
use Rattle.c_lex.specs.declared.marks.Mark.{Mark}
use Rattle.c_lex.specs.declared.marks.Mark.TheVariants as m
use Rattle.parse_terms.specs.declared.answer.Answer.{Answer}
use Rattle.parse_terms.specs.declared.answer.Answer.TheVariants.{More, Done, Bad}
use Rattle.parse_terms.specs.declared.terminal.Sort.{Sort}
use Rattle.parse_terms.specs.declared.terminal.Sort.TheVariants as sort
use Rattle.parse_terms.specs.declared.terminal.Terminal.{Terminal}
use Rattle.parse_terms.specs.declared.integers.IntWords.{IntWords}
use Rattle.parse_terms.specs.declared.integers.IntWords.TheVariants.{Sign, Short, Long, LongLong, Whole}
use Rattle.parse_terms.specs.declared.types.TypeState.{TypeState}
use Rattle.parse_terms.specs.declared.types.TypeState.TheVariants as type_state
use Rattle.parse_terms.specs.Terminals.{term, word, mark, named, name_of}
use Rattle.parse_terms.specs.Declarators.{literal, number}
use Rattle.parse_terms.specs.Integers.{IsWidth, char as char_width, short, short_int, int, long_long, long_long_int, IsInt, plain as plain_int, with_signed, with_unsigned, signed, unsigned, int_begin, int_step, int_finish}
use Rattle.parse_terms.specs.TypeNames.{type_step, IsTypeName}
use Rattle.parse_terms.specs.Runs.{Outcome, Ended, Finished, Failed, after, run, Came, begun, taken}
use Rattle.parse_expr.specs.declared.operators.Follower.{Follower}
use Rattle.parse_expr.specs.declared.operators.Follower.TheVariants as follower
use Rattle.parse_expr.specs.declared.operators.Opener.{Opener}
use Rattle.parse_expr.specs.declared.operators.Opener.TheVariants as opener
use Rattle.parse_expr.specs.declared.parts.Part.{Part}
use Rattle.parse_expr.specs.declared.parts.Parts.{Parts}
use Rattle.parse_expr.specs.declared.state.Frame.{Frame}
use Rattle.parse_expr.specs.declared.state.Frame.TheVariants.{Prefix, Casting, Paren, Calling, Indexing, Left, Asking, Choosing, Assigning}
use Rattle.parse_expr.specs.declared.state.Focus.{Focus}
use Rattle.parse_expr.specs.declared.state.Focus.TheVariants.{Operand, Parened, CastWords, Argument, Selecting, SizeOpen, SizeType, VaOpen, VaName, VaComma, VaType, Operated, Whole}
use Rattle.parse_expr.specs.declared.state.ExprState.{ExprState}
use Rattle.parse_expr.specs.Operators.{level, binary_mark, assign_mark, prefix_mark, selector_mark, follower_of, opener_of, IsFollower, IsOpener}
use Rattle.parse_expr.specs.ExprGrammar.{is_effect, is_effect_prefix, IsAssign, plain, assigned, IsCond, simple, conditional, IsBinary, operand, joined, IsUnary, prefixed, cast, size_of, postfix, IsPostfix, name, number_of, char, parenthesis, argument_of, call_empty, call, index, select, incremented, decremented, IsArguments, no_arguments, argument}
use Rattle.parse_expr.specs.Parts.{part_effect, cap, cap_all, leaf, no_parts}
use Rattle.parse_expr.specs.Parts as parts
use Rattle.parse_expr.specs.ExprMachine.{state, start, Said, to, reduce, opened, word_operand, operand_step, parened_word, parened_step, cast_more, cast_end, cast_close, cast_step, argument_opened, argument_step, select_step, open_step, paren_step, close_step, ending_step, size_type, va_name_step, va_comma_mark, va_comma_step, va_type, is_free, is_assignable, left_of, asking_of, assigning_of, finish_part, close_of, bracket_of, colon_of, comma_of, semicolon_of, followed, operated_step, is_postfix, whole_step, step_at, expr_step, Ends}
use Rattle.parse_expr.proofs.OperatorLaws.{binary_follows, assign_follows, selector_follows, prefix_opens, level_positive, level_most, follower_is, opener_is}
use Rattle.parse_expr.proofs.PartLaws.{effect-Unary, effect-Cast, effect-Paren, effect-Select, effect-PostIncrement, effect-PostDecrement, effect-Index, effect-Binary, effect-Assign, effect-Conditional, effect-Call, leaf-cap, prefixed-cap, cast-cap, parenthesized-cap, selected-cap, incremented-cap, decremented-cap, indexed-cap, joined-cap, assigned-cap, chosen-cap, no_parts-cap, called-cap, with_argument-cap, effect-cap}
use Rattle.c_tree.proofs.HeightLaws.{expr_height-Name, expr_height-Number, expr_height-Char, expr_height-VaArg, expr_height-SizeOf}
use Rattle.parse_terms.proofs.RunLaws.{hosted, lifted}
use Rattle.parse_terms.proofs.TypeLaws.{type_complete}

pub false_true : false ≡ true → ⊥
false_true e = cc

-- the frames leave alone what binds at the level n or tighter
abbrev pub Fits : ℕ → List Frame → Type 0
Fits n (Prefix op s ∷ fs) = ⊥
Fits n (Casting s i t ∷ fs) = ⊥
Fits n (Left op s l ∷ fs) = level op < n
Fits n (Paren s ∷ fs) = Unit {0}
Fits n (Calling f s args ∷ fs) = Unit {0}
Fits n (Indexing a s ∷ fs) = Unit {0}
Fits n (Asking c s ∷ fs) = Unit {0}
Fits n (Choosing c s l ∷ fs) = Unit {0}
Fits n (Assigning op s l ∷ fs) = Unit {0}
Fits n [] = Unit {0}

le_true : (m n : ℕ) → m ≤ n → nat_le m n ≡ true
le_true m n h = le-leb m n h

le_false : (m n : ℕ) → n < m → nat_le m n ≡ false
le_false m n h = lt-leb m n h

fits_more : (n m : ℕ) → n ≤ m → (fs : List Frame) → Fits n fs → Fits m fs
fits_more n m h (Prefix op s ∷ fs) f = f
fits_more n m h (Casting s i t ∷ fs) f = f
fits_more n m h (Left op s l ∷ fs) f = omega arith
fits_more n m h (Paren s ∷ fs) f = tt
fits_more n m h (Calling g s args ∷ fs) f = tt
fits_more n m h (Indexing a s ∷ fs) f = tt
fits_more n m h (Asking c s ∷ fs) f = tt
fits_more n m h (Choosing c s l ∷ fs) f = tt
fits_more n m h (Assigning op s l ∷ fs) f = tt
fits_more n m h [] f = tt

-- ---- the tokens that an operand begins with

abbrev pub opens : Sort → Bool
opens (sort.Name x) = true
opens (sort.Number v t) = true
opens (sort.Char c) = true
opens (sort.Mark m.OpenParen) = true
opens (sort.Mark m.PlusPlus) = true
opens (sort.Mark m.MinusMinus) = true
opens (sort.Mark m.Minus) = true
opens (sort.Mark m.Plus) = true
opens (sort.Mark m.Tilde) = true
opens (sort.Mark m.Exclamation) = true
opens (sort.Mark m.Ampersand) = true
opens (sort.Mark m.Star) = true
opens (sort.Word w.Sizeof) = true
opens (sort.Word w.VaArg) = true
opens _ = false

pub record Begins (a : List Terminal) : Type 0 where
  pub first : Terminal
  pub others : List Terminal
  pub is : a ≡ first ∷ others
  pub opening : opens first.sort ≡ true

prefix_begins : (op : UnaryOp) → opens (sort.Mark (prefix_mark op)) ≡ true
prefix_begins unary.Increment = refl
prefix_begins unary.Decrement = refl
prefix_begins unary.Negate = refl
prefix_begins unary.Plus = refl
prefix_begins unary.Complement = refl
prefix_begins unary.Not = refl
prefix_begins unary.Address = refl
prefix_begins unary.Indirect = refl

mutual
  pub assign_begins : {x : Expr} {a b : List Terminal} → IsAssign x a b → Begins a
  assign_begins (plain d) = cond_begins d
  assign_begins (assigned op u d) = unary_begins u

  pub cond_begins : {x : Expr} {a b : List Terminal} → IsCond x a b → Begins a
  cond_begins (simple d) = binary_begins d
  cond_begins (conditional c l r) = binary_begins c

  pub binary_begins : {n : ℕ} {x : Expr} {a b : List Terminal} → IsBinary n x a b → Begins a
  binary_begins (operand u) = unary_begins u
  binary_begins (joined op le l r) = binary_begins l

  pub unary_begins : {x : Expr} {a b : List Terminal} → IsUnary x a b → Begins a
  unary_begins (prefixed {s = s} {a = a} op u) = record { first = mark (prefix_mark op) s; others = a; is = refl; opening = prefix_begins op }
  unary_begins (cast {s = s} {a = a} i u) = record { first = mark m.OpenParen s; others = a; is = refl; opening = refl }
  unary_begins (size_of {s = s} {u = u} {a = a} t) = record { first = word w.Sizeof s; others = mark m.OpenParen u ∷ a; is = refl; opening = refl }
  unary_begins (postfix p) = postfix_begins p

  pub postfix_begins : {x : Expr} {a b : List Terminal} → IsPostfix x a b → Begins a
  postfix_begins (name {x = x} {s = s} {a = a}) = record { first = named x s; others = a; is = refl; opening = refl }
  postfix_begins (number_of {v = v} {t = t} {s = s} {a = a}) = record { first = number v t s; others = a; is = refl; opening = refl }
  postfix_begins (char {c = c} {s = s} {a = a}) = record { first = term (sort.Char c) s; others = a; is = refl; opening = refl }
  postfix_begins (parenthesis {s = s} {a = a} d) = record { first = mark m.OpenParen s; others = a; is = refl; opening = refl }
  postfix_begins (argument_of {x = x} {s = s} {u = u} {v = v} {p = p} {a = a} t) =
      record { first = word w.VaArg s; others = mark m.OpenParen u ∷ named x v ∷ mark m.Comma p ∷ a; is = refl; opening = refl }
  postfix_begins (call_empty p) = postfix_begins p
  postfix_begins (call p args d) = postfix_begins p
  postfix_begins (index p d) = postfix_begins p
  postfix_begins (select k p) = postfix_begins p
  postfix_begins (incremented p) = postfix_begins p
  postfix_begins (decremented p) = postfix_begins p

pub arguments_begin : {args : List Expr} {last : Expr} {a b c : List Terminal} → IsArguments args a b → IsAssign last b c → Begins a
arguments_begin no_arguments d = assign_begins d
arguments_begin (argument before e) d = arguments_begin before e

module _ (n : ℕ) (low : 1 ≤ n) (e : Bool) where
  abbrev pub wants : List Frame → ExprState
  wants fs = state e Operand fs

  abbrev pub has : Part → List Frame → ExprState
  has p fs = state e (Operated p) fs

  abbrev pub go : List Terminal → ExprState → Outcome ExprState Part
  go = run (expr_step n)

  fits_reduce : (q : ℕ) → 1 ≤ q → (fs : List Frame) → Fits q fs → (p : Part) → reduce n q p fs ≡ (p, fs)
  fits_reduce q h (Prefix op s ∷ fs) f p = absurd f
  fits_reduce q h (Casting s i t ∷ fs) f p = absurd f
  fits_reduce q h (Left op s l ∷ fs) f p = ap (λ v. cond v (reduce n q (parts.joined n op s l p) fs) (p, Left op s l ∷ fs)) (le_false q (level op) f)
  fits_reduce q h (Paren s ∷ fs) f p = refl
  fits_reduce q h (Calling g s args ∷ fs) f p = refl
  fits_reduce q h (Indexing a s ∷ fs) f p = refl
  fits_reduce q h (Asking c s ∷ fs) f p = refl
  fits_reduce q h (Choosing c s l ∷ fs) f p = ap (λ v. cond v (reduce n q (parts.chosen n c s l p) fs) (p, Choosing c s l ∷ fs)) (le_false q 0 h)
  fits_reduce q h (Assigning op s l ∷ fs) f p = ap (λ v. cond v (reduce n q (parts.assigned n op s l p) fs) (p, Assigning op s l ∷ fs)) (le_false q 0 h)
  fits_reduce q h [] f p = refl

  -- a unary has been read, which is a postfix expression or not
  abbrev pub held : Bool → Part → Focus
  held false p = Operated p
  held true p = Whole p

  -- a mark that binds no tighter than a unary is the same behind both
  pub held_step : (v : Bool) (k : Mark) (s : Span) (p : Part) (fs : List Frame) → is_postfix (follower_of k) ≡ false → expr_step n (mark k s) (state e (held v p) fs) ≡ followed n (follower_of k) s p e fs
  held_step false k s p fs h = refl
  held_step true k s p fs h = ap (λ v. cond v Bad (followed n (follower_of k) s p e fs)) h

  pub held_run : (v : Bool) (k : Mark) (s : Span) (p : Part) (fs : List Frame) (b : List Terminal) → is_postfix (follower_of k) ≡ false →
      go (mark k s ∷ b) (state e (held v p) fs) ≡ after (followed n (follower_of k) s p e fs) (go b) (mark k s ∷ b)
  held_run v k s p fs b h = ap (λ y. after y (go b) (mark k s ∷ b)) (held_step v k s p fs h)

  -- from the tokens a the machine comes to b, where x is read but for what a later token closes
  pub record Lands (most : ℕ) (x : Expr) (fs : List Frame) (a b : List Terminal) : Type 0 where
    pub whole : Bool
    pub last : Part
    pub frames : List Frame
    pub runs : go a (wants fs) ≡ go b (state e (held whole last) frames)
    pub reduces : (q : ℕ) → q ≤ most → reduce n q last frames ≡ reduce n q (cap n x) fs

  leaf_lands : (x : Expr) (h : leaf x ≡ cap n x) (fs : List Frame) (b : List Terminal) → go b (has (leaf x) fs) ≡ go b (has (cap n x) fs)
  leaf_lands x h fs b = ap (λ p. go b (has p fs)) h

  record CastAt (i : IntTy) (s t : Span) (fs : List Frame) (a b : List Terminal) : Type 0 where
    words : IntWords
    runs : go a (state e (Parened s) fs) ≡ go b (state e (CastWords s t words) fs)
    finishes : int_finish words ≡ Some i

  cast_lands : {i : IntTy} {t : Span} {a b : List Terminal} (s : Span) (fs : List Frame) → IsInt i t a b → CastAt i s t fs a b
  cast_lands s fs (plain_int char_width) = record { words = Whole I8; runs = refl; finishes = refl }
  cast_lands s fs (plain_int short) = record { words = Short false; runs = refl; finishes = refl }
  cast_lands s fs (plain_int short_int) = record { words = Whole I16; runs = refl; finishes = refl }
  cast_lands s fs (plain_int int) = record { words = Whole I32; runs = refl; finishes = refl }
  cast_lands s fs (plain_int long_long) = record { words = LongLong false; runs = refl; finishes = refl }
  cast_lands s fs (plain_int long_long_int) = record { words = Whole I64; runs = refl; finishes = refl }
  cast_lands s fs (with_signed char_width) = record { words = Whole I8; runs = refl; finishes = refl }
  cast_lands s fs (with_signed short) = record { words = Short false; runs = refl; finishes = refl }
  cast_lands s fs (with_signed short_int) = record { words = Whole I16; runs = refl; finishes = refl }
  cast_lands s fs (with_signed int) = record { words = Whole I32; runs = refl; finishes = refl }
  cast_lands s fs (with_signed long_long) = record { words = LongLong false; runs = refl; finishes = refl }
  cast_lands s fs (with_signed long_long_int) = record { words = Whole I64; runs = refl; finishes = refl }
  cast_lands s fs (with_unsigned char_width) = record { words = Whole U8; runs = refl; finishes = refl }
  cast_lands s fs (with_unsigned short) = record { words = Short true; runs = refl; finishes = refl }
  cast_lands s fs (with_unsigned short_int) = record { words = Whole U16; runs = refl; finishes = refl }
  cast_lands s fs (with_unsigned int) = record { words = Whole U32; runs = refl; finishes = refl }
  cast_lands s fs (with_unsigned long_long) = record { words = LongLong true; runs = refl; finishes = refl }
  cast_lands s fs (with_unsigned long_long_int) = record { words = Whole U64; runs = refl; finishes = refl }
  cast_lands s fs signed = record { words = Sign false; runs = refl; finishes = refl }
  cast_lands s fs unsigned = record { words = Sign true; runs = refl; finishes = refl }

  pub size_said : (k : Sort) (u : Span) (fs : List Frame) (v : Answer TypeState TypeName) (t : Terminal) → k ≡ t.sort →
      size_type k v u e fs ≡ lifted type_step (expr_step n) (λ x. state e (SizeType u x) fs) (λ y c. ending_step c.sort (Whole (leaf (expr.SizeOf u y))) e fs) t v
  size_said k u fs (More x) t h = refl
  size_said k u fs (Done y) t h = ap (λ c. ending_step c (Whole (leaf (expr.SizeOf u y))) e fs) h
  size_said k u fs Bad t h = refl

  pub va_said : (k : Sort) (u : Span) (x : Name) (fs : List Frame) (v : Answer TypeState TypeName) (t : Terminal) → k ≡ t.sort →
      va_type k v u x e fs ≡ lifted type_step (expr_step n) (λ y. state e (VaType u x y) fs) (λ y c. ending_step c.sort (Operated (leaf (expr.VaArg u x y))) e fs) t v
  va_said k u x fs (More y) t h = refl
  va_said k u x fs (Done y) t h = ap (λ c. ending_step c (Operated (leaf (expr.VaArg u x y))) e fs) h
  va_said k u x fs Bad t h = refl

  size_lands : {y : TypeName} {a b : List Terminal} (u v : Span) (fs : List Frame) → IsTypeName y a (mark m.CloseParen v ∷ b) →
      go a (state e (SizeType u type_state.Opening) fs) ≡ go b (state e (Whole (leaf (expr.SizeOf u y))) fs)
  size_lands {y} {a} {b} u v fs d =
      hosted type_step (expr_step n) (λ x. state e (SizeType u x) fs) (λ z c. ending_step c.sort (Whole (leaf (expr.SizeOf u z))) e fs)
      (λ t x. size_said t.sort u fs (type_step t x) t refl) a type_state.Opening y (mark m.CloseParen v) b (type_complete (mark m.CloseParen v) b refl d tt)

  va_lands : {y : TypeName} {a b : List Terminal} (u : Span) (x : Name) (v : Span) (fs : List Frame) → IsTypeName y a (mark m.CloseParen v ∷ b) →
      go a (state e (VaType u x type_state.Opening) fs) ≡ go b (has (leaf (expr.VaArg u x y)) fs)
  va_lands {y} {a} {b} u x v fs d =
      hosted type_step (expr_step n) (λ z. state e (VaType u x z) fs) (λ z c. ending_step c.sort (Operated (leaf (expr.VaArg u x z))) e fs)
      (λ t z. va_said t.sort u x fs (type_step t z) t refl) a type_state.Opening y (mark m.CloseParen v) b (type_complete (mark m.CloseParen v) b refl d tt)

  argument_opens : (k : Opener) (f : Part) (u s : Span) (fs : List Frame) → (k ≡ opener.CloseParen → ⊥) → argument_opened n k f u s e fs ≡ opened k s e (Calling f u no_parts ∷ fs)
  argument_opens opener.CloseParen f u s fs h = absurd (h refl)
  argument_opens opener.OpenParen f u s fs h = refl
  argument_opens (opener.Prefix op) f u s fs h = refl
  argument_opens opener.Nothing f u s fs h = refl

  opens_mark : (k : Mark) → opens (sort.Mark k) ≡ true → opener_of k ≡ opener.CloseParen → ⊥
  opens_mark m.CloseParen o q = false_true o
  opens_mark m.OpenParen o q = cc
  opens_mark m.PlusPlus o q = cc
  opens_mark m.MinusMinus o q = cc
  opens_mark m.Minus o q = cc
  opens_mark m.Plus o q = cc
  opens_mark m.Tilde o q = cc
  opens_mark m.Exclamation o q = cc
  opens_mark m.Ampersand o q = cc
  opens_mark m.Star o q = cc
  opens_mark k o q = false_true o

  argument_begins : (k : Sort) (s : Span) (f : Part) (u : Span) (fs : List Frame) → opens k ≡ true → argument_step n k s f u e fs ≡ operand_step k s e (Calling f u no_parts ∷ fs)
  argument_begins (sort.Mark k) s f u fs o = argument_opens (opener_of k) f u s fs (opens_mark k o)
  argument_begins (sort.Name x) s f u fs o = refl
  argument_begins (sort.Number v t) s f u fs o = refl
  argument_begins (sort.Char c) s f u fs o = refl
  argument_begins (sort.Word x) s f u fs o = refl
  argument_begins (sort.Text x) s f u fs o = refl
  argument_begins sort.Unknown s f u fs o = refl

  argument_run : (f : Part) (u : Span) (fs : List Frame) (a : List Terminal) → Begins a → go a (state e (Argument f u) fs) ≡ go a (wants (Calling f u no_parts ∷ fs))
  argument_run f u fs a b =
      ap (λ l. go l (state e (Argument f u) fs)) b.is
      ∙ ap (λ v. after v (go b.others) (b.first ∷ b.others)) (argument_begins b.first.sort b.first.span f u fs b.opening)
      ∙ sym (ap (λ l. go l (wants (Calling f u no_parts ∷ fs))) b.is)

  -- a parenthesis that holds no cast
  paren_word : (v : Word) (s u : Span) (fs : List Frame) → opens (sort.Word v) ≡ true → parened_word (int_begin v) v s u e fs ≡ word_operand v s e (Paren u ∷ fs)
  paren_word w.Sizeof s u fs o = refl
  paren_word w.VaArg s u fs o = refl
  paren_word v s u fs o = absurd (false_true o)

  paren_begins : (k : Sort) (s u : Span) (fs : List Frame) → opens k ≡ true → parened_step k s u e fs ≡ operand_step k s e (Paren u ∷ fs)
  paren_begins (sort.Word v) s u fs o = paren_word v s u fs o
  paren_begins (sort.Mark k) s u fs o = refl
  paren_begins (sort.Name x) s u fs o = refl
  paren_begins (sort.Number v t) s u fs o = refl
  paren_begins (sort.Char c) s u fs o = refl
  paren_begins (sort.Text x) s u fs o = refl
  paren_begins sort.Unknown s u fs o = refl

  paren_run : (u : Span) (fs : List Frame) (a : List Terminal) → Begins a → go a (state e (Parened u) fs) ≡ go a (wants (Paren u ∷ fs))
  paren_run u fs a b =
      ap (λ l. go l (state e (Parened u) fs)) b.is
      ∙ ap (λ v. after v (go b.others) (b.first ∷ b.others)) (paren_begins b.first.sort b.first.span u fs b.opening)
      ∙ sym (ap (λ l. go l (wants (Paren u ∷ fs))) b.is)

  fits_assignable : (fs : List Frame) → is_assignable fs ≡ true → Fits 1 fs
  fits_assignable (Prefix op s ∷ fs) h = false_true h
  fits_assignable (Casting s i t ∷ fs) h = false_true h
  fits_assignable (Left op s l ∷ fs) h = absurd (false_true h)
  fits_assignable (Paren s ∷ fs) h = tt
  fits_assignable (Calling g s args ∷ fs) h = tt
  fits_assignable (Indexing a s ∷ fs) h = tt
  fits_assignable (Asking c s ∷ fs) h = tt
  fits_assignable (Choosing c s l ∷ fs) h = tt
  fits_assignable (Assigning op s l ∷ fs) h = tt
  fits_assignable [] h = tt

  equals_lands : (op : AssignOp) (s : Span) (l r : Expr) (fs : List Frame) (a b c : List Terminal) → Lands 11 l fs a (mark (assign_mark op) s ∷ b) →
      Lands 0 r (Assigning op s (cap n l) ∷ fs) b c → is_assignable fs ≡ true → Lands 0 (expr.Assign op s l r) fs a c
  equals_lands op s l r fs a b c x y take =
      let closed : reduce n 11 x.last x.frames ≡ (cap n l, fs) =
      x.reduces 11 (omega arith) ∙ fits_reduce 11 (omega arith) fs (fits_more 1 11 (omega arith) fs (fits_assignable fs take)) (cap n l) in
      record {
        whole = y.whole;
        last = y.last;
        frames = y.frames;
        runs = x.runs
            ∙ held_run x.whole (assign_mark op) s x.last x.frames b (ap is_postfix (assign_follows op))
            ∙ ap (λ v. after (followed n v s x.last e x.frames) (go b) (mark (assign_mark op) s ∷ b)) (assign_follows op)
            ∙ ap (λ v. after (assigning_of op s e v) (go b) (mark (assign_mark op) s ∷ b)) closed
            ∙ ap (λ v. after (cond v (to e Operand (Assigning op s (cap n l) ∷ fs)) Bad) (go b) (mark (assign_mark op) s ∷ b)) take
            ∙ y.runs;
        reduces = λ q k. y.reduces q k
            ∙ ap (λ v. cond v (reduce n q (parts.assigned n op s (cap n l) (cap n r)) fs) (cap n r, Assigning op s (cap n l) ∷ fs)) (le_true q 0 k)
            ∙ ap (λ p. reduce n q p fs) (assigned-cap n op s l r);
      }

  mutual
    pub assign_lands : {x : Expr} {a b : List Terminal} → IsAssign x a b → (fs : List Frame) → is_assignable fs ≡ true → is_free e fs ≡ true → Lands 0 x fs a b
    assign_lands (plain d) fs take free = cond_lands d fs (fits_assignable fs take) free
    assign_lands {a = a} {b = c} (assigned {l = l} {r = r} {s = s} {b = b} op u d) fs take free =
        equals_lands op s l r fs a b c (unary_lands 11 u fs) (assign_lands d (Assigning op s (cap n l) ∷ fs) refl refl) take

    pub cond_lands : {x : Expr} {a b : List Terminal} → IsCond x a b → (fs : List Frame) → Fits 1 fs → is_free e fs ≡ true → Lands 0 x fs a b
    cond_lands (simple d) fs fit free =
        let x = binary_lands d fs (omega arith) (omega arith) fit free in
        record { whole = x.whole; last = x.last; frames = x.frames; runs = x.runs; reduces = λ q k. x.reduces q (omega arith) }
    cond_lands (conditional {c = c} {l = l} {r = r} {s = s} {t = t} {b = b} {d = d} dc dl dr) fs fit free =
        let x = binary_lands dc fs (omega arith) (omega arith) fit free in
        let y = assign_lands dl (Asking (cap n c) s ∷ fs) refl refl in
        let z = cond_lands dr (Choosing (cap n c) s (cap n l) ∷ fs) tt refl in
        let closed : reduce n 1 x.last x.frames ≡ (cap n c, fs) = x.reduces 1 (omega arith) ∙ fits_reduce 1 (omega arith) fs fit (cap n c) in
        record {
          whole = z.whole;
          last = z.last;
          frames = z.frames;
          runs = x.runs
              ∙ held_run x.whole m.Question s x.last x.frames b refl
              ∙ ap (λ v. after (asking_of s e v) (go b) (mark m.Question s ∷ b)) closed
              ∙ ap (λ v. after (cond v (to e Operand (Asking (cap n c) s ∷ fs)) Bad) (go b) (mark m.Question s ∷ b)) free
              ∙ y.runs
              ∙ held_run y.whole m.Colon t y.last y.frames d refl
              ∙ ap (λ v. after (colon_of e v.0 v.1) (go d) (mark m.Colon t ∷ d)) (y.reduces 0 (omega arith))
              ∙ z.runs;
          reduces = λ q k. z.reduces q k
              ∙ ap (λ v. cond v (reduce n q (parts.chosen n (cap n c) s (cap n l) (cap n r)) fs) (cap n r, Choosing (cap n c) s (cap n l) ∷ fs)) (le_true q 0 k)
              ∙ ap (λ p. reduce n q p fs) (chosen-cap n c s l r);
        }

    pub binary_lands : {k : ℕ} {x : Expr} {a b : List Terminal} → IsBinary k x a b → (fs : List Frame) → 1 ≤ k → k ≤ 11 → Fits k fs → is_free e fs ≡ true → Lands k x fs a b
    binary_lands {k} (operand u) fs least most fit free = unary_lands k u fs
    binary_lands {k} (joined {l = l} {r = r} {s = s} {b = b} op le dl dr) fs least most fit free =
        let x = binary_lands dl fs (level_positive op) (omega (arith, level_most op)) (fits_more k (level op) le fs fit) free in
        let y = binary_lands dr (Left op s (cap n l) ∷ fs) (omega arith) (omega (arith, level_most op)) (omega arith) refl in
        let closed : reduce n (level op) x.last x.frames ≡ (cap n l, fs) =
        x.reduces (level op) (omega arith) ∙ fits_reduce (level op) (level_positive op) fs (fits_more k (level op) le fs fit) (cap n l) in
        record {
          whole = y.whole;
          last = y.last;
          frames = y.frames;
          runs = x.runs
              ∙ held_run x.whole (binary_mark op) s x.last x.frames b (ap is_postfix (binary_follows op))
              ∙ ap (λ v. after (followed n v s x.last e x.frames) (go b) (mark (binary_mark op) s ∷ b)) (binary_follows op)
              ∙ ap (λ v. after (left_of op s e v) (go b) (mark (binary_mark op) s ∷ b)) closed
              ∙ ap (λ v. after (cond v (to e Operand (Left op s (cap n l) ∷ fs)) Bad) (go b) (mark (binary_mark op) s ∷ b)) free
              ∙ y.runs;
          reduces = λ q h. y.reduces q (omega arith)
              ∙ ap (λ v. cond v (reduce n q (parts.joined n op s (cap n l) (cap n r)) fs) (cap n r, Left op s (cap n l) ∷ fs)) (le_true q (level op) (omega arith))
              ∙ ap (λ p. reduce n q p fs) (joined-cap n op s l r);
        }

    pub unary_lands : (most : ℕ) → {x : Expr} {a b : List Terminal} → IsUnary x a b → (fs : List Frame) → Lands most x fs a b
    unary_lands most (prefixed {e = x} {s = s} {a = a} op u) fs =
        let y = unary_lands most u (Prefix op s ∷ fs) in
        record {
          whole = y.whole;
          last = y.last;
          frames = y.frames;
          runs = ap (λ v. after (opened v s e fs) (go a) (mark (prefix_mark op) s ∷ a)) (prefix_opens op) ∙ y.runs;
          reduces = λ q k. y.reduces q k ∙ ap (λ p. reduce n q p fs) (prefixed-cap n op s x);
        }
    unary_lands most (cast {e = x} {i = i} {s = s} {t = t} {u = u} {b = b} d v) fs =
        let c = cast_lands s fs d in
        let y = unary_lands most v (Casting s i t ∷ fs) in
        record {
          whole = y.whole;
          last = y.last;
          frames = y.frames;
          runs = c.runs ∙ ap (λ o. after (cast_end o s t e fs) (go b) (mark m.CloseParen u ∷ b)) c.finishes ∙ y.runs;
          reduces = λ q k. y.reduces q k ∙ ap (λ p. reduce n q p fs) (cast-cap n s i t x);
        }
    unary_lands most (size_of {t = t} {s = s} {v = v} {b = b} d) fs =
        record {
          whole = true;
          last = cap n (expr.SizeOf s t);
          frames = fs;
          runs = size_lands s v fs d ∙ ap (λ p. go b (state e (Whole p) fs)) (leaf-cap n low (expr.SizeOf s t) (expr_height-SizeOf s t));
          reduces = λ q k. refl;
        }
    unary_lands most {x} (postfix p) fs = record { whole = false; last = cap n x; frames = fs; runs = postfix_lands p fs; reduces = λ q k. refl }

    pub postfix_lands : {x : Expr} {a b : List Terminal} → IsPostfix x a b → (fs : List Frame) → go a (wants fs) ≡ go b (has (cap n x) fs)
    postfix_lands (name {x = x} {s = s} {a = a}) fs = leaf_lands (expr.Name (name_of x s)) (leaf-cap n low (expr.Name (name_of x s)) (expr_height-Name (name_of x s))) fs a
    postfix_lands (number_of {v = v} {t = t} {s = s} {a = a}) fs = leaf_lands (expr.Number (literal v t s)) (leaf-cap n low (expr.Number (literal v t s)) (expr_height-Number (literal v t s))) fs a
    postfix_lands (char {c = c} {s = s} {a = a}) fs = leaf_lands (expr.Char c s) (leaf-cap n low (expr.Char c s) (expr_height-Char c s)) fs a
    postfix_lands (parenthesis {e = x} {s = s} {u = u} {a = a} {b = b} d) fs =
        let y = assign_lands d (Paren s ∷ fs) refl refl in
        paren_run s fs a (assign_begins d) ∙ y.runs
        ∙ held_run y.whole m.CloseParen u y.last y.frames b refl
        ∙ ap (λ v. after (close_of n e v.0 v.1) (go b) (mark m.CloseParen u ∷ b)) (y.reduces 0 (omega arith))
        ∙ ap (λ p. go b (has p fs)) (parenthesized-cap n s x)
    postfix_lands (argument_of {x = x} {t = t} {s = s} {v = v} {q = q} {b = b} d) fs =
        va_lands s (name_of x v) q fs d ∙ leaf_lands (expr.VaArg s (name_of x v) t) (leaf-cap n low (expr.VaArg s (name_of x v) t) (expr_height-VaArg s (name_of x v) t)) fs b
    postfix_lands (call_empty {f = f} {s = s} {b = b} p) fs =
        postfix_lands p fs
        ∙ ap (λ q. go b (has (parts.called n (cap n f) s q) fs)) (no_parts-cap n)
        ∙ ap (λ q. go b (has q fs)) (called-cap n f s [])
    postfix_lands (call {f = f} {last = last} {args = args} {s = s} {u = u} {b = b} {d = rest} p before d) fs =
        let y = assign_lands d (Calling (cap n f) s (cap_all n args) ∷ fs) refl refl in
        postfix_lands p fs
        ∙ argument_run (cap n f) s fs b (arguments_begin before d)
        ∙ ap (λ q. go b (wants (Calling (cap n f) s q ∷ fs))) (no_parts-cap n)
        ∙ arguments_land f s before fs ∙ y.runs
        ∙ held_run y.whole m.CloseParen u y.last y.frames rest refl
        ∙ ap (λ v. after (close_of n e v.0 v.1) (go rest) (mark m.CloseParen u ∷ rest)) (y.reduces 0 (omega arith))
        ∙ ap (λ q. go rest (has (parts.called n (cap n f) s q) fs)) (with_argument-cap n args last)
        ∙ ap (λ q. go rest (has q fs)) (called-cap n f s (args ++ last ∷ []))
    postfix_lands (index {e = x} {i = i} {s = s} {u = u} {c = c} p d) fs =
        let y = assign_lands d (Indexing (cap n x) s ∷ fs) refl refl in
        postfix_lands p fs ∙ y.runs
        ∙ held_run y.whole m.CloseBracket u y.last y.frames c refl
        ∙ ap (λ v. after (bracket_of n e v.0 v.1) (go c) (mark m.CloseBracket u ∷ c)) (y.reduces 0 (omega arith))
        ∙ ap (λ q. go c (has q fs)) (indexed-cap n x s i)
    postfix_lands (select {e = x} {x = y} {s = s} {u = u} {b = b} k p) fs =
        postfix_lands p fs
        ∙ ap (λ v. after (followed n v s (cap n x) e fs) (go (named y u ∷ b)) (mark (selector_mark k) s ∷ named y u ∷ b)) (selector_follows k)
        ∙ ap (λ q. go b (has q fs)) (selected-cap n x k s (name_of y u))
    postfix_lands (incremented {e = x} {s = s} {b = b} p) fs = postfix_lands p fs ∙ ap (λ q. go b (has q fs)) (incremented-cap n x s)
    postfix_lands (decremented {e = x} {s = s} {b = b} p) fs = postfix_lands p fs ∙ ap (λ q. go b (has q fs)) (decremented-cap n x s)

    pub arguments_land : (f : Expr) (s : Span) → {args : List Expr} {a b : List Terminal} → IsArguments args a b → (fs : List Frame) →
        go a (wants (Calling (cap n f) s (cap_all n []) ∷ fs)) ≡ go b (wants (Calling (cap n f) s (cap_all n args) ∷ fs))
    arguments_land f s no_arguments fs = refl
    arguments_land f s (argument {e = x} {args = args} {s = t} {c = c} before d) fs =
        let y = assign_lands d (Calling (cap n f) s (cap_all n args) ∷ fs) refl refl in
        arguments_land f s before fs ∙ y.runs
        ∙ held_run y.whole m.Comma t y.last y.frames c refl
        ∙ ap (λ v. after (comma_of e v.0 v.1) (go c) (mark m.Comma t ∷ c)) (y.reduces 0 (omega arith))
        ∙ ap (λ q. go c (wants (Calling (cap n f) s q ∷ fs))) (with_argument-cap n args x)

  -- what ends an expression
  pub ends_at : (k : Sort) → Ends k → (s : Span) (v : Bool) (p q : Part) (fs : List Frame) → reduce n 0 p fs ≡ (q, []) → expr_step n (term k s) (state e (held v p) fs) ≡ finish_part e q
  ends_at (sort.Mark m.CloseParen) h s v p q fs r = held_step v m.CloseParen s p fs refl ∙ ap (λ y. close_of n e y.0 y.1) r
  ends_at (sort.Mark m.Comma) h s v p q fs r = held_step v m.Comma s p fs refl ∙ ap (λ y. comma_of e y.0 y.1) r
  ends_at (sort.Mark m.Semicolon) h s v p q fs r = held_step v m.Semicolon s p fs refl ∙ ap (λ y. semicolon_of e y.0 y.1) r
  ends_at _ h s v p q fs r = absurd h

  lands_end : (x : Expr) (t : Terminal) → Ends t.sort → (a b : List Terminal) → Lands 0 x [] a (t ∷ b) → finish_part e (cap n x) ≡ Done (cap n x) → go a (start e) ≡ Finished (cap n x) (t ∷ b)
  lands_end x t h a b y f =
      y.runs ∙ ap (λ v. after v (go b) (t ∷ b)) (ends_at t.sort h t.span y.whole y.last (cap n x) y.frames (y.reduces 0 (omega arith)) ∙ f)

  -- an effect, whose outermost form is no operator between operands
  effect_lands : {x : Expr} {a b : List Terminal} → IsAssign x a b → is_effect x ≡ true → Lands 0 x [] a b
  effect_lands (plain (simple (operand u))) f = unary_lands 0 u []
  effect_lands (plain (simple (joined {l = l} {r = r} {s = s} op le dl dr))) f = absurd (false_true (sym (effect-Binary op s l r) ∙ f))
  effect_lands (plain (conditional {c = c} {l = l} {r = r} {s = s} dc dl dr)) f = absurd (false_true (sym (effect-Conditional c s l r) ∙ f))
  effect_lands {a = a} {b = c} (assigned {l = l} {r = r} {s = s} {b = b} op u d) f =
      equals_lands op s l r [] a b c (unary_lands 11 u []) (assign_lands d (Assigning op s (cap n l) ∷ []) refl refl) refl

-- an expression is read whole, up to a token that ends one
pub expr_complete : (n : ℕ) → 1 ≤ n → (x : Expr) (t : Terminal) → Ends t.sort → (a b : List Terminal) → IsAssign x a (t ∷ b) → run (expr_step n) a (start false) ≡ Finished (cap n x) (t ∷ b)
expr_complete n low x t h a b d = lands_end n low false x t h a b (assign_lands n low false d [] refl refl) refl

pub effect_complete : (n : ℕ) → 1 ≤ n → (x : Expr) → is_effect x ≡ true → (t : Terminal) → Ends t.sort → (a b : List Terminal) → IsAssign x a (t ∷ b) → run (expr_step n) a (start true) ≡ Finished (cap n x) (t ∷ b)
effect_complete n low x f t h a b d =
    lands_end n low true x t h a b (effect_lands n low true d f) (ap (λ v. cond v (Done (cap n x)) Bad) (effect-cap n x ∙ f))
