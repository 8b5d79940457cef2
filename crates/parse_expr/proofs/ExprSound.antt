-- What the machine holds is in the grammar.
use Rattle.std.proofs.Common.{◌≡◌, ℕ, suc, ◌+◌, ◌≤◌, ◌<◌, min, Bool, true, false, cond, List, [], ◌∷◌, ◌++◌, Option, Some, None, nat_le, refl, sym, ap, ◌∙◌, subst, arith}
use Rattle.std.specs.Prelude.{ℤ}
use Rattle.std.proofs.lemmas.Bool.{leb-true, leb-false}
use Rattle.c_types.specs.declared.types.Span.{Span}
use Rattle.c_types.specs.declared.types.IntTy.{IntTy}
use Rattle.c_types.specs.declared.types.IntTy.TheVariants.{I8, U8, I16, U16, I32, U32, I64, U64}
use Rattle.c_tree.specs.declared.operators.UnaryOp.{UnaryOp}
use Rattle.c_tree.specs.declared.operators.BinaryOp.{BinaryOp}
use Rattle.c_tree.specs.declared.operators.AssignOp.{AssignOp}
use Rattle.c_tree.specs.declared.operators.AssignOp.TheVariants as assign_op
use Rattle.c_tree.specs.declared.operators.Selector.{Selector}
use Rattle.c_tree.specs.declared.expressions.Name.{Name}
use Rattle.c_tree.specs.declared.expressions.TypeName.{TypeName}
use Rattle.c_tree.specs.declared.expressions.Expr.{Expr}
use Rattle.c_tree.specs.declared.expressions.Expr.TheVariants as expr
use Rattle.c_lex.specs.declared.words.Word.{Word}
use Rattle.c_lex.specs.declared.words.Word.TheVariants as w
use Rattle.c_lex.specs.declared.marks.Mark.{Mark}
use Rattle.c_lex.specs.declared.marks.Mark.TheVariants as m
use Rattle.parse_terms.specs.declared.answer.Answer.{Answer}
use Rattle.parse_terms.specs.declared.answer.Answer.TheVariants.{More, Done, Bad}
use Rattle.parse_terms.specs.declared.terminal.Sort.{Sort}
use Rattle.parse_terms.specs.declared.terminal.Sort.TheVariants as sort
use Rattle.parse_terms.specs.declared.terminal.Terminal.{Terminal}
use Rattle.parse_terms.specs.declared.integers.IntWords.{IntWords}
use Rattle.parse_terms.specs.declared.integers.IntWords.TheVariants.{Sign, Short, Long, LongLong, Whole}
use Rattle.parse_terms.specs.declared.types.TypeState.{TypeState}
use Rattle.parse_terms.specs.declared.types.TypeState.TheVariants as type_state
use Rattle.parse_terms.specs.Terminals.{term, word, mark, named, name_of}
use Rattle.parse_terms.specs.Declarators.{literal, number}
use Rattle.parse_terms.specs.Integers.{IsWidth, char as char_width, short, short_int, int, long_long, long_long_int, IsInt, plain as plain_int, with_signed, with_unsigned, signed, unsigned, int_begin, int_step, int_finish}
use Rattle.parse_terms.specs.TypeNames.{type_step, IsTypeName}
use Rattle.parse_terms.specs.Runs.{Outcome, Ended, Finished, Failed, after, run, Came, begun, taken}
use Rattle.parse_expr.specs.declared.operators.Follower.{Follower}
use Rattle.parse_expr.specs.declared.operators.Follower.TheVariants as follower
use Rattle.parse_expr.specs.declared.operators.Opener.{Opener}
use Rattle.parse_expr.specs.declared.operators.Opener.TheVariants as opener
use Rattle.parse_expr.specs.declared.parts.Part.{Part}
use Rattle.parse_expr.specs.declared.parts.Parts.{Parts}
use Rattle.parse_expr.specs.declared.state.Frame.{Frame}
use Rattle.parse_expr.specs.declared.state.Frame.TheVariants.{Prefix, Casting, Paren, Calling, Indexing, Left, Asking, Choosing, Assigning}
use Rattle.parse_expr.specs.declared.state.Focus.{Focus}
use Rattle.parse_expr.specs.declared.state.Focus.TheVariants.{Operand, Parened, CastWords, Argument, Selecting, SizeOpen, SizeType, VaOpen, VaName, VaComma, VaType, Operated, Whole}
use Rattle.parse_expr.specs.declared.state.ExprState.{ExprState}
use Rattle.parse_expr.specs.Operators.{level, binary_mark, assign_mark, prefix_mark, selector_mark, follower_of, opener_of, IsFollower, IsOpener}
use Rattle.parse_expr.specs.ExprGrammar.{is_effect, is_effect_prefix, IsAssign, plain, assigned, IsCond, simple, conditional, IsBinary, operand, joined, IsUnary, prefixed, cast, size_of, postfix, IsPostfix, name, number_of, char, parenthesis, argument_of, call_empty, call, index, select, incremented, decremented, IsArguments, no_arguments, argument}
use Rattle.parse_expr.specs.Parts.{part_effect, cap, cap_all, leaf, no_parts}
use Rattle.parse_expr.specs.Parts as parts
use Rattle.parse_expr.specs.ExprMachine.{state, start, Said, to, reduce, opened, word_operand, operand_step, parened_word, parened_step, cast_more, cast_end, cast_close, cast_step, argument_opened, argument_step, select_step, open_step, paren_step, close_step, ending_step, size_type, va_name_step, va_comma_mark, va_comma_step, va_type, is_free, is_assignable, left_of, asking_of, assigning_of, finish_part, close_of, bracket_of, colon_of, comma_of, semicolon_of, followed, operated_step, is_postfix, whole_step, step_at, expr_step, Ends, IsRead}
use Rattle.parse_expr.proofs.OperatorLaws.{binary_follows, assign_follows, selector_follows, prefix_opens, level_positive, level_most, follower_is, opener_is}
use Rattle.parse_expr.proofs.PartLaws.{effect-Unary, effect-Cast, effect-Paren, effect-Select, effect-PostIncrement, effect-PostDecrement, effect-Index, effect-Binary, effect-Assign, effect-Conditional, effect-Call, leaf-cap, prefixed-cap, cast-cap, parenthesized-cap, selected-cap, incremented-cap, decremented-cap, indexed-cap, joined-cap, assigned-cap, chosen-cap, no_parts-cap, called-cap, with_argument-cap, effect-cap}
use Rattle.c_tree.proofs.HeightLaws.{expr_height-Name, expr_height-Number, expr_height-Char, expr_height-VaArg, expr_height-SizeOf}
use Rattle.parse_terms.proofs.TypeLaws.{WordsAt, IfWords, IfInt, int_begins, int_goes, int_ends, TypeAt, TypeSaid, type_said}

module _ (n : ℕ) (low : 1 ≤ n) where
  -- ---- parts as what their trees are

  pub record PAssign (p : Part) (a b : List Terminal) : Type 0 where
    pub tree : Expr
    pub is : p ≡ cap n tree
    pub reads : IsAssign tree a b

  pub record PCond (p : Part) (a b : List Terminal) : Type 0 where
    pub tree : Expr
    pub is : p ≡ cap n tree
    pub reads : IsCond tree a b

  pub record PBinary (k : ℕ) (p : Part) (a b : List Terminal) : Type 0 where
    pub tree : Expr
    pub is : p ≡ cap n tree
    pub reads : IsBinary k tree a b

  pub record PUnary (p : Part) (a b : List Terminal) : Type 0 where
    pub tree : Expr
    pub is : p ≡ cap n tree
    pub reads : IsUnary tree a b

  pub record PPostfix (p : Part) (a b : List Terminal) : Type 0 where
    pub tree : Expr
    pub is : p ≡ cap n tree
    pub reads : IsPostfix tree a b

  pub record PArguments (ps : Parts) (a b : List Terminal) : Type 0 where
    pub trees : List Expr
    pub is : ps ≡ cap_all n trees
    pub reads : IsArguments trees a b

  p_leaf : (x : Expr) (a b : List Terminal) → leaf x ≡ cap n x → IsPostfix x a b → PPostfix (leaf x) a b
  p_leaf x a b h d = record { tree = x; is = h; reads = d }

  p_prefixed : (op : UnaryOp) (s : Span) {p : Part} {a b : List Terminal} → PUnary p a b → PUnary (parts.prefixed n op s p) (mark (prefix_mark op) s ∷ a) b
  p_prefixed op s u = record { tree = expr.Unary op s u.tree; is = ap (parts.prefixed n op s) u.is ∙ prefixed-cap n op s u.tree; reads = prefixed op u.reads }

  p_cast : {i : IntTy} (s t u : Span) {p : Part} {a b c : List Terminal} → IsInt i t a (mark m.CloseParen u ∷ b) → PUnary p b c → PUnary (parts.cast n s i t p) (mark m.OpenParen s ∷ a) c
  p_cast {i} s t u d v = record { tree = expr.Cast s i t v.tree; is = ap (parts.cast n s i t) v.is ∙ cast-cap n s i t v.tree; reads = cast d v.reads }

  p_postfix : {p : Part} {a b : List Terminal} → PPostfix p a b → PUnary p a b
  p_postfix d = record { tree = d.tree; is = d.is; reads = postfix d.reads }

  p_operand : {k : ℕ} {p : Part} {a b : List Terminal} → PUnary p a b → PBinary k p a b
  p_operand u = record { tree = u.tree; is = u.is; reads = operand u.reads }

  p_joined : {k : ℕ} (op : BinaryOp) (s : Span) {l r : Part} {a b c : List Terminal} → k ≤ level op → PBinary (level op) l a (mark (binary_mark op) s ∷ b) → PBinary (suc (level op)) r b c →
      PBinary k (parts.joined n op s l r) a c
  p_joined op s {l} {r} le x y = record {
    tree = expr.Binary op s x.tree y.tree;
    is = ap (λ v. parts.joined n op s v r) x.is ∙ ap (parts.joined n op s (cap n x.tree)) y.is ∙ joined-cap n op s x.tree y.tree;
    reads = joined op le x.reads y.reads;
  }

  p_simple : {p : Part} {a b : List Terminal} → PBinary 1 p a b → PCond p a b
  p_simple d = record { tree = d.tree; is = d.is; reads = simple d.reads }

  p_conditional : (s t : Span) {c l r : Part} {a b d f : List Terminal} → PBinary 1 c a (mark m.Question s ∷ b) → PAssign l b (mark m.Colon t ∷ d) → PCond r d f → PCond (parts.chosen n c s l r) a f
  p_conditional s t {c} {l} {r} x y z = record {
    tree = expr.Conditional x.tree s y.tree z.tree;
    is = ap (λ v. parts.chosen n v s l r) x.is ∙ ap (λ v. parts.chosen n (cap n x.tree) s v r) y.is ∙ ap (parts.chosen n (cap n x.tree) s (cap n y.tree)) z.is ∙ chosen-cap n x.tree s y.tree z.tree;
    reads = conditional x.reads y.reads z.reads;
  }

  p_plain : {p : Part} {a b : List Terminal} → PCond p a b → PAssign p a b
  p_plain d = record { tree = d.tree; is = d.is; reads = plain d.reads }

  p_assigned : (op : AssignOp) (s : Span) {l r : Part} {a b c : List Terminal} → PUnary l a (mark (assign_mark op) s ∷ b) → PAssign r b c → PAssign (parts.assigned n op s l r) a c
  p_assigned op s {l} {r} x y = record {
    tree = expr.Assign op s x.tree y.tree;
    is = ap (λ v. parts.assigned n op s v r) x.is ∙ ap (parts.assigned n op s (cap n x.tree)) y.is ∙ assigned-cap n op s x.tree y.tree;
    reads = assigned op x.reads y.reads;
  }

  p_parenthesis : (s u : Span) {p : Part} {a b : List Terminal} → PAssign p a (mark m.CloseParen u ∷ b) → PPostfix (parts.parenthesized n s p) (mark m.OpenParen s ∷ a) b
  p_parenthesis s u d = record { tree = expr.Paren s d.tree; is = ap (parts.parenthesized n s) d.is ∙ parenthesized-cap n s d.tree; reads = parenthesis d.reads }

  p_none : (a : List Terminal) → PArguments no_parts a a
  p_none a = record { trees = []; is = no_parts-cap n; reads = no_arguments }

  p_argument : {ps : Parts} {p : Part} (s : Span) {a b c : List Terminal} → PArguments ps a b → PAssign p b (mark m.Comma s ∷ c) → PArguments (parts.with_argument ps p) a c
  p_argument {ps} {p} s x y = record {
    trees = x.trees ++ y.tree ∷ [];
    is = ap (λ v. parts.with_argument v p) x.is ∙ ap (parts.with_argument (cap_all n x.trees)) y.is ∙ with_argument-cap n x.trees y.tree;
    reads = argument x.reads y.reads;
  }

  p_call_empty : (s u : Span) {f : Part} {a b : List Terminal} → PPostfix f a (mark m.OpenParen s ∷ mark m.CloseParen u ∷ b) → PPostfix (parts.called n f s no_parts) a b
  p_call_empty s u {f} d = record {
    tree = expr.Call d.tree s [];
    is = ap (λ v. parts.called n v s no_parts) d.is ∙ ap (parts.called n (cap n d.tree) s) (no_parts-cap n) ∙ called-cap n d.tree s [];
    reads = call_empty d.reads;
  }

  p_call : (s u : Span) {f p : Part} {ps : Parts} {a b c d : List Terminal} → PPostfix f a (mark m.OpenParen s ∷ b) → PArguments ps b c → PAssign p c (mark m.CloseParen u ∷ d) →
      PPostfix (parts.called n f s (parts.with_argument ps p)) a d
  p_call s u {f} {p} {ps} x y z = record {
    tree = expr.Call x.tree s (y.trees ++ z.tree ∷ []);
    is = ap (λ v. parts.called n v s (parts.with_argument ps p)) x.is
        ∙ ap (λ v. parts.called n (cap n x.tree) s (parts.with_argument v p)) y.is
        ∙ ap (λ v. parts.called n (cap n x.tree) s (parts.with_argument (cap_all n y.trees) v)) z.is
        ∙ ap (parts.called n (cap n x.tree) s) (with_argument-cap n y.trees z.tree) ∙ called-cap n x.tree s (y.trees ++ z.tree ∷ []);
    reads = call x.reads y.reads z.reads;
  }

  p_index : (s u : Span) {f p : Part} {a b c : List Terminal} → PPostfix f a (mark m.OpenBracket s ∷ b) → PAssign p b (mark m.CloseBracket u ∷ c) → PPostfix (parts.indexed n f s p) a c
  p_index s u {f} {p} x y = record {
    tree = expr.Index x.tree s y.tree;
    is = ap (λ v. parts.indexed n v s p) x.is ∙ ap (parts.indexed n (cap n x.tree) s) y.is ∙ indexed-cap n x.tree s y.tree;
    reads = index x.reads y.reads;
  }

  p_select : (k : Selector) (s u : Span) (x : List ℕ) {f : Part} {a b : List Terminal} → PPostfix f a (mark (selector_mark k) s ∷ named x u ∷ b) → PPostfix (parts.selected n f k s (name_of x u)) a b
  p_select k s u x d = record { tree = expr.Select d.tree k s (name_of x u); is = ap (λ v. parts.selected n v k s (name_of x u)) d.is ∙ selected-cap n d.tree k s (name_of x u); reads = select k d.reads }

  p_incremented : (s : Span) {f : Part} {a b : List Terminal} → PPostfix f a (mark m.PlusPlus s ∷ b) → PPostfix (parts.incremented n f s) a b
  p_incremented s d = record { tree = expr.PostIncrement d.tree s; is = ap (λ v. parts.incremented n v s) d.is ∙ incremented-cap n d.tree s; reads = incremented d.reads }

  p_decremented : (s : Span) {f : Part} {a b : List Terminal} → PPostfix f a (mark m.MinusMinus s ∷ b) → PPostfix (parts.decremented n f s) a b
  p_decremented s d = record { tree = expr.PostDecrement d.tree s; is = ap (λ v. parts.decremented n v s) d.is ∙ decremented-cap n d.tree s; reads = decremented d.reads }

  module _ (e : Bool) (all : List Terminal) where
    -- What may begin at a place, by its number: from 0 an assignment, from 1 a conditional, from k + 1
    -- a binary expression of the level k, and from 12 a unary.
    pub data Place : ℕ → List Frame → List Terminal → Type 0 where
      bottom : Place 0 [] all
      prefixing : {j : ℕ} {fs : List Frame} {a : List Terminal} (op : UnaryOp) (s : Span) → Place j fs (mark (prefix_mark op) s ∷ a) → Place 12 (Prefix op s ∷ fs) a
      casting : {j : ℕ} {i : IntTy} {fs : List Frame} {b a : List Terminal} (s t u : Span) → Place j fs (mark m.OpenParen s ∷ b) → IsInt i t b (mark m.CloseParen u ∷ a) →
          Place 12 (Casting s i t ∷ fs) a
      inside : {j : ℕ} {fs : List Frame} {a : List Terminal} (s : Span) → Place j fs (mark m.OpenParen s ∷ a) → Place 0 (Paren s ∷ fs) a
      calling : {j : ℕ} {f : Part} {ps : Parts} {fs : List Frame} {b c a : List Terminal} (s : Span) → Place j fs b → PPostfix f b (mark m.OpenParen s ∷ c) → PArguments ps c a →
          Place 0 (Calling f s ps ∷ fs) a
      indexing : {j : ℕ} {f : Part} {fs : List Frame} {b a : List Terminal} (s : Span) → Place j fs b → PPostfix f b (mark m.OpenBracket s ∷ a) → Place 0 (Indexing f s ∷ fs) a
      left : {j : ℕ} {l : Part} {fs : List Frame} {b a : List Terminal} (op : BinaryOp) (s : Span) → Place j fs b → PBinary (level op) l b (mark (binary_mark op) s ∷ a) →
          j ≤ suc (level op) → is_free e fs ≡ true → Place (suc (suc (level op))) (Left op s l ∷ fs) a
      asking : {j : ℕ} {c : Part} {fs : List Frame} {b a : List Terminal} (s : Span) → Place j fs b → PBinary 1 c b (mark m.Question s ∷ a) → j ≤ 1 → is_free e fs ≡ true →
          Place 0 (Asking c s ∷ fs) a
      choosing : {j : ℕ} {c l : Part} {fs : List Frame} {b d a : List Terminal} (s t : Span) → Place j fs b → PBinary 1 c b (mark m.Question s ∷ d) → j ≤ 1 → is_free e fs ≡ true →
          PAssign l d (mark m.Colon t ∷ a) → Place 1 (Choosing c s l ∷ fs) a
      assigning : {l : Part} {fs : List Frame} {b a : List Terminal} (op : AssignOp) (s : Span) → Place 0 fs b → PUnary l b (mark (assign_mark op) s ∷ a) → Place 0 (Assigning op s l ∷ fs) a

    pub data Sound : ExprState → List Terminal → Type 0 where
      s_operand : {j : ℕ} {fs : List Frame} {a : List Terminal} → Place j fs a → Sound (state e Operand fs) a
      s_parened : {j : ℕ} {fs : List Frame} {a : List Terminal} (s : Span) → Place j fs (mark m.OpenParen s ∷ a) → Sound (state e (Parened s) fs) a
      s_cast : {j : ℕ} {fs : List Frame} {b a : List Terminal} (s t : Span) (v : IntWords) → Place j fs (mark m.OpenParen s ∷ b) → WordsAt v t b a → Sound (state e (CastWords s t v) fs) a
      s_argument : {j : ℕ} {f : Part} {fs : List Frame} {b a : List Terminal} (s : Span) → Place j fs b → PPostfix f b (mark m.OpenParen s ∷ a) → Sound (state e (Argument f s) fs) a
      s_selecting : {j : ℕ} {f : Part} {fs : List Frame} {b a : List Terminal} (k : Selector) (s : Span) → Place j fs b → PPostfix f b (mark (selector_mark k) s ∷ a) → Sound (state e (Selecting f k s) fs) a
      s_size_open : {j : ℕ} {fs : List Frame} {a : List Terminal} (s : Span) → Place j fs (word w.Sizeof s ∷ a) → Sound (state e (SizeOpen s) fs) a
      s_size_type : {j : ℕ} {fs : List Frame} {b a : List Terminal} (s u : Span) (x : TypeState) → Place j fs (word w.Sizeof s ∷ mark m.OpenParen u ∷ b) → TypeAt x b a → Sound (state e (SizeType s x) fs) a
      s_va_open : {j : ℕ} {fs : List Frame} {a : List Terminal} (s : Span) → Place j fs (word w.VaArg s ∷ a) → Sound (state e (VaOpen s) fs) a
      s_va_name : {j : ℕ} {fs : List Frame} {a : List Terminal} (s u : Span) → Place j fs (word w.VaArg s ∷ mark m.OpenParen u ∷ a) → Sound (state e (VaName s) fs) a
      s_va_comma : {j : ℕ} {fs : List Frame} {a : List Terminal} (s u v : Span) (x : List ℕ) → Place j fs (word w.VaArg s ∷ mark m.OpenParen u ∷ named x v ∷ a) → Sound (state e (VaComma s (name_of x v)) fs) a
      s_va_type : {j : ℕ} {fs : List Frame} {b a : List Terminal} (s u v q : Span) (x : List ℕ) (y : TypeState) →
          Place j fs (word w.VaArg s ∷ mark m.OpenParen u ∷ named x v ∷ mark m.Comma q ∷ b) → TypeAt y b a → Sound (state e (VaType s (name_of x v) y) fs) a
      s_whole : {j : ℕ} {p : Part} {fs : List Frame} {b a : List Terminal} → Place j fs b → PUnary p b a → Sound (state e (Whole p) fs) a
      s_operated : {j : ℕ} {p : Part} {fs : List Frame} {b a : List Terminal} → Place j fs b → PPostfix p b a → Sound (state e (Operated p) fs) a

    pub record IsWhole (p : Part) (t : Terminal) (a : List Terminal) : Type 0 where
      pub reads : PAssign p all (t ∷ a)
      pub effect : e ≡ true → part_effect p ≡ true
      pub ends : Ends t.sort

    -- what is said to a token t before a
    abbrev pub IfSound : Said → Terminal → List Terminal → Type 0
    IfSound (More st) t a = Sound st a
    IfSound (Done p) t a = IsWhole p t a
    IfSound Bad t a = Unit {0}

    cond_case : {A : Type 0} (P : A → Type 0) (v : Bool) (x y : A) → (v ≡ true → P x) → (v ≡ false → P y) → P (cond v x y)
    cond_case P true x y f g = f refl
    cond_case P false x y f g = g refl

    -- p reads as what a place of the number j wants
    data Reads (j : ℕ) (p : Part) (a b : List Terminal) : Type 0 where
      tight : PUnary p a b → Reads j p a b
      loose : (k : ℕ) → j ≤ suc k → k ≤ 10 → PBinary k p a b → Reads j p a b
      picked : j ≤ 1 → PCond p a b → Reads j p a b
      entire : j ≤ 0 → PAssign p a b → Reads j p a b

    binary_weaker : {k : ℕ} {x : Expr} {a b : List Terminal} → (i : ℕ) → i ≤ k → IsBinary k x a b → IsBinary i x a b
    binary_weaker i le (operand u) = operand u
    binary_weaker i le (joined op low' l r) = joined op (omega arith) l r

    binary_any : {k : ℕ} {x : Expr} {a b : List Terminal} → IsBinary k x a b → IsBinary 1 x a b
    binary_any (operand u) = operand u
    binary_any (joined op low' l r) = joined op (level_positive op) l r

    p_weaker : {k : ℕ} {p : Part} {a b : List Terminal} → (i : ℕ) → i ≤ k → PBinary k p a b → PBinary i p a b
    p_weaker i le d = record { tree = d.tree; is = d.is; reads = binary_weaker i le d.reads }

    p_any : {k : ℕ} {p : Part} {a b : List Terminal} → PBinary k p a b → PBinary 1 p a b
    p_any d = record { tree = d.tree; is = d.is; reads = binary_any d.reads }

    to_assign : {j : ℕ} {p : Part} {a b : List Terminal} → Reads j p a b → PAssign p a b
    to_assign (tight u) = p_plain (p_simple (p_operand u))
    to_assign (loose k x y d) = p_plain (p_simple (p_any d))
    to_assign (picked x d) = p_plain d
    to_assign (entire x d) = d

    to_cond : {j : ℕ} {p : Part} {a b : List Terminal} → 1 ≤ j → Reads j p a b → PCond p a b
    to_cond h (tight u) = p_simple (p_operand u)
    to_cond h (loose k x y d) = p_simple (p_any d)
    to_cond h (picked x d) = d
    to_cond h (entire x d) = let never : ⊥ = omega arith in absurd never

    to_binary : (i : ℕ) {j : ℕ} {p : Part} {a b : List Terminal} → 1 ≤ i → suc i ≤ j → Reads j p a b → PBinary i p a b
    to_binary i h g (tight u) = p_operand u
    to_binary i h g (loose k x y d) = p_weaker i (omega arith) d
    to_binary i h g (picked x d) = let never : ⊥ = omega arith in absurd never
    to_binary i h g (entire x d) = let never : ⊥ = omega arith in absurd never

    to_unary : {j : ℕ} {p : Part} {a b : List Terminal} → 12 ≤ j → Reads j p a b → PUnary p a b
    to_unary h (tight u) = u
    to_unary h (loose k x y d) = let never : ⊥ = omega arith in absurd never
    to_unary h (picked x d) = let never : ⊥ = omega arith in absurd never
    to_unary h (entire x d) = let never : ⊥ = omega arith in absurd never

    -- the number of the places that a reduction to the level q leaves
    abbrev up : ℕ → ℕ
    up q = q + min q 1

    record Reduced (q : ℕ) (b : List Terminal) (r : Part × List Frame) : Type 0 where
      j : ℕ
      from : List Terminal
      place : Place j r.1 from
      fits : j ≤ up q
      reads : Reads (up q) r.0 from b

    reduced : (q : ℕ) {j : ℕ} {fs : List Frame} {p : Part} {c b : List Terminal} → Place j fs c → Reads j p c b → Reads (up q) p c b → Reduced q b (reduce n q p fs)
    reduced q bottom r r' = record { j = 0; from = all; place = bottom; fits = omega arith; reads = r' }
    reduced q (prefixing op s x) r r' = let u = p_prefixed op s (to_unary (omega arith) r) in reduced q x (tight u) (tight u)
    reduced q (casting s t u x d) r r' = let y = p_cast s t u d (to_unary (omega arith) r) in reduced q x (tight y) (tight y)
    reduced q {c = c} (inside s x) r r' = record { j = 0; from = c; place = inside s x; fits = omega arith; reads = r' }
    reduced q {c = c} (calling s x f args) r r' = record { j = 0; from = c; place = calling s x f args; fits = omega arith; reads = r' }
    reduced q {c = c} (indexing s x f) r r' = record { j = 0; from = c; place = indexing s x f; fits = omega arith; reads = r' }
    reduced q {c = c} (asking s x d le free) r r' = record { j = 0; from = c; place = asking s x d le free; fits = omega arith; reads = r' }
    reduced q {p = p} {c = c} {b = b} (left {l = l} {fs = fs} op s x d le free) r r' =
        cond_case (Reduced q b) (nat_le q (level op)) (reduce n q (parts.joined n op s l p) fs) (p, Left op s l ∷ fs)
        (λ yes. let two = p_joined {k = level op} op s (omega arith) d (to_binary (suc (level op)) (omega arith) (omega arith) r) in
        reduced q x (loose (level op) le (level_most op) two) (loose (level op) (omega (arith, leb-true q (level op) yes)) (level_most op) two))
        (λ no. record { j = suc (suc (level op)); from = c; place = left op s x d le free; fits = omega (arith, leb-false q (level op) no); reads = r' })
    reduced q {p = p} {c = c} {b = b} (choosing {c = x} {l = l} {fs = fs} s t y d le free f) r r' =
        cond_case (Reduced q b) (nat_le q 0) (reduce n q (parts.chosen n x s l p) fs) (p, Choosing x s l ∷ fs)
        (λ yes. let three = p_conditional s t d f (to_cond (omega arith) r) in
        reduced q y (picked le three) (picked (omega (arith, leb-true q 0 yes)) three))
        (λ no. record { j = 1; from = c; place = choosing s t y d le free f; fits = omega (arith, leb-false q 0 no); reads = r' })
    reduced q {p = p} {c = c} {b = b} (assigning {l = l} {fs = fs} op s x u) r r' =
        cond_case (Reduced q b) (nat_le q 0) (reduce n q (parts.assigned n op s l p) fs) (p, Assigning op s l ∷ fs)
        (λ yes. let d = p_assigned op s u (to_assign r) in reduced q x (entire (omega arith) d) (entire (omega (arith, leb-true q 0 yes)) d))
        (λ no. record { j = 0; from = c; place = assigning op s x u; fits = omega arith; reads = r' })

    -- ---- where an operand begins

    opened_sound : (k : Mark) (v : Opener) → IsOpener k v → (s : Span) {j : ℕ} {fs : List Frame} (t : Terminal) {a : List Terminal} → Place j fs (mark k s ∷ a) → IfSound (opened v s e fs) t a
    opened_sound k opener.OpenParen h s {j} {fs} t {a} x = s_parened s (subst (λ y. Place j fs (mark y s ∷ a)) h x)
    opened_sound k (opener.Prefix op) h s {j} {fs} t {a} x = s_operand (prefixing op s (subst (λ y. Place j fs (mark y s ∷ a)) h x))
    opened_sound k opener.CloseParen h s t x = tt
    opened_sound k opener.Nothing h s t x = tt

    word_sound : (v : Word) (s : Span) {j : ℕ} {fs : List Frame} (t : Terminal) {a : List Terminal} → Place j fs (word v s ∷ a) → IfSound (word_operand v s e fs) t a
    word_sound w.Sizeof s t x = s_size_open s x
    word_sound w.VaArg s t x = s_va_open s x
    word_sound v s t x = tt

    operand_sound : (k : Sort) (s : Span) {j : ℕ} {fs : List Frame} {a : List Terminal} → Place j fs (term k s ∷ a) → IfSound (operand_step k s e fs) (term k s) a
    operand_sound (sort.Name y) s {a = a} x = s_operated x (p_leaf (expr.Name (name_of y s)) (named y s ∷ a) a (leaf-cap n low (expr.Name (name_of y s)) (expr_height-Name (name_of y s))) name)
    operand_sound (sort.Number v t) s {a = a} x = s_operated x (p_leaf (expr.Number (literal v t s)) (number v t s ∷ a) a (leaf-cap n low (expr.Number (literal v t s)) (expr_height-Number (literal v t s))) number_of)
    operand_sound (sort.Char c) s {a = a} x = s_operated x (p_leaf (expr.Char c s) (term (sort.Char c) s ∷ a) a (leaf-cap n low (expr.Char c s) (expr_height-Char c s)) char)
    operand_sound (sort.Word v) s x = word_sound v s (word v s) x
    operand_sound (sort.Mark k) s x = opened_sound k (opener_of k) (opener_is k) s (mark k s) x
    operand_sound (sort.Text y) s x = tt
    operand_sound sort.Unknown s x = tt

    parened_word_sound : (o : Option IntWords) (v : Word) (s u : Span) (a : List Terminal) {j : ℕ} {fs : List Frame} → IfWords o s (word v s ∷ a) a → Place j fs (mark m.OpenParen u ∷ word v s ∷ a) →
        IfSound (parened_word o v s u e fs) (word v s) a
    parened_word_sound None v s u a h x = word_sound v s (word v s) (inside u x)
    parened_word_sound (Some y) v s u a h x = s_cast u s y x h

    parened_sound : (k : Sort) (s u : Span) {j : ℕ} {fs : List Frame} {a : List Terminal} → Place j fs (mark m.OpenParen u ∷ term k s ∷ a) → IfSound (parened_step k s u e fs) (term k s) a
    parened_sound (sort.Word v) s u {a = a} x = parened_word_sound (int_begin v) v s u a (int_begins v s a) x
    parened_sound (sort.Name y) s u x = operand_sound (sort.Name y) s (inside u x)
    parened_sound (sort.Number v t) s u x = operand_sound (sort.Number v t) s (inside u x)
    parened_sound (sort.Char c) s u x = operand_sound (sort.Char c) s (inside u x)
    parened_sound (sort.Mark k) s u x = operand_sound (sort.Mark k) s (inside u x)
    parened_sound (sort.Text y) s u x = tt
    parened_sound sort.Unknown s u x = tt

    cast_more_sound : (o : Option IntWords) (u v : Span) (b a : List Terminal) {j : ℕ} {fs : List Frame} (t : Terminal) → IfWords o v b a → Place j fs (mark m.OpenParen u ∷ b) → IfSound (cast_more o u v e fs) t a
    cast_more_sound None u v b a t h x = tt
    cast_more_sound (Some y) u v b a t h x = s_cast u v y x h

    cast_end_sound : (o : Option IntTy) (u v s : Span) (b a : List Terminal) {j : ℕ} {fs : List Frame} (t : Terminal) → IfInt o v b (mark m.CloseParen s ∷ a) → Place j fs (mark m.OpenParen u ∷ b) →
        IfSound (cast_end o u v e fs) t a
    cast_end_sound None u v s b a t h x = tt
    cast_end_sound (Some i) u v s b a t h x = s_operand (casting u v s x h)

    cast_close_sound : (k : Mark) (o : Opener) → IsOpener k o → (y : IntWords) (s u v : Span) (b a : List Terminal) {j : ℕ} {fs : List Frame} (t : Terminal) → WordsAt y v b (mark k s ∷ a) →
        Place j fs (mark m.OpenParen u ∷ b) → IfSound (cast_close o y u v e fs) t a
    cast_close_sound k opener.CloseParen h y s u v b a t d x =
        cast_end_sound (int_finish y) u v s b a t (int_ends y v b (mark m.CloseParen s ∷ a) (subst (λ z. WordsAt y v b (mark z s ∷ a)) h d)) x
    cast_close_sound k opener.OpenParen h y s u v b a t d x = tt
    cast_close_sound k (opener.Prefix op) h y s u v b a t d x = tt
    cast_close_sound k opener.Nothing h y s u v b a t d x = tt

    cast_sound : (k : Sort) (s : Span) (y : IntWords) (u v : Span) (b a : List Terminal) {j : ℕ} {fs : List Frame} → Place j fs (mark m.OpenParen u ∷ b) → WordsAt y v b (term k s ∷ a) →
        IfSound (cast_step k y u v e fs) (term k s) a
    cast_sound (sort.Word z) s y u v b a x d = cast_more_sound (int_step z y) u v b a (word z s) (int_goes z y v s b a d) x
    cast_sound (sort.Mark k) s y u v b a x d = cast_close_sound k (opener_of k) (opener_is k) y s u v b a (mark k s) d x
    cast_sound (sort.Name z) s y u v b a x d = tt
    cast_sound (sort.Number z t) s y u v b a x d = tt
    cast_sound (sort.Char z) s y u v b a x d = tt
    cast_sound (sort.Text z) s y u v b a x d = tt
    cast_sound sort.Unknown s y u v b a x d = tt

    argument_opened_sound : (k : Mark) (o : Opener) → IsOpener k o → (f : Part) (u s : Span) {j : ℕ} {fs : List Frame} {b a : List Terminal} → Place j fs b → PPostfix f b (mark m.OpenParen u ∷ mark k s ∷ a) →
        IfSound (argument_opened n o f u s e fs) (mark k s) a
    argument_opened_sound k opener.CloseParen h f u s {b = b} {a = a} x d = s_operated x (p_call_empty u s (subst (λ z. PPostfix f b (mark m.OpenParen u ∷ mark z s ∷ a)) h d))
    argument_opened_sound k opener.OpenParen h f u s {a = a} x d = opened_sound k opener.OpenParen h s (mark k s) (calling u x d (p_none (mark k s ∷ a)))
    argument_opened_sound k (opener.Prefix op) h f u s {a = a} x d = opened_sound k (opener.Prefix op) h s (mark k s) (calling u x d (p_none (mark k s ∷ a)))
    argument_opened_sound k opener.Nothing h f u s x d = tt

    argument_sound : (k : Sort) (s : Span) (f : Part) (u : Span) {j : ℕ} {fs : List Frame} {b a : List Terminal} → Place j fs b → PPostfix f b (mark m.OpenParen u ∷ term k s ∷ a) →
        IfSound (argument_step n k s f u e fs) (term k s) a
    argument_sound (sort.Mark k) s f u x d = argument_opened_sound k (opener_of k) (opener_is k) f u s x d
    argument_sound (sort.Name y) s f u {a = a} x d = operand_sound (sort.Name y) s (calling u x d (p_none (named y s ∷ a)))
    argument_sound (sort.Number v t) s f u {a = a} x d = operand_sound (sort.Number v t) s (calling u x d (p_none (number v t s ∷ a)))
    argument_sound (sort.Char c) s f u {a = a} x d = operand_sound (sort.Char c) s (calling u x d (p_none (term (sort.Char c) s ∷ a)))
    argument_sound (sort.Word v) s f u {a = a} x d = word_sound v s (word v s) (calling u x d (p_none (word v s ∷ a)))
    argument_sound (sort.Text y) s f u x d = tt
    argument_sound sort.Unknown s f u x d = tt

    select_sound : (k : Sort) (s : Span) (f : Part) (y : Selector) (u : Span) {j : ℕ} {fs : List Frame} {b a : List Terminal} → Place j fs b → PPostfix f b (mark (selector_mark y) u ∷ term k s ∷ a) →
        IfSound (select_step n k s f y u e fs) (term k s) a
    select_sound (sort.Name z) s f y u x d = s_operated x (p_select y u s z d)
    select_sound (sort.Mark k) s f y u x d = tt
    select_sound (sort.Number v t) s f y u x d = tt
    select_sound (sort.Char c) s f y u x d = tt
    select_sound (sort.Word v) s f y u x d = tt
    select_sound (sort.Text z) s f y u x d = tt
    select_sound sort.Unknown s f y u x d = tt

    size_open_sound : (k : Sort) (s u : Span) {j : ℕ} {fs : List Frame} {a : List Terminal} → Place j fs (word w.Sizeof u ∷ term k s ∷ a) → IfSound (paren_step k (SizeType u type_state.Opening) e fs) (term k s) a
    size_open_sound (sort.Mark k) s u {j} {fs} {a} x = at (opener_of k) (opener_is k)
      where
        at : (o : Opener) → IsOpener k o → IfSound (open_step o (SizeType u type_state.Opening) e fs) (mark k s) a
        at opener.OpenParen h = s_size_type u s type_state.Opening (subst (λ z. Place j fs (word w.Sizeof u ∷ mark z s ∷ a)) h x) refl
        at opener.CloseParen h = tt
        at (opener.Prefix op) h = tt
        at opener.Nothing h = tt
    size_open_sound (sort.Name z) s u x = tt
    size_open_sound (sort.Number v t) s u x = tt
    size_open_sound (sort.Char c) s u x = tt
    size_open_sound (sort.Word v) s u x = tt
    size_open_sound (sort.Text z) s u x = tt
    size_open_sound sort.Unknown s u x = tt

    va_open_sound : (k : Sort) (s u : Span) {j : ℕ} {fs : List Frame} {a : List Terminal} → Place j fs (word w.VaArg u ∷ term k s ∷ a) → IfSound (paren_step k (VaName u) e fs) (term k s) a
    va_open_sound (sort.Mark k) s u {j} {fs} {a} x = at (opener_of k) (opener_is k)
      where
        at : (o : Opener) → IsOpener k o → IfSound (open_step o (VaName u) e fs) (mark k s) a
        at opener.OpenParen h = s_va_name u s (subst (λ z. Place j fs (word w.VaArg u ∷ mark z s ∷ a)) h x)
        at opener.CloseParen h = tt
        at (opener.Prefix op) h = tt
        at opener.Nothing h = tt
    va_open_sound (sort.Name z) s u x = tt
    va_open_sound (sort.Number v t) s u x = tt
    va_open_sound (sort.Char c) s u x = tt
    va_open_sound (sort.Word v) s u x = tt
    va_open_sound (sort.Text z) s u x = tt
    va_open_sound sort.Unknown s u x = tt

    -- a `)` that leads to a focus
    ending_sound : (k : Sort) (s : Span) (f : Focus) {fs : List Frame} (a : List Terminal) → (k ≡ sort.Mark m.CloseParen → Sound (state e f fs) a) → IfSound (ending_step k f e fs) (term k s) a
    ending_sound (sort.Mark k) s f {fs} a d = at (opener_of k) (opener_is k)
      where
        at : (o : Opener) → IsOpener k o → IfSound (close_step o f e fs) (mark k s) a
        at opener.CloseParen g = d (ap sort.Mark g)
        at opener.OpenParen g = tt
        at (opener.Prefix op) g = tt
        at opener.Nothing g = tt
    ending_sound (sort.Name z) s f a d = tt
    ending_sound (sort.Number v t) s f a d = tt
    ending_sound (sort.Char c) s f a d = tt
    ending_sound (sort.Word v) s f a d = tt
    ending_sound (sort.Text z) s f a d = tt
    ending_sound sort.Unknown s f a d = tt

    size_type_sound : (k : Sort) (s : Span) (v : Answer TypeState TypeName) (u z : Span) (b a : List Terminal) {j : ℕ} {fs : List Frame} →
        Place j fs (word w.Sizeof u ∷ mark m.OpenParen z ∷ b) → TypeSaid v b (term k s) a → IfSound (size_type k v u e fs) (term k s) a
    size_type_sound k s (More y) u z b a x d = s_size_type u z y x d
    size_type_sound k s (Done y) u z b a x d =
        ending_sound k s (Whole (leaf (expr.SizeOf u y))) a
        (λ q. s_whole x (record {
          tree = expr.SizeOf u y;
          is = leaf-cap n low (expr.SizeOf u y) (expr_height-SizeOf u y);
          reads = size_of {v = s} (subst (λ c. IsTypeName y b (term c s ∷ a)) q d);
        }))
    size_type_sound k s Bad u z b a x d = tt

    va_name_sound : (k : Sort) (s u z : Span) {j : ℕ} {fs : List Frame} {a : List Terminal} → Place j fs (word w.VaArg u ∷ mark m.OpenParen z ∷ term k s ∷ a) → IfSound (va_name_step k s u e fs) (term k s) a
    va_name_sound (sort.Name y) s u z x = s_va_comma u z s y x
    va_name_sound (sort.Mark k) s u z x = tt
    va_name_sound (sort.Number v t) s u z x = tt
    va_name_sound (sort.Char c) s u z x = tt
    va_name_sound (sort.Word v) s u z x = tt
    va_name_sound (sort.Text y) s u z x = tt
    va_name_sound sort.Unknown s u z x = tt

    va_comma_mark_sound : (k : Mark) (s u z v : Span) (y : List ℕ) {j : ℕ} {fs : List Frame} {a : List Terminal} → Place j fs (word w.VaArg u ∷ mark m.OpenParen z ∷ named y v ∷ mark k s ∷ a) →
        IfSound (va_comma_mark k u (name_of y v) e fs) (mark k s) a
    va_comma_mark_sound m.Comma s u z v y x = s_va_type u z v s y type_state.Opening x refl
    va_comma_mark_sound k s u z v y x = tt

    va_comma_sound : (k : Sort) (s u z v : Span) (y : List ℕ) {j : ℕ} {fs : List Frame} {a : List Terminal} → Place j fs (word w.VaArg u ∷ mark m.OpenParen z ∷ named y v ∷ term k s ∷ a) →
        IfSound (va_comma_step k u (name_of y v) e fs) (term k s) a
    va_comma_sound (sort.Mark k) s u z v y x = va_comma_mark_sound k s u z v y x
    va_comma_sound (sort.Name i) s u z v y x = tt
    va_comma_sound (sort.Number i t) s u z v y x = tt
    va_comma_sound (sort.Char c) s u z v y x = tt
    va_comma_sound (sort.Word i) s u z v y x = tt
    va_comma_sound (sort.Text i) s u z v y x = tt
    va_comma_sound sort.Unknown s u z v y x = tt

    va_type_sound : (k : Sort) (s : Span) (o : Answer TypeState TypeName) (u z v q : Span) (y : List ℕ) (b a : List Terminal) {j : ℕ} {fs : List Frame} →
        Place j fs (word w.VaArg u ∷ mark m.OpenParen z ∷ named y v ∷ mark m.Comma q ∷ b) → TypeSaid o b (term k s) a → IfSound (va_type k o u (name_of y v) e fs) (term k s) a
    va_type_sound k s (More i) u z v q y b a x d = s_va_type u z v q y i x d
    va_type_sound k s (Done i) u z v q y b a x d =
        ending_sound k s (Operated (leaf (expr.VaArg u (name_of y v) i))) a
        (λ h. s_operated x (p_leaf (expr.VaArg u (name_of y v) i) (word w.VaArg u ∷ mark m.OpenParen z ∷ named y v ∷ mark m.Comma q ∷ b) a
        (leaf-cap n low (expr.VaArg u (name_of y v) i) (expr_height-VaArg u (name_of y v) i))
        (argument_of {q = s} (subst (λ c. IsTypeName i b (term c s ∷ a)) h d))))
    va_type_sound k s Bad u z v q y b a x d = tt

    -- ---- behind an operand

    assigning_sound : (op : AssignOp) (s : Span) {j : ℕ} {l : Part} {fs : List Frame} {b a : List Terminal} (t : Terminal) → Place j fs b → PUnary l b (mark (assign_mark op) s ∷ a) →
        IfSound (assigning_of op s e (l, fs)) t a
    assigning_sound op s t bottom u = s_operand (assigning op s bottom u)
    assigning_sound op s t (prefixing o v x) u = tt
    assigning_sound op s t (casting v i y x d) u = tt
    assigning_sound op s t (inside v x) u = s_operand (assigning op s (inside v x) u)
    assigning_sound op s t (calling v x f args) u = s_operand (assigning op s (calling v x f args) u)
    assigning_sound op s t (indexing v x f) u = s_operand (assigning op s (indexing v x f) u)
    assigning_sound op s t (left o v x d le free) u = tt
    assigning_sound op s t (asking v x d le free) u = s_operand (assigning op s (asking v x d le free) u)
    assigning_sound op s t (choosing v i x d le free y) u = tt
    assigning_sound op s t (assigning o v x d) u = s_operand (assigning op s (assigning o v x d) u)

    left_sound : (op : BinaryOp) (s : Span) {a : List Terminal} (t : Terminal) (r : Part × List Frame) → Reduced (level op) (mark (binary_mark op) s ∷ a) r → IfSound (left_of op s e r) t a
    left_sound op s {a} t (l, fs) x =
        cond_case (λ v. IfSound v t a) (is_free e fs) (to e Operand (Left op s l ∷ fs)) Bad
        (λ yes. s_operand (left op s x.place (to_binary (level op) (level_positive op) (omega (arith, level_positive op)) x.reads) (omega (arith, x.fits, level_positive op)) yes)) (λ no. tt)

    -- where a question may stand
    low_place : {j : ℕ} {fs : List Frame} {b : List Terminal} → j ≤ 2 → Place j fs b → j ≤ 1
    low_place h bottom = omega arith
    low_place h (prefixing o v x) = omega arith
    low_place h (casting v i y x d) = omega arith
    low_place h (inside v x) = omega arith
    low_place h (calling v x f args) = omega arith
    low_place h (indexing v x f) = omega arith
    low_place h (left o v x d le free) = omega (arith, level_positive o)
    low_place h (asking v x d le free) = omega arith
    low_place h (choosing v i x d le free y) = omega arith
    low_place h (assigning o v x d) = omega arith

    asking_sound : (s : Span) {a : List Terminal} (t : Terminal) (r : Part × List Frame) → Reduced 1 (mark m.Question s ∷ a) r → IfSound (asking_of s e r) t a
    asking_sound s {a} t (p, fs) x =
        cond_case (λ v. IfSound v t a) (is_free e fs) (to e Operand (Asking p s ∷ fs)) Bad
        (λ yes. s_operand (asking s x.place (to_binary 1 (omega arith) (omega arith) x.reads) (low_place (omega (arith, x.fits)) x.place) yes)) (λ no. tt)

    finish_sound : (b : Bool) → b ≡ e → (p : Part) (t : Terminal) (a : List Terminal) → PAssign p all (t ∷ a) → Ends t.sort → IfSound (finish_part b p) t a
    finish_sound false q p t a d h = record { reads = d; effect = λ y. let never : ⊥ = cc in absurd never; ends = h }
    finish_sound true q p t a d h = cond_case (λ v. IfSound v t a) (part_effect p) (Done p) Bad (λ yes. record { reads = d; effect = λ y. yes; ends = h }) (λ no. tt)

    close_sound : (s : Span) {j : ℕ} {p : Part} {fs : List Frame} {b a : List Terminal} → Place j fs b → PAssign p b (mark m.CloseParen s ∷ a) → IfSound (close_of n e p fs) (mark m.CloseParen s) a
    close_sound s {p = p} {a = a} bottom d = finish_sound e refl p (mark m.CloseParen s) a d tt
    close_sound s (prefixing o v x) d = tt
    close_sound s (casting v i y x f) d = tt
    close_sound s (inside v x) d = s_operated x (p_parenthesis v s d)
    close_sound s (calling v x f args) d = s_operated x (p_call v s f args d)
    close_sound s (indexing v x f) d = tt
    close_sound s (left o v x f le free) d = tt
    close_sound s (asking v x f le free) d = tt
    close_sound s (choosing v i x f le free y) d = tt
    close_sound s (assigning o v x f) d = tt

    bracket_sound : (s : Span) {j : ℕ} {p : Part} {fs : List Frame} {b a : List Terminal} (t : Terminal) → Place j fs b → PAssign p b (mark m.CloseBracket s ∷ a) → IfSound (bracket_of n e p fs) t a
    bracket_sound s t bottom d = tt
    bracket_sound s t (prefixing o v x) d = tt
    bracket_sound s t (casting v i y x f) d = tt
    bracket_sound s t (inside v x) d = tt
    bracket_sound s t (calling v x f args) d = tt
    bracket_sound s t (indexing v x f) d = s_operated x (p_index v s f d)
    bracket_sound s t (left o v x f le free) d = tt
    bracket_sound s t (asking v x f le free) d = tt
    bracket_sound s t (choosing v i x f le free y) d = tt
    bracket_sound s t (assigning o v x f) d = tt

    colon_sound : (s : Span) {j : ℕ} {p : Part} {fs : List Frame} {b a : List Terminal} (t : Terminal) → Place j fs b → PAssign p b (mark m.Colon s ∷ a) → IfSound (colon_of e p fs) t a
    colon_sound s t bottom d = tt
    colon_sound s t (prefixing o v x) d = tt
    colon_sound s t (casting v i y x f) d = tt
    colon_sound s t (inside v x) d = tt
    colon_sound s t (calling v x f args) d = tt
    colon_sound s t (indexing v x f) d = tt
    colon_sound s t (left o v x f le free) d = tt
    colon_sound s t (asking v x f le free) d = s_operand (choosing v s x f le free d)
    colon_sound s t (choosing v i x f le free y) d = tt
    colon_sound s t (assigning o v x f) d = tt

    comma_sound : (s : Span) {j : ℕ} {p : Part} {fs : List Frame} {b a : List Terminal} → Place j fs b → PAssign p b (mark m.Comma s ∷ a) → IfSound (comma_of e p fs) (mark m.Comma s) a
    comma_sound s {p = p} {a = a} bottom d = finish_sound e refl p (mark m.Comma s) a d tt
    comma_sound s (prefixing o v x) d = tt
    comma_sound s (casting v i y x f) d = tt
    comma_sound s (inside v x) d = tt
    comma_sound s (calling v x f args) d = s_operand (calling v x f (p_argument s args d))
    comma_sound s (indexing v x f) d = tt
    comma_sound s (left o v x f le free) d = tt
    comma_sound s (asking v x f le free) d = tt
    comma_sound s (choosing v i x f le free y) d = tt
    comma_sound s (assigning o v x f) d = tt

    semicolon_sound : (s : Span) {j : ℕ} {p : Part} {fs : List Frame} {b a : List Terminal} → Place j fs b → PAssign p b (mark m.Semicolon s ∷ a) → IfSound (semicolon_of e p fs) (mark m.Semicolon s) a
    semicolon_sound s {p = p} {a = a} bottom d = finish_sound e refl p (mark m.Semicolon s) a d tt
    semicolon_sound s (prefixing o v x) d = tt
    semicolon_sound s (casting v i y x f) d = tt
    semicolon_sound s (inside v x) d = tt
    semicolon_sound s (calling v x f args) d = tt
    semicolon_sound s (indexing v x f) d = tt
    semicolon_sound s (left o v x f le free) d = tt
    semicolon_sound s (asking v x f le free) d = tt
    semicolon_sound s (choosing v i x f le free y) d = tt
    semicolon_sound s (assigning o v x f) d = tt

    both_reduced : (q : ℕ) {j : ℕ} {p : Part} {fs : List Frame} {b c : List Terminal} → Place j fs b → PUnary p b c → Reduced q c (reduce n q p fs)
    both_reduced q x d = reduced q x (tight d) (tight d)

    -- a mark that closes frames
    closed_sound : (v : Follower) (k : Mark) → IsFollower k v → is_postfix v ≡ false → (s : Span) {j : ℕ} (p : Part) (fs : List Frame) {b a : List Terminal} → Place j fs b → PUnary p b (mark k s ∷ a) →
        IfSound (followed n v s p e fs) (mark k s) a
    closed_sound follower.OpenParen k h o s p fs x d = let never : ⊥ = cc in absurd never
    closed_sound follower.OpenBracket k h o s p fs x d = let never : ⊥ = cc in absurd never
    closed_sound follower.Increment k h o s p fs x d = let never : ⊥ = cc in absurd never
    closed_sound follower.Decrement k h o s p fs x d = let never : ⊥ = cc in absurd never
    closed_sound (follower.Select y) k h o s p fs x d = let never : ⊥ = cc in absurd never
    closed_sound follower.Question k h o s p fs {b} {a} x d = asking_sound s (mark k s) (reduce n 1 p fs) (both_reduced 1 x (subst (λ z. PUnary p b (mark z s ∷ a)) h d))
    closed_sound (follower.Assign op) k h o s p fs {b} {a} x d =
        let r = both_reduced 11 x (subst (λ z. PUnary p b (mark z s ∷ a)) h d) in assigning_sound op s (mark k s) r.place (to_unary (omega arith) r.reads)
    closed_sound (follower.Binary op) k h o s p fs {b} {a} x d = left_sound op s (mark k s) (reduce n (level op) p fs) (both_reduced (level op) x (subst (λ z. PUnary p b (mark z s ∷ a)) h d))
    closed_sound follower.CloseParen k h o s p fs {b} {a} x d =
        let r = both_reduced 0 x (subst (λ z. PUnary p b (mark z s ∷ a)) h d) in
        subst (λ z. IfSound (close_of n e (reduce n 0 p fs).0 (reduce n 0 p fs).1) (mark z s) a) (sym h) (close_sound s r.place (to_assign r.reads))
    closed_sound follower.CloseBracket k h o s p fs {b} {a} x d =
        let r = both_reduced 0 x (subst (λ z. PUnary p b (mark z s ∷ a)) h d) in bracket_sound s (mark k s) r.place (to_assign r.reads)
    closed_sound follower.Colon k h o s p fs {b} {a} x d =
        let r = both_reduced 0 x (subst (λ z. PUnary p b (mark z s ∷ a)) h d) in colon_sound s (mark k s) r.place (to_assign r.reads)
    closed_sound follower.Comma k h o s p fs {b} {a} x d =
        let r = both_reduced 0 x (subst (λ z. PUnary p b (mark z s ∷ a)) h d) in
        subst (λ z. IfSound (comma_of e (reduce n 0 p fs).0 (reduce n 0 p fs).1) (mark z s) a) (sym h) (comma_sound s r.place (to_assign r.reads))
    closed_sound follower.Semicolon k h o s p fs {b} {a} x d =
        let r = both_reduced 0 x (subst (λ z. PUnary p b (mark z s ∷ a)) h d) in
        subst (λ z. IfSound (semicolon_of e (reduce n 0 p fs).0 (reduce n 0 p fs).1) (mark z s) a) (sym h) (semicolon_sound s r.place (to_assign r.reads))
    closed_sound follower.Nothing k h o s p fs x d = tt

    followed_sound : (v : Follower) (k : Mark) → IsFollower k v → (s : Span) {j : ℕ} (p : Part) (fs : List Frame) {b a : List Terminal} → Place j fs b → PPostfix p b (mark k s ∷ a) →
        IfSound (followed n v s p e fs) (mark k s) a
    followed_sound follower.OpenParen k h s p fs {b} {a} x d = s_argument s x (subst (λ z. PPostfix p b (mark z s ∷ a)) h d)
    followed_sound follower.OpenBracket k h s p fs {b} {a} x d = s_operand (indexing s x (subst (λ z. PPostfix p b (mark z s ∷ a)) h d))
    followed_sound follower.Increment k h s p fs {b} {a} x d = s_operated x (p_incremented s (subst (λ z. PPostfix p b (mark z s ∷ a)) h d))
    followed_sound follower.Decrement k h s p fs {b} {a} x d = s_operated x (p_decremented s (subst (λ z. PPostfix p b (mark z s ∷ a)) h d))
    followed_sound (follower.Select y) k h s p fs {b} {a} x d = s_selecting y s x (subst (λ z. PPostfix p b (mark z s ∷ a)) h d)
    followed_sound follower.Question k h s p fs x d = closed_sound follower.Question k h refl s p fs x (p_postfix d)
    followed_sound (follower.Assign op) k h s p fs x d = closed_sound (follower.Assign op) k h refl s p fs x (p_postfix d)
    followed_sound (follower.Binary op) k h s p fs x d = closed_sound (follower.Binary op) k h refl s p fs x (p_postfix d)
    followed_sound follower.CloseParen k h s p fs x d = closed_sound follower.CloseParen k h refl s p fs x (p_postfix d)
    followed_sound follower.CloseBracket k h s p fs x d = closed_sound follower.CloseBracket k h refl s p fs x (p_postfix d)
    followed_sound follower.Colon k h s p fs x d = closed_sound follower.Colon k h refl s p fs x (p_postfix d)
    followed_sound follower.Comma k h s p fs x d = closed_sound follower.Comma k h refl s p fs x (p_postfix d)
    followed_sound follower.Semicolon k h s p fs x d = closed_sound follower.Semicolon k h refl s p fs x (p_postfix d)
    followed_sound follower.Nothing k h s p fs x d = tt

    whole_sound : (k : Sort) (s : Span) {j : ℕ} (p : Part) (fs : List Frame) {b a : List Terminal} → Place j fs b → PUnary p b (term k s ∷ a) → IfSound (whole_step n k s p e fs) (term k s) a
    whole_sound (sort.Mark k) s p fs {a = a} x d =
        cond_case (λ v. IfSound v (mark k s) a) (is_postfix (follower_of k)) Bad (followed n (follower_of k) s p e fs) (λ yes. tt)
        (λ no. closed_sound (follower_of k) k (follower_is k) no s p fs x d)
    whole_sound (sort.Name y) s p fs x d = tt
    whole_sound (sort.Number v t) s p fs x d = tt
    whole_sound (sort.Char c) s p fs x d = tt
    whole_sound (sort.Word v) s p fs x d = tt
    whole_sound (sort.Text y) s p fs x d = tt
    whole_sound sort.Unknown s p fs x d = tt

    operated_sound : (k : Sort) (s : Span) {j : ℕ} (p : Part) (fs : List Frame) {b a : List Terminal} → Place j fs b → PPostfix p b (term k s ∷ a) → IfSound (operated_step n k s p e fs) (term k s) a
    operated_sound (sort.Mark k) s p fs x d = followed_sound (follower_of k) k (follower_is k) s p fs x d
    operated_sound (sort.Name y) s p fs x d = tt
    operated_sound (sort.Number v t) s p fs x d = tt
    operated_sound (sort.Char c) s p fs x d = tt
    operated_sound (sort.Word v) s p fs x d = tt
    operated_sound (sort.Text y) s p fs x d = tt
    operated_sound sort.Unknown s p fs x d = tt

    pub step_sound : (t : Terminal) {st : ExprState} {a : List Terminal} → Sound st (t ∷ a) → IfSound (expr_step n t st) t a
    step_sound t (s_operand x) = operand_sound t.sort t.span x
    step_sound t (s_parened u x) = parened_sound t.sort t.span u x
    step_sound t {a = a} (s_cast {b = b} u v y x d) = cast_sound t.sort t.span y u v b a x d
    step_sound t (s_argument {f = f} u x d) = argument_sound t.sort t.span f u x d
    step_sound t (s_selecting {f = f} k u x d) = select_sound t.sort t.span f k u x d
    step_sound t (s_size_open u x) = size_open_sound t.sort t.span u x
    step_sound t {a = a} (s_size_type {b = b} u z y x d) = size_type_sound t.sort t.span (type_step t y) u z b a x (type_said t y b a d)
    step_sound t (s_va_open u x) = va_open_sound t.sort t.span u x
    step_sound t (s_va_name u z x) = va_name_sound t.sort t.span u z x
    step_sound t (s_va_comma u z v y x) = va_comma_sound t.sort t.span u z v y x
    step_sound t {a = a} (s_va_type {b = b} u z v q y i x d) = va_type_sound t.sort t.span (type_step t i) u z v q y b a x (type_said t i b a d)
    step_sound t (s_whole {p = p} {fs = fs} x d) = whole_sound t.sort t.span p fs x d
    step_sound t (s_operated {p = p} {fs = fs} x d) = operated_sound t.sort t.span p fs x d

    whole_of : (p : Part) (t : Terminal) (a : List Terminal) → IsWhole p t a → IsWhole p t a
    whole_of p t a r = r

    pub came_sound : {st : ExprState} {a : List Terminal} → Came (expr_step n) (start e) all st a → Sound st a
    came_sound begun = s_operand bottom
    came_sound {a = a} (taken {s = st} {t = t} c q) = subst (λ v. IfSound v t a) q (step_sound t (came_sound c))

    -- what is read is an expression
    pub expr_sound : (st : ExprState) (p : Part) (t : Terminal) (a : List Terminal) → Came (expr_step n) (start e) all st (t ∷ a) → expr_step n t st ≡ Done p → IsRead n e p all t a
    expr_sound st p t a c q =
        let r = whole_of p t a (subst (λ v. IfSound v t a) q (step_sound t (came_sound c))) in
        record { tree = r.reads.tree; is = r.reads.is; reads = r.reads.reads; effect = λ h. sym (effect-cap n r.reads.tree) ∙ sym (ap part_effect r.reads.is) ∙ r.effect h; ends = r.ends }
