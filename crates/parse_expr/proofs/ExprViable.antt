-- Whatever the machine holds can be completed.
use Rattle.std.proofs.Common.{◌≡◌, ℕ, suc, ◌+◌, ◌≤◌, ◌<◌, Bool, true, false, cond, List, [], ◌∷◌, ◌++◌, append_assoc, Option, Some, None, nat_le, nat_lt, max, refl, sym, ap, ◌∙◌, subst, arith}
use Rattle.std.proofs.lemmas.Bool.{le-leb}
use Rattle.c_types.specs.declared.types.Span.{Span}
use Rattle.c_types.specs.declared.types.IntTy.{IntTy}
use Rattle.c_types.specs.declared.types.IntTy.TheVariants.{I8, U8, I16, U16, I32, U32, I64, U64}
use Rattle.c_tree.specs.declared.operators.UnaryOp.{UnaryOp}
use Rattle.c_tree.specs.declared.operators.BinaryOp.{BinaryOp}
use Rattle.c_tree.specs.declared.operators.AssignOp.{AssignOp}
use Rattle.c_tree.specs.declared.operators.AssignOp.TheVariants as assign_op
use Rattle.c_tree.specs.declared.operators.Selector.{Selector}
use Rattle.c_tree.specs.declared.expressions.Name.{Name}
use Rattle.c_tree.specs.declared.expressions.TypeName.{TypeName}
use Rattle.c_tree.specs.declared.expressions.Expr.{Expr}
use Rattle.c_tree.specs.declared.expressions.Expr.TheVariants as expr
use Rattle.c_lex.specs.declared.words.Word.{Word}
use Rattle.c_lex.specs.declared.words.Word.TheVariants as w
use Rattle.c_lex.specs.declared.marks.Mark.{Mark}
use Rattle.c_lex.specs.declared.marks.Mark.TheVariants as m
use Rattle.parse_terms.specs.declared.answer.Answer.{Answer}
use Rattle.parse_terms.specs.declared.answer.Answer.TheVariants.{More, Done, Bad}
use Rattle.parse_terms.specs.declared.terminal.Sort.{Sort}
use Rattle.parse_terms.specs.declared.terminal.Sort.TheVariants as sort
use Rattle.parse_terms.specs.declared.terminal.Terminal.{Terminal}
use Rattle.parse_terms.specs.declared.integers.IntWords.{IntWords}
use Rattle.parse_terms.specs.declared.integers.IntWords.TheVariants.{Sign, Short, Long, LongLong}
use Rattle.parse_terms.specs.declared.integers.IntWords.TheVariants as int_words
use Rattle.parse_terms.specs.declared.types.TypeState.{TypeState}
use Rattle.parse_terms.specs.declared.types.TypeState.TheVariants as type_state
use Rattle.parse_terms.specs.Terminals.{term, word, mark, named, name_of}
use Rattle.parse_terms.specs.Declarators.{literal, number}
use Rattle.parse_terms.specs.Integers.{int_type, two, four, eight, IsWidth, char as char_width, short, short_int, int, long_long, long_long_int, IsInt, plain as plain_int, with_signed, with_unsigned, signed, unsigned, int_begin, int_step, int_finish}
use Rattle.parse_terms.specs.TypeNames.{type_step, IsTypeName}
use Rattle.parse_terms.specs.Runs.{Outcome, Ended, Finished, Failed, after, run, Came, begun, taken}
use Rattle.parse_expr.specs.declared.operators.Follower.{Follower}
use Rattle.parse_expr.specs.declared.operators.Follower.TheVariants as follower
use Rattle.parse_expr.specs.declared.operators.Opener.{Opener}
use Rattle.parse_expr.specs.declared.operators.Opener.TheVariants as opener
use Rattle.parse_expr.specs.declared.parts.Part.{Part}
use Rattle.parse_expr.specs.declared.parts.Parts.{Parts}
use Rattle.parse_expr.specs.declared.state.Frame.{Frame}
use Rattle.parse_expr.specs.declared.state.Frame.TheVariants.{Prefix, Casting, Paren, Calling, Indexing, Left, Asking, Choosing, Assigning}
use Rattle.parse_expr.specs.declared.state.Focus.{Focus}
use Rattle.parse_expr.specs.declared.state.Focus.TheVariants.{Operand, Parened, CastWords, Argument, Selecting, SizeOpen, SizeType, VaOpen, VaName, VaComma, VaType, Operated, Whole}
use Rattle.parse_expr.specs.declared.state.ExprState.{ExprState}
use Rattle.parse_expr.specs.Operators.{level, binary_mark, assign_mark, prefix_mark, selector_mark, follower_of, opener_of, IsFollower, IsOpener}
use Rattle.parse_expr.specs.ExprGrammar.{is_effect, is_effect_prefix, IsAssign, plain, assigned, IsCond, simple, conditional, IsBinary, operand, joined, IsUnary, prefixed, cast, size_of, postfix, IsPostfix, name, number_of, char, parenthesis, argument_of, call_empty, call, index, select, incremented, decremented, IsArguments, no_arguments, argument}
use Rattle.parse_expr.specs.Parts.{part_effect, cap, cap_all, leaf, no_parts}
use Rattle.parse_expr.specs.Parts as parts
use Rattle.parse_expr.specs.ExprMachine.{state, start, Said, to, reduce, opened, word_operand, operand_step, parened_word, parened_step, cast_more, cast_end, cast_close, cast_step, argument_opened, argument_step, select_step, open_step, paren_step, close_step, ending_step, size_type, va_name_step, va_comma_mark, va_comma_step, va_type, is_free, is_assignable, left_of, asking_of, assigning_of, finish_part, close_of, bracket_of, colon_of, comma_of, semicolon_of, followed, operated_step, is_postfix, whole_step, step_at, expr_step}
use Rattle.parse_expr.proofs.OperatorLaws.{binary_follows, assign_follows, selector_follows, prefix_opens, level_positive, level_most, follower_is, opener_is}
use Rattle.parse_expr.proofs.PartLaws.{effect-Unary, effect-Cast, effect-Paren, effect-Select, effect-PostIncrement, effect-PostDecrement, effect-Index, effect-Binary, effect-Assign, effect-Conditional, effect-Call, leaf-cap, prefixed-cap, cast-cap, parenthesized-cap, selected-cap, incremented-cap, decremented-cap, indexed-cap, joined-cap, assigned-cap, chosen-cap, no_parts-cap, called-cap, with_argument-cap, effect-cap}
use Rattle.parse_expr.specs.declared.parts.Part.TheVariants as part
use Rattle.parse_terms.specs.TypeNames.{Stops}
use Rattle.parse_terms.proofs.RunLaws.{hosted, lifted, run_append}
use Rattle.parse_terms.proofs.TypeLaws.{Completes, type_completes}
use Rattle.parse_expr.specs.ExprMachine.{Ends, CanEnd}
use Rattle.parse_expr.proofs.ExprComplete.{false_true, held, held_step, held_run, ends_at, size_said, va_said}
use Rattle.parse_expr.proofs.ExprSound.{came_sound, Place, bottom, prefixing, casting, inside, calling, indexing, left, asking, choosing, assigning, Sound, s_operand, s_parened, s_cast, s_argument, s_selecting, s_size_open, s_size_type, s_va_open, s_va_name, s_va_comma, s_va_type, s_whole, s_operated}

abbrev somewhere : Span
somewhere = record { start = 0; end = 0 }

abbrev anyone : Terminal
anyone = named [] somewhere

-- the marks that close frames; `=` closes those of prefixes alone
abbrev IsCloser : Sort → Type 0
IsCloser (sort.Mark m.CloseParen) = Unit {0}
IsCloser (sort.Mark m.CloseBracket) = Unit {0}
IsCloser (sort.Mark m.Colon) = Unit {0}
IsCloser (sort.Mark m.Comma) = Unit {0}
IsCloser (sort.Mark m.Semicolon) = Unit {0}
IsCloser _ = ⊥

abbrev IsEnder : Sort → Type 0
IsEnder (sort.Mark m.Equal) = Unit {0}
IsEnder k = IsCloser k

assigned_effect : (n : ℕ) (op : AssignOp) (s : Span) (l r : Part) → part_effect (parts.assigned n op s l r) ≡ true
unfolding parts.assigned
assigned_effect n op s (part.Built l h) (part.Built r k) = at (nat_lt h n) (nat_lt k n)
  where
    at : (v w : Bool) → part_effect (cond v (cond w (part.Built (expr.Assign op s l r) (max h k + 1)) (part.Deep true)) (part.Deep true)) ≡ true
    at true true = effect-Assign op s l r
    at true false = refl
    at false w = refl
assigned_effect n op s (part.Built l h) (part.Deep b) = refl
assigned_effect n op s (part.Deep b) r = refl

ends_closer : (k : Sort) → Ends k → IsCloser k
ends_closer (sort.Mark m.CloseParen) h = tt
ends_closer (sort.Mark m.Comma) h = tt
ends_closer (sort.Mark m.Semicolon) h = tt
ends_closer _ h = absurd h

module _ (n : ℕ) (low : 1 ≤ n) (e : Bool) where
  abbrev at_part : Bool → Part → List Frame → ExprState
  at_part v p fs = state e (held n low e v p) fs

  -- frames without the tokens before them
  pub data Fine : ℕ → List Frame → Type 0 where
    f_bottom : Fine 0 []
    f_prefix : {j : ℕ} {fs : List Frame} (op : UnaryOp) (s : Span) → Fine j fs → Fine 12 (Prefix op s ∷ fs)
    f_cast : {j : ℕ} {fs : List Frame} (s : Span) (i : IntTy) (t : Span) → Fine j fs → Fine 12 (Casting s i t ∷ fs)
    f_inside : {j : ℕ} {fs : List Frame} (s : Span) → Fine j fs → Fine 0 (Paren s ∷ fs)
    f_calling : {j : ℕ} {fs : List Frame} (f : Part) (s : Span) (ps : Parts) → Fine j fs → Fine 0 (Calling f s ps ∷ fs)
    f_indexing : {j : ℕ} {fs : List Frame} (f : Part) (s : Span) → Fine j fs → Fine 0 (Indexing f s ∷ fs)
    f_left : {j : ℕ} {fs : List Frame} (op : BinaryOp) (s : Span) (l : Part) → Fine j fs → j ≤ suc (level op) → is_free e fs ≡ true → Fine (suc (suc (level op))) (Left op s l ∷ fs)
    f_asking : {j : ℕ} {fs : List Frame} (c : Part) (s : Span) → Fine j fs → j ≤ 1 → is_free e fs ≡ true → Fine 0 (Asking c s ∷ fs)
    f_choosing : {j : ℕ} {fs : List Frame} (c : Part) (s : Span) (l : Part) → Fine j fs → j ≤ 1 → is_free e fs ≡ true → Fine 1 (Choosing c s l ∷ fs)
    f_assigning : {fs : List Frame} (op : AssignOp) (s : Span) (l : Part) → Fine 0 fs → Fine 0 (Assigning op s l ∷ fs)

  pub place_fine : {all : List Terminal} {j : ℕ} {fs : List Frame} {a : List Terminal} → Place n low e all j fs a → Fine j fs
  place_fine bottom = f_bottom
  place_fine (prefixing op s x) = f_prefix op s (place_fine x)
  place_fine (casting {i = i} s t u x d) = f_cast s i t (place_fine x)
  place_fine (inside s x) = f_inside s (place_fine x)
  place_fine (calling {f = f} {ps = ps} s x d args) = f_calling f s ps (place_fine x)
  place_fine (indexing {f = f} s x d) = f_indexing f s (place_fine x)
  place_fine (left {l = l} op s x d le free) = f_left op s l (place_fine x) le free
  place_fine (asking {c = c} s x d le free) = f_asking c s (place_fine x) le free
  place_fine (choosing {c = c} {l = l} s t x d le free y) = f_choosing c s l (place_fine x) le free
  place_fine (assigning {l = l} op s x u) = f_assigning op s l (place_fine x)

  -- ---- a mark that closes a frame finds what the frame makes of the part

  enders_prefix : (k : Sort) → IsEnder k → (s : Span) (v w : Bool) (op : UnaryOp) (u : Span) (p : Part) (fs : List Frame) →
      expr_step n (term k s) (at_part v p (Prefix op u ∷ fs)) ≡ expr_step n (term k s) (at_part w (parts.prefixed n op u p) fs)
  enders_prefix (sort.Mark m.Equal) h s v w op u p fs = held_step n low e v m.Equal s p (Prefix op u ∷ fs) refl ∙ sym (held_step n low e w m.Equal s (parts.prefixed n op u p) fs refl)
  enders_prefix (sort.Mark m.CloseParen) h s v w op u p fs = held_step n low e v m.CloseParen s p (Prefix op u ∷ fs) refl ∙ sym (held_step n low e w m.CloseParen s (parts.prefixed n op u p) fs refl)
  enders_prefix (sort.Mark m.CloseBracket) h s v w op u p fs = held_step n low e v m.CloseBracket s p (Prefix op u ∷ fs) refl ∙ sym (held_step n low e w m.CloseBracket s (parts.prefixed n op u p) fs refl)
  enders_prefix (sort.Mark m.Colon) h s v w op u p fs = held_step n low e v m.Colon s p (Prefix op u ∷ fs) refl ∙ sym (held_step n low e w m.Colon s (parts.prefixed n op u p) fs refl)
  enders_prefix (sort.Mark m.Comma) h s v w op u p fs = held_step n low e v m.Comma s p (Prefix op u ∷ fs) refl ∙ sym (held_step n low e w m.Comma s (parts.prefixed n op u p) fs refl)
  enders_prefix (sort.Mark m.Semicolon) h s v w op u p fs = held_step n low e v m.Semicolon s p (Prefix op u ∷ fs) refl ∙ sym (held_step n low e w m.Semicolon s (parts.prefixed n op u p) fs refl)
  enders_prefix _ h s v w op u p fs = absurd h

  enders_cast : (k : Sort) → IsEnder k → (s : Span) (v w : Bool) (u : Span) (i : IntTy) (t : Span) (p : Part) (fs : List Frame) →
      expr_step n (term k s) (at_part v p (Casting u i t ∷ fs)) ≡ expr_step n (term k s) (at_part w (parts.cast n u i t p) fs)
  enders_cast (sort.Mark m.Equal) h s v w u i t p fs = held_step n low e v m.Equal s p (Casting u i t ∷ fs) refl ∙ sym (held_step n low e w m.Equal s (parts.cast n u i t p) fs refl)
  enders_cast (sort.Mark m.CloseParen) h s v w u i t p fs = held_step n low e v m.CloseParen s p (Casting u i t ∷ fs) refl ∙ sym (held_step n low e w m.CloseParen s (parts.cast n u i t p) fs refl)
  enders_cast (sort.Mark m.CloseBracket) h s v w u i t p fs = held_step n low e v m.CloseBracket s p (Casting u i t ∷ fs) refl ∙ sym (held_step n low e w m.CloseBracket s (parts.cast n u i t p) fs refl)
  enders_cast (sort.Mark m.Colon) h s v w u i t p fs = held_step n low e v m.Colon s p (Casting u i t ∷ fs) refl ∙ sym (held_step n low e w m.Colon s (parts.cast n u i t p) fs refl)
  enders_cast (sort.Mark m.Comma) h s v w u i t p fs = held_step n low e v m.Comma s p (Casting u i t ∷ fs) refl ∙ sym (held_step n low e w m.Comma s (parts.cast n u i t p) fs refl)
  enders_cast (sort.Mark m.Semicolon) h s v w u i t p fs = held_step n low e v m.Semicolon s p (Casting u i t ∷ fs) refl ∙ sym (held_step n low e w m.Semicolon s (parts.cast n u i t p) fs refl)
  enders_cast _ h s v w u i t p fs = absurd h

  -- what a reduction to 0 is, decides
  closers_same : (k : Sort) → IsCloser k → (s : Span) (v w : Bool) (p q : Part) (fs gs : List Frame) → reduce n 0 p fs ≡ reduce n 0 q gs →
      expr_step n (term k s) (at_part v p fs) ≡ expr_step n (term k s) (at_part w q gs)
  closers_same (sort.Mark m.CloseParen) h s v w p q fs gs r = held_step n low e v m.CloseParen s p fs refl ∙ ap (λ y. close_of n e y.0 y.1) r ∙ sym (held_step n low e w m.CloseParen s q gs refl)
  closers_same (sort.Mark m.CloseBracket) h s v w p q fs gs r = held_step n low e v m.CloseBracket s p fs refl ∙ ap (λ y. bracket_of n e y.0 y.1) r ∙ sym (held_step n low e w m.CloseBracket s q gs refl)
  closers_same (sort.Mark m.Colon) h s v w p q fs gs r = held_step n low e v m.Colon s p fs refl ∙ ap (λ y. colon_of e y.0 y.1) r ∙ sym (held_step n low e w m.Colon s q gs refl)
  closers_same (sort.Mark m.Comma) h s v w p q fs gs r = held_step n low e v m.Comma s p fs refl ∙ ap (λ y. comma_of e y.0 y.1) r ∙ sym (held_step n low e w m.Comma s q gs refl)
  closers_same (sort.Mark m.Semicolon) h s v w p q fs gs r = held_step n low e v m.Semicolon s p fs refl ∙ ap (λ y. semicolon_of e y.0 y.1) r ∙ sym (held_step n low e w m.Semicolon s q gs refl)
  closers_same _ h s v w p q fs gs r = absurd h

  left_reduced : (op : BinaryOp) (s : Span) (l p : Part) (fs : List Frame) → reduce n 0 p (Left op s l ∷ fs) ≡ reduce n 0 (parts.joined n op s l p) fs
  left_reduced op s l p fs = ap (λ v. cond v (reduce n 0 (parts.joined n op s l p) fs) (p, Left op s l ∷ fs)) (le-leb 0 (level op) (omega arith))

  choosing_reduced : (c : Part) (s : Span) (l p : Part) (fs : List Frame) → reduce n 0 p (Choosing c s l ∷ fs) ≡ reduce n 0 (parts.chosen n c s l p) fs
  choosing_reduced c s l p fs = ap (λ v. cond v (reduce n 0 (parts.chosen n c s l p) fs) (p, Choosing c s l ∷ fs)) (le-leb 0 0 (omega arith))

  assigning_reduced : (op : AssignOp) (s : Span) (l p : Part) (fs : List Frame) → reduce n 0 p (Assigning op s l ∷ fs) ≡ reduce n 0 (parts.assigned n op s l p) fs
  assigning_reduced op s l p fs = ap (λ v. cond v (reduce n 0 (parts.assigned n op s l p) fs) (p, Assigning op s l ∷ fs)) (le-leb 0 0 (omega arith))

  -- no prefix waits for the part
  abbrev NotPrefix : List Frame → Type 0
  NotPrefix (Prefix op s ∷ fs) = ⊥
  NotPrefix (Casting s i t ∷ fs) = ⊥
  NotPrefix _ = Unit {0}

  not_prefix : {j : ℕ} {fs : List Frame} → Fine j fs → j ≤ 11 → NotPrefix fs
  not_prefix f_bottom le = tt
  not_prefix (f_prefix op s x) le = let never : ⊥ = omega arith in absurd never
  not_prefix (f_cast s i u x) le = let never : ⊥ = omega arith in absurd never
  not_prefix (f_inside s x) le = tt
  not_prefix (f_calling f s ps x) le = tt
  not_prefix (f_indexing f s x) le = tt
  not_prefix (f_left op s l x below free) le = tt
  not_prefix (f_asking q s x below free) le = tt
  not_prefix (f_choosing q s l x below free) le = tt
  not_prefix (f_assigning op s l x) le = tt

  -- an effect must not end here with a part that is none
  abbrev May : Part → List Frame → Type 0
  May p [] = e ≡ true → part_effect p ≡ true
  May p (f ∷ fs) = Unit {0}

  free_may : (p : Part) (fs : List Frame) → is_free e fs ≡ true → May p fs
  free_may p [] free = λ h. absurd (false_true (sym (ap (λ b. cond b false true) h) ∙ free))
  free_may p (f ∷ fs) free = tt

  assign_may : (op : AssignOp) (s : Span) (l p : Part) (fs : List Frame) → May (parts.assigned n op s l p) fs
  assign_may op s l p [] = λ h. assigned_effect n op s l p
  assign_may op s l p (f ∷ fs) = tt

  finish_may : (b : Bool) (p : Part) → (b ≡ true → part_effect p ≡ true) → finish_part b p ≡ Done p
  finish_may false p may = refl
  finish_may true p may = ap (λ v. cond v (Done p) Bad) (may refl)

  -- before the tokens t ∷ b, where t ends an expression
  module _ (t : Terminal) (h : Ends t.sort) (b : List Terminal) where
    -- tokens that close all that waits, the first of which is of this kind
    record Closes (IsEnd : Sort → Type 0) (v : Bool) (p : Part) (fs : List Frame) : Type 0 where
      first : Terminal
      others : List Terminal
      tokens : List Terminal
      part_of : Part
      same : first ∷ others ≡ tokens ++ t ∷ b
      is : after (expr_step n first (at_part v p fs)) (run (expr_step n) others) (first ∷ others) ≡ Finished part_of (t ∷ b)
      good : IsEnd first.sort

    -- the same tokens, where the first finds the same
    closes_same : (IsEnd : Sort → Type 0) (v w : Bool) (p q : Part) (fs gs : List Frame) (c : Closes IsEnd w q gs) →
        expr_step n c.first (at_part v p fs) ≡ expr_step n c.first (at_part w q gs) → Closes IsEnd v p fs
    closes_same IsEnd v w p q fs gs c r = record {
      first = c.first;
      others = c.others;
      tokens = c.tokens;
      part_of = c.part_of;
      same = c.same;
      is = ap (λ y. after y (run (expr_step n) c.others) (c.first ∷ c.others)) r ∙ c.is;
      good = c.good;
    }

    -- one token more before them
    closes_after : (IsEnd : Sort → Type 0) (u : Terminal) → IsEnd u.sort → (v w : Bool) (p q : Part) (fs gs : List Frame) → expr_step n u (at_part v p fs) ≡ More (at_part w q gs) → Closes IsEnder w q gs →
        Closes IsEnd v p fs
    closes_after IsEnd u g v w p q fs gs r c = record {
      first = u;
      others = c.first ∷ c.others;
      tokens = u ∷ c.tokens;
      part_of = c.part_of;
      same = ap (λ l. u ∷ l) c.same;
      is = ap (λ y. after y (run (expr_step n) (c.first ∷ c.others)) (u ∷ c.first ∷ c.others)) r ∙ c.is;
      good = g;
    }

    to_ender : (k : Sort) → IsCloser k → IsEnder k
    to_ender (sort.Mark m.Equal) g = absurd g
    to_ender (sort.Mark k) g = g
    to_ender (sort.Name x) g = absurd g
    to_ender (sort.Number x y) g = absurd g
    to_ender (sort.Char x) g = absurd g
    to_ender (sort.Text x) g = absurd g
    to_ender (sort.Word x) g = absurd g
    to_ender sort.Unknown g = absurd g

    firmly : (v : Bool) (p : Part) (fs : List Frame) → Closes IsCloser v p fs → Closes IsEnder v p fs
    firmly v p fs c = record { first = c.first; others = c.others; tokens = c.tokens; part_of = c.part_of; same = c.same; is = c.is; good = to_ender c.first.sort c.good }

    -- a closing bracket and what follows it
    close_run : (v : Bool) (k : Mark) (p q : Part) (fs gs : List Frame) → is_postfix (follower_of k) ≡ false → followed n (follower_of k) somewhere p e fs ≡ More (at_part false q gs) →
        expr_step n (mark k somewhere) (at_part v p fs) ≡ More (at_part false q gs)
    close_run v k p q fs gs o r = held_step n low e v k somewhere p fs o ∙ r

    bottom_closes : (v : Bool) (p : Part) → May p [] → Closes IsCloser v p []
    bottom_closes v p may = record {
      first = t;
      others = b;
      tokens = [];
      part_of = p;
      same = refl;
      is = ap (λ y. after y (run (expr_step n) b) (t ∷ b)) (ends_at n low e t.sort h t.span v p p [] refl ∙ finish_may e p may);
      good = ends_closer t.sort h;
    }

    -- where only an effect will do, one is made
    bottom_any : (c : Bool) → c ≡ e → (v : Bool) (p : Part) → Closes IsEnder v p []
    bottom_any false q v p = firmly v p [] (bottom_closes v p (λ g. absurd (false_true (q ∙ g))))
    bottom_any true q v p =
        let y = leaf (expr.Name (name_of [] somewhere)) in
        let z = parts.assigned n assign_op.Set somewhere p y in
        let c = bottom_closes false z (λ g. assigned_effect n assign_op.Set somewhere p y) in
        let d = closes_same IsCloser false false y z (Assigning assign_op.Set somewhere p ∷ []) [] c
        (closers_same c.first.sort c.good c.first.span false false y z (Assigning assign_op.Set somewhere p ∷ []) [] (assigning_reduced assign_op.Set somewhere p y [])) in
        record {
          first = mark m.Equal somewhere;
          others = anyone ∷ d.first ∷ d.others;
          tokens = mark m.Equal somewhere ∷ anyone ∷ d.tokens;
          part_of = d.part_of;
          same = ap (λ l. mark m.Equal somewhere ∷ anyone ∷ l) d.same;
          is = held_run n low e v m.Equal somewhere p [] (anyone ∷ d.first ∷ d.others) refl ∙ d.is;
          good = tt;
        }

    inside_closes : (s : Span) (gs : List Frame) (v : Bool) (p : Part) → Closes IsEnder false (parts.parenthesized n s p) gs → Closes IsCloser v p (Paren s ∷ gs)
    inside_closes s gs v p c =
        closes_after IsCloser (mark m.CloseParen somewhere) tt v false p (parts.parenthesized n s p) (Paren s ∷ gs) gs
        (close_run v m.CloseParen p (parts.parenthesized n s p) (Paren s ∷ gs) gs refl refl) c

    calling_closes : (f : Part) (s : Span) (ps : Parts) (gs : List Frame) (v : Bool) (p : Part) → Closes IsEnder false (parts.called n f s (parts.with_argument ps p)) gs → Closes IsCloser v p (Calling f s ps ∷ gs)
    calling_closes f s ps gs v p c =
        closes_after IsCloser (mark m.CloseParen somewhere) tt v false p (parts.called n f s (parts.with_argument ps p)) (Calling f s ps ∷ gs) gs
        (close_run v m.CloseParen p (parts.called n f s (parts.with_argument ps p)) (Calling f s ps ∷ gs) gs refl refl) c

    indexing_closes : (f : Part) (s : Span) (gs : List Frame) (v : Bool) (p : Part) → Closes IsEnder false (parts.indexed n f s p) gs → Closes IsCloser v p (Indexing f s ∷ gs)
    indexing_closes f s gs v p c =
        closes_after IsCloser (mark m.CloseBracket somewhere) tt v false p (parts.indexed n f s p) (Indexing f s ∷ gs) gs
        (close_run v m.CloseBracket p (parts.indexed n f s p) (Indexing f s ∷ gs) gs refl refl) c

    left_closes : (op : BinaryOp) (s : Span) (l : Part) (gs : List Frame) (v : Bool) (p : Part) → Closes IsCloser v (parts.joined n op s l p) gs → Closes IsCloser v p (Left op s l ∷ gs)
    left_closes op s l gs v p c =
        closes_same IsCloser v v p (parts.joined n op s l p) (Left op s l ∷ gs) gs c
        (closers_same c.first.sort c.good c.first.span v v p (parts.joined n op s l p) (Left op s l ∷ gs) gs (left_reduced op s l p gs))

    choosing_closes : (q : Part) (s : Span) (l : Part) (gs : List Frame) (v : Bool) (p : Part) → Closes IsCloser v (parts.chosen n q s l p) gs → Closes IsCloser v p (Choosing q s l ∷ gs)
    choosing_closes q s l gs v p c =
        closes_same IsCloser v v p (parts.chosen n q s l p) (Choosing q s l ∷ gs) gs c
        (closers_same c.first.sort c.good c.first.span v v p (parts.chosen n q s l p) (Choosing q s l ∷ gs) gs (choosing_reduced q s l p gs))

    assigning_closes : (op : AssignOp) (s : Span) (l : Part) (gs : List Frame) (v : Bool) (p : Part) → Closes IsCloser v (parts.assigned n op s l p) gs → Closes IsCloser v p (Assigning op s l ∷ gs)
    assigning_closes op s l gs v p c =
        closes_same IsCloser v v p (parts.assigned n op s l p) (Assigning op s l ∷ gs) gs c
        (closers_same c.first.sort c.good c.first.span v v p (parts.assigned n op s l p) (Assigning op s l ∷ gs) gs (assigning_reduced op s l p gs))

    abbrev a_leaf : Part
    a_leaf = leaf (expr.Name (name_of [] somewhere))

    asking_closes : (q : Part) (s : Span) (gs : List Frame) (v : Bool) (p : Part) → Closes IsCloser false (parts.chosen n q s p a_leaf) gs → Closes IsCloser v p (Asking q s ∷ gs)
    asking_closes q s gs v p c =
        let d = choosing_closes q s p gs false a_leaf c in
        record {
          first = mark m.Colon somewhere;
          others = anyone ∷ d.first ∷ d.others;
          tokens = mark m.Colon somewhere ∷ anyone ∷ d.tokens;
          part_of = d.part_of;
          same = ap (λ l. mark m.Colon somewhere ∷ anyone ∷ l) d.same;
          is = held_run n low e v m.Colon somewhere p (Asking q s ∷ gs) (anyone ∷ d.first ∷ d.others) refl ∙ d.is;
          good = tt;
        }

    mutual
      firm : {j : ℕ} {fs : List Frame} → Fine j fs → NotPrefix fs → (v : Bool) (p : Part) → May p fs → Closes IsCloser v p fs
      firm f_bottom le v p may = bottom_closes v p may
      firm (f_prefix op s x) le v p may = absurd le
      firm (f_cast s i u x) le v p may = absurd le
      firm (f_inside {fs = gs} s x) le v p may = inside_closes s gs v p (any x false (parts.parenthesized n s p))
      firm (f_calling {fs = gs} f s ps x) le v p may = calling_closes f s ps gs v p (any x false (parts.called n f s (parts.with_argument ps p)))
      firm (f_indexing {fs = gs} f s x) le v p may = indexing_closes f s gs v p (any x false (parts.indexed n f s p))
      firm (f_left {fs = gs} op s l x below free) le v p may =
          left_closes op s l gs v p (firm x (not_prefix x (omega (arith, level_most op))) v (parts.joined n op s l p) (free_may (parts.joined n op s l p) gs free))
      firm (f_asking {fs = gs} q s x below free) le v p may =
          asking_closes q s gs v p (firm x (not_prefix x (omega arith)) false (parts.chosen n q s p a_leaf) (free_may (parts.chosen n q s p a_leaf) gs free))
      firm (f_choosing {fs = gs} q s l x below free) le v p may =
          choosing_closes q s l gs v p (firm x (not_prefix x (omega arith)) v (parts.chosen n q s l p) (free_may (parts.chosen n q s l p) gs free))
      firm (f_assigning {fs = gs} op s l x) le v p may =
          assigning_closes op s l gs v p (firm x (not_prefix x (omega arith)) v (parts.assigned n op s l p) (assign_may op s l p gs))

      any : {j : ℕ} {fs : List Frame} → Fine j fs → (v : Bool) (p : Part) → Closes IsEnder v p fs
      any f_bottom v p = bottom_any e refl v p
      any {fs = fs} (f_prefix {fs = gs} op s x) v p =
          let c = any x v (parts.prefixed n op s p) in
          closes_same IsEnder v v p (parts.prefixed n op s p) fs gs c (enders_prefix c.first.sort c.good c.first.span v v op s p gs)
      any {fs = fs} (f_cast {fs = gs} s i u x) v p =
          let c = any x v (parts.cast n s i u p) in
          closes_same IsEnder v v p (parts.cast n s i u p) fs gs c (enders_cast c.first.sort c.good c.first.span v v s i u p gs)
      any {fs = fs} (f_inside {fs = gs} s x) v p = firmly v p fs (inside_closes s gs v p (any x false (parts.parenthesized n s p)))
      any {fs = fs} (f_calling {fs = gs} f s ps x) v p = firmly v p fs (calling_closes f s ps gs v p (any x false (parts.called n f s (parts.with_argument ps p))))
      any {fs = fs} (f_indexing {fs = gs} f s x) v p = firmly v p fs (indexing_closes f s gs v p (any x false (parts.indexed n f s p)))
      any {fs = fs} (f_left {fs = gs} op s l x below free) v p =
          firmly v p fs (left_closes op s l gs v p (firm x (not_prefix x (omega (arith, level_most op))) v (parts.joined n op s l p) (free_may (parts.joined n op s l p) gs free)))
      any {fs = fs} (f_asking {fs = gs} q s x below free) v p =
          firmly v p fs (asking_closes q s gs v p (firm x (not_prefix x (omega arith)) false (parts.chosen n q s p a_leaf) (free_may (parts.chosen n q s p a_leaf) gs free)))
      any {fs = fs} (f_choosing {fs = gs} q s l x below free) v p =
          firmly v p fs (choosing_closes q s l gs v p (firm x (not_prefix x (omega arith)) v (parts.chosen n q s l p) (free_may (parts.chosen n q s l p) gs free)))
      any {fs = fs} (f_assigning {fs = gs} op s l x) v p =
          firmly v p fs (assigning_closes op s l gs v p (firm x (not_prefix x (omega arith)) v (parts.assigned n op s l p) (assign_may op s l p gs)))

    -- the tokens that complete what a state holds
    abbrev Completed : ExprState → Type 0
    Completed st = CanEnd n st t b

    at_end : {j : ℕ} {fs : List Frame} (x : Fine j fs) (v : Bool) (p : Part) → Completed (at_part v p fs)
    at_end {fs = fs} x v p =
        let c = any x v p in
        record { tokens = c.tokens; part_of = c.part_of; is = ap (λ l. run (expr_step n) l (at_part v p fs)) (sym c.same) ∙ c.is }

    -- a token first
    token_first : (u : Terminal) (st st' : ExprState) → expr_step n u st ≡ More st' → Completed st' → Completed st
    token_first u st st' r c = record {
      tokens = u ∷ c.tokens;
      part_of = c.part_of;
      is = ap (λ y. after y (run (expr_step n) (c.tokens ++ t ∷ b)) (u ∷ (c.tokens ++ t ∷ b))) r ∙ c.is;
    }

    operand_end : {j : ℕ} {fs : List Frame} → Fine j fs → Completed (state e Operand fs)
    operand_end {fs = fs} x = token_first anyone (state e Operand fs) (at_part false a_leaf fs) refl (at_end x false a_leaf)

    cast_end_with : {j : ℕ} {fs : List Frame} (s u : Span) (v : IntWords) (i : IntTy) → int_finish v ≡ Some i → Fine j fs → Completed (state e (CastWords s u v) fs)
    cast_end_with {fs = fs} s u v i q x =
        token_first (mark m.CloseParen somewhere) (state e (CastWords s u v) fs) (state e Operand (Casting s i u ∷ fs)) (ap (λ o. cast_end o s u e fs) q) (operand_end (f_cast s i u x))

    cast_words_end : {j : ℕ} {fs : List Frame} (s u : Span) (v : IntWords) → Fine j fs → Completed (state e (CastWords s u v) fs)
    cast_words_end s u (Sign y) x = cast_end_with s u (Sign y) (int_type y four) refl x
    cast_words_end s u (Short y) x = cast_end_with s u (Short y) (int_type y two) refl x
    cast_words_end {fs = fs} s u (Long y) x =
        token_first (word w.Long somewhere) (state e (CastWords s u (Long y)) fs) (state e (CastWords s u (LongLong y)) fs) refl (cast_end_with s u (LongLong y) (int_type y eight) refl x)
    cast_words_end s u (LongLong y) x = cast_end_with s u (LongLong y) (int_type y eight) refl x
    cast_words_end s u (int_words.Whole i) x = cast_end_with s u (int_words.Whole i) i refl x

    size_type_end : {j : ℕ} {fs : List Frame} (s : Span) (x : TypeState) → Fine j fs → Completed (state e (SizeType s x) fs)
    size_type_end {fs = fs} s x f =
        let c = type_completes x in
        let y = c.part (mark m.CloseParen somewhere) tt in
        let d = at_end f true (leaf (expr.SizeOf s y)) in
        record {
          tokens = c.tokens ++ mark m.CloseParen somewhere ∷ d.tokens;
          part_of = d.part_of;
          is = ap (λ l. run (expr_step n) l (state e (SizeType s x) fs)) (append_assoc c.tokens (mark m.CloseParen somewhere ∷ d.tokens) (t ∷ b))
              ∙ hosted type_step (expr_step n) (λ z. state e (SizeType s z) fs) (λ z k. ending_step k.sort (Whole (leaf (expr.SizeOf s z))) e fs)
              (λ k z. size_said n low e k.sort s fs (type_step k z) k refl) (c.tokens ++ mark m.CloseParen somewhere ∷ (d.tokens ++ t ∷ b)) x y (mark m.CloseParen somewhere) (d.tokens ++ t ∷ b)
              (c.is (mark m.CloseParen somewhere) tt (d.tokens ++ t ∷ b))
              ∙ d.is;
        }

    va_type_end : {j : ℕ} {fs : List Frame} (s : Span) (i : Name) (x : TypeState) → Fine j fs → Completed (state e (VaType s i x) fs)
    va_type_end {fs = fs} s i x f =
        let c = type_completes x in
        let y = c.part (mark m.CloseParen somewhere) tt in
        let d = at_end f false (leaf (expr.VaArg s i y)) in
        record {
          tokens = c.tokens ++ mark m.CloseParen somewhere ∷ d.tokens;
          part_of = d.part_of;
          is = ap (λ l. run (expr_step n) l (state e (VaType s i x) fs)) (append_assoc c.tokens (mark m.CloseParen somewhere ∷ d.tokens) (t ∷ b))
              ∙ hosted type_step (expr_step n) (λ z. state e (VaType s i z) fs) (λ z k. ending_step k.sort (Operated (leaf (expr.VaArg s i z))) e fs)
              (λ k z. va_said n low e k.sort s i fs (type_step k z) k refl) (c.tokens ++ mark m.CloseParen somewhere ∷ (d.tokens ++ t ∷ b)) x y (mark m.CloseParen somewhere) (d.tokens ++ t ∷ b)
              (c.is (mark m.CloseParen somewhere) tt (d.tokens ++ t ∷ b))
              ∙ d.is;
        }

    va_comma_end : {j : ℕ} {fs : List Frame} (s : Span) (i : Name) → Fine j fs → Completed (state e (VaComma s i) fs)
    va_comma_end {fs = fs} s i f = token_first (mark m.Comma somewhere) (state e (VaComma s i) fs) (state e (VaType s i type_state.Opening) fs) refl (va_type_end s i type_state.Opening f)

    va_name_end : {j : ℕ} {fs : List Frame} (s : Span) → Fine j fs → Completed (state e (VaName s) fs)
    va_name_end {fs = fs} s f = token_first anyone (state e (VaName s) fs) (state e (VaComma s (name_of [] somewhere)) fs) refl (va_comma_end s (name_of [] somewhere) f)

    pub state_end : {all : List Terminal} {st : ExprState} {a : List Terminal} → Sound n low e all st a → Completed st
    state_end (s_operand x) = operand_end (place_fine x)
    state_end (s_parened {fs = fs} s x) =
        let y = leaf (expr.Name (name_of [] somewhere)) in
        token_first anyone (state e (Parened s) fs) (at_part false y (Paren s ∷ fs)) refl (at_end (f_inside s (place_fine x)) false y)
    state_end (s_cast s u v x d) = cast_words_end s u v (place_fine x)
    state_end (s_argument {f = f} {fs = fs} s x d) =
        token_first (mark m.CloseParen somewhere) (state e (Argument f s) fs) (at_part false (parts.called n f s no_parts) fs) refl (at_end (place_fine x) false (parts.called n f s no_parts))
    state_end (s_selecting {f = f} {fs = fs} k s x d) =
        let y = parts.selected n f k s (name_of [] somewhere) in token_first anyone (state e (Selecting f k s) fs) (at_part false y fs) refl (at_end (place_fine x) false y)
    state_end (s_size_open {fs = fs} s x) =
        token_first (mark m.OpenParen somewhere) (state e (SizeOpen s) fs) (state e (SizeType s type_state.Opening) fs) refl (size_type_end s type_state.Opening (place_fine x))
    state_end (s_size_type s u y x d) = size_type_end s y (place_fine x)
    state_end (s_va_open {fs = fs} s x) = token_first (mark m.OpenParen somewhere) (state e (VaOpen s) fs) (state e (VaName s) fs) refl (va_name_end s (place_fine x))
    state_end (s_va_name s u x) = va_name_end s (place_fine x)
    state_end (s_va_comma s u v y x) = va_comma_end s (name_of y v) (place_fine x)
    state_end (s_va_type s u v q y i x d) = va_type_end s (name_of y v) i (place_fine x)
    state_end (s_whole {p = p} x d) = at_end (place_fine x) true p
    state_end (s_operated {p = p} x d) = at_end (place_fine x) false p

-- what was taken can be brought to its end
pub expr_completes : (n : ℕ) → 1 ≤ n → (e : Bool) (z : List Terminal) (st : ExprState) → Came (expr_step n) (start e) z st [] → (t : Terminal) → Ends t.sort → (b : List Terminal) → CanEnd n st t b
expr_completes n low e z st c t h b = state_end n low e t h b (came_sound n low e z c)
