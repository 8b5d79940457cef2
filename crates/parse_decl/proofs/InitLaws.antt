-- What the machine of initial values reads is what the grammar has.
use Rattle.std.proofs.Common.{◌≡◌, ℕ, ◌≤◌, List, [], ◌∷◌, ◌++◌, Option, Some, None, refl, sym, ap, ◌∙◌, subst}
use Rattle.c_types.specs.declared.types.Span.{Span}
use Rattle.c_types.specs.declared.types.IntTy.{IntTy}
use Rattle.c_types.specs.declared.types.IntTy.TheVariants.{I32}
use Rattle.c_tree.specs.declared.declarations.Step.TheVariants as step
use Rattle.c_tree.specs.declared.declarations.Init.{Init}
use Rattle.c_tree.specs.declared.declarations.Init.TheVariants as init
use Rattle.c_tree.specs.Height.{init_height}
use Rattle.c_tree.proofs.HeightLaws.{init_height-Number, init_height-Char, init_height-Text, init_height-Name}
use Rattle.c_lex.specs.declared.marks.Mark.{Mark}
use Rattle.c_lex.specs.declared.marks.Mark.TheVariants as m
use Rattle.parse_terms.specs.declared.answer.Answer.TheVariants.{More, Done, Bad}
use Rattle.parse_terms.specs.declared.terminal.Sort.{Sort}
use Rattle.parse_terms.specs.declared.terminal.Sort.TheVariants as sort
use Rattle.parse_terms.specs.declared.terminal.Terminal.{Terminal}
use Rattle.parse_terms.specs.Terminals.{term, mark, named, name_of}
use Rattle.parse_terms.specs.Declarators.{literal, number}
use Rattle.parse_terms.specs.Runs.{Outcome, Finished, after, run, Came, begun, taken}
use Rattle.parse_decl.specs.declared.inits.InitPart.{InitPart}
use Rattle.parse_decl.specs.declared.inits.InitParts.{InitParts}
use Rattle.parse_decl.specs.declared.inits.Address.{Address}
use Rattle.parse_decl.specs.declared.inits.InitFrame.{InitFrame}
use Rattle.parse_decl.specs.declared.inits.InitFocus.{InitFocus}
use Rattle.parse_decl.specs.declared.inits.InitFocus.TheVariants.{Value, Next, Negated, Addressed, Stepping, Dot, Bracket, Closing, Whole}
use Rattle.parse_decl.specs.declared.inits.InitState.{InitState}
use Rattle.parse_decl.specs.Ends.{CanEnd}
use Rattle.parse_decl.specs.Inits.{address, with_step, IsAddress, place, ampersand, field, element, address_init, IsInit, positive, negative, char, text, addressed, braces, with_comma, IsInits, first_init, next_init, cap_init, cap_inits, init_leaf, no_inits, with_init, listed_init, frame, init_state, init_start, InitSaid, value_mark, value_step, next_mark, next_step, negated_step, addressed_step, whole_in, whole_at, whole_step, stepping_mark, stepping_step, dot_step, bracket_step, closing_mark, closing_step, init_step, EndsInit, IsInitRead}
use Rattle.parse_decl.proofs.EndLaws.{somewhere, ends_now, ends_after}
use Rattle.parse_decl.proofs.CapLaws.{init_leaf-cap, no_inits-cap, with_init-cap, listed_init-cap}

-- ---- the tokens that a value begins with

abbrev NoBrace : Sort → Type 0
NoBrace (sort.Mark m.CloseBrace) = ⊥
NoBrace _ = Unit {0}

record InitBegins (a : List Terminal) : Type 0 where
  first : Terminal
  others : List Terminal
  is : a ≡ first ∷ others
  no_brace : NoBrace first.sort

address_begins : {r : Address} {a b : List Terminal} → IsAddress r a b → InitBegins a
address_begins (place {x = x} {s = s} {a = a}) = record { first = named x s; others = a; is = refl; no_brace = tt }
address_begins (ampersand {x = x} {s = s} {u = u} {a = a}) = record { first = mark m.Ampersand u; others = named x s ∷ a; is = refl; no_brace = tt }
address_begins (field d) = address_begins d
address_begins (element d) = address_begins d

init_begins : {i : Init} {a b : List Terminal} → IsInit i a b → InitBegins a
init_begins (positive {v = v} {t = t} {s = s} {a = a}) = record { first = number v t s; others = a; is = refl; no_brace = tt }
init_begins (negative {v = v} {t = t} {s = s} {u = u} {a = a}) = record { first = mark m.Minus u; others = number v t s ∷ a; is = refl; no_brace = tt }
init_begins (char {c = c} {s = s} {a = a}) = record { first = term (sort.Char c) s; others = a; is = refl; no_brace = tt }
init_begins (text {x = x} {s = s} {a = a}) = record { first = term (sort.Text x) s; others = a; is = refl; no_brace = tt }
init_begins (addressed d) = address_begins d
init_begins (braces {s = s} {a = a} d) = record { first = mark m.OpenBrace s; others = a; is = refl; no_brace = tt }
init_begins (with_comma {s = s} {a = a} d) = record { first = mark m.OpenBrace s; others = a; is = refl; no_brace = tt }

module _ (n : ℕ) (low : 1 ≤ n) where
  abbrev go : List Terminal → InitState → Outcome InitState InitPart
  go = run (init_step n)

  mark_begins : (k : Mark) (s : Span) (fs : List InitFrame) → NoBrace (sort.Mark k) → next_mark n k s fs ≡ value_mark k s fs
  mark_begins m.CloseBrace s fs h = absurd h
  mark_begins k s fs h = refl

  value_begins : (k : Sort) (s : Span) (fs : List InitFrame) → NoBrace k → next_step n k s fs ≡ value_step k s fs
  value_begins (sort.Mark k) s fs h = mark_begins k s fs h
  value_begins (sort.Name x) s fs h = refl
  value_begins (sort.Word v) s fs h = refl
  value_begins (sort.Number v t) s fs h = refl
  value_begins (sort.Char c) s fs h = refl
  value_begins (sort.Text x) s fs h = refl
  value_begins sort.Unknown s fs h = refl

  next_run : (fs : List InitFrame) {a : List Terminal} → InitBegins a → go a (init_state Next fs) ≡ go a (init_state Value fs)
  next_run fs {a} f =
      ap (λ l. go l (init_state Next fs)) f.is ∙ ap (λ v. after v (go f.others) (f.first ∷ f.others)) (value_begins f.first.sort f.first.span fs f.no_brace)
      ∙ sym (ap (λ l. go l (init_state Value fs)) f.is)

  -- ---- what is in the grammar is read

  address_lands : {r : Address} {a b : List Terminal} → IsAddress r a b → (fs : List InitFrame) → go a (init_state Value fs) ≡ go b (init_state (Stepping r) fs)
  address_lands place fs = refl
  address_lands ampersand fs = refl
  address_lands (field d) fs = address_lands d fs
  address_lands (element d) fs = address_lands d fs

  -- from the tokens a the machine comes to b, where the value is read but for a token that shows its end
  record InitLands (i : Init) (fs : List InitFrame) (a b : List Terminal) : Type 0 where
    focus : InitFocus
    runs : go a (init_state Value fs) ≡ go b (init_state focus fs)
    ends : (t : Terminal) → EndsInit t.sort → init_step n t (init_state focus fs) ≡ whole_step n t.sort (cap_init n i) fs

  record InitsLand (is : List Init) (s : Span) (fs : List InitFrame) (a b : List Terminal) : Type 0 where
    before : List Init
    last : Init
    split : before ++ last ∷ [] ≡ is
    focus : InitFocus
    runs : go a (init_state Value (frame s (cap_inits n []) ∷ fs)) ≡ go b (init_state focus (frame s (cap_inits n before) ∷ fs))
    ends : (t : Terminal) → EndsInit t.sort →
        init_step n t (init_state focus (frame s (cap_inits n before) ∷ fs)) ≡ whole_step n t.sort (cap_init n last) (frame s (cap_inits n before) ∷ fs)

  stepping_ends : (k : Sort) (s : Span) (r : Address) (fs : List InitFrame) → EndsInit k → stepping_step n k s r fs ≡ whole_step n k (init_leaf (address_init r)) fs
  stepping_ends (sort.Mark m.Dot) s r fs h = absurd h
  stepping_ends (sort.Mark m.OpenBracket) s r fs h = absurd h
  stepping_ends (sort.Mark k) s r fs h = refl
  stepping_ends (sort.Name x) s r fs h = refl
  stepping_ends (sort.Word v) s r fs h = refl
  stepping_ends (sort.Number v t) s r fs h = refl
  stepping_ends (sort.Char c) s r fs h = refl
  stepping_ends (sort.Text x) s r fs h = refl
  stepping_ends sort.Unknown s r fs h = refl

  leaf_lands : (i : Init) → init_height i ≡ 1 → (fs : List InitFrame) (a b : List Terminal) → go a (init_state Value fs) ≡ go b (init_state (Whole (init_leaf i)) fs) → InitLands i fs a b
  leaf_lands i h fs a b e = record { focus = Whole (cap_init n i); runs = e ∙ ap (λ p. go b (init_state (Whole p) fs)) (init_leaf-cap n low i h); ends = λ t g. refl }

  -- the values with the last one
  all_of : {is : List Init} {s : Span} {fs : List InitFrame} {a b : List Terminal} (y : InitsLand is s fs a b) → with_init (cap_inits n y.before) (cap_init n y.last) ≡ cap_inits n is
  all_of y = with_init-cap n y.before y.last ∙ ap (cap_inits n) y.split

  mutual
    init_lands : {i : Init} {a b : List Terminal} → IsInit i a b → (fs : List InitFrame) → InitLands i fs a b
    init_lands (positive {v = v} {t = t} {s = s} {a = a}) fs = leaf_lands (init.Number None (literal v t s)) (init_height-Number None (literal v t s)) fs (number v t s ∷ a) a refl
    init_lands (negative {v = v} {t = t} {s = s} {u = u} {a = a}) fs =
        leaf_lands (init.Number (Some u) (literal v t s)) (init_height-Number (Some u) (literal v t s)) fs (mark m.Minus u ∷ number v t s ∷ a) a refl
    init_lands (char {c = c} {s = s} {a = a}) fs = leaf_lands (init.Char c s) (init_height-Char c s) fs (term (sort.Char c) s ∷ a) a refl
    init_lands (text {x = x} {s = s} {a = a}) fs = leaf_lands (init.Text x s) (init_height-Text x s) fs (term (sort.Text x) s ∷ a) a refl
    init_lands (addressed {r = r} d) fs = record {
      focus = Stepping r;
      runs = address_lands d fs;
      ends = λ t h. stepping_ends t.sort t.span r fs h ∙ ap (λ p. whole_step n t.sort p fs) (init_leaf-cap n low (address_init r) (init_height-Name r.ampersand r.name r.steps));
    }
    init_lands (braces {is = is} {s = s} {u = u} {a = a} {b = b} d) fs =
        let y = inits_land d s fs in
        record {
          focus = Whole (cap_init n (init.List s is));
          runs = ap (λ ps. go a (init_state Value (frame s ps ∷ fs))) (no_inits-cap n) ∙ y.runs
              ∙ ap (λ v. after v (go b) (mark m.CloseBrace u ∷ b)) (y.ends (mark m.CloseBrace u) tt)
              ∙ ap (λ ps. go b (init_state (Whole (listed_init n s ps)) fs)) (all_of y)
              ∙ ap (λ p. go b (init_state (Whole p) fs)) (listed_init-cap n s is);
          ends = λ t h. refl;
        }
    init_lands (with_comma {is = is} {s = s} {u = u} {v = v} {a = a} {b = b} d) fs =
        let y = inits_land d s fs in
        record {
          focus = Whole (cap_init n (init.List s is));
          runs = ap (λ ps. go a (init_state Value (frame s ps ∷ fs))) (no_inits-cap n) ∙ y.runs
              ∙ ap (λ o. after o (go (mark m.CloseBrace u ∷ b)) (mark m.Comma v ∷ mark m.CloseBrace u ∷ b)) (y.ends (mark m.Comma v) tt)
              ∙ ap (λ ps. go b (init_state (Whole (listed_init n s ps)) fs)) (all_of y)
              ∙ ap (λ p. go b (init_state (Whole p) fs)) (listed_init-cap n s is);
          ends = λ t h. refl;
        }

    inits_land : {is : List Init} {a b : List Terminal} → IsInits is a b → (s : Span) (fs : List InitFrame) → InitsLand is s fs a b
    inits_land (first_init {i = i} d) s fs =
        let x = init_lands d (frame s (cap_inits n []) ∷ fs) in record { before = []; last = i; split = refl; focus = x.focus; runs = x.runs; ends = x.ends }
    inits_land (next_init {is = is} {i = i} {s = u} {b = b} e d) s fs =
        let y = inits_land e s fs in
        let x = init_lands d (frame s (cap_inits n is) ∷ fs) in
        record {
          before = is;
          last = i;
          split = refl;
          focus = x.focus;
          runs = y.runs
              ∙ ap (λ v. after v (go b) (mark m.Comma u ∷ b)) (y.ends (mark m.Comma u) tt)
              ∙ ap (λ ps. go b (init_state Next (frame s ps ∷ fs))) (all_of y)
              ∙ next_run (frame s (cap_inits n is) ∷ fs) (init_begins d)
              ∙ x.runs;
          ends = x.ends;
        }

  pub init_complete : {i : Init} {a c : List Terminal} (t : Terminal) (b : List Terminal) → c ≡ t ∷ b → IsInit i a c → EndsInit t.sort → run (init_step n) a init_start ≡ Finished (cap_init n i) (t ∷ b)
  init_complete t b q d h =
      let x = init_lands d [] in x.runs ∙ ap (λ l. go l (init_state x.focus [])) q ∙ ap (λ v. after v (go b) (t ∷ b)) (x.ends t h)

  -- ---- what is read is in the grammar

  record PInits (ps : InitParts) (a b : List Terminal) : Type 0 where
    trees : List Init
    is : ps ≡ cap_inits n trees
    reads : IsInits trees a b

  p_first : {p : InitPart} {a b : List Terminal} → IsInitRead n p a b → PInits (with_init no_inits p) a b
  p_first {p} x = record {
    trees = x.tree ∷ [];
    is = ap (λ v. with_init v p) (no_inits-cap n) ∙ ap (with_init (cap_inits n [])) x.is ∙ with_init-cap n [] x.tree;
    reads = first_init x.reads;
  }

  p_next : {ps : InitParts} {p : InitPart} (s : Span) {a b c : List Terminal} → PInits ps a (mark m.Comma s ∷ b) → IsInitRead n p b c → PInits (with_init ps p) a c
  p_next {ps} {p} s y x = record {
    trees = y.trees ++ x.tree ∷ [];
    is = ap (λ v. with_init v p) y.is ∙ ap (with_init (cap_inits n y.trees)) x.is ∙ with_init-cap n y.trees x.tree;
    reads = next_init y.reads x.reads;
  }

  p_braces : {ps : InitParts} (s u : Span) {a b : List Terminal} → PInits ps a (mark m.CloseBrace u ∷ b) → IsInitRead n (listed_init n s ps) (mark m.OpenBrace s ∷ a) b
  p_braces s u y = record { tree = init.List s y.trees; is = ap (listed_init n s) y.is ∙ listed_init-cap n s y.trees; reads = braces y.reads }

  p_with_comma : {ps : InitParts} (s u v : Span) {a b : List Terminal} → PInits ps a (mark m.Comma v ∷ mark m.CloseBrace u ∷ b) → IsInitRead n (listed_init n s ps) (mark m.OpenBrace s ∷ a) b
  p_with_comma s u v y = record { tree = init.List s y.trees; is = ap (listed_init n s) y.is ∙ listed_init-cap n s y.trees; reads = with_comma y.reads }

  p_leaf : (i : Init) → init_height i ≡ 1 → {a b : List Terminal} → IsInit i a b → IsInitRead n (init_leaf i) a b
  p_leaf i h d = record { tree = i; is = init_leaf-cap n low i h; reads = d }

  p_address : {r : Address} {a b : List Terminal} → IsAddress r a b → IsInitRead n (init_leaf (address_init r)) a b
  p_address {r} d = p_leaf (address_init r) (init_height-Name r.ampersand r.name r.steps) (addressed d)

  module _ (all : List Terminal) where
    -- the open lists under which a value begins
    data InitPlace : List InitFrame → List Terminal → Type 0 where
      bottom : InitPlace [] all
      in_list : {fs : List InitFrame} {a : List Terminal} (s : Span) → InitPlace fs (mark m.OpenBrace s ∷ a) → InitPlace (frame s no_inits ∷ fs) a
      behind : {fs : List InitFrame} {ps : InitParts} {c a : List Terminal} (s u : Span) → InitPlace fs (mark m.OpenBrace s ∷ c) → PInits ps c (mark m.Comma u ∷ a) → InitPlace (frame s ps ∷ fs) a

    -- the state of a value that began with all is at a
    data InitAt : InitState → List Terminal → Type 0 where
      at_value : {fs : List InitFrame} {a : List Terminal} → InitPlace fs a → InitAt (init_state Value fs) a
      at_next : {fs : List InitFrame} {ps : InitParts} {c a : List Terminal} (s u : Span) → InitPlace fs (mark m.OpenBrace s ∷ c) → PInits ps c (mark m.Comma u ∷ a) → InitAt (init_state Next (frame s ps ∷ fs)) a
      at_negated : {fs : List InitFrame} {a : List Terminal} (u : Span) → InitPlace fs (mark m.Minus u ∷ a) → InitAt (init_state (Negated u) fs) a
      at_addressed : {fs : List InitFrame} {a : List Terminal} (u : Span) → InitPlace fs (mark m.Ampersand u ∷ a) → InitAt (init_state (Addressed u) fs) a
      at_stepping : {r : Address} {fs : List InitFrame} {b a : List Terminal} → InitPlace fs b → IsAddress r b a → InitAt (init_state (Stepping r) fs) a
      at_dot : {r : Address} {fs : List InitFrame} {b a : List Terminal} (u : Span) → InitPlace fs b → IsAddress r b (mark m.Dot u ∷ a) → InitAt (init_state (Dot r u) fs) a
      at_bracket : {r : Address} {fs : List InitFrame} {b a : List Terminal} (u : Span) → InitPlace fs b → IsAddress r b (mark m.OpenBracket u ∷ a) → InitAt (init_state (Bracket r u) fs) a
      at_closing : {r : Address} {v : ℕ} {t : IntTy} {fs : List InitFrame} {b a : List Terminal} (s u : Span) → InitPlace fs b → IsAddress r b (mark m.OpenBracket s ∷ number v t u ∷ a) →
          InitAt (init_state (Closing (with_step r (step.Index s (literal v t u)))) fs) a
      at_whole : {p : InitPart} {fs : List InitFrame} {b a : List Terminal} → InitPlace fs b → IsInitRead n p b a → InitAt (init_state (Whole p) fs) a

    abbrev InitTold : InitSaid → Terminal → List Terminal → Type 0
    InitTold (More st) t a = InitAt st a
    InitTold (Done p) t a = IsInitRead n p all (t ∷ a)
    InitTold Bad t a = Unit {0}

    value_mark_told : (k : Mark) (s : Span) {fs : List InitFrame} {a : List Terminal} → InitPlace fs (mark k s ∷ a) → InitTold (value_mark k s fs) (mark k s) a
    value_mark_told m.Minus s x = at_negated s x
    value_mark_told m.Ampersand s x = at_addressed s x
    value_mark_told m.OpenBrace s x = at_value (in_list s x)
    value_mark_told _ s x = tt

    value_told : (k : Sort) (s : Span) {fs : List InitFrame} {a : List Terminal} → InitPlace fs (term k s ∷ a) → InitTold (value_step k s fs) (term k s) a
    value_told (sort.Number v t) s x = at_whole x (p_leaf (init.Number None (literal v t s)) (init_height-Number None (literal v t s)) positive)
    value_told (sort.Char c) s x = at_whole x (p_leaf (init.Char c s) (init_height-Char c s) char)
    value_told (sort.Text y) s x = at_whole x (p_leaf (init.Text y s) (init_height-Text y s) text)
    value_told (sort.Name y) s x = at_stepping x place
    value_told (sort.Mark k) s x = value_mark_told k s x
    value_told (sort.Word v) s x = tt
    value_told sort.Unknown s x = tt

    next_mark_told : (k : Mark) (s u v : Span) {fs : List InitFrame} {ps : InitParts} {c a : List Terminal} → InitPlace fs (mark m.OpenBrace u ∷ c) → PInits ps c (mark m.Comma v ∷ mark k s ∷ a) →
        InitTold (next_mark n k s (frame u ps ∷ fs)) (mark k s) a
    next_mark_told m.CloseBrace s u v x y = at_whole x (p_with_comma u s v y)
    next_mark_told k s u v x y = value_mark_told k s (behind u v x y)

    next_told : (k : Sort) (s u v : Span) {fs : List InitFrame} {ps : InitParts} {c a : List Terminal} → InitPlace fs (mark m.OpenBrace u ∷ c) → PInits ps c (mark m.Comma v ∷ term k s ∷ a) →
        InitTold (next_step n k s (frame u ps ∷ fs)) (term k s) a
    next_told (sort.Mark k) s u v x y = next_mark_told k s u v x y
    next_told (sort.Number z t) s u v x y = value_told (sort.Number z t) s (behind u v x y)
    next_told (sort.Char z) s u v x y = value_told (sort.Char z) s (behind u v x y)
    next_told (sort.Text z) s u v x y = value_told (sort.Text z) s (behind u v x y)
    next_told (sort.Name z) s u v x y = value_told (sort.Name z) s (behind u v x y)
    next_told (sort.Word z) s u v x y = tt
    next_told sort.Unknown s u v x y = tt

    negated_told : (k : Sort) (s u : Span) {fs : List InitFrame} {a : List Terminal} → InitPlace fs (mark m.Minus u ∷ term k s ∷ a) → InitTold (negated_step k s u fs) (term k s) a
    negated_told (sort.Number v t) s u x = at_whole x (p_leaf (init.Number (Some u) (literal v t s)) (init_height-Number (Some u) (literal v t s)) negative)
    negated_told (sort.Char c) s u x = tt
    negated_told (sort.Text y) s u x = tt
    negated_told (sort.Name y) s u x = tt
    negated_told (sort.Mark k) s u x = tt
    negated_told (sort.Word v) s u x = tt
    negated_told sort.Unknown s u x = tt

    addressed_told : (k : Sort) (s u : Span) {fs : List InitFrame} {a : List Terminal} → InitPlace fs (mark m.Ampersand u ∷ term k s ∷ a) → InitTold (addressed_step k s u fs) (term k s) a
    addressed_told (sort.Name y) s u x = at_stepping x ampersand
    addressed_told (sort.Number v t) s u x = tt
    addressed_told (sort.Char c) s u x = tt
    addressed_told (sort.Text y) s u x = tt
    addressed_told (sort.Mark k) s u x = tt
    addressed_told (sort.Word v) s u x = tt
    addressed_told sort.Unknown s u x = tt

    whole_in_told : (k : Mark) (s : Span) {f : InitFrame} {fs : List InitFrame} {p : InitPart} {b a : List Terminal} → InitPlace (f ∷ fs) b → IsInitRead n p b (mark k s ∷ a) → InitTold (whole_in n k p f fs) (mark k s) a
    whole_in_told m.Comma s (in_list u x) d = at_next u s x (p_first d)
    whole_in_told m.Comma s (behind u v x y) d = at_next u s x (p_next v y d)
    whole_in_told m.CloseBrace s (in_list u x) d = at_whole x (p_braces u s (p_first d))
    whole_in_told m.CloseBrace s (behind u v x y) d = at_whole x (p_braces u s (p_next v y d))
    whole_in_told _ s x d = tt

    whole_at_told : (k : Sort) (s : Span) {f : InitFrame} {fs : List InitFrame} {p : InitPart} {b a : List Terminal} → InitPlace (f ∷ fs) b → IsInitRead n p b (term k s ∷ a) → InitTold (whole_at n k p f fs) (term k s) a
    whole_at_told (sort.Mark k) s x d = whole_in_told k s x d
    whole_at_told (sort.Name y) s x d = tt
    whole_at_told (sort.Number v t) s x d = tt
    whole_at_told (sort.Char c) s x d = tt
    whole_at_told (sort.Text y) s x d = tt
    whole_at_told (sort.Word v) s x d = tt
    whole_at_told sort.Unknown s x d = tt

    whole_told : (t : Terminal) {fs : List InitFrame} {p : InitPart} {b a : List Terminal} → InitPlace fs b → IsInitRead n p b (t ∷ a) → InitTold (whole_step n t.sort p fs) t a
    whole_told t bottom d = d
    whole_told t (in_list u x) d = whole_at_told t.sort t.span (in_list u x) d
    whole_told t (behind u v x y) d = whole_at_told t.sort t.span (behind u v x y) d

    stepping_mark_told : (k : Mark) (s : Span) {r : Address} {fs : List InitFrame} {b a : List Terminal} → InitPlace fs b → IsAddress r b (mark k s ∷ a) → InitTold (stepping_mark n k s r fs) (mark k s) a
    stepping_mark_told m.Dot s x d = at_dot s x d
    stepping_mark_told m.OpenBracket s x d = at_bracket s x d
    stepping_mark_told k s x d = whole_told (mark k s) x (p_address d)

    stepping_told : (k : Sort) (s : Span) {r : Address} {fs : List InitFrame} {b a : List Terminal} → InitPlace fs b → IsAddress r b (term k s ∷ a) → InitTold (stepping_step n k s r fs) (term k s) a
    stepping_told (sort.Mark k) s x d = stepping_mark_told k s x d
    stepping_told (sort.Name y) s x d = whole_told (term (sort.Name y) s) x (p_address d)
    stepping_told (sort.Number v t) s x d = whole_told (term (sort.Number v t) s) x (p_address d)
    stepping_told (sort.Char c) s x d = whole_told (term (sort.Char c) s) x (p_address d)
    stepping_told (sort.Text y) s x d = whole_told (term (sort.Text y) s) x (p_address d)
    stepping_told (sort.Word v) s x d = whole_told (term (sort.Word v) s) x (p_address d)
    stepping_told sort.Unknown s x d = whole_told (term sort.Unknown s) x (p_address d)

    dot_told : (k : Sort) (s u : Span) {r : Address} {fs : List InitFrame} {b a : List Terminal} → InitPlace fs b → IsAddress r b (mark m.Dot u ∷ term k s ∷ a) → InitTold (dot_step k s r u fs) (term k s) a
    dot_told (sort.Name y) s u x d = at_stepping x (field d)
    dot_told (sort.Number v t) s u x d = tt
    dot_told (sort.Char c) s u x d = tt
    dot_told (sort.Text y) s u x d = tt
    dot_told (sort.Mark k) s u x d = tt
    dot_told (sort.Word v) s u x d = tt
    dot_told sort.Unknown s u x d = tt

    bracket_told : (k : Sort) (s u : Span) {r : Address} {fs : List InitFrame} {b a : List Terminal} → InitPlace fs b → IsAddress r b (mark m.OpenBracket u ∷ term k s ∷ a) → InitTold (bracket_step k s r u fs) (term k s) a
    bracket_told (sort.Number v t) s u x d = at_closing u s x d
    bracket_told (sort.Name y) s u x d = tt
    bracket_told (sort.Char c) s u x d = tt
    bracket_told (sort.Text y) s u x d = tt
    bracket_told (sort.Mark k) s u x d = tt
    bracket_told (sort.Word v) s u x d = tt
    bracket_told sort.Unknown s u x d = tt

    closing_mark_told : (k : Mark) (z s u : Span) {r : Address} {v : ℕ} {t : IntTy} {fs : List InitFrame} {b a : List Terminal} → InitPlace fs b →
        IsAddress r b (mark m.OpenBracket s ∷ number v t u ∷ mark k z ∷ a) → InitTold (closing_mark k (with_step r (step.Index s (literal v t u))) fs) (mark k z) a
    closing_mark_told m.CloseBracket z s u x d = at_stepping x (element d)
    closing_mark_told _ z s u x d = tt

    closing_told : (k : Sort) (z s u : Span) {r : Address} {v : ℕ} {t : IntTy} {fs : List InitFrame} {b a : List Terminal} → InitPlace fs b →
        IsAddress r b (mark m.OpenBracket s ∷ number v t u ∷ term k z ∷ a) → InitTold (closing_step k (with_step r (step.Index s (literal v t u))) fs) (term k z) a
    closing_told (sort.Mark k) z s u x d = closing_mark_told k z s u x d
    closing_told (sort.Name y) z s u x d = tt
    closing_told (sort.Number y i) z s u x d = tt
    closing_told (sort.Char c) z s u x d = tt
    closing_told (sort.Text y) z s u x d = tt
    closing_told (sort.Word y) z s u x d = tt
    closing_told sort.Unknown z s u x d = tt

    init_told : (t : Terminal) {st : InitState} {a : List Terminal} → InitAt st (t ∷ a) → InitTold (init_step n t st) t a
    init_told t (at_value x) = value_told t.sort t.span x
    init_told t (at_next s u x y) = next_told t.sort t.span s u x y
    init_told t (at_negated u x) = negated_told t.sort t.span u x
    init_told t (at_addressed u x) = addressed_told t.sort t.span u x
    init_told t (at_stepping x d) = stepping_told t.sort t.span x d
    init_told t (at_dot u x d) = dot_told t.sort t.span u x d
    init_told t (at_bracket u x d) = bracket_told t.sort t.span u x d
    init_told t (at_closing s u x d) = closing_told t.sort t.span s u x d
    init_told t (at_whole x d) = whole_told t x d

    init_at : {st : InitState} {a : List Terminal} → Came (init_step n) init_start all st a → InitAt st a
    init_at begun = at_value bottom
    init_at {a = a} (taken {t = t} c e) = subst (λ v. InitTold v t a) e (init_told t (init_at c))

    pub init_sound : (st : InitState) (p : InitPart) (t : Terminal) (a : List Terminal) → Came (init_step n) init_start all st (t ∷ a) → init_step n t st ≡ Done p → IsInitRead n p all (t ∷ a)
    init_sound st p t a c e = subst (λ v. InitTold v t a) e (init_told t (init_at c))

-- ---- what was read can be completed

module _ (n : ℕ) (t : Terminal) (h : EndsInit t.sort) where
  abbrev Completed : InitState → Type 0
  Completed st = CanEnd InitState InitPart (init_step n) st t

  token_first : (u : Terminal) (st st' : InitState) → init_step n u st ≡ More st' → Completed st' → Completed st
  token_first u st st' e c = ends_after (init_step n) u st st' t e c

  whole_ends : (p : InitPart) (fs : List InitFrame) → Completed (init_state (Whole p) fs)
  whole_ends p [] = ends_now (init_step n) (init_state (Whole p) []) t p refl
  whole_ends p (f ∷ fs) =
      let q = listed_init n f.brace (with_init f.parts p) in
      token_first (mark m.CloseBrace somewhere) (init_state (Whole p) (f ∷ fs)) (init_state (Whole q) fs) refl (whole_ends q fs)

  abbrev zero_at : Option Span → InitPart
  zero_at o = init_leaf (init.Number o (literal 0 I32 somewhere))

  stepping_end : (k : Sort) (s : Span) (r : Address) → EndsInit k → stepping_step n k s r [] ≡ Done (init_leaf (address_init r))
  stepping_end (sort.Mark m.Dot) s r g = absurd g
  stepping_end (sort.Mark m.OpenBracket) s r g = absurd g
  stepping_end (sort.Mark k) s r g = refl
  stepping_end (sort.Name x) s r g = refl
  stepping_end (sort.Word v) s r g = refl
  stepping_end (sort.Number v i) s r g = refl
  stepping_end (sort.Char c) s r g = refl
  stepping_end (sort.Text x) s r g = refl
  stepping_end sort.Unknown s r g = refl

  stepping_completes : (r : Address) (fs : List InitFrame) → Completed (init_state (Stepping r) fs)
  stepping_completes r [] = ends_now (init_step n) (init_state (Stepping r) []) t (init_leaf (address_init r)) (stepping_end t.sort t.span r h)
  stepping_completes r (f ∷ fs) =
      let q = listed_init n f.brace (with_init f.parts (init_leaf (address_init r))) in
      token_first (mark m.CloseBrace somewhere) (init_state (Stepping r) (f ∷ fs)) (init_state (Whole q) fs) refl (whole_ends q fs)

  closing_completes : (r : Address) (fs : List InitFrame) → Completed (init_state (Closing r) fs)
  closing_completes r fs = token_first (mark m.CloseBracket somewhere) (init_state (Closing r) fs) (init_state (Stepping r) fs) refl (stepping_completes r fs)

  focus_completes : (f : InitFocus) (fs : List InitFrame) → Completed (init_state f fs)
  focus_completes Value fs = token_first (number 0 I32 somewhere) (init_state Value fs) (init_state (Whole (zero_at None)) fs) refl (whole_ends (zero_at None) fs)
  focus_completes Next fs = token_first (number 0 I32 somewhere) (init_state Next fs) (init_state (Whole (zero_at None)) fs) refl (whole_ends (zero_at None) fs)
  focus_completes (Negated u) fs = token_first (number 0 I32 somewhere) (init_state (Negated u) fs) (init_state (Whole (zero_at (Some u))) fs) refl (whole_ends (zero_at (Some u)) fs)
  focus_completes (Addressed u) fs =
      let r = address (Some u) (name_of [] somewhere) [] in
      token_first (named [] somewhere) (init_state (Addressed u) fs) (init_state (Stepping r) fs) refl (stepping_completes r fs)
  focus_completes (Stepping r) fs = stepping_completes r fs
  focus_completes (Dot r u) fs =
      let q = with_step r (step.Field u (name_of [] somewhere)) in token_first (named [] somewhere) (init_state (Dot r u) fs) (init_state (Stepping q) fs) refl (stepping_completes q fs)
  focus_completes (Bracket r u) fs =
      let q = with_step r (step.Index u (literal 0 I32 somewhere)) in
      token_first (number 0 I32 somewhere) (init_state (Bracket r u) fs) (init_state (Closing q) fs) refl (closing_completes q fs)
  focus_completes (Closing r) fs = closing_completes r fs
  focus_completes (Whole p) fs = whole_ends p fs

  pub init_ends : (st : InitState) → Completed st
  init_ends st = focus_completes st.focus st.frames
