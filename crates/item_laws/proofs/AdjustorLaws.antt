-- What the machine of adjustors reads is what the grammar has.
use Rattle.std.proofs.Common.{◌≡◌, ℕ, List, [], ◌∷◌, Option, Some, None, refl, sym, ap, ◌∙◌, subst}
use Rattle.c_types.specs.declared.types.Span.{Span}
use Rattle.c_types.specs.declared.types.IntTy.{IntTy}
use Rattle.c_types.specs.declared.types.IntTy.TheVariants.{I32}
use Rattle.c_tree.specs.declared.expressions.Name.{Name}
use Rattle.c_tree.specs.declared.expressions.Literal.{Literal}
use Rattle.c_tree.specs.declared.declarations.Item.{Item}
use Rattle.c_tree.specs.declared.declarations.Item.TheVariants as item
use Rattle.c_tree.specs.Height.{item_height}
use Rattle.c_lex.specs.declared.words.Word.TheVariants as w
use Rattle.c_lex.specs.declared.marks.Mark.{Mark}
use Rattle.c_lex.specs.declared.marks.Mark.TheVariants as m
use Rattle.parse_terms.specs.declared.answer.Answer.{Answer}
use Rattle.parse_terms.specs.declared.answer.Answer.TheVariants.{More, Done, Bad}
use Rattle.parse_terms.specs.declared.terminal.Sort.{Sort}
use Rattle.parse_terms.specs.declared.terminal.Sort.TheVariants as sort
use Rattle.parse_terms.specs.declared.terminal.Terminal.{Terminal}
use Rattle.parse_terms.specs.Terminals.{term, word, mark, named, name_of}
use Rattle.parse_terms.specs.Declarators.{literal, number}
use Rattle.parse_terms.specs.Runs.{run, Came, begun, taken}
use Rattle.parse_decl.specs.Ends.{CanEnd}
use Rattle.parse_decl.proofs.EndLaws.{somewhere, ends_now, ends_after}
use Rattle.parse_item.specs.declared.adjustors.AdjustorState.{AdjustorState}
use Rattle.parse_item.specs.declared.adjustors.AdjustorState.TheVariants.{Opening, Equal, Target, Comma, Parameter, NextComma, Amount, Negated, Ended}
use Rattle.parse_item.specs.ItemGrammar.{IsItem, raised, lowered}
use Rattle.parse_item.specs.DeclarationMachines.{AdjustorSaid, adjustor_name, adjustor_equal, adjustor_target, adjustor_comma, adjustor_parameter, adjustor_amount, adjustor_negated, adjustor_end, adjustor_step}

-- the tokens from a name on
abbrev to_equal : List ℕ → Span → List Terminal → List Terminal
to_equal x t a = named x t ∷ a

abbrev to_target : List ℕ → Span → Span → List Terminal → List Terminal
to_target x t u a = to_equal x t (mark m.Equal u ∷ a)

abbrev to_comma : List ℕ → Span → Span → List ℕ → Span → List Terminal → List Terminal
to_comma x t u y p a = to_target x t u (named y p ∷ a)

abbrev to_parameter : List ℕ → Span → Span → List ℕ → Span → Span → List Terminal → List Terminal
to_parameter x t u y p q a = to_comma x t u y p (mark m.Comma q ∷ a)

module _ (s : Span) where
  -- the state of an adjustor that began at z is at a
  data AdjustorAt : AdjustorState → List Terminal → List Terminal → Type 0 where
    at_opening : {a : List Terminal} → AdjustorAt Opening a a
    at_equal : {x : List ℕ} {t : Span} {a : List Terminal} → AdjustorAt (Equal (name_of x t)) (to_equal x t a) a
    at_target : {x : List ℕ} {t : Span} {a : List Terminal} (u : Span) → AdjustorAt (Target (name_of x t)) (to_target x t u a) a
    at_comma : {x y : List ℕ} {t p : Span} {a : List Terminal} (u : Span) → AdjustorAt (Comma (name_of x t) (name_of y p)) (to_comma x t u y p a) a
    at_parameter : {x y : List ℕ} {t p : Span} {a : List Terminal} (u q : Span) → AdjustorAt (Parameter (name_of x t) (name_of y p)) (to_parameter x t u y p q a) a
    at_next : {x y : List ℕ} {t p r : Span} {v : ℕ} {i : IntTy} {a : List Terminal} (u q : Span) → AdjustorAt (NextComma (name_of x t) (name_of y p) (literal v i r)) (to_parameter x t u y p q (number v i r ∷ a)) a
    at_amount : {x y : List ℕ} {t p r : Span} {v : ℕ} {i : IntTy} {a : List Terminal} (u q o : Span) →
        AdjustorAt (Amount (name_of x t) (name_of y p) (literal v i r)) (to_parameter x t u y p q (number v i r ∷ mark m.Comma o ∷ a)) a
    at_negated : {x y : List ℕ} {t p r d : Span} {v : ℕ} {i : IntTy} {a : List Terminal} (u q o : Span) →
        AdjustorAt (Negated (name_of x t) (name_of y p) (literal v i r) d) (to_parameter x t u y p q (number v i r ∷ mark m.Comma o ∷ mark m.Minus d ∷ a)) a
    at_raised : {x y : List ℕ} {t p r e : Span} {v k : ℕ} {i j : IntTy} {a : List Terminal} (u q o : Span) →
        AdjustorAt (Ended (name_of x t) (name_of y p) (literal v i r) None (literal k j e)) (to_parameter x t u y p q (number v i r ∷ mark m.Comma o ∷ number k j e ∷ a)) a
    at_lowered : {x y : List ℕ} {t p r d e : Span} {v k : ℕ} {i j : IntTy} {a : List Terminal} (u q o : Span) →
        AdjustorAt (Ended (name_of x t) (name_of y p) (literal v i r) (Some d) (literal k j e)) (to_parameter x t u y p q (number v i r ∷ mark m.Comma o ∷ mark m.Minus d ∷ number k j e ∷ a)) a

  abbrev AdjustorTold : AdjustorSaid → List Terminal → List Terminal → Type 0
  AdjustorTold (More st) z a = AdjustorAt st z a
  AdjustorTold (Done x) z a = IsItem x (word w.Adjustor s ∷ z) a × (item_height x ≡ 1)
  AdjustorTold Bad z a = Unit {0}

  name_told : (k : Sort) (l : Span) (a : List Terminal) → AdjustorTold (adjustor_name k l) (term k l ∷ a) a
  name_told (sort.Name g) l a = at_equal
  name_told (sort.Word g) l a = tt
  name_told (sort.Number g f) l a = tt
  name_told (sort.Char g) l a = tt
  name_told (sort.Text g) l a = tt
  name_told sort.Unknown l a = tt
  name_told (sort.Mark g) l a = tt

  equal_told_mark : (g : Mark) (l : Span) (x : List ℕ) (t : Span) (a : List Terminal) → AdjustorTold (adjustor_equal (sort.Mark g) (name_of x t)) (to_equal x t (mark g l ∷ a)) a
  equal_told_mark m.Equal l x t a = at_target l
  equal_told_mark _ l x t a = tt

  equal_told : (k : Sort) (l : Span) (x : List ℕ) (t : Span) (a : List Terminal) → AdjustorTold (adjustor_equal k (name_of x t)) (to_equal x t (term k l ∷ a)) a
  equal_told (sort.Name g) l x t a = tt
  equal_told (sort.Word g) l x t a = tt
  equal_told (sort.Number g f) l x t a = tt
  equal_told (sort.Char g) l x t a = tt
  equal_told (sort.Text g) l x t a = tt
  equal_told sort.Unknown l x t a = tt
  equal_told (sort.Mark g) l x t a = equal_told_mark g l x t a

  target_told : (k : Sort) (l : Span) (x : List ℕ) (t : Span) (u : Span) (a : List Terminal) → AdjustorTold (adjustor_target k l (name_of x t)) (to_target x t u (term k l ∷ a)) a
  target_told (sort.Name g) l x t u a = at_comma u
  target_told (sort.Word g) l x t u a = tt
  target_told (sort.Number g f) l x t u a = tt
  target_told (sort.Char g) l x t u a = tt
  target_told (sort.Text g) l x t u a = tt
  target_told sort.Unknown l x t u a = tt
  target_told (sort.Mark g) l x t u a = tt

  comma_told_mark : (g : Mark) (l : Span) (x : List ℕ) (t : Span) (u : Span) (y : List ℕ) (p : Span) (a : List Terminal) → AdjustorTold (adjustor_comma (sort.Mark g) (Parameter (name_of x t) (name_of y p))) (to_comma x t u y p (mark g l ∷ a)) a
  comma_told_mark m.Comma l x t u y p a = at_parameter u l
  comma_told_mark _ l x t u y p a = tt

  comma_told : (k : Sort) (l : Span) (x : List ℕ) (t : Span) (u : Span) (y : List ℕ) (p : Span) (a : List Terminal) → AdjustorTold (adjustor_comma k (Parameter (name_of x t) (name_of y p))) (to_comma x t u y p (term k l ∷ a)) a
  comma_told (sort.Name g) l x t u y p a = tt
  comma_told (sort.Word g) l x t u y p a = tt
  comma_told (sort.Number g f) l x t u y p a = tt
  comma_told (sort.Char g) l x t u y p a = tt
  comma_told (sort.Text g) l x t u y p a = tt
  comma_told sort.Unknown l x t u y p a = tt
  comma_told (sort.Mark g) l x t u y p a = comma_told_mark g l x t u y p a

  parameter_told : (k : Sort) (l : Span) (x : List ℕ) (t : Span) (u : Span) (y : List ℕ) (p : Span) (q : Span) (a : List Terminal) → AdjustorTold (adjustor_parameter k l (name_of x t) (name_of y p)) (to_parameter x t u y p q (term k l ∷ a)) a
  parameter_told (sort.Name g) l x t u y p q a = tt
  parameter_told (sort.Word g) l x t u y p q a = tt
  parameter_told (sort.Number g f) l x t u y p q a = at_next u q
  parameter_told (sort.Char g) l x t u y p q a = tt
  parameter_told (sort.Text g) l x t u y p q a = tt
  parameter_told sort.Unknown l x t u y p q a = tt
  parameter_told (sort.Mark g) l x t u y p q a = tt

  next_told_mark : (g : Mark) (l : Span) (x : List ℕ) (t : Span) (u : Span) (y : List ℕ) (p : Span) (q : Span) (v : ℕ) (i : IntTy) (r : Span) (a : List Terminal) → AdjustorTold (adjustor_comma (sort.Mark g) (Amount (name_of x t) (name_of y p) (literal v i r))) (to_parameter x t u y p q (number v i r ∷ mark g l ∷ a)) a
  next_told_mark m.Comma l x t u y p q v i r a = at_amount u q l
  next_told_mark _ l x t u y p q v i r a = tt

  next_told : (k : Sort) (l : Span) (x : List ℕ) (t : Span) (u : Span) (y : List ℕ) (p : Span) (q : Span) (v : ℕ) (i : IntTy) (r : Span) (a : List Terminal) → AdjustorTold (adjustor_comma k (Amount (name_of x t) (name_of y p) (literal v i r))) (to_parameter x t u y p q (number v i r ∷ term k l ∷ a)) a
  next_told (sort.Name g) l x t u y p q v i r a = tt
  next_told (sort.Word g) l x t u y p q v i r a = tt
  next_told (sort.Number g f) l x t u y p q v i r a = tt
  next_told (sort.Char g) l x t u y p q v i r a = tt
  next_told (sort.Text g) l x t u y p q v i r a = tt
  next_told sort.Unknown l x t u y p q v i r a = tt
  next_told (sort.Mark g) l x t u y p q v i r a = next_told_mark g l x t u y p q v i r a

  amount_told_mark : (g : Mark) (l : Span) (x : List ℕ) (t : Span) (u : Span) (y : List ℕ) (p : Span) (q : Span) (v : ℕ) (i : IntTy) (r : Span) (o : Span) (a : List Terminal) → AdjustorTold (adjustor_amount (sort.Mark g) l (name_of x t) (name_of y p) (literal v i r)) (to_parameter x t u y p q (number v i r ∷ mark m.Comma o ∷ mark g l ∷ a)) a
  amount_told_mark m.Minus l x t u y p q v i r o a = at_negated u q o
  amount_told_mark _ l x t u y p q v i r o a = tt

  amount_told : (k : Sort) (l : Span) (x : List ℕ) (t : Span) (u : Span) (y : List ℕ) (p : Span) (q : Span) (v : ℕ) (i : IntTy) (r : Span) (o : Span) (a : List Terminal) → AdjustorTold (adjustor_amount k l (name_of x t) (name_of y p) (literal v i r)) (to_parameter x t u y p q (number v i r ∷ mark m.Comma o ∷ term k l ∷ a)) a
  amount_told (sort.Name g) l x t u y p q v i r o a = tt
  amount_told (sort.Word g) l x t u y p q v i r o a = tt
  amount_told (sort.Number g f) l x t u y p q v i r o a = at_raised u q o
  amount_told (sort.Char g) l x t u y p q v i r o a = tt
  amount_told (sort.Text g) l x t u y p q v i r o a = tt
  amount_told sort.Unknown l x t u y p q v i r o a = tt
  amount_told (sort.Mark g) l x t u y p q v i r o a = amount_told_mark g l x t u y p q v i r o a

  negated_told : (k : Sort) (l : Span) (x : List ℕ) (t : Span) (u : Span) (y : List ℕ) (p : Span) (q : Span) (v : ℕ) (i : IntTy) (r : Span) (o : Span) (d : Span) (a : List Terminal) → AdjustorTold (adjustor_negated k l (name_of x t) (name_of y p) (literal v i r) d) (to_parameter x t u y p q (number v i r ∷ mark m.Comma o ∷ mark m.Minus d ∷ term k l ∷ a)) a
  negated_told (sort.Name g) l x t u y p q v i r o d a = tt
  negated_told (sort.Word g) l x t u y p q v i r o d a = tt
  negated_told (sort.Number g f) l x t u y p q v i r o d a = at_lowered u q o
  negated_told (sort.Char g) l x t u y p q v i r o d a = tt
  negated_told (sort.Text g) l x t u y p q v i r o d a = tt
  negated_told sort.Unknown l x t u y p q v i r o d a = tt
  negated_told (sort.Mark g) l x t u y p q v i r o d a = tt

  raised_told_mark : (g : Mark) (l : Span) (x : List ℕ) (t : Span) (u : Span) (y : List ℕ) (p : Span) (q : Span) (v : ℕ) (i : IntTy) (r : Span) (o : Span) (n : ℕ) (j : IntTy) (e : Span) (a : List Terminal) → AdjustorTold (adjustor_end (sort.Mark g) (item.Adjustor s (name_of x t) (name_of y p) (literal v i r) None (literal n j e))) (to_parameter x t u y p q (number v i r ∷ mark m.Comma o ∷ number n j e ∷ mark g l ∷ a)) a
  raised_told_mark m.Semicolon l x t u y p q v i r o n j e a = (raised, refl)
  raised_told_mark _ l x t u y p q v i r o n j e a = tt

  raised_told : (k : Sort) (l : Span) (x : List ℕ) (t : Span) (u : Span) (y : List ℕ) (p : Span) (q : Span) (v : ℕ) (i : IntTy) (r : Span) (o : Span) (n : ℕ) (j : IntTy) (e : Span) (a : List Terminal) → AdjustorTold (adjustor_end k (item.Adjustor s (name_of x t) (name_of y p) (literal v i r) None (literal n j e))) (to_parameter x t u y p q (number v i r ∷ mark m.Comma o ∷ number n j e ∷ term k l ∷ a)) a
  raised_told (sort.Name g) l x t u y p q v i r o n j e a = tt
  raised_told (sort.Word g) l x t u y p q v i r o n j e a = tt
  raised_told (sort.Number g f) l x t u y p q v i r o n j e a = tt
  raised_told (sort.Char g) l x t u y p q v i r o n j e a = tt
  raised_told (sort.Text g) l x t u y p q v i r o n j e a = tt
  raised_told sort.Unknown l x t u y p q v i r o n j e a = tt
  raised_told (sort.Mark g) l x t u y p q v i r o n j e a = raised_told_mark g l x t u y p q v i r o n j e a

  lowered_told_mark : (g : Mark) (l : Span) (x : List ℕ) (t : Span) (u : Span) (y : List ℕ) (p : Span) (q : Span) (v : ℕ) (i : IntTy) (r : Span) (o : Span) (d : Span) (n : ℕ) (j : IntTy) (e : Span) (a : List Terminal) → AdjustorTold (adjustor_end (sort.Mark g) (item.Adjustor s (name_of x t) (name_of y p) (literal v i r) (Some d) (literal n j e))) (to_parameter x t u y p q (number v i r ∷ mark m.Comma o ∷ mark m.Minus d ∷ number n j e ∷ mark g l ∷ a)) a
  lowered_told_mark m.Semicolon l x t u y p q v i r o d n j e a = (lowered, refl)
  lowered_told_mark _ l x t u y p q v i r o d n j e a = tt

  lowered_told : (k : Sort) (l : Span) (x : List ℕ) (t : Span) (u : Span) (y : List ℕ) (p : Span) (q : Span) (v : ℕ) (i : IntTy) (r : Span) (o : Span) (d : Span) (n : ℕ) (j : IntTy) (e : Span) (a : List Terminal) → AdjustorTold (adjustor_end k (item.Adjustor s (name_of x t) (name_of y p) (literal v i r) (Some d) (literal n j e))) (to_parameter x t u y p q (number v i r ∷ mark m.Comma o ∷ mark m.Minus d ∷ number n j e ∷ term k l ∷ a)) a
  lowered_told (sort.Name g) l x t u y p q v i r o d n j e a = tt
  lowered_told (sort.Word g) l x t u y p q v i r o d n j e a = tt
  lowered_told (sort.Number g f) l x t u y p q v i r o d n j e a = tt
  lowered_told (sort.Char g) l x t u y p q v i r o d n j e a = tt
  lowered_told (sort.Text g) l x t u y p q v i r o d n j e a = tt
  lowered_told sort.Unknown l x t u y p q v i r o d n j e a = tt
  lowered_told (sort.Mark g) l x t u y p q v i r o d n j e a = lowered_told_mark g l x t u y p q v i r o d n j e a

  adjustor_told : (t : Terminal) {st : AdjustorState} {z : List Terminal} (a : List Terminal) → AdjustorAt st z (t ∷ a) → AdjustorTold (adjustor_step s t st) z a
  adjustor_told k a at_opening = name_told k.sort k.span a
  adjustor_told k a (at_equal {x = x} {t = t}) = equal_told k.sort k.span x t a
  adjustor_told k a (at_target {x = x} {t = t} u) = target_told k.sort k.span x t u a
  adjustor_told k a (at_comma {x = x} {y = y} {t = t} {p = p} u) = comma_told k.sort k.span x t u y p a
  adjustor_told k a (at_parameter {x = x} {y = y} {t = t} {p = p} u q) = parameter_told k.sort k.span x t u y p q a
  adjustor_told k a (at_next {x = x} {y = y} {t = t} {p = p} {r = r} {v = v} {i = i} u q) = next_told k.sort k.span x t u y p q v i r a
  adjustor_told k a (at_amount {x = x} {y = y} {t = t} {p = p} {r = r} {v = v} {i = i} u q o) = amount_told k.sort k.span x t u y p q v i r o a
  adjustor_told k a (at_negated {x = x} {y = y} {t = t} {p = p} {r = r} {d = d} {v = v} {i = i} u q o) = negated_told k.sort k.span x t u y p q v i r o d a
  adjustor_told k a (at_raised {x = x} {y = y} {t = t} {p = p} {r = r} {e = e} {v = v} {k = n} {i = i} {j = j} u q o) = raised_told k.sort k.span x t u y p q v i r o n j e a
  adjustor_told k a (at_lowered {x = x} {y = y} {t = t} {p = p} {r = r} {d = d} {e = e} {v = v} {k = n} {i = i} {j = j} u q o) = lowered_told k.sort k.span x t u y p q v i r o d n j e a

  adjustor_at : {z : List Terminal} {st : AdjustorState} {a : List Terminal} → Came (adjustor_step s) Opening z st a → AdjustorAt st z a
  adjustor_at begun = at_opening
  adjustor_at {z} {a = a} (taken {t = t} c e) = subst (λ v. AdjustorTold v z a) e (adjustor_told t a (adjustor_at c))

  -- the last token, too, is the item's
  pub adjustor_sound : (st : AdjustorState) (x : Item) (t : Terminal) (z a : List Terminal) → Came (adjustor_step s) Opening z st (t ∷ a) → adjustor_step s t st ≡ Done x →
      IsItem x (word w.Adjustor s ∷ z) a × (item_height x ≡ 1)
  adjustor_sound st x t z a c e = subst (λ v. AdjustorTold v z a) e (adjustor_told t a (adjustor_at c))

  -- ---- what was read can be completed

  module _ (u : Span) where
    abbrev Ends : AdjustorState → Type 0
    Ends st = CanEnd AdjustorState Item (adjustor_step s) st (mark m.Semicolon u)

    first : (t : Terminal) (st st' : AdjustorState) → adjustor_step s t st ≡ More st' → Ends st' → Ends st
    first t st st' e c = ends_after (adjustor_step s) t st st' (mark m.Semicolon u) e c

    abbrev one : Literal
    one = literal 1 I32 somewhere

    abbrev nobody : Name
    nobody = name_of [] somewhere

    ended_ends : (x y : Name) (p : Literal) (o : Option Span) (k : Literal) → Ends (Ended x y p o k)
    ended_ends x y p o k = ends_now (adjustor_step s) (Ended x y p o k) (mark m.Semicolon u) (item.Adjustor s x y p o k) refl

    amount_ends : (x y : Name) (p : Literal) → Ends (Amount x y p)
    amount_ends x y p = first (number 1 I32 somewhere) (Amount x y p) (Ended x y p None one) refl (ended_ends x y p None one)

    next_ends : (x y : Name) (p : Literal) → Ends (NextComma x y p)
    next_ends x y p = first (mark m.Comma somewhere) (NextComma x y p) (Amount x y p) refl (amount_ends x y p)

    parameter_ends : (x y : Name) → Ends (Parameter x y)
    parameter_ends x y = first (number 1 I32 somewhere) (Parameter x y) (NextComma x y one) refl (next_ends x y one)

    comma_ends : (x y : Name) → Ends (Comma x y)
    comma_ends x y = first (mark m.Comma somewhere) (Comma x y) (Parameter x y) refl (parameter_ends x y)

    target_ends : (x : Name) → Ends (Target x)
    target_ends x = first (named [] somewhere) (Target x) (Comma x nobody) refl (comma_ends x nobody)

    equal_ends : (x : Name) → Ends (Equal x)
    equal_ends x = first (mark m.Equal somewhere) (Equal x) (Target x) refl (target_ends x)

    pub adjustor_ends : (st : AdjustorState) → Ends st
    adjustor_ends Opening = first (named [] somewhere) Opening (Equal nobody) refl (equal_ends nobody)
    adjustor_ends (Equal x) = equal_ends x
    adjustor_ends (Target x) = target_ends x
    adjustor_ends (Comma x y) = comma_ends x y
    adjustor_ends (Parameter x y) = parameter_ends x y
    adjustor_ends (NextComma x y p) = next_ends x y p
    adjustor_ends (Amount x y p) = amount_ends x y p
    adjustor_ends (Negated x y p d) = first (number 1 I32 somewhere) (Negated x y p d) (Ended x y p (Some d) one) refl (ended_ends x y p (Some d) one)
    adjustor_ends (Ended x y p o k) = ended_ends x y p o k
