-- What the machine of typedefs reads is what the grammar has.
use Rattle.std.proofs.Common.{◌≡◌, ℕ, List, [], ◌∷◌, ◌++◌, Option, None, refl, sym, ap, ◌∙◌, subst}
use Rattle.c_types.specs.declared.types.Span.{Span}
use Rattle.c_tree.specs.declared.expressions.Name.{Name}
use Rattle.c_tree.specs.declared.expressions.TypeName.{TypeName}
use Rattle.c_tree.specs.declared.declarations.Params.{Params}
use Rattle.c_tree.specs.declared.declarations.FunctionHead.{FunctionHead}
use Rattle.c_lex.specs.declared.marks.Mark.{Mark}
use Rattle.c_lex.specs.declared.marks.Mark.TheVariants as m
use Rattle.parse_terms.specs.declared.answer.Answer.{Answer}
use Rattle.parse_terms.specs.declared.answer.Answer.TheVariants.{More, Done, Bad}
use Rattle.parse_terms.specs.declared.terminal.Sort.{Sort}
use Rattle.parse_terms.specs.declared.terminal.Sort.TheVariants as sort
use Rattle.parse_terms.specs.declared.terminal.Terminal.{Terminal}
use Rattle.parse_terms.specs.declared.types.TypeState.{TypeState}
use Rattle.parse_terms.specs.declared.types.TypeState.TheVariants as type_state
use Rattle.parse_terms.specs.Terminals.{term, mark, named, name_of}
use Rattle.parse_terms.specs.Runs.{Outcome, Finished, after, run, Came, begun, taken}
use Rattle.parse_terms.specs.TypeNames.{IsTypeName, type_step}
use Rattle.parse_terms.proofs.RunLaws.{lifted, hosted}
use Rattle.parse_terms.proofs.TypeLaws.{type_complete, type_sound}
use Rattle.parse_decl.specs.declared.params.ParamsState.{ParamsState}
use Rattle.parse_decl.specs.declared.params.ParamsState.TheVariants as params_state
use Rattle.parse_decl.specs.Ends.{CanEnd}
use Rattle.parse_decl.specs.Params.{IsParams, params_step}
use Rattle.parse_decl.proofs.EndLaws.{somewhere, ends_now, ends_after, ends_hosted, type_ends}
use Rattle.parse_decl.proofs.ParamsLaws.{params_complete, params_sound, params_end, params_ends}
use Rattle.parse_item.specs.declared.typedefs.TypedefState.{TypedefState}
use Rattle.parse_item.specs.declared.typedefs.TypedefState.TheVariants.{Typing, Star, Naming, Closing, Opening, Params as InParams, Ended}
use Rattle.parse_item.specs.ItemGrammar.{head_of, IsPointerHead, a_pointer_head}
use Rattle.parse_item.specs.DeclarationMachines.{TypedefSaid, typedef_open, typedef_star, typedef_name, typedef_close, typedef_typed, typedef_params, typedef_end, typedef_step}

abbrev type_over : TypeName → Terminal → TypedefSaid
type_over n k = typedef_open k.sort (Star n)

abbrev params_over : TypeName → Name → Params → Terminal → TypedefSaid
params_over n x ps k = More (Ended (head_of n x ps))

typed_said : (t : Terminal) (v : Answer TypeState TypeName) → typedef_typed t.sort v ≡ lifted type_step typedef_step Typing type_over t v
typed_said t (More x) = refl
typed_said t (Done n) = refl
typed_said t Bad = refl

params_said : (n : TypeName) (x : Name) (t : Terminal) (v : Answer ParamsState Params) → typedef_params n x v ≡ lifted params_step typedef_step (InParams n x) (params_over n x) t v
params_said n x t (More y) = refl
params_said n x t (Done ps) = refl
params_said n x t Bad = refl

-- ---- what is in the grammar is read

pub typedef_complete : {h : FunctionHead} {a e : List Terminal} (u : Span) (z : List Terminal) → e ≡ mark m.Semicolon u ∷ z → IsPointerHead h a e →
    run typedef_step a (Typing type_state.Opening) ≡ Finished h (mark m.Semicolon u ∷ z)
typedef_complete {a = a} w z e (a_pointer_head {t = t} {x = x} {ps = ps} {s = s} {p = p} {q = q} {r = r} {u = u} {v = v} {b = b} {c = c} d i) =
    hosted type_step typedef_step Typing type_over (λ k y. typed_said k (type_step k y)) a type_state.Opening t (mark m.OpenParen p) (mark m.Star q ∷ named x s ∷ mark m.CloseParen r ∷ mark m.OpenParen u ∷ b)
    (type_complete (mark m.OpenParen p) (mark m.Star q ∷ named x s ∷ mark m.CloseParen r ∷ mark m.OpenParen u ∷ b) refl d tt)
    ∙ hosted params_step typedef_step (InParams t (name_of x s)) (params_over t (name_of x s)) (λ k y. params_said t (name_of x s) k (params_step k y)) b params_state.Opening ps (mark m.CloseParen v) c
    (params_complete v c refl i)
    ∙ ap (λ l. run typedef_step l (Ended (head_of t (name_of x s) ps))) e

-- ---- what is read is in the grammar

-- the state of a typedef that began at z is at a
data TypedefAt (z : List Terminal) : TypedefState → List Terminal → Type 0 where
  at_typing : {x : TypeState} {a : List Terminal} → Came type_step type_state.Opening z x a → TypedefAt z (Typing x) a
  at_star : {n : TypeName} {a : List Terminal} (p : Span) → IsTypeName n z (mark m.OpenParen p ∷ a) → TypedefAt z (Star n) a
  at_naming : {n : TypeName} {a : List Terminal} (p q : Span) → IsTypeName n z (mark m.OpenParen p ∷ mark m.Star q ∷ a) → TypedefAt z (Naming n) a
  at_closing : {n : TypeName} {a : List Terminal} (p q : Span) (x : List ℕ) (s : Span) → IsTypeName n z (mark m.OpenParen p ∷ mark m.Star q ∷ named x s ∷ a) → TypedefAt z (Closing n (name_of x s)) a
  at_opening : {n : TypeName} {a : List Terminal} (p q : Span) (x : List ℕ) (s r : Span) → IsTypeName n z (mark m.OpenParen p ∷ mark m.Star q ∷ named x s ∷ mark m.CloseParen r ∷ a) →
      TypedefAt z (Opening n (name_of x s)) a
  at_params : {n : TypeName} {y : ParamsState} {c a : List Terminal} (p q : Span) (x : List ℕ) (s r u : Span) →
      IsTypeName n z (mark m.OpenParen p ∷ mark m.Star q ∷ named x s ∷ mark m.CloseParen r ∷ mark m.OpenParen u ∷ c) → Came params_step params_state.Opening c y a → TypedefAt z (InParams n (name_of x s) y) a
  at_ended : {h : FunctionHead} {a : List Terminal} → IsPointerHead h z a → TypedefAt z (Ended h) a

abbrev TypedefTold : TypedefSaid → List Terminal → Terminal → List Terminal → Type 0
TypedefTold (More st) z t a = TypedefAt z st a
TypedefTold (Done h) z t a = IsPointerHead h z (t ∷ a) × (t.sort ≡ sort.Mark m.Semicolon)
TypedefTold Bad z t a = Unit {0}

open_told : (k : Mark) (s : Span) {z : List Terminal} (n : TypeName) (a : List Terminal) → IsTypeName n z (mark k s ∷ a) → TypedefTold (typedef_open (sort.Mark k) (Star n)) z (mark k s) a
open_told m.OpenParen s n a d = at_star s d
open_told _ s n a d = tt

type_over_told : (k : Sort) (s : Span) {z : List Terminal} (n : TypeName) (a : List Terminal) → IsTypeName n z (term k s ∷ a) → TypedefTold (typedef_open k (Star n)) z (term k s) a
type_over_told (sort.Mark k) s n a d = open_told k s n a d
type_over_told (sort.Name x) s n a d = tt
type_over_told (sort.Word x) s n a d = tt
type_over_told (sort.Number x i) s n a d = tt
type_over_told (sort.Char x) s n a d = tt
type_over_told (sort.Text x) s n a d = tt
type_over_told sort.Unknown s n a d = tt

typed_told : (t : Terminal) {z : List Terminal} (x : TypeState) (a : List Terminal) → Came type_step type_state.Opening z x (t ∷ a) → (v : Answer TypeState TypeName) → type_step t x ≡ v →
    TypedefTold (typedef_typed t.sort v) z t a
typed_told t x a p (More x') q = at_typing (taken p q)
typed_told t {z} x a p (Done n) q = type_over_told t.sort t.span n a (type_sound x n t z a p q)
typed_told t x a p Bad q = tt

star_mark_told : (k : Mark) (s p : Span) {z : List Terminal} (n : TypeName) (a : List Terminal) → IsTypeName n z (mark m.OpenParen p ∷ mark k s ∷ a) → TypedefTold (typedef_star (sort.Mark k) (Naming n)) z (mark k s) a
star_mark_told m.Star s p n a d = at_naming p s d
star_mark_told _ s p n a d = tt

star_told : (k : Sort) (s p : Span) {z : List Terminal} (n : TypeName) (a : List Terminal) → IsTypeName n z (mark m.OpenParen p ∷ term k s ∷ a) → TypedefTold (typedef_star k (Naming n)) z (term k s) a
star_told (sort.Mark k) s p n a d = star_mark_told k s p n a d
star_told (sort.Name x) s p n a d = tt
star_told (sort.Word x) s p n a d = tt
star_told (sort.Number x i) s p n a d = tt
star_told (sort.Char x) s p n a d = tt
star_told (sort.Text x) s p n a d = tt
star_told sort.Unknown s p n a d = tt

name_told : (k : Sort) (s p q : Span) {z : List Terminal} (n : TypeName) (a : List Terminal) → IsTypeName n z (mark m.OpenParen p ∷ mark m.Star q ∷ term k s ∷ a) → TypedefTold (typedef_name k s n) z (term k s) a
name_told (sort.Name x) s p q n a d = at_closing p q x s d
name_told (sort.Mark x) s p q n a d = tt
name_told (sort.Word x) s p q n a d = tt
name_told (sort.Number x i) s p q n a d = tt
name_told (sort.Char x) s p q n a d = tt
name_told (sort.Text x) s p q n a d = tt
name_told sort.Unknown s p q n a d = tt

close_mark_told : (k : Mark) (r p q : Span) (x : List ℕ) (s : Span) {z : List Terminal} (n : TypeName) (a : List Terminal) → IsTypeName n z (mark m.OpenParen p ∷ mark m.Star q ∷ named x s ∷ mark k r ∷ a) →
    TypedefTold (typedef_close (sort.Mark k) (Opening n (name_of x s))) z (mark k r) a
close_mark_told m.CloseParen r p q x s n a d = at_opening p q x s r d
close_mark_told _ r p q x s n a d = tt

close_told : (k : Sort) (r p q : Span) (x : List ℕ) (s : Span) {z : List Terminal} (n : TypeName) (a : List Terminal) → IsTypeName n z (mark m.OpenParen p ∷ mark m.Star q ∷ named x s ∷ term k r ∷ a) →
    TypedefTold (typedef_close k (Opening n (name_of x s))) z (term k r) a
close_told (sort.Mark k) r p q x s n a d = close_mark_told k r p q x s n a d
close_told (sort.Name y) r p q x s n a d = tt
close_told (sort.Word y) r p q x s n a d = tt
close_told (sort.Number y i) r p q x s n a d = tt
close_told (sort.Char y) r p q x s n a d = tt
close_told (sort.Text y) r p q x s n a d = tt
close_told sort.Unknown r p q x s n a d = tt

open_mark_told : (k : Mark) (u p q : Span) (x : List ℕ) (s r : Span) {z : List Terminal} (n : TypeName) (a : List Terminal) →
    IsTypeName n z (mark m.OpenParen p ∷ mark m.Star q ∷ named x s ∷ mark m.CloseParen r ∷ mark k u ∷ a) →
    TypedefTold (typedef_open (sort.Mark k) (InParams n (name_of x s) params_state.Opening)) z (mark k u) a
open_mark_told m.OpenParen u p q x s r n a d = at_params p q x s r u d begun
open_mark_told _ u p q x s r n a d = tt

opening_told : (k : Sort) (u p q : Span) (x : List ℕ) (s r : Span) {z : List Terminal} (n : TypeName) (a : List Terminal) →
    IsTypeName n z (mark m.OpenParen p ∷ mark m.Star q ∷ named x s ∷ mark m.CloseParen r ∷ term k u ∷ a) →
    TypedefTold (typedef_open k (InParams n (name_of x s) params_state.Opening)) z (term k u) a
opening_told (sort.Mark k) u p q x s r n a d = open_mark_told k u p q x s r n a d
opening_told (sort.Name y) u p q x s r n a d = tt
opening_told (sort.Word y) u p q x s r n a d = tt
opening_told (sort.Number y i) u p q x s r n a d = tt
opening_told (sort.Char y) u p q x s r n a d = tt
opening_told (sort.Text y) u p q x s r n a d = tt
opening_told sort.Unknown u p q x s r n a d = tt

-- parameters are over at ) alone
pub closed_params : {ps : Params} {c a : List Terminal} (t : Terminal) → t.sort ≡ sort.Mark m.CloseParen → IsParams ps c (t ∷ a) → IsParams ps c (mark m.CloseParen t.span ∷ a)
closed_params {ps} {c} {a} t e d = subst (λ k. IsParams ps c (term k t.span ∷ a)) e d

params_told : (t : Terminal) (p q : Span) (x : List ℕ) (s r u : Span) {z c : List Terminal} (n : TypeName) (y : ParamsState) (a : List Terminal) →
    IsTypeName n z (mark m.OpenParen p ∷ mark m.Star q ∷ named x s ∷ mark m.CloseParen r ∷ mark m.OpenParen u ∷ c) → Came params_step params_state.Opening c y (t ∷ a) →
    (v : Answer ParamsState Params) → params_step t y ≡ v → TypedefTold (typedef_params n (name_of x s) v) z t a
params_told t p q x s r u n y a d i (More y') e = at_params p q x s r u d (taken i e)
params_told t p q x s r u {c = c} n y a d i (Done ps) e = at_ended (a_pointer_head d (closed_params t (params_end ps y t e) (params_sound ps y t c a i e)))
params_told t p q x s r u n y a d i Bad e = tt

ended_mark_told : (k : Mark) (s : Span) {z : List Terminal} (h : FunctionHead) (a : List Terminal) → IsPointerHead h z (mark k s ∷ a) → TypedefTold (typedef_end (sort.Mark k) h) z (mark k s) a
ended_mark_told m.Semicolon s h a d = (d, refl)
ended_mark_told _ s h a d = tt

ended_told : (k : Sort) (s : Span) {z : List Terminal} (h : FunctionHead) (a : List Terminal) → IsPointerHead h z (term k s ∷ a) → TypedefTold (typedef_end k h) z (term k s) a
ended_told (sort.Mark k) s h a d = ended_mark_told k s h a d
ended_told (sort.Name y) s h a d = tt
ended_told (sort.Word y) s h a d = tt
ended_told (sort.Number y i) s h a d = tt
ended_told (sort.Char y) s h a d = tt
ended_told (sort.Text y) s h a d = tt
ended_told sort.Unknown s h a d = tt

typedef_told : (t : Terminal) {st : TypedefState} {z : List Terminal} (a : List Terminal) → TypedefAt z st (t ∷ a) → TypedefTold (typedef_step t st) z t a
typedef_told t a (at_typing {x = x} p) = typed_told t x a p (type_step t x) refl
typedef_told t a (at_star {n = n} p d) = star_told t.sort t.span p n a d
typedef_told t a (at_naming {n = n} p q d) = name_told t.sort t.span p q n a d
typedef_told t a (at_closing {n = n} p q x s d) = close_told t.sort t.span p q x s n a d
typedef_told t a (at_opening {n = n} p q x s r d) = opening_told t.sort t.span p q x s r n a d
typedef_told t a (at_params {n = n} {y = y} p q x s r u d i) = params_told t p q x s r u n y a d i (params_step t y) refl
typedef_told t a (at_ended {h = h} d) = ended_told t.sort t.span h a d

typedef_at : {z : List Terminal} {st : TypedefState} {a : List Terminal} → Came typedef_step (Typing type_state.Opening) z st a → TypedefAt z st a
typedef_at begun = at_typing begun
typedef_at {z} {a = a} (taken {t = t} c e) = subst (λ v. TypedefTold v z t a) e (typedef_told t a (typedef_at c))

pub typedef_sound : (st : TypedefState) (h : FunctionHead) (t : Terminal) (z a : List Terminal) → Came typedef_step (Typing type_state.Opening) z st (t ∷ a) → typedef_step t st ≡ Done h →
    IsPointerHead h z (t ∷ a) × (t.sort ≡ sort.Mark m.Semicolon)
typedef_sound st h t z a c e = subst (λ v. TypedefTold v z t a) e (typedef_told t a (typedef_at c))

-- ---- what was read can be completed

module _ (u : Span) where
  abbrev Ends : TypedefState → Type 0
  Ends st = CanEnd TypedefState FunctionHead typedef_step st (mark m.Semicolon u)

  first : (t : Terminal) (st st' : TypedefState) → typedef_step t st ≡ More st' → Ends st' → Ends st
  first t st st' e c = ends_after typedef_step t st st' (mark m.Semicolon u) e c

  ended_ends : (h : FunctionHead) → Ends (Ended h)
  ended_ends h = ends_now typedef_step (Ended h) (mark m.Semicolon u) h refl

  params_go_on : (n : TypeName) (x : Name) (y : ParamsState) → Ends (InParams n x y)
  params_go_on n x y =
      let c = params_ends y somewhere in
      ends_hosted params_step typedef_step (InParams n x) (params_over n x) (λ k v. params_said n x k (params_step k v)) y (mark m.CloseParen somewhere) (mark m.Semicolon u) c (Ended (head_of n x c.part_of)) refl
      (ended_ends (head_of n x c.part_of))

  opening_ends : (n : TypeName) (x : Name) → Ends (Opening n x)
  opening_ends n x = first (mark m.OpenParen somewhere) (Opening n x) (InParams n x params_state.Opening) refl (params_go_on n x params_state.Opening)

  closing_ends : (n : TypeName) (x : Name) → Ends (Closing n x)
  closing_ends n x = first (mark m.CloseParen somewhere) (Closing n x) (Opening n x) refl (opening_ends n x)

  naming_ends : (n : TypeName) → Ends (Naming n)
  naming_ends n = first (named [] somewhere) (Naming n) (Closing n (name_of [] somewhere)) refl (closing_ends n (name_of [] somewhere))

  star_ends : (n : TypeName) → Ends (Star n)
  star_ends n = first (mark m.Star somewhere) (Star n) (Naming n) refl (naming_ends n)

  pub typedef_ends : (st : TypedefState) → Ends st
  typedef_ends (Typing x) =
      let c = type_ends x (mark m.OpenParen somewhere) tt in
      ends_hosted type_step typedef_step Typing type_over (λ k v. typed_said k (type_step k v)) x (mark m.OpenParen somewhere) (mark m.Semicolon u) c (Star c.part_of) refl (star_ends c.part_of)
  typedef_ends (Star n) = star_ends n
  typedef_ends (Naming n) = naming_ends n
  typedef_ends (Closing n x) = closing_ends n x
  typedef_ends (Opening n x) = opening_ends n x
  typedef_ends (InParams n x y) = params_go_on n x y
  typedef_ends (Ended h) = ended_ends h
