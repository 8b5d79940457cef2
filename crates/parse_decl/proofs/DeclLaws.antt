-- What the machine of declarators reads is what the grammar has, also behind a base.
use Rattle.std.proofs.Common.{◌≡◌, ℕ, List, [], ◌∷◌, ◌++◌, refl, ap, ◌∙◌, subst}
use Rattle.c_types.specs.declared.types.Span.{Span}
use Rattle.c_types.specs.declared.types.IntTy.{IntTy}
use Rattle.c_types.specs.declared.types.IntTy.TheVariants.{I32}
use Rattle.c_tree.specs.declared.expressions.Literal.{Literal}
use Rattle.c_tree.specs.declared.expressions.Base.{Base}
use Rattle.c_tree.specs.declared.expressions.TypeName.{TypeName}
use Rattle.c_tree.specs.declared.declarations.Decl.{Decl}
use Rattle.c_lex.specs.declared.marks.Mark.{Mark}
use Rattle.c_lex.specs.declared.marks.Mark.TheVariants as m
use Rattle.parse_terms.specs.declared.answer.Answer.{Answer}
use Rattle.parse_terms.specs.declared.answer.Answer.TheVariants.{More, Done, Bad}
use Rattle.parse_terms.specs.declared.terminal.Sort.{Sort}
use Rattle.parse_terms.specs.declared.terminal.Sort.TheVariants as sort
use Rattle.parse_terms.specs.declared.terminal.Terminal.{Terminal}
use Rattle.parse_terms.specs.declared.types.TypeState.{TypeState}
use Rattle.parse_terms.specs.declared.types.TypeState.TheVariants.{Opening}
use Rattle.parse_terms.specs.declared.declarators.DeclState.{DeclState}
use Rattle.parse_terms.specs.declared.declarators.DeclState.TheVariants.{Stars, Named, Length, Closing}
use Rattle.parse_terms.specs.Terminals.{term, mark, named, name_of}
use Rattle.parse_terms.specs.Runs.{Finished, after, run, Came, begun, taken}
use Rattle.parse_terms.specs.TypeNames.{IsStars, no_stars, star, type_name, IsTypeName, type_named, type_step}
use Rattle.parse_terms.specs.Declarators.{literal, number, decl, IsLengths, no_lengths, length, IsDecl, declared, star_or_bad, decl_stars_step, open_or_done, named_step, length_step, close_or_bad, closing_step, decl_step}
use Rattle.parse_terms.proofs.TypeLaws.{type_complete, type_sound}
use Rattle.parse_decl.specs.Ends.{CanEnd}
use Rattle.parse_decl.specs.TypedDecls.{EndsDecl, IsTypedDecl, typed, TypedRun}
use Rattle.parse_decl.proofs.EndLaws.{somewhere, ends_now, ends_after}

-- ---- what is in the grammar is read

decl_stars_land : {ss : List Span} {a c : List Terminal} → IsStars ss a c → run decl_step a (Stars []) ≡ run decl_step c (Stars ss)
decl_stars_land no_stars = refl
decl_stars_land (star d) = decl_stars_land d

lengths_land : (ss : List Span) (x : List ℕ) (s : Span) {ls : List Literal} {a c : List Terminal} → IsLengths ls a c →
    run decl_step a (Named (decl ss (name_of x s) [])) ≡ run decl_step c (Named (decl ss (name_of x s) ls))
lengths_land ss x s no_lengths = refl
lengths_land ss x s (length d) = lengths_land ss x s d

pub named_stops : (d : Decl) (k : Sort) → EndsDecl k → named_step k d ≡ Done d
named_stops d (sort.Mark m.OpenBracket) h = absurd h
named_stops d (sort.Mark k) h = refl
named_stops d (sort.Word v) h = refl
named_stops d (sort.Name x) h = refl
named_stops d (sort.Number v t) h = refl
named_stops d (sort.Char c) h = refl
named_stops d (sort.Text x) h = refl
named_stops d sort.Unknown h = refl

-- from the name on
pub named_complete : (ss : List Span) (x : List ℕ) (s : Span) {ls : List Literal} {a : List Terminal} (t : Terminal) (b : List Terminal) → IsLengths ls a (t ∷ b) → EndsDecl t.sort →
    run decl_step (named x s ∷ a) (Stars ss) ≡ Finished (decl ss (name_of x s) ls) (t ∷ b)
named_complete ss x s {ls} t b d h = lengths_land ss x s d ∙ ap (λ v. after v (run decl_step b) (t ∷ b)) (named_stops (decl ss (name_of x s) ls) t.sort h)

pub decl_complete : {d : Decl} {a c : List Terminal} (t : Terminal) (b : List Terminal) → c ≡ t ∷ b → IsDecl d a c → EndsDecl t.sort → run decl_step a (Stars []) ≡ Finished d (t ∷ b)
decl_complete t b q (declared {ss = ss} {x = x} {s = s} {ls = ls} {b = c} d e) h = decl_stars_land d ∙ named_complete ss x s t b (subst (λ l. IsLengths ls c l) q e) h

pub typed_complete : {y : Base} {d : Decl} {a c : List Terminal} (t : Terminal) (b : List Terminal) → c ≡ t ∷ b → IsTypedDecl y d a c → EndsDecl t.sort → TypedRun y d a t b
typed_complete t b q (typed f (declared {ss = ss} {x = x} {s = s} {ls = ls} {b = c} d e)) h = record {
  stars = ss;
  rest = named x s ∷ c;
  types = type_complete (named x s) c refl (type_named f d) tt;
  declares = named_complete ss x s t b (subst (λ l. IsLengths ls c l) q e) h;
}

-- ---- what is read is in the grammar

-- the state of a declarator that began at m is at a
pub data DeclAt (z : List Terminal) : DeclState → List Terminal → Type 0 where
  at_stars : {ss : List Span} {a : List Terminal} → IsStars ss z a → DeclAt z (Stars ss) a
  at_named : {d : Decl} {a : List Terminal} → IsDecl d z a → DeclAt z (Named d) a
  at_length : {d : Decl} {a : List Terminal} (s : Span) → IsDecl d z (mark m.OpenBracket s ∷ a) → DeclAt z (Length d) a
  at_closing : {d : Decl} {v : ℕ} {t : IntTy} {a : List Terminal} (s u : Span) → IsDecl d z (mark m.OpenBracket s ∷ number v t u ∷ a) →
      DeclAt z (Closing (decl d.stars d.name (d.lengths ++ literal v t u ∷ []))) a

-- what an answer to a token at t says of the tokens
abbrev pub DeclSaid : Answer DeclState Decl → List Terminal → Terminal → List Terminal → Type 0
DeclSaid (More st) z t a = DeclAt z st a
DeclSaid (Done d) z t a = IsDecl d z (t ∷ a)
DeclSaid Bad z t a = Unit {0}

one_more : {d : Decl} {z : List Terminal} (v : ℕ) (t : IntTy) (s u r : Span) {a : List Terminal} → IsDecl d z (mark m.OpenBracket s ∷ number v t u ∷ mark m.CloseBracket r ∷ a) →
    IsDecl (decl d.stars d.name (d.lengths ++ literal v t u ∷ [])) z a
one_more v t s u r (declared d e) = declared d (length e)

stars_mark_said : (k : Mark) (s : Span) (ss : List Span) {z a : List Terminal} → IsStars ss z (mark k s ∷ a) → DeclSaid (star_or_bad k s ss) z (mark k s) a
stars_mark_said m.Star s ss d = at_stars (star d)
stars_mark_said _ s ss d = tt

stars_said : (k : Sort) (s : Span) (ss : List Span) {z a : List Terminal} → IsStars ss z (term k s ∷ a) → DeclSaid (decl_stars_step k s ss) z (term k s) a
stars_said (sort.Name x) s ss d = at_named (declared d no_lengths)
stars_said (sort.Mark k) s ss d = stars_mark_said k s ss d
stars_said (sort.Word v) s ss d = tt
stars_said (sort.Number v t) s ss d = tt
stars_said (sort.Char c) s ss d = tt
stars_said (sort.Text x) s ss d = tt
stars_said sort.Unknown s ss d = tt

named_mark_said : (k : Mark) (s : Span) (y : Decl) {z a : List Terminal} → IsDecl y z (mark k s ∷ a) → DeclSaid (open_or_done k y) z (mark k s) a
named_mark_said m.OpenBracket s y d = at_length s d
named_mark_said _ s y d = d

named_said : (k : Sort) (s : Span) (y : Decl) {z a : List Terminal} → IsDecl y z (term k s ∷ a) → DeclSaid (named_step k y) z (term k s) a
named_said (sort.Mark k) s y d = named_mark_said k s y d
named_said (sort.Name x) s y d = d
named_said (sort.Word v) s y d = d
named_said (sort.Number v t) s y d = d
named_said (sort.Char c) s y d = d
named_said (sort.Text x) s y d = d
named_said sort.Unknown s y d = d

length_said : (k : Sort) (s u : Span) (y : Decl) {z a : List Terminal} → IsDecl y z (mark m.OpenBracket u ∷ term k s ∷ a) → DeclSaid (length_step k s y) z (term k s) a
length_said (sort.Number v t) s u y d = at_closing u s d
length_said (sort.Mark k) s u y d = tt
length_said (sort.Name x) s u y d = tt
length_said (sort.Word v) s u y d = tt
length_said (sort.Char c) s u y d = tt
length_said (sort.Text x) s u y d = tt
length_said sort.Unknown s u y d = tt

closing_mark_said : (k : Mark) (v : ℕ) (t : IntTy) (s u r : Span) {y : Decl} {z a : List Terminal} → IsDecl y z (mark m.OpenBracket s ∷ number v t u ∷ mark k r ∷ a) →
    DeclSaid (close_or_bad k (decl y.stars y.name (y.lengths ++ literal v t u ∷ []))) z (mark k r) a
closing_mark_said m.CloseBracket v t s u r d = at_named (one_more v t s u r d)
closing_mark_said _ v t s u r d = tt

closing_said : (k : Sort) (v : ℕ) (t : IntTy) (s u r : Span) {y : Decl} {z a : List Terminal} → IsDecl y z (mark m.OpenBracket s ∷ number v t u ∷ term k r ∷ a) →
    DeclSaid (closing_step k (decl y.stars y.name (y.lengths ++ literal v t u ∷ []))) z (term k r) a
closing_said (sort.Mark k) v t s u r d = closing_mark_said k v t s u r d
closing_said (sort.Number n i) v t s u r d = tt
closing_said (sort.Name x) v t s u r d = tt
closing_said (sort.Word n) v t s u r d = tt
closing_said (sort.Char c) v t s u r d = tt
closing_said (sort.Text x) v t s u r d = tt
closing_said sort.Unknown v t s u r d = tt

pub decl_said : (t : Terminal) {st : DeclState} {z a : List Terminal} → DeclAt z st (t ∷ a) → DeclSaid (decl_step t st) z t a
decl_said t (at_stars {ss = ss} d) = stars_said t.sort t.span ss d
decl_said t (at_named {d = y} d) = named_said t.sort t.span y d
decl_said t (at_length {d = y} s d) = length_said t.sort t.span s y d
decl_said t (at_closing {v = v} {t = i} s u d) = closing_said t.sort v i s u t.span d

-- from stars that began at z on
pub decl_at : {ss : List Span} {z y : List Terminal} → IsStars ss z y → {st : DeclState} {a : List Terminal} → Came decl_step (Stars ss) y st a → DeclAt z st a
decl_at d begun = at_stars d
decl_at {z = z} d {a = a} (taken {t = t} c e) = subst (λ v. DeclSaid v z t a) e (decl_said t (decl_at d c))

pub decl_sound : {ss : List Span} {z y : List Terminal} → IsStars ss z y → (st : DeclState) (d : Decl) (t : Terminal) (a : List Terminal) → Came decl_step (Stars ss) y st (t ∷ a) →
    decl_step t st ≡ Done d → IsDecl d z (t ∷ a)
decl_sound {z = z} i st d t a c e = subst (λ v. DeclSaid v z t a) e (decl_said t (decl_at i c))

typed_from : {n : TypeName} {z c : List Terminal} → IsTypeName n z c → (st : DeclState) (d : Decl) (t : Terminal) (a : List Terminal) → Came decl_step (Stars n.stars) c st (t ∷ a) →
    decl_step t st ≡ Done d → IsTypedDecl n.base d z (t ∷ a)
typed_from (type_named f i) st d t a c e = typed f (decl_sound i st d t a c e)

pub typed_sound : (y : Base) (ss : List Span) (d : Decl) (x : TypeState) (st : DeclState) (t u : Terminal) (z a b : List Terminal) → Came type_step Opening z x (t ∷ a) → type_step t x ≡ Done (type_name y ss) →
    Came decl_step (Stars ss) (t ∷ a) st (u ∷ b) → decl_step u st ≡ Done d → IsTypedDecl y d z (u ∷ b)
typed_sound y ss d x st t u z a b c e c' e' = typed_from (type_sound x (type_name y ss) t z a c e) st d u b c' e'

-- ---- what was read can be completed

named_ends : (d : Decl) (t : Terminal) → EndsDecl t.sort → CanEnd DeclState Decl decl_step (Named d) t
named_ends d t h = ends_now decl_step (Named d) t d (named_stops d t.sort h)

closing_ends : (d : Decl) (t : Terminal) → EndsDecl t.sort → CanEnd DeclState Decl decl_step (Closing d) t
closing_ends d t h = ends_after decl_step (mark m.CloseBracket somewhere) (Closing d) (Named d) t refl (named_ends d t h)

pub decl_ends : (st : DeclState) (t : Terminal) → EndsDecl t.sort → CanEnd DeclState Decl decl_step st t
decl_ends (Stars ss) t h =
    let d = decl ss (name_of [] somewhere) [] in ends_after decl_step (named [] somewhere) (Stars ss) (Named d) t refl (named_ends d t h)
decl_ends (Named d) t h = named_ends d t h
decl_ends (Length d) t h =
    let y = decl d.stars d.name (d.lengths ++ literal 1 I32 somewhere ∷ []) in
    ends_after decl_step (number 1 I32 somewhere) (Length d) (Closing y) t refl (closing_ends y t h)
decl_ends (Closing d) t h = closing_ends d t h
