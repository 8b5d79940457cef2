-- What the machine of parameters reads is what the grammar has.
use Rattle.std.proofs.Common.{◌≡◌, Bool, true, false, cond, List, [], ◌∷◌, ◌++◌, Some, None, refl, sym, ap, ◌∙◌, subst}
use Rattle.c_types.specs.declared.types.Span.{Span}
use Rattle.c_tree.specs.declared.expressions.Base.{Base}
use Rattle.c_tree.specs.declared.expressions.Base.TheVariants as base
use Rattle.c_tree.specs.declared.expressions.TypeName.{TypeName}
use Rattle.c_tree.specs.declared.declarations.Param.{Param}
use Rattle.c_tree.specs.declared.declarations.Params.{Params}
use Rattle.c_lex.specs.declared.words.Word.TheVariants as w
use Rattle.c_lex.specs.declared.marks.Mark.{Mark}
use Rattle.c_lex.specs.declared.marks.Mark.TheVariants as m
use Rattle.parse_terms.specs.declared.answer.Answer.{Answer}
use Rattle.parse_terms.specs.declared.answer.Answer.TheVariants.{More, Done, Bad}
use Rattle.parse_terms.specs.declared.terminal.Sort.{Sort}
use Rattle.parse_terms.specs.declared.terminal.Sort.TheVariants as sort
use Rattle.parse_terms.specs.declared.terminal.Terminal.{Terminal}
use Rattle.parse_terms.specs.declared.types.TypeState.{TypeState}
use Rattle.parse_terms.specs.declared.types.TypeState.TheVariants as type_state
use Rattle.parse_terms.specs.Terminals.{term, word, mark, named, name_of}
use Rattle.parse_terms.specs.Integers.{IsInt, plain, with_signed, with_unsigned, signed, unsigned, IsWidth, char, short, short_int, int, long_long, long_long_int}
use Rattle.parse_terms.specs.TypeNames.{IsBase, void, integer, tagged, typedef, no_stars, star, IsTypeName, type_named, type_step, Stops}
use Rattle.parse_terms.specs.Runs.{Outcome, Finished, after, run, Came, begun, taken}
use Rattle.parse_terms.proofs.RunLaws.{lifted, hosted}
use Rattle.parse_terms.proofs.TypeLaws.{type_complete, TypeAt, TypeSaid, type_said}
use Rattle.parse_decl.specs.declared.params.ParamsState.{ParamsState}
use Rattle.parse_decl.specs.declared.params.ParamsState.TheVariants.{Opening, Typing, Behind, Comma, Ending}
use Rattle.parse_decl.specs.Ends.{CanEnd}
use Rattle.parse_decl.specs.Params.{param, params, IsParam, unnamed, with_name, IsParamList, first_param, next_param, is_void, none_of, no_items, void_alone, IsParams, no_params, only_void, listed, variadic, closed, behind_mark, behind_step, typed_step, typing_of, typing_step, opening_mark, opening_at, comma_mark, comma_at, ending_mark, ending_step, params_step}
use Rattle.parse_decl.proofs.EndLaws.{somewhere, ends_now, ends_after, ends_with, type_ends}

-- ---- the tokens that a type begins with

abbrev pub BeginsType : Sort → Type 0
BeginsType (sort.Name x) = Unit {0}
BeginsType (sort.Word v) = Unit {0}
BeginsType _ = ⊥

pub record TypeBegins (a : List Terminal) : Type 0 where
  pub first : Terminal
  pub others : List Terminal
  pub is : a ≡ first ∷ others
  pub begins : BeginsType first.sort

width_begins : {v : _} {s : Span} {a b : List Terminal} → IsWidth v s a b → TypeBegins a
width_begins (char {s = s} {a = a}) = record { first = word w.Char s; others = a; is = refl; begins = tt }
width_begins (short {s = s} {a = a}) = record { first = word w.Short s; others = a; is = refl; begins = tt }
width_begins (short_int {s = s} {t = t} {a = a}) = record { first = word w.Short s; others = word w.Int t ∷ a; is = refl; begins = tt }
width_begins (int {s = s} {a = a}) = record { first = word w.Int s; others = a; is = refl; begins = tt }
width_begins (long_long {s = s} {t = t} {a = a}) = record { first = word w.Long s; others = word w.Long t ∷ a; is = refl; begins = tt }
width_begins (long_long_int {s = s} {t = t} {u = u} {a = a}) = record { first = word w.Long s; others = word w.Long t ∷ word w.Int u ∷ a; is = refl; begins = tt }

int_begins : {i : _} {s : Span} {a b : List Terminal} → IsInt i s a b → TypeBegins a
int_begins (plain d) = width_begins d
int_begins (with_signed {s = s} {a = a} d) = record { first = word w.Signed s; others = a; is = refl; begins = tt }
int_begins (with_unsigned {s = s} {a = a} d) = record { first = word w.Unsigned s; others = a; is = refl; begins = tt }
int_begins (signed {s = s} {a = a}) = record { first = word w.Signed s; others = a; is = refl; begins = tt }
int_begins (unsigned {s = s} {a = a}) = record { first = word w.Unsigned s; others = a; is = refl; begins = tt }

pub base_begins : {y : Base} {a b : List Terminal} → IsBase y a b → TypeBegins a
base_begins (void {s = s} {a = a}) = record { first = word w.Void s; others = a; is = refl; begins = tt }
base_begins (integer d) = int_begins d
base_begins (tagged {x = x} {s = s} {t = t} {a = a}) = record { first = word w.Struct s; others = named x t ∷ a; is = refl; begins = tt }
base_begins (typedef {x = x} {s = s} {a = a}) = record { first = named x s; others = a; is = refl; begins = tt }

pub type_begins : {n : TypeName} {a b : List Terminal} → IsTypeName n a b → TypeBegins a
type_begins (type_named d e) = base_begins d

param_begins : {p : Param} {a b : List Terminal} → IsParam p a b → TypeBegins a
param_begins (unnamed d) = type_begins d
param_begins (with_name d) = type_begins d

-- ---- what is in the grammar is read

abbrev go : List Terminal → ParamsState → Outcome ParamsState Params
go = run params_step

opening_begins : (k : Sort) (t : Terminal) → BeginsType k → opening_at k t ≡ typing_step t [] type_state.Opening
opening_begins (sort.Name x) t h = refl
opening_begins (sort.Word v) t h = refl
opening_begins _ t h = absurd h

comma_begins : (k : Sort) (t : Terminal) (ps : List Param) → BeginsType k → comma_at k t ps ≡ typing_step t ps type_state.Opening
comma_begins (sort.Name x) t ps h = refl
comma_begins (sort.Word v) t ps h = refl
comma_begins _ t ps h = absurd h

opening_run : {a : List Terminal} → TypeBegins a → go a Opening ≡ go a (Typing [] type_state.Opening)
opening_run {a} f =
    ap (λ l. go l Opening) f.is ∙ ap (λ v. after v (go f.others) (f.first ∷ f.others)) (opening_begins f.first.sort f.first f.begins)
    ∙ sym (ap (λ l. go l (Typing [] type_state.Opening)) f.is)

comma_run : (ps : List Param) {a : List Terminal} → TypeBegins a → go a (Comma ps) ≡ go a (Typing ps type_state.Opening)
comma_run ps {a} f =
    ap (λ l. go l (Comma ps)) f.is ∙ ap (λ v. after v (go f.others) (f.first ∷ f.others)) (comma_begins f.first.sort f.first ps f.begins)
    ∙ sym (ap (λ l. go l (Typing ps type_state.Opening)) f.is)

typing_said : (ps : List Param) (t : Terminal) (v : Answer TypeState TypeName) →
    typing_of t.sort t.span ps v ≡ lifted type_step params_step (Typing ps) (λ n k. typed_step k.sort k.span ps n) t v
typing_said ps t (More x) = refl
typing_said ps t (Done n) = refl
typing_said ps t Bad = refl

-- the tokens that may stand behind a parameter
abbrev Follows : Sort → Type 0
Follows (sort.Mark m.Comma) = Unit {0}
Follows (sort.Mark m.CloseParen) = Unit {0}
Follows _ = ⊥

follows_stops : (k : Sort) → Follows k → Stops k
follows_stops (sort.Mark m.Comma) h = tt
follows_stops (sort.Mark m.CloseParen) h = tt
follows_stops _ h = absurd h

unnamed_typed : (k : Sort) (s : Span) (ps : List Param) (n : TypeName) → Follows k → typed_step k s ps n ≡ behind_step k (ps ++ param n None ∷ [])
unnamed_typed (sort.Mark m.Comma) s ps n h = refl
unnamed_typed (sort.Mark m.CloseParen) s ps n h = refl
unnamed_typed _ s ps n h = absurd h

type_lands : (ps : List Param) {n : TypeName} {a c : List Terminal} (t : Terminal) (b : List Terminal) → c ≡ t ∷ b → IsTypeName n a c → Stops t.sort →
    go a (Typing ps type_state.Opening) ≡ after (typed_step t.sort t.span ps n) (go b) (t ∷ b)
type_lands ps {n} {a} t b q d h =
    hosted type_step params_step (Typing ps) (λ n k. typed_step k.sort k.span ps n) (λ k x. typing_said ps k (type_step k x)) a type_state.Opening n t b (type_complete t b q d h)

param_lands : (ps : List Param) {p : Param} {a c : List Terminal} (t : Terminal) (b : List Terminal) → c ≡ t ∷ b → IsParam p a c → Follows t.sort →
    go a (Typing ps type_state.Opening) ≡ after (behind_step t.sort (ps ++ p ∷ [])) (go b) (t ∷ b)
param_lands ps t b q (unnamed {n = n} d) h = type_lands ps t b q d (follows_stops t.sort h) ∙ ap (λ v. after v (go b) (t ∷ b)) (unnamed_typed t.sort t.span ps n h)
param_lands ps t b q (with_name {n = n} {x = x} {s = s} {b = c} d) h =
    type_lands ps (named x s) c refl d tt ∙ ap (λ l. go l (Behind (ps ++ param n (Some (name_of x s)) ∷ []))) q

list_lands : {ps : List Param} {a c : List Terminal} (t : Terminal) (b : List Terminal) → c ≡ t ∷ b → IsParamList ps a c → Follows t.sort →
    go a Opening ≡ after (behind_step t.sort ps) (go b) (t ∷ b)
list_lands t b q (first_param d) h = opening_run (param_begins d) ∙ param_lands [] t b q d h
list_lands t b q (next_param {ps = ps} {s = s} {b = c} e d) h =
    list_lands (mark m.Comma s) c refl e tt ∙ comma_run ps (param_begins d) ∙ param_lands ps t b q d h

pub params_complete : {ps : Params} {a c : List Terminal} (s : Span) (b : List Terminal) → c ≡ mark m.CloseParen s ∷ b → IsParams ps a c → run params_step a Opening ≡ Finished ps (mark m.CloseParen s ∷ b)
params_complete s b q no_params = ap (λ l. go l Opening) q
params_complete s b q (only_void {s = u}) = ap (λ l. go l (Typing [] (type_state.Stars (base.Void u) []))) q
params_complete s b q (listed {ps = ps} d h) =
    list_lands (mark m.CloseParen s) b q d tt ∙ ap (λ v. Finished (params (cond v [] ps) None) (mark m.CloseParen s ∷ b)) h
params_complete s b q (variadic {ps = ps} {s = u} {u = v} {b = c} d) =
    list_lands (mark m.Comma u) (mark m.Ellipsis v ∷ c) refl d tt ∙ ap (λ l. go l (Ending ps v)) q

-- ---- what is read is in the grammar

-- the state of parameters that began at z is at a
pub data ParamsAt (z : List Terminal) : ParamsState → List Terminal → Type 0 where
  at_opening : ParamsAt z Opening z
  at_first : {x : TypeState} {a : List Terminal} → TypeAt x z a → ParamsAt z (Typing [] x) a
  at_typing : {ps : List Param} {x : TypeState} {a c : List Terminal} (s : Span) → IsParamList ps z (mark m.Comma s ∷ c) → TypeAt x c a → ParamsAt z (Typing ps x) a
  at_behind : {ps : List Param} {a : List Terminal} → IsParamList ps z a → ParamsAt z (Behind ps) a
  at_comma : {ps : List Param} {a : List Terminal} (s : Span) → IsParamList ps z (mark m.Comma s ∷ a) → ParamsAt z (Comma ps) a
  at_ending : {ps : List Param} {a : List Terminal} (s u : Span) → IsParamList ps z (mark m.Comma s ∷ mark m.Ellipsis u ∷ a) → ParamsAt z (Ending ps u) a

abbrev pub ParamsSaid : Answer ParamsState Params → List Terminal → Terminal → List Terminal → Type 0
ParamsSaid (More st) z t a = ParamsAt z st a
ParamsSaid (Done ps) z t a = IsParams ps z (t ∷ a)
ParamsSaid Bad z t a = Unit {0}

false_true : false ≡ true → ⊥
false_true e = cc

-- `void` alone is the list of none
type_of_param : {p : Param} {a b : List Terminal} → IsParam p a b → is_void p.base ≡ true → no_items p.stars ≡ true → none_of p.name ≡ true → IsParams (params [] None) a b
type_of_param (unnamed (type_named void no_stars)) h i j = only_void
type_of_param (unnamed (type_named void (star {ss = ss} {s = s} e))) h i j = absurd (starred ss i)
  where
    starred : (ss : List Span) → no_items (ss ++ s ∷ []) ≡ true → ⊥
    starred [] e = false_true e
    starred (x ∷ ss) e = false_true e
type_of_param (unnamed (type_named (integer d) e)) h i j = absurd (false_true h)
type_of_param (unnamed (type_named tagged e)) h i j = absurd (false_true h)
type_of_param (unnamed (type_named typedef e)) h i j = absurd (false_true h)
type_of_param (with_name d) h i j = absurd (false_true j)

both_true : (x y z w : Bool) → cond x (cond y (cond z w false) false) false ≡ true → (x ≡ true) × (y ≡ true) × (z ≡ true) × (w ≡ true)
both_true true true true true e = (refl, refl, refl, refl)
both_true true true true false e = absurd (false_true e)
both_true true true false w e = absurd (false_true e)
both_true true false z w e = absurd (false_true e)
both_true false y z w e = absurd (false_true e)

two_items : {A : Type 0} (xs : List A) (x : A) → no_items (xs ++ x ∷ []) ≡ true → ⊥
two_items [] x e = false_true e
two_items (y ∷ xs) x e = false_true e

two_params : {ps : List Param} {a b : List Terminal} → IsParamList ps a b → (p : Param) → void_alone (ps ++ p ∷ []) ≡ true → ⊥
two_params (first_param {p = q} d) p e = let h = both_true (is_void q.base) (no_items q.stars) (none_of q.name) false e in false_true h.3
two_params (next_param {ps = ps} {p = q} d x) p e = at ps e
  where
    at : (ps : List Param) → void_alone ((ps ++ q ∷ []) ++ p ∷ []) ≡ true → ⊥
    at [] e = let h = both_true (is_void q.base) (no_items q.stars) (none_of q.name) false e in false_true h.3
    at (y ∷ ps) e = let h = both_true (is_void y.base) (no_items y.stars) (none_of y.name) (no_items ((ps ++ q ∷ []) ++ p ∷ [])) e in two_items (ps ++ q ∷ []) p h.3

alone_is : {ps : List Param} {a b : List Terminal} → IsParamList ps a b → void_alone ps ≡ true → IsParams (params [] None) a b
alone_is (first_param {p = p} d) e = let h = both_true (is_void p.base) (no_items p.stars) (none_of p.name) true e in type_of_param d h.0 h.1 h.2
alone_is (next_param {p = p} d x) e = absurd (two_params d p e)

closed_is : {ps : List Param} {a b : List Terminal} → IsParamList ps a b → IsParams (closed ps) a b
closed_is {ps} {a} {b} d = at (void_alone ps) refl
  where
    at : (v : Bool) → void_alone ps ≡ v → IsParams (params (cond v [] ps) None) a b
    at true e = alone_is d e
    at false e = listed d e

behind_mark_said : (k : Mark) (s : Span) (ps : List Param) {z a : List Terminal} → IsParamList ps z (mark k s ∷ a) → ParamsSaid (behind_mark k ps) z (mark k s) a
behind_mark_said m.Comma s ps d = at_comma s d
behind_mark_said m.CloseParen s ps d = closed_is d
behind_mark_said _ s ps d = tt

behind_said : (k : Sort) (s : Span) (ps : List Param) {z a : List Terminal} → IsParamList ps z (term k s ∷ a) → ParamsSaid (behind_step k ps) z (term k s) a
behind_said (sort.Mark k) s ps d = behind_mark_said k s ps d
behind_said (sort.Name x) s ps d = tt
behind_said (sort.Word v) s ps d = tt
behind_said (sort.Number v t) s ps d = tt
behind_said (sort.Char c) s ps d = tt
behind_said (sort.Text x) s ps d = tt
behind_said sort.Unknown s ps d = tt

-- the parameters before one that begins at c
pub data Before (z : List Terminal) : List Param → List Terminal → Type 0 where
  before_first : Before z [] z
  before_next : {ps : List Param} {c : List Terminal} (s : Span) → IsParamList ps z (mark m.Comma s ∷ c) → Before z ps c

with_param : {z : List Terminal} {ps : List Param} {c : List Terminal} → Before z ps c → {p : Param} {a : List Terminal} → IsParam p c a → IsParamList (ps ++ p ∷ []) z a
with_param before_first d = first_param d
with_param (before_next s e) d = next_param e d

in_type : {z : List Terminal} {ps : List Param} {c : List Terminal} → Before z ps c → {x : TypeState} {a : List Terminal} → TypeAt x c a → ParamsAt z (Typing ps x) a
in_type before_first d = at_first d
in_type (before_next s e) d = at_typing s e d

typed_said : (k : Sort) (s : Span) {z : List Terminal} {ps : List Param} {c : List Terminal} → Before z ps c → (n : TypeName) {a : List Terminal} → IsTypeName n c (term k s ∷ a) →
    ParamsSaid (typed_step k s ps n) z (term k s) a
typed_said (sort.Name x) s f n d = at_behind (with_param f (with_name d))
typed_said (sort.Mark k) s {ps = ps} f n d = behind_said (sort.Mark k) s (ps ++ param n None ∷ []) (with_param f (unnamed d))
typed_said (sort.Word v) s f n d = tt
typed_said (sort.Number v t) s f n d = tt
typed_said (sort.Char c) s f n d = tt
typed_said (sort.Text x) s f n d = tt
typed_said sort.Unknown s f n d = tt

typing_is : (t : Terminal) {z : List Terminal} {ps : List Param} {c : List Terminal} → Before z ps c → (v : Answer TypeState TypeName) (a : List Terminal) → TypeSaid v c t a →
    ParamsSaid (typing_of t.sort t.span ps v) z t a
typing_is t f (More x) a d = in_type f d
typing_is t f (Done n) a d = typed_said t.sort t.span f n d
typing_is t f Bad a d = tt

typing_step_said : (t : Terminal) {z : List Terminal} {ps : List Param} {c : List Terminal} → Before z ps c → (x : TypeState) (a : List Terminal) → TypeAt x c (t ∷ a) → ParamsSaid (typing_step t ps x) z t a
typing_step_said t {c = c} f x a d = typing_is t f (type_step t x) a (type_said t x c a d)

opening_mark_said : (k : Mark) (s : Span) (a : List Terminal) → ParamsSaid (opening_mark k) (mark k s ∷ a) (mark k s) a
opening_mark_said m.CloseParen s a = no_params
opening_mark_said _ s a = tt

opening_said : (k : Sort) (s : Span) (a : List Terminal) → ParamsSaid (opening_at k (term k s)) (term k s ∷ a) (term k s) a
opening_said (sort.Mark k) s a = opening_mark_said k s a
opening_said (sort.Name x) s a = typing_step_said (named x s) before_first type_state.Opening a refl
opening_said (sort.Word v) s a = typing_step_said (word v s) before_first type_state.Opening a refl
opening_said (sort.Number v t) s a = typing_step_said (term (sort.Number v t) s) before_first type_state.Opening a refl
opening_said (sort.Char c) s a = typing_step_said (term (sort.Char c) s) before_first type_state.Opening a refl
opening_said (sort.Text x) s a = typing_step_said (term (sort.Text x) s) before_first type_state.Opening a refl
opening_said sort.Unknown s a = typing_step_said (term sort.Unknown s) before_first type_state.Opening a refl

comma_mark_said : (k : Mark) (s u : Span) {ps : List Param} {z a : List Terminal} → IsParamList ps z (mark m.Comma u ∷ mark k s ∷ a) → ParamsSaid (comma_mark k s ps) z (mark k s) a
comma_mark_said m.Ellipsis s u d = at_ending u s d
comma_mark_said _ s u d = tt

comma_said : (k : Sort) (s u : Span) {ps : List Param} {z a : List Terminal} → IsParamList ps z (mark m.Comma u ∷ term k s ∷ a) → ParamsSaid (comma_at k (term k s) ps) z (term k s) a
comma_said (sort.Mark k) s u {a = a} d = comma_mark_said k s u d
comma_said (sort.Name x) s u {a = a} d = typing_step_said (named x s) (before_next u d) type_state.Opening a refl
comma_said (sort.Word v) s u {a = a} d = typing_step_said (word v s) (before_next u d) type_state.Opening a refl
comma_said (sort.Number v t) s u {a = a} d = typing_step_said (term (sort.Number v t) s) (before_next u d) type_state.Opening a refl
comma_said (sort.Char c) s u {a = a} d = typing_step_said (term (sort.Char c) s) (before_next u d) type_state.Opening a refl
comma_said (sort.Text x) s u {a = a} d = typing_step_said (term (sort.Text x) s) (before_next u d) type_state.Opening a refl
comma_said sort.Unknown s u {a = a} d = typing_step_said (term sort.Unknown s) (before_next u d) type_state.Opening a refl

ending_mark_said : (k : Mark) (s u v : Span) {ps : List Param} {z a : List Terminal} → IsParamList ps z (mark m.Comma u ∷ mark m.Ellipsis v ∷ mark k s ∷ a) → ParamsSaid (ending_mark k v ps) z (mark k s) a
ending_mark_said m.CloseParen s u v d = variadic d
ending_mark_said _ s u v d = tt

ending_said : (k : Sort) (s u v : Span) {ps : List Param} {z a : List Terminal} → IsParamList ps z (mark m.Comma u ∷ mark m.Ellipsis v ∷ term k s ∷ a) → ParamsSaid (ending_step k v ps) z (term k s) a
ending_said (sort.Mark k) s u v d = ending_mark_said k s u v d
ending_said (sort.Name x) s u v d = tt
ending_said (sort.Word y) s u v d = tt
ending_said (sort.Number y t) s u v d = tt
ending_said (sort.Char c) s u v d = tt
ending_said (sort.Text x) s u v d = tt
ending_said sort.Unknown s u v d = tt

pub params_said : (t : Terminal) {st : ParamsState} {z a : List Terminal} → ParamsAt z st (t ∷ a) → ParamsSaid (params_step t st) z t a
params_said t {a = a} at_opening = opening_said t.sort t.span a
params_said t {a = a} (at_first {x = x} d) = typing_step_said t before_first x a d
params_said t {a = a} (at_typing {x = x} s e d) = typing_step_said t (before_next s e) x a d
params_said t (at_behind {ps = ps} d) = behind_said t.sort t.span ps d
params_said t (at_comma s d) = comma_said t.sort t.span s d
params_said t (at_ending s u d) = ending_said t.sort t.span s u d

pub params_at : {z : List Terminal} {st : ParamsState} {a : List Terminal} → Came params_step Opening z st a → ParamsAt z st a
params_at begun = at_opening
params_at {z} {a = a} (taken {t = t} c e) = subst (λ v. ParamsSaid v z t a) e (params_said t (params_at c))

pub params_sound : (ps : Params) (st : ParamsState) (t : Terminal) (z a : List Terminal) → Came params_step Opening z st (t ∷ a) → params_step t st ≡ Done ps → IsParams ps z (t ∷ a)
params_sound ps st t z a c e = subst (λ v. ParamsSaid v z t a) e (params_said t (params_at c))

-- ---- it is over at ) alone

abbrev EndsThere : Answer ParamsState Params → Sort → Type 0
EndsThere (Done ps) k = k ≡ sort.Mark m.CloseParen
EndsThere (More st) k = Unit {0}
EndsThere Bad k = Unit {0}

behind_mark_end : (k : Mark) (ps : List Param) → EndsThere (behind_mark k ps) (sort.Mark k)
behind_mark_end m.CloseParen ps = refl
behind_mark_end m.Comma ps = tt
behind_mark_end _ ps = tt

behind_end : (k : Sort) (ps : List Param) → EndsThere (behind_step k ps) k
behind_end (sort.Mark k) ps = behind_mark_end k ps
behind_end (sort.Name x) ps = tt
behind_end (sort.Word y) ps = tt
behind_end (sort.Number y t) ps = tt
behind_end (sort.Char c) ps = tt
behind_end (sort.Text x) ps = tt
behind_end sort.Unknown ps = tt

typed_end : (k : Sort) (s : Span) (ps : List Param) (n : TypeName) → EndsThere (typed_step k s ps n) k
typed_end (sort.Name x) s ps n = tt
typed_end (sort.Mark k) s ps n = behind_mark_end k (ps ++ param n None ∷ [])
typed_end (sort.Word y) s ps n = tt
typed_end (sort.Number y t) s ps n = tt
typed_end (sort.Char c) s ps n = tt
typed_end (sort.Text x) s ps n = tt
typed_end sort.Unknown s ps n = tt

typing_end : (k : Sort) (s : Span) (ps : List Param) (v : Answer TypeState TypeName) → EndsThere (typing_of k s ps v) k
typing_end k s ps (More x) = tt
typing_end k s ps (Done n) = typed_end k s ps n
typing_end k s ps Bad = tt

opening_mark_end : (k : Mark) → EndsThere (opening_mark k) (sort.Mark k)
opening_mark_end m.CloseParen = refl
opening_mark_end _ = tt

opening_end : (k : Sort) (t : Terminal) → k ≡ t.sort → EndsThere (opening_at k t) k
opening_end (sort.Mark k) t q = opening_mark_end k
opening_end k t q = subst (λ y. EndsThere (typing_step t [] type_state.Opening) y) (sym q) (typing_end t.sort t.span [] (type_step t type_state.Opening))

comma_mark_end : (k : Mark) (s : Span) (ps : List Param) → EndsThere (comma_mark k s ps) (sort.Mark k)
comma_mark_end m.Ellipsis s ps = tt
comma_mark_end _ s ps = tt

comma_end : (k : Sort) (t : Terminal) (ps : List Param) → k ≡ t.sort → EndsThere (comma_at k t ps) k
comma_end (sort.Mark k) t ps q = comma_mark_end k t.span ps
comma_end k t ps q = subst (λ y. EndsThere (typing_step t ps type_state.Opening) y) (sym q) (typing_end t.sort t.span ps (type_step t type_state.Opening))

ending_mark_end : (k : Mark) (s : Span) (ps : List Param) → EndsThere (ending_mark k s ps) (sort.Mark k)
ending_mark_end m.CloseParen s ps = refl
ending_mark_end _ s ps = tt

ending_end : (k : Sort) (s : Span) (ps : List Param) → EndsThere (ending_step k s ps) k
ending_end (sort.Mark k) s ps = ending_mark_end k s ps
ending_end (sort.Name x) s ps = tt
ending_end (sort.Word y) s ps = tt
ending_end (sort.Number y t) s ps = tt
ending_end (sort.Char c) s ps = tt
ending_end (sort.Text x) s ps = tt
ending_end sort.Unknown s ps = tt

step_end : (t : Terminal) (st : ParamsState) → EndsThere (params_step t st) t.sort
step_end t Opening = opening_end t.sort t refl
step_end t (Typing ps x) = typing_end t.sort t.span ps (type_step t x)
step_end t (Behind ps) = behind_end t.sort ps
step_end t (Comma ps) = comma_end t.sort t ps refl
step_end t (Ending ps u) = ending_end t.sort u ps

pub params_end : (ps : Params) (st : ParamsState) (t : Terminal) → params_step t st ≡ Done ps → t.sort ≡ sort.Mark m.CloseParen
params_end ps st t e = subst (λ v. EndsThere v t.sort) e (step_end t st)

-- ---- what was read can be completed

behind_ends : (ps : List Param) (s : Span) → CanEnd ParamsState Params params_step (Behind ps) (mark m.CloseParen s)
behind_ends ps s = ends_now params_step (Behind ps) (mark m.CloseParen s) (closed ps) refl

typing_ends : (ps : List Param) (x : TypeState) (s : Span) → CanEnd ParamsState Params params_step (Typing ps x) (mark m.CloseParen s)
typing_ends ps x s =
    let c = type_ends x (mark m.CloseParen s) tt in
    ends_with type_step params_step (Typing ps) (λ n k. typed_step k.sort k.span ps n) (λ k y. typing_said ps k (type_step k y)) x (mark m.CloseParen s) c (closed (ps ++ param c.part_of None ∷ [])) refl

pub params_ends : (st : ParamsState) (s : Span) → CanEnd ParamsState Params params_step st (mark m.CloseParen s)
params_ends Opening s = ends_now params_step Opening (mark m.CloseParen s) (params [] None) refl
params_ends (Typing ps x) s = typing_ends ps x s
params_ends (Behind ps) s = behind_ends ps s
params_ends (Comma ps) s =
    ends_after params_step (mark m.Ellipsis somewhere) (Comma ps) (Ending ps somewhere) (mark m.CloseParen s) refl
    (ends_now params_step (Ending ps somewhere) (mark m.CloseParen s) (params ps (Some somewhere)) refl)
params_ends (Ending ps u) s = ends_now params_step (Ending ps u) (mark m.CloseParen s) (params ps (Some u)) refl
