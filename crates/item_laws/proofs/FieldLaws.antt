-- What the machine of fields reads is what the grammar has.
use Rattle.std.proofs.Common.{◌≡◌, ℕ, Bool, true, false, cond, List, [], ◌∷◌, ◌++◌, refl, sym, ap, ◌∙◌, subst}
use Rattle.c_types.specs.declared.types.Span.{Span}
use Rattle.c_tree.specs.declared.expressions.Base.{Base}
use Rattle.c_tree.specs.declared.expressions.TypeName.{TypeName}
use Rattle.c_tree.specs.declared.declarations.Decl.{Decl}
use Rattle.c_tree.specs.declared.declarations.Field.{Field}
use Rattle.c_lex.specs.declared.words.Word.TheVariants as w
use Rattle.c_lex.specs.declared.marks.Mark.{Mark}
use Rattle.c_lex.specs.declared.marks.Mark.TheVariants as m
use Rattle.parse_terms.specs.declared.answer.Answer.{Answer}
use Rattle.parse_terms.specs.declared.answer.Answer.TheVariants.{More, Done, Bad}
use Rattle.parse_terms.specs.declared.terminal.Sort.{Sort}
use Rattle.parse_terms.specs.declared.terminal.Sort.TheVariants as sort
use Rattle.parse_terms.specs.declared.terminal.Terminal.{Terminal}
use Rattle.parse_terms.specs.declared.types.TypeState.{TypeState}
use Rattle.parse_terms.specs.declared.types.TypeState.TheVariants as type_state
use Rattle.parse_terms.specs.declared.integers.IntWords.TheVariants as int_words
use Rattle.c_types.specs.declared.types.IntTy.TheVariants.{I32}
use Rattle.parse_terms.specs.declared.declarators.DeclState.{DeclState}
use Rattle.parse_terms.specs.declared.declarators.DeclState.TheVariants as decl_state
use Rattle.parse_terms.specs.Terminals.{term, word, mark, named, name_of}
use Rattle.parse_terms.specs.Runs.{Outcome, Finished, after, run, Came, begun, taken}
use Rattle.parse_terms.specs.TypeNames.{IsBase, IsStars, no_stars, IsTypeName, type_named, type_step}
use Rattle.parse_terms.specs.Declarators.{IsDecl, decl_step}
use Rattle.parse_terms.proofs.RunLaws.{lifted, hosted}
use Rattle.parse_terms.proofs.TypeLaws.{type_sound}
use Rattle.parse_decl.specs.Ends.{CanEnd}
use Rattle.parse_decl.specs.TypedDecls.{EndsDecl}
use Rattle.parse_decl.specs.Params.{no_items as is_empty}
use Rattle.parse_decl.proofs.EndLaws.{somewhere, ends_now, ends_after, ends_hosted}
use Rattle.parse_decl.proofs.DeclLaws.{decl_complete, decl_sound, decl_ends}
use Rattle.parse_decl.proofs.ParamsLaws.{BeginsType, TypeBegins, base_begins}
use Rattle.parse_item.specs.declared.fields.FieldsState.{FieldsState}
use Rattle.parse_item.specs.declared.fields.FieldsState.TheVariants.{Between, Typing, Declaring}
use Rattle.parse_item.specs.ItemGrammar.{field_of, IsDecls, first_decl, next_decl, IsField, a_field, IsFields, first_field, next_field}
use Rattle.parse_item.specs.DeclarationMachines.{FieldsSaid, field_mark, field_end, field_declared, field_typed, begin_field, between_mark, between_step, fields_step}
use Rattle.item_laws.proofs.TypedLaws.{IsTyped, typed_lands, declarator_lands, type_goes_on}

abbrev go : List Terminal → FieldsState → Outcome FieldsState (List Field)
go = run fields_step

-- ---- what is in the grammar is read

-- where the declarators ds of a field come before
abbrev in_decl : List Field → List Decl → Base → DeclState → FieldsState
in_decl fs ds y x = Declaring fs y ds x

abbrev decl_over : List Field → List Decl → Base → Decl → Terminal → FieldsSaid
decl_over fs ds y d t = field_end t.sort fs y (ds ++ d ∷ [])

declared_said : (fs : List Field) (y : Base) (ds : List Decl) (t : Terminal) (v : Answer DeclState Decl) →
    field_declared t.sort fs y ds v ≡ lifted decl_step fields_step (λ x. Declaring fs y ds x) (decl_over fs ds y) t v
declared_said fs y ds t (More x) = refl
declared_said fs y ds t (Done d) = refl
declared_said fs y ds t Bad = refl

typed_said : (fs : List Field) (t : Terminal) (v : Answer TypeState TypeName) →
    field_typed t fs v ≡ lifted type_step fields_step (Typing fs) (λ n k. fields_step k (Declaring fs n.base [] (decl_state.Stars n.stars))) t v
typed_said fs t (More x) = refl
typed_said fs t (Done n) = refl
typed_said fs t Bad = refl

field_types : (fs : List Field) → IsTyped fields_step (Typing fs) (in_decl fs []) (decl_over fs [])
field_types fs = record { types = λ t x. typed_said fs t (type_step t x); declares = λ y t x. declared_said fs y [] t (decl_step t x) }

abbrev EndsField : Sort → Type 0
EndsField (sort.Mark m.Comma) = Unit {0}
EndsField (sort.Mark m.Semicolon) = Unit {0}
EndsField _ = ⊥

field_decl : (k : Sort) → EndsField k → EndsDecl k
field_decl (sort.Mark m.Comma) h = tt
field_decl (sort.Mark m.Semicolon) h = tt
field_decl _ h = absurd h

declarator_more : (fs : List Field) (y : Base) (ds : List Decl) {d : Decl} {c e : List Terminal} (t : Terminal) (b : List Terminal) → e ≡ t ∷ b → IsDecl d c e → EndsField t.sort →
    go c (Declaring fs y ds (decl_state.Stars [])) ≡ after (field_end t.sort fs y (ds ++ d ∷ [])) (go b) (t ∷ b)
declarator_more fs y ds {d} {c} t b q p h =
    hosted decl_step fields_step (λ x. Declaring fs y ds x) (decl_over fs ds y) (λ k x. declared_said fs y ds k (decl_step k x)) c (decl_state.Stars []) d t b
    (decl_complete t b q p (field_decl t.sort h))

decls_land : (fs : List Field) {y : Base} {ds : List Decl} {a c e : List Terminal} (t : Terminal) (b : List Terminal) → e ≡ t ∷ b → IsBase y a c → IsDecls ds c e → EndsField t.sort →
    go a (Typing fs type_state.Opening) ≡ after (field_end t.sort fs y ds) (go b) (t ∷ b)
decls_land fs t b q f (first_decl d) h = typed_lands fields_step (Typing fs) (in_decl fs []) (decl_over fs []) (field_types fs) t b q f d (field_decl t.sort h)
decls_land fs {y = y} t b q f (next_decl {ds = ds} {s = s} {b = c} e d) h =
    decls_land fs (mark m.Comma s) c refl f e tt
    ∙ declarator_more fs y ds t b q d h

between_begins : (k : Sort) (t : Terminal) (fs : List Field) → BeginsType k → between_step t k fs ≡ field_typed t fs (type_step t type_state.Opening)
unfolding begin_field
between_begins (sort.Name x) t fs h = refl
between_begins (sort.Word v) t fs h = refl
between_begins _ t fs h = absurd h

between_run : (fs : List Field) {a : List Terminal} → TypeBegins a → go a (Between fs) ≡ go a (Typing fs type_state.Opening)
between_run fs {a} f =
    ap (λ l. go l (Between fs)) f.is ∙ ap (λ v. after v (go f.others) (f.first ∷ f.others)) (between_begins f.first.sort f.first fs f.begins)
    ∙ sym (ap (λ l. go l (Typing fs type_state.Opening)) f.is)

field_lands : (fs : List Field) {f : Field} {a b : List Terminal} → IsField f a b → go a (Between fs) ≡ go b (Between (fs ++ f ∷ []))
field_lands fs (a_field {s = s} {c = c} f d) = between_run fs (base_begins f) ∙ decls_land fs (mark m.Semicolon s) c refl f d tt

fields_land : {fs : List Field} {a b : List Terminal} → IsFields fs a b → go a (Between []) ≡ go b (Between fs)
fields_land (first_field d) = field_lands [] d
fields_land (next_field {fs = fs} e d) = fields_land e ∙ field_lands fs d

one_more : {A : Type 0} (xs : List A) (x : A) → is_empty (xs ++ x ∷ []) ≡ false
one_more [] x = refl
one_more (y ∷ xs) x = refl

some_fields : {fs : List Field} {a b : List Terminal} → IsFields fs a b → is_empty fs ≡ false
some_fields (first_field d) = refl
some_fields (next_field {fs = fs} {f = f} e d) = one_more fs f

pub fields_complete : {fs : List Field} {a c : List Terminal} (s : Span) (b : List Terminal) → c ≡ mark m.CloseBrace s ∷ b → IsFields fs a c → run fields_step a (Between []) ≡ Finished fs (mark m.CloseBrace s ∷ b)
fields_complete {fs} s b q d =
    fields_land d ∙ ap (λ l. go l (Between fs)) q ∙ ap (λ v. after (cond v Bad (Done fs)) (go b) (mark m.CloseBrace s ∷ b)) (some_fields d)

-- ---- what is read is in the grammar

-- the fields before one that begins at c
data Before (z : List Terminal) : List Field → List Terminal → Type 0 where
  before_first : Before z [] z
  before_next : {fs : List Field} {c : List Terminal} → IsFields fs z c → Before z fs c

-- the declarators before one that begins at g, of a field that begins at c
data Open (c : List Terminal) : Base → List Decl → List Terminal → Type 0 where
  open_first : {y : Base} {g : List Terminal} → IsBase y c g → Open c y [] g
  open_next : {y : Base} {ds : List Decl} {b g : List Terminal} (s : Span) → IsBase y c b → IsDecls ds b (mark m.Comma s ∷ g) → Open c y ds g

with_field : {z : List Terminal} {fs : List Field} {c : List Terminal} → Before z fs c → {f : Field} {a : List Terminal} → IsField f c a → IsFields (fs ++ f ∷ []) z a
with_field before_first d = first_field d
with_field (before_next e) d = next_field e d

-- the state of fields that began at z is at a
data FieldsAt (z : List Terminal) : FieldsState → List Terminal → Type 0 where
  at_between : {fs : List Field} {a : List Terminal} → Before z fs a → FieldsAt z (Between fs) a
  at_typing : {fs : List Field} {x : TypeState} {c a : List Terminal} → Before z fs c → Came type_step type_state.Opening c x a → FieldsAt z (Typing fs x) a
  at_declaring : {fs : List Field} {y : Base} {ds : List Decl} {ss : List Span} {x : DeclState} {c g e a : List Terminal} → Before z fs c → Open c y ds g → IsStars ss g e →
      Came decl_step (decl_state.Stars ss) e x a → FieldsAt z (Declaring fs y ds x) a

abbrev FieldsTold : FieldsSaid → List Terminal → Terminal → List Terminal → Type 0
FieldsTold (More st) z t a = FieldsAt z st a
FieldsTold (Done fs) z t a = IsFields fs z (t ∷ a) × (t.sort ≡ sort.Mark m.CloseBrace)
FieldsTold Bad z t a = Unit {0}

record Closed (c : List Terminal) (y : Base) (ds : List Decl) (a : List Terminal) : Type 0 where
  rest : List Terminal
  base : IsBase y c rest
  decls : IsDecls ds rest a

close_decl : {c : List Terminal} {y : Base} {ds : List Decl} {g : List Terminal} → Open c y ds g → {d : Decl} {a : List Terminal} → IsDecl d g a → Closed c y (ds ++ d ∷ []) a
close_decl (open_first {g = g} f) d = record { rest = g; base = f; decls = first_decl d }
close_decl (open_next {b = b} s f e) d = record { rest = b; base = f; decls = next_decl e d }

field_mark_told : (k : Mark) (s : Span) {z : List Terminal} {fs : List Field} {c : List Terminal} {y : Base} {ds : List Decl} {a : List Terminal} → Before z fs c → Closed c y ds (mark k s ∷ a) →
    FieldsTold (field_mark k fs y ds) z (mark k s) a
field_mark_told m.Comma s f x = at_declaring f (open_next s x.base x.decls) no_stars begun
field_mark_told m.Semicolon s f x = at_between (before_next (with_field f (a_field x.base x.decls)))
field_mark_told _ s f x = tt

field_end_told : (k : Sort) (s : Span) {z : List Terminal} {fs : List Field} {c : List Terminal} {y : Base} {ds : List Decl} {a : List Terminal} → Before z fs c → Closed c y ds (term k s ∷ a) →
    FieldsTold (field_end k fs y ds) z (term k s) a
field_end_told (sort.Mark k) s f x = field_mark_told k s f x
field_end_told (sort.Name n) s f x = tt
field_end_told (sort.Word n) s f x = tt
field_end_told (sort.Number n i) s f x = tt
field_end_told (sort.Char n) s f x = tt
field_end_told (sort.Text n) s f x = tt
field_end_told sort.Unknown s f x = tt

declared_told : (t : Terminal) {z : List Terminal} {fs : List Field} {y : Base} {ds : List Decl} {ss : List Span} {c g e : List Terminal} (x : DeclState) (a : List Terminal) → Before z fs c → Open c y ds g →
    IsStars ss g e → Came decl_step (decl_state.Stars ss) e x (t ∷ a) → (v : Answer DeclState Decl) → decl_step t x ≡ v → FieldsTold (field_declared t.sort fs y ds v) z t a
declared_told t x a f o i p (More x') q = at_declaring f o i (taken p q)
declared_told t x a f o i p (Done d) q = field_end_told t.sort t.span f (close_decl o (decl_sound i x d t a p q))
declared_told t x a f o i p Bad q = tt

first_told : (t : Terminal) {z : List Terminal} {fs : List Field} {c e : List Terminal} (n : TypeName) (a : List Terminal) → Before z fs c → IsTypeName n c e → Came decl_step (decl_state.Stars n.stars) e (decl_state.Stars n.stars) (t ∷ a) →
    FieldsTold (field_declared t.sort fs n.base [] (decl_step t (decl_state.Stars n.stars))) z t a
first_told t n a f (type_named y i) p = declared_told t (decl_state.Stars n.stars) a f (open_first y) i p (decl_step t (decl_state.Stars n.stars)) refl

typed_told : (t : Terminal) {z : List Terminal} {fs : List Field} {c : List Terminal} (x : TypeState) (a : List Terminal) → Before z fs c → Came type_step type_state.Opening c x (t ∷ a) →
    (v : Answer TypeState TypeName) → type_step t x ≡ v → FieldsTold (field_typed t fs v) z t a
typed_told t x a f p (More x') q = at_typing f (taken p q)
typed_told t {c = c} x a f p (Done n) q = first_told t n a f (type_sound x n t c a p q) begun
typed_told t x a f p Bad q = tt

brace_told : (s : Span) {z : List Terminal} {fs : List Field} {a : List Terminal} → Before z fs (mark m.CloseBrace s ∷ a) → FieldsTold (cond (is_empty fs) Bad (Done fs)) z (mark m.CloseBrace s) a
brace_told s before_first = tt
brace_told s {z} {fs} {a} (before_next e) = subst (λ v. FieldsTold (cond v Bad (Done fs)) z (mark m.CloseBrace s) a) (sym (some_fields e)) (e, refl)

between_mark_told : (k : Mark) (s : Span) {z : List Terminal} {fs : List Field} {a : List Terminal} → Before z fs (mark k s ∷ a) → FieldsTold (between_mark k fs) z (mark k s) a
between_mark_told m.CloseBrace s f = brace_told s f
between_mark_told _ s f = tt

between_told : (k : Sort) (s : Span) {z : List Terminal} {fs : List Field} (a : List Terminal) → Before z fs (term k s ∷ a) → FieldsTold (between_step (term k s) k fs) z (term k s) a
unfolding begin_field
between_told (sort.Mark k) s a f = between_mark_told k s f
between_told k s a f = typed_told (term k s) type_state.Opening a f begun (type_step (term k s) type_state.Opening) refl

fields_told : (t : Terminal) {st : FieldsState} {z : List Terminal} (a : List Terminal) → FieldsAt z st (t ∷ a) → FieldsTold (fields_step t st) z t a
fields_told t a (at_between f) = between_told t.sort t.span a f
fields_told t a (at_typing {x = x} f p) = typed_told t x a f p (type_step t x) refl
fields_told t a (at_declaring {x = x} f o i p) = declared_told t x a f o i p (decl_step t x) refl

fields_at : {z : List Terminal} {st : FieldsState} {a : List Terminal} → Came fields_step (Between []) z st a → FieldsAt z st a
fields_at begun = at_between before_first
fields_at {z} {a = a} (taken {t = t} c e) = subst (λ v. FieldsTold v z t a) e (fields_told t a (fields_at c))

pub fields_sound : (st : FieldsState) (fs : List Field) (t : Terminal) (z a : List Terminal) → Came fields_step (Between []) z st (t ∷ a) → fields_step t st ≡ Done fs →
    IsFields fs z (t ∷ a) × (t.sort ≡ sort.Mark m.CloseBrace)
fields_sound st fs t z a c e = subst (λ v. FieldsTold v z t a) e (fields_told t a (fields_at c))

-- ---- what was read can be completed

more_ends : (fs : List Field) (f : Field) (s : Span) → CanEnd FieldsState (List Field) fields_step (Between (fs ++ f ∷ [])) (mark m.CloseBrace s)
more_ends fs f s = ends_now fields_step (Between (fs ++ f ∷ [])) (mark m.CloseBrace s) (fs ++ f ∷ []) (ap (λ v. cond v Bad (Done (fs ++ f ∷ []))) (one_more fs f))

declaring_ends : (fs : List Field) (y : Base) (ds : List Decl) (x : DeclState) (s : Span) → CanEnd FieldsState (List Field) fields_step (Declaring fs y ds x) (mark m.CloseBrace s)
declaring_ends fs y ds x s =
    let c = decl_ends x (mark m.Semicolon somewhere) tt in
    let f = field_of y (ds ++ c.part_of ∷ []) in
    ends_hosted decl_step fields_step (λ v. Declaring fs y ds v) (decl_over fs ds y) (λ k v. declared_said fs y ds k (decl_step k v)) x (mark m.Semicolon somewhere) (mark m.CloseBrace s) c
    (Between (fs ++ f ∷ [])) refl (more_ends fs f s)

typing_ends : (fs : List Field) (x : TypeState) (s : Span) → CanEnd FieldsState (List Field) fields_step (Typing fs x) (mark m.CloseBrace s)
typing_ends fs x s = type_goes_on fields_step (Typing fs) (in_decl fs []) (decl_over fs []) (field_types fs) (mark m.CloseBrace s) (λ y v. declaring_ends fs y [] v s) x

pub fields_ends : (st : FieldsState) (s : Span) → CanEnd FieldsState (List Field) fields_step st (mark m.CloseBrace s)
unfolding begin_field
fields_ends (Between fs) s =
    let x = type_state.Words somewhere (int_words.Whole I32) in
    ends_after fields_step (word w.Int somewhere) (Between fs) (Typing fs x) (mark m.CloseBrace s) refl (typing_ends fs x s)
fields_ends (Typing fs x) s = typing_ends fs x s
fields_ends (Declaring fs y ds x) s = declaring_ends fs y ds x s
