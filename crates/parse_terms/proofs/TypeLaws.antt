-- What the machines of types and declarators read is what the grammar has.
use Rattle.std.proofs.Common.{◌≡◌, ℕ, Bool, true, false, List, [], ◌∷◌, ◌++◌, Option, Some, None, refl, sym, ap, ◌∙◌, subst}
use Rattle.c_types.specs.declared.types.Span.{Span}
use Rattle.c_types.specs.declared.types.IntTy.{IntTy}
use Rattle.c_types.specs.declared.types.IntTy.TheVariants.{I8, U8, I16, U16, I32, U32, I64, U64}
use Rattle.c_tree.specs.declared.expressions.Name.{Name}
use Rattle.c_tree.specs.declared.expressions.Literal.{Literal}
use Rattle.c_tree.specs.declared.expressions.Base.{Base}
use Rattle.c_tree.specs.declared.expressions.Base.TheVariants as base
use Rattle.c_tree.specs.declared.expressions.TypeName.{TypeName}
use Rattle.c_tree.specs.declared.declarations.Decl.{Decl}
use Rattle.c_lex.specs.declared.words.Word.{Word}
use Rattle.c_lex.specs.declared.words.Word.TheVariants as w
use Rattle.c_lex.specs.declared.marks.Mark.{Mark}
use Rattle.c_lex.specs.declared.marks.Mark.TheVariants as m
use Rattle.parse_terms.specs.declared.answer.Answer.{Answer}
use Rattle.parse_terms.specs.declared.answer.Answer.TheVariants.{More, Done, Bad}
use Rattle.parse_terms.specs.declared.terminal.Sort.{Sort}
use Rattle.parse_terms.specs.declared.terminal.Sort.TheVariants as sort
use Rattle.parse_terms.specs.declared.terminal.Terminal.{Terminal}
use Rattle.parse_terms.specs.declared.integers.IntWords.{IntWords}
use Rattle.parse_terms.specs.declared.integers.IntWords.TheVariants.{Sign, Short, Long, LongLong, Whole}
use Rattle.parse_terms.specs.declared.types.TypeState.{TypeState}
use Rattle.parse_terms.specs.declared.types.TypeState.TheVariants.{Opening, Tag, Words, Stars}
use Rattle.parse_terms.specs.declared.declarators.DeclState.{DeclState}
use Rattle.parse_terms.specs.declared.declarators.DeclState.TheVariants as decl_state
use Rattle.parse_terms.specs.Terminals.{term, word, mark, named, name_of}
use Rattle.parse_terms.specs.Runs.{Outcome, Ended, Finished, Failed, after, run, Came, begun, taken}
use Rattle.parse_terms.specs.Integers.{Width, one, two, four, eight, int_type, IsWidth, char, short, short_int, int, long_long, long_long_int, IsInt, plain, with_signed, with_unsigned, signed, unsigned, int_begin, sign_step, short_step, long_step, long_long_step, int_step, int_finish}
use Rattle.parse_terms.specs.TypeNames.{IsBase, void, integer, tagged, typedef, IsStars, no_stars, star, type_name, IsTypeName, type_named, integer_begun, word_opening, opening_step, mark_star, stars_step, tag_step, words_end, words_more, words_step, type_step_at, type_step, Stops}
use Rattle.parse_terms.specs.Declarators.{literal, number, decl, IsLengths, no_lengths, length, IsDecl, declared, star_or_bad, decl_stars_step, open_or_done, named_step, length_step, close_or_bad, closing_step, decl_step_at, decl_step}

-- ---- what is in the grammar is read

pub record Spelled (i : IntTy) (s : Span) (a b : List Terminal) : Type 0 where
  pub words : IntWords
  pub runs : run type_step a Opening ≡ run type_step b (Words s words)
  pub finishes : int_finish words ≡ Some i

pub int_spelled : {i : IntTy} {s : Span} {a b : List Terminal} → IsInt i s a b → Spelled i s a b
int_spelled (plain char) = record { words = Whole I8; runs = refl; finishes = refl }
int_spelled (plain short) = record { words = Short false; runs = refl; finishes = refl }
int_spelled (plain short_int) = record { words = Whole I16; runs = refl; finishes = refl }
int_spelled (plain int) = record { words = Whole I32; runs = refl; finishes = refl }
int_spelled (plain long_long) = record { words = LongLong false; runs = refl; finishes = refl }
int_spelled (plain long_long_int) = record { words = Whole I64; runs = refl; finishes = refl }
int_spelled (with_signed char) = record { words = Whole I8; runs = refl; finishes = refl }
int_spelled (with_signed short) = record { words = Short false; runs = refl; finishes = refl }
int_spelled (with_signed short_int) = record { words = Whole I16; runs = refl; finishes = refl }
int_spelled (with_signed int) = record { words = Whole I32; runs = refl; finishes = refl }
int_spelled (with_signed long_long) = record { words = LongLong false; runs = refl; finishes = refl }
int_spelled (with_signed long_long_int) = record { words = Whole I64; runs = refl; finishes = refl }
int_spelled (with_unsigned char) = record { words = Whole U8; runs = refl; finishes = refl }
int_spelled (with_unsigned short) = record { words = Short true; runs = refl; finishes = refl }
int_spelled (with_unsigned short_int) = record { words = Whole U16; runs = refl; finishes = refl }
int_spelled (with_unsigned int) = record { words = Whole U32; runs = refl; finishes = refl }
int_spelled (with_unsigned long_long) = record { words = LongLong true; runs = refl; finishes = refl }
int_spelled (with_unsigned long_long_int) = record { words = Whole U64; runs = refl; finishes = refl }
int_spelled signed = record { words = Sign false; runs = refl; finishes = refl }
int_spelled unsigned = record { words = Sign true; runs = refl; finishes = refl }

stars_land : (b : Base) {ss : List Span} {a c : List Terminal} → IsStars ss a c → run type_step a (Stars b []) ≡ run type_step c (Stars b ss)
stars_land b no_stars = refl
stars_land b (star d) = stars_land b d

-- after the stars the token at hand ends the type
stars_stop : (b : Base) (ss : List Span) (k : Sort) (s : Span) → Stops k → stars_step k s b ss ≡ Done (type_name b ss)
stars_stop b ss (sort.Word v) s h = absurd h
stars_stop b ss (sort.Mark m.Star) s h = absurd h
stars_stop b ss (sort.Mark k) s h = refl
stars_stop b ss (sort.Name x) s h = refl
stars_stop b ss (sort.Number v t) s h = refl
stars_stop b ss (sort.Char c) s h = refl
stars_stop b ss (sort.Text x) s h = refl
stars_stop b ss sort.Unknown s h = refl

-- a star, or what ends a type: no word goes on
abbrev Leaves : Sort → Type 0
Leaves (sort.Word v) = ⊥
Leaves _ = Unit {0}

stops_leaves : (k : Sort) → Stops k → Leaves k
stops_leaves (sort.Word v) h = h
stops_leaves (sort.Mark k) h = tt
stops_leaves (sort.Name x) h = tt
stops_leaves (sort.Number v t) h = tt
stops_leaves (sort.Char c) h = tt
stops_leaves (sort.Text x) h = tt
stops_leaves sort.Unknown h = tt

words_leave : (i : IntTy) (s : Span) (v : IntWords) → int_finish v ≡ Some i → (k : Sort) (t : Span) → Leaves k → words_step k t s v ≡ stars_step k t (base.Int i s) []
words_leave i s v e (sort.Word x) t h = absurd h
words_leave i s v e (sort.Mark k) t h = ap (words_end (sort.Mark k) t s) e
words_leave i s v e (sort.Name x) t h = ap (words_end (sort.Name x) t s) e
words_leave i s v e (sort.Number n y) t h = ap (words_end (sort.Number n y) t s) e
words_leave i s v e (sort.Char c) t h = ap (words_end (sort.Char c) t s) e
words_leave i s v e (sort.Text x) t h = ap (words_end (sort.Text x) t s) e
words_leave i s v e sort.Unknown t h = ap (words_end sort.Unknown t s) e

-- the token after a base: what it does there
base_lands : {b : Base} {a c : List Terminal} (t : Terminal) → IsBase b a (t ∷ c) → Leaves t.sort → run type_step a Opening ≡ run type_step (t ∷ c) (Stars b [])
base_lands t void h = refl
base_lands t tagged h = refl
base_lands t typedef h = refl
base_lands {c = c} t (integer {t = i} {s = s} d) h =
    let x = int_spelled d in
    x.runs ∙ ap (λ v. after v (run type_step c) (t ∷ c)) (words_leave i s x.words x.finishes t.sort t.span h)

record FirstOf (a : List Terminal) : Type 0 where
  first : Terminal
  others : List Terminal
  is : a ≡ first ∷ others
  leaves : Leaves first.sort

stars_first : {ss : List Span} {a c : List Terminal} (t : Terminal) (b : List Terminal) → c ≡ t ∷ b → IsStars ss a c → Leaves t.sort → FirstOf a
stars_first t b e no_stars h = record { first = t; others = b; is = e; leaves = h }
stars_first t b e (star {s = s} {b = c} d) h = stars_first (mark m.Star s) c refl d tt

pub type_complete : {n : TypeName} {a c : List Terminal} (t : Terminal) (b : List Terminal) → c ≡ t ∷ b → IsTypeName n a c → Stops t.sort → run type_step a Opening ≡ Finished n (t ∷ b)
type_complete {a = a} t b q (type_named {b = x} {ss = ss} {c = c} {d = z} d e) h =
    let f = stars_first t b q e (stops_leaves t.sort h) in
    base_lands f.first (subst (IsBase x a) f.is d) f.leaves
    ∙ ap (λ l. run type_step l (Stars x [])) (sym f.is)
    ∙ stars_land x e
    ∙ ap (λ l. run type_step l (Stars x ss)) q
    ∙ ap (λ v. after v (run type_step b) (t ∷ b)) (stars_stop x ss t.sort t.span h)

-- ---- what is read is in the grammar

-- the words of an integer type stand between m and a, and more may follow
abbrev pub WordsAt : IntWords → Span → List Terminal → List Terminal → Type 0
WordsAt (Sign u) s m a = IsInt (int_type u four) s m a × ((v : Width) (t : Span) (b : List Terminal) → IsWidth v t a b → IsInt (int_type u v) s m b)
WordsAt (Short u) s m a = IsInt (int_type u two) s m a × ((t : Span) (b : List Terminal) → a ≡ word w.Int t ∷ b → IsInt (int_type u two) s m b)
WordsAt (Long u) s m a =
    ((t : Span) (b : List Terminal) → a ≡ word w.Long t ∷ b → IsInt (int_type u eight) s m b) ×
    ((t v : Span) (b : List Terminal) → a ≡ word w.Long t ∷ word w.Int v ∷ b → IsInt (int_type u eight) s m b)
WordsAt (LongLong u) s m a = IsInt (int_type u eight) s m a × ((t : Span) (b : List Terminal) → a ≡ word w.Int t ∷ b → IsInt (int_type u eight) s m b)
WordsAt (Whole i) s m a = IsInt i s m a

abbrev pub IfWords : Option IntWords → Span → List Terminal → List Terminal → Type 0
IfWords None s m a = Unit {0}
IfWords (Some v) s m a = WordsAt v s m a

abbrev pub IfInt : Option IntTy → Span → List Terminal → List Terminal → Type 0
IfInt None s m a = Unit {0}
IfInt (Some i) s m a = IsInt i s m a

pub int_begins : (v : Word) (s : Span) (a : List Terminal) → IfWords (int_begin v) s (word v s ∷ a) a
int_begins w.Signed s a = (signed, λ v t b d. with_signed d)
int_begins w.Unsigned s a = (unsigned, λ v t b d. with_unsigned d)
int_begins w.Char s a = plain char
int_begins w.Short s a = (plain short, λ t b e. subst (λ l. IsInt I16 s (word w.Short s ∷ l) b) (sym e) (plain short_int))
int_begins w.Int s a = plain int
int_begins w.Long s a = (
  λ t b e. subst (λ l. IsInt I64 s (word w.Long s ∷ l) b) (sym e) (plain long_long),
  λ t v b e. subst (λ l. IsInt I64 s (word w.Long s ∷ l) b) (sym e) (plain long_long_int),
)
int_begins _ s a = tt

sign_goes : (x : Word) (u : Bool) (s t : Span) (m a : List Terminal) → WordsAt (Sign u) s m (word x t ∷ a) → IfWords (sign_step x u) s m a
sign_goes w.Char u s t m' a (d, more) = more one t a char
sign_goes w.Short u s t m' a (d, more) =
    (more two t a short, λ v b e. more two t b (subst (λ l. IsWidth two t (word w.Short t ∷ l) b) (sym e) short_int))
sign_goes w.Int u s t m' a (d, more) = more four t a int
sign_goes w.Long u s t m' a (d, more) = (
  λ v b e. more eight t b (subst (λ l. IsWidth eight t (word w.Long t ∷ l) b) (sym e) long_long),
  λ v z b e. more eight t b (subst (λ l. IsWidth eight t (word w.Long t ∷ l) b) (sym e) long_long_int),
)
sign_goes _ u s t m' a h = tt

short_goes : (x : Word) (u : Bool) (s t : Span) (m a : List Terminal) → WordsAt (Short u) s m (word x t ∷ a) → IfWords (short_step x u) s m a
short_goes w.Int u s t m' a (d, more) = more t a refl
short_goes _ u s t m' a h = tt

long_goes : (x : Word) (u : Bool) (s t : Span) (m a : List Terminal) → WordsAt (Long u) s m (word x t ∷ a) → IfWords (long_step x u) s m a
long_goes w.Long u s t m' a (more, most) = (more t a refl, λ v b e. most t v b (ap (λ l. word w.Long t ∷ l) e))
long_goes _ u s t m' a h = tt

long_long_goes : (x : Word) (u : Bool) (s t : Span) (m a : List Terminal) → WordsAt (LongLong u) s m (word x t ∷ a) → IfWords (long_long_step x u) s m a
long_long_goes w.Int u s t m' a (d, more) = more t a refl
long_long_goes _ u s t m' a h = tt

pub int_goes : (x : Word) (v : IntWords) (s t : Span) (m a : List Terminal) → WordsAt v s m (word x t ∷ a) → IfWords (int_step x v) s m a
int_goes x (Sign u) s t m' a h = sign_goes x u s t m' a h
int_goes x (Short u) s t m' a h = short_goes x u s t m' a h
int_goes x (Long u) s t m' a h = long_goes x u s t m' a h
int_goes x (LongLong u) s t m' a h = long_long_goes x u s t m' a h
int_goes x (Whole i) s t m' a h = tt

pub int_ends : (v : IntWords) (s : Span) (m a : List Terminal) → WordsAt v s m a → IfInt (int_finish v) s m a
int_ends (Sign u) s m' a h = h.0
int_ends (Short u) s m' a h = h.0
int_ends (Long u) s m' a h = tt
int_ends (LongLong u) s m' a h = h.0
int_ends (Whole i) s m' a h = h

-- the state x of a type that began at m is at a
abbrev pub TypeAt : TypeState → List Terminal → List Terminal → Type 0
TypeAt Opening m a = m ≡ a
TypeAt (Tag s) m a = m ≡ word w.Struct s ∷ a
TypeAt (Words s v) m a = WordsAt v s m a
TypeAt (Stars b ss) m a = (c : List Terminal) × IsBase b m c × IsStars ss c a

-- what an answer to a token at t says of the tokens
abbrev pub TypeSaid : Answer TypeState TypeName → List Terminal → Terminal → List Terminal → Type 0
TypeSaid (More x) m t a = TypeAt x m a
TypeSaid (Done n) m t a = IsTypeName n m (t ∷ a)
TypeSaid Bad m t a = Unit {0}

mark_said : (k : Mark) (s : Span) (b : Base) (ss : List Span) {m c a : List Terminal} → IsBase b m c → IsStars ss c (mark k s ∷ a) → TypeSaid (mark_star k s b ss) m (mark k s) a
mark_said m.Star s b ss {c = c} d e = (c, d, star e)
mark_said _ s b ss d e = type_named d e

stars_said : (k : Sort) (s : Span) (b : Base) (ss : List Span) {m c a : List Terminal} → IsBase b m c → IsStars ss c (term k s ∷ a) → TypeSaid (stars_step k s b ss) m (term k s) a
stars_said (sort.Mark k) s b ss d e = mark_said k s b ss d e
stars_said (sort.Word k) s b ss d e = type_named d e
stars_said (sort.Name x) s b ss d e = type_named d e
stars_said (sort.Number v t) s b ss d e = type_named d e
stars_said (sort.Char c) s b ss d e = type_named d e
stars_said (sort.Text x) s b ss d e = type_named d e
stars_said sort.Unknown s b ss d e = type_named d e

begun_said : (o : Option IntWords) (s : Span) (m : List Terminal) (t : Terminal) (a : List Terminal) → IfWords o s m a → TypeSaid (integer_begun s o) m t a
begun_said None s m' t a h = tt
begun_said (Some v) s m' t a h = h

word_said : (v : Word) (s : Span) (a : List Terminal) → TypeSaid (word_opening s v) (word v s ∷ a) (word v s) a
word_said w.Void s a = (a, void, no_stars)
word_said w.Struct s a = refl
word_said v s a = begun_said (int_begin v) s (word v s ∷ a) (word v s) a (int_begins v s a)

opening_said : (k : Sort) (s : Span) (a : List Terminal) → TypeSaid (opening_step k s) (term k s ∷ a) (term k s) a
opening_said (sort.Name x) s a = (a, typedef, no_stars)
opening_said (sort.Word v) s a = word_said v s a
opening_said (sort.Mark k) s a = tt
opening_said (sort.Number v t) s a = tt
opening_said (sort.Char c) s a = tt
opening_said (sort.Text x) s a = tt
opening_said sort.Unknown s a = tt

tag_said : (k : Sort) (s t : Span) (a : List Terminal) → TypeSaid (tag_step k s t) (word w.Struct t ∷ term k s ∷ a) (term k s) a
tag_said (sort.Name x) s t a = (a, tagged, no_stars)
tag_said (sort.Word v) s t a = tt
tag_said (sort.Mark k) s t a = tt
tag_said (sort.Number v y) s t a = tt
tag_said (sort.Char c) s t a = tt
tag_said (sort.Text x) s t a = tt
tag_said sort.Unknown s t a = tt

end_said : (k : Sort) (s f : Span) (o : Option IntTy) (m a : List Terminal) → IfInt o f m (term k s ∷ a) → TypeSaid (words_end k s f o) m (term k s) a
end_said k s f None m' a h = tt
end_said k s f (Some i) m' a h = stars_said k s (base.Int i f) [] (integer h) no_stars

more_said : (x : Word) (s f : Span) (v : IntWords) (o : Option IntWords) (m a : List Terminal) → IfWords o f m a → WordsAt v f m (word x s ∷ a) → TypeSaid (words_more (sort.Word x) s f v o) m (word x s) a
more_said x s f v None m' a h d = end_said (sort.Word x) s f (int_finish v) m' a (int_ends v f m' (word x s ∷ a) d)
more_said x s f v (Some v') m' a h d = h

words_said : (k : Sort) (s f : Span) (v : IntWords) (m a : List Terminal) → WordsAt v f m (term k s ∷ a) → TypeSaid (words_step k s f v) m (term k s) a
words_said (sort.Word x) s f v m' a d = more_said x s f v (int_step x v) m' a (int_goes x v f s m' a d) d
words_said (sort.Name x) s f v m' a d = end_said (sort.Name x) s f (int_finish v) m' a (int_ends v f m' (term (sort.Name x) s ∷ a) d)
words_said (sort.Mark k) s f v m' a d = end_said (sort.Mark k) s f (int_finish v) m' a (int_ends v f m' (term (sort.Mark k) s ∷ a) d)
words_said (sort.Number n t) s f v m' a d = end_said (sort.Number n t) s f (int_finish v) m' a (int_ends v f m' (term (sort.Number n t) s ∷ a) d)
words_said (sort.Char c) s f v m' a d = end_said (sort.Char c) s f (int_finish v) m' a (int_ends v f m' (term (sort.Char c) s ∷ a) d)
words_said (sort.Text x) s f v m' a d = end_said (sort.Text x) s f (int_finish v) m' a (int_ends v f m' (term (sort.Text x) s ∷ a) d)
words_said sort.Unknown s f v m' a d = end_said sort.Unknown s f (int_finish v) m' a (int_ends v f m' (term sort.Unknown s ∷ a) d)

pub type_said : (t : Terminal) (x : TypeState) (m a : List Terminal) → TypeAt x m (t ∷ a) → TypeSaid (type_step t x) m t a
type_said t Opening m' a e = subst (λ l. TypeSaid (opening_step t.sort t.span) l t a) (sym e) (opening_said t.sort t.span a)
type_said t (Tag s) m' a e = subst (λ l. TypeSaid (tag_step t.sort t.span s) l t a) (sym e) (tag_said t.sort t.span s a)
type_said t (Words f v) m' a d = words_said t.sort t.span f v m' a d
type_said t (Stars b ss) m' a (c, d, e) = stars_said t.sort t.span b ss d e

type_at : (z : List Terminal) {x : TypeState} {a : List Terminal} → Came type_step Opening z x a → TypeAt x z a
type_at z begun = refl
type_at z {a = a} (taken {s = x} {t = t} c e) = subst (λ v. TypeSaid v z t a) e (type_said t x z a (type_at z c))

-- what is read is a type
pub type_sound : (x : TypeState) (n : TypeName) (t : Terminal) (z a : List Terminal) → Came type_step Opening z x (t ∷ a) → type_step t x ≡ Done n → IsTypeName n z (t ∷ a)
type_sound x n t z a c e = subst (λ v. TypeSaid v z t a) e (type_said t x z a (type_at z c))

-- ---- what was read can be completed

pub record Completes (S D : Type 0) (step : Terminal → S → Answer S D) (Ends : Sort → Type 0) (x : S) : Type 0 where
  pub tokens : List Terminal
  pub part : (t : Terminal) → Ends t.sort → D
  pub is : (t : Terminal) (h : Ends t.sort) (b : List Terminal) → run step (tokens ++ t ∷ b) x ≡ Finished (part t h) (t ∷ b)

abbrev somewhere : Span
somewhere = record { start = 0; end = 0 }

stars_complete : (b : Base) (ss : List Span) → Completes TypeState TypeName type_step Stops (Stars b ss)
stars_complete b ss = record {
  tokens = [];
  part = λ t h. type_name b ss;
  is = λ t h l. ap (λ v. after v (run type_step l) (t ∷ l)) (stars_stop b ss t.sort t.span h);
}

words_complete : (s : Span) (v : IntWords) (i : IntTy) → int_finish v ≡ Some i → Completes TypeState TypeName type_step Stops (Words s v)
words_complete s v i e = record {
  tokens = [];
  part = λ t h. type_name (base.Int i s) [];
  is = λ t h l. ap (λ z. after z (run type_step l) (t ∷ l)) (words_leave i s v e t.sort t.span (stops_leaves t.sort h) ∙ stars_stop (base.Int i s) [] t.sort t.span h);
}

-- a token first
abbrev after_token : (u : Terminal) (x y : TypeState) → type_step u x ≡ More y → Completes TypeState TypeName type_step Stops y → Completes TypeState TypeName type_step Stops x
after_token u x y e c = record {
  tokens = u ∷ c.tokens;
  part = c.part;
  is = λ t h l. ap (λ v. after v (run type_step (c.tokens ++ t ∷ l)) (u ∷ (c.tokens ++ t ∷ l))) e ∙ c.is t h l;
}

pub type_completes : (x : TypeState) → Completes TypeState TypeName type_step Stops x
type_completes Opening = after_token (word w.Int somewhere) Opening (Words somewhere (Whole I32)) refl (words_complete somewhere (Whole I32) I32 refl)
type_completes (Tag s) = after_token (named [] somewhere) (Tag s) (Stars (base.Struct s (name_of [] somewhere)) []) refl (stars_complete (base.Struct s (name_of [] somewhere)) [])
type_completes (Words s (Sign u)) = words_complete s (Sign u) (int_type u four) refl
type_completes (Words s (Short u)) = words_complete s (Short u) (int_type u two) refl
type_completes (Words s (Long u)) = after_token (word w.Long somewhere) (Words s (Long u)) (Words s (LongLong u)) refl (words_complete s (LongLong u) (int_type u eight) refl)
type_completes (Words s (LongLong u)) = words_complete s (LongLong u) (int_type u eight) refl
type_completes (Words s (Whole i)) = words_complete s (Whole i) i refl
type_completes (Stars b ss) = stars_complete b ss
