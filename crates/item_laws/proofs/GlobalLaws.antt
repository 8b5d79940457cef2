-- What the machine of globals reads is what the grammar has.
use Rattle.std.proofs.Common.{◌≡◌, ℕ, ◌≤◌, List, [], ◌∷◌, ◌++◌, Option, Some, None, refl, sym, ap, ◌∙◌, subst}
use Rattle.c_types.specs.declared.types.Span.{Span}
use Rattle.c_tree.specs.declared.expressions.Literal.{Literal}
use Rattle.c_tree.specs.declared.declarations.Decl.{Decl}
use Rattle.c_tree.specs.declared.declarations.Init.{Init}
use Rattle.c_tree.specs.declared.declarations.GlobalDecl.{GlobalDecl}
use Rattle.c_lex.specs.declared.marks.Mark.{Mark}
use Rattle.c_lex.specs.declared.marks.Mark.TheVariants as m
use Rattle.parse_terms.specs.declared.answer.Answer.{Answer}
use Rattle.parse_terms.specs.declared.answer.Answer.TheVariants.{More, Done, Bad}
use Rattle.parse_terms.specs.declared.terminal.Sort.{Sort}
use Rattle.parse_terms.specs.declared.terminal.Sort.TheVariants as sort
use Rattle.parse_terms.specs.declared.terminal.Terminal.{Terminal}
use Rattle.parse_terms.specs.declared.declarators.DeclState.{DeclState}
use Rattle.parse_terms.specs.declared.declarators.DeclState.TheVariants as decl_state
use Rattle.parse_terms.specs.Terminals.{term, mark, named, name_of}
use Rattle.parse_terms.specs.Runs.{Outcome, Finished, after, run, Came, begun, taken}
use Rattle.parse_terms.specs.TypeNames.{IsStars, no_stars}
use Rattle.parse_terms.specs.Declarators.{number, decl, IsLengths, no_lengths, length, IsDecl, declared, decl_step}
use Rattle.parse_terms.proofs.RunLaws.{lifted, hosted}
use Rattle.parse_decl.specs.declared.inits.InitPart.{InitPart}
use Rattle.parse_decl.specs.declared.inits.InitState.{InitState}
use Rattle.parse_decl.specs.Ends.{CanEnd}
use Rattle.parse_decl.specs.TypedDecls.{EndsDecl}
use Rattle.parse_decl.specs.Inits.{IsInit, cap_init, init_start, init_step, EndsInit, IsInitRead}
use Rattle.parse_decl.proofs.EndLaws.{somewhere, ends_with}
use Rattle.parse_decl.proofs.DeclLaws.{decl_complete, named_complete, decl_sound, decl_ends}
use Rattle.parse_decl.proofs.InitLaws.{init_complete, init_sound, init_ends}
use Rattle.parse_item.specs.declared.globals.GlobalsState.{GlobalsState}
use Rattle.parse_item.specs.declared.globals.GlobalsState.TheVariants.{Declaring, Valued}
use Rattle.parse_item.specs.ItemGrammar.{global_of, IsGlobal, without_value, with_value, IsGlobals, first_global, next_global}
use Rattle.parse_item.specs.ItemParts.{GlobalsPart, cap_globals, no_globals, without_init, with_init}
use Rattle.parse_item.specs.DeclarationMachines.{GlobalsSaid, global_end, declared_end, global_declared, global_valued, globals_step}
use Rattle.item_laws.proofs.ItemPartLaws.{no_globals-cap, without_init-cap, with_init-cap}

-- the tokens that may stand behind a global
abbrev pub EndsGlobal : Sort → Type 0
EndsGlobal (sort.Mark m.Comma) = Unit {0}
EndsGlobal (sort.Mark m.Semicolon) = Unit {0}
EndsGlobal _ = ⊥

global_decl : (k : Sort) → EndsGlobal k → EndsDecl k
global_decl (sort.Mark m.Comma) h = tt
global_decl (sort.Mark m.Semicolon) h = tt
global_decl _ h = absurd h

global_init : (k : Sort) → EndsGlobal k → EndsInit k
global_init (sort.Mark m.Comma) h = tt
global_init (sort.Mark m.Semicolon) h = tt
global_init _ h = absurd h

declared_ends : (k : Sort) (gs : GlobalsPart) (d : Decl) → EndsGlobal k → declared_end k gs d ≡ global_end k (without_init gs d)
declared_ends (sort.Mark m.Comma) gs d h = refl
declared_ends (sort.Mark m.Semicolon) gs d h = refl
declared_ends _ gs d h = absurd h

-- no ( begins the tokens
abbrev pub NoParen : Sort → Type 0
NoParen (sort.Mark m.OpenParen) = ⊥
NoParen _ = Unit {0}

global_no_paren : (k : Sort) → EndsGlobal k → NoParen k
global_no_paren (sort.Mark m.Comma) h = tt
global_no_paren (sort.Mark m.Semicolon) h = tt
global_no_paren _ h = absurd h

pub record Behind (a : List Terminal) : Type 0 where
  pub first : Terminal
  pub others : List Terminal
  pub is : a ≡ first ∷ others
  pub no_paren : NoParen first.sort

lengths_begin : {ls : List Literal} {a e : List Terminal} (t : Terminal) (b : List Terminal) → e ≡ t ∷ b → IsLengths ls a e → NoParen t.sort → Behind a
lengths_begin t b q no_lengths h = record { first = t; others = b; is = q; no_paren = h }
lengths_begin t b q (length {v = v} {t = i} {s = s} {u = u} {r = r} {b = c} d) h =
    lengths_begin (mark m.OpenBracket s) (number v i u ∷ mark m.CloseBracket r ∷ c) refl d tt

module _ (n : ℕ) (low : 1 ≤ n) where
  abbrev go : List Terminal → GlobalsState → Outcome GlobalsState GlobalsPart
  go = run (globals_step n)

  abbrev decl_over : GlobalsPart → Decl → Terminal → GlobalsSaid
  decl_over gs d k = declared_end k.sort gs d

  abbrev init_over : GlobalsPart → Decl → InitPart → Terminal → GlobalsSaid
  init_over gs d i k = global_end k.sort (with_init gs d i)

  declared_said : (gs : GlobalsPart) (t : Terminal) (v : Answer DeclState Decl) → global_declared t.sort gs v ≡ lifted decl_step (globals_step n) (Declaring gs) (decl_over gs) t v
  declared_said gs t (More x) = refl
  declared_said gs t (Done d) = refl
  declared_said gs t Bad = refl

  valued_said : (gs : GlobalsPart) (d : Decl) (t : Terminal) (v : Answer InitState InitPart) → global_valued t.sort gs d v ≡ lifted (init_step n) (globals_step n) (Valued gs d) (init_over gs d) t v
  valued_said gs d t (More x) = refl
  valued_said gs d t (Done i) = refl
  valued_said gs d t Bad = refl

  -- ---- what is in the grammar is read

  decl_lands : (gs : GlobalsPart) (a : List Terminal) (x : DeclState) (d : Decl) (t : Terminal) (b : List Terminal) → run decl_step a x ≡ Finished d (t ∷ b) →
      go a (Declaring gs x) ≡ after (declared_end t.sort gs d) (go b) (t ∷ b)
  decl_lands gs a x d t b e = hosted decl_step (globals_step n) (Declaring gs) (decl_over gs) (λ k v. declared_said gs k (decl_step k v)) a x d t b e

  plain_lands : (gs : List GlobalDecl) (a : List Terminal) (x : DeclState) (d : Decl) (t : Terminal) (b : List Terminal) → run decl_step a x ≡ Finished d (t ∷ b) → EndsGlobal t.sort →
      go a (Declaring (cap_globals n gs) x) ≡ after (global_end t.sort (cap_globals n (gs ++ global_of d None ∷ []))) (go b) (t ∷ b)
  plain_lands gs a x d t b e h =
      decl_lands (cap_globals n gs) a x d t b e
      ∙ ap (λ v. after v (go b) (t ∷ b)) (declared_ends t.sort (cap_globals n gs) d h)
      ∙ ap (λ p. after (global_end t.sort p) (go b) (t ∷ b)) (without_init-cap n low gs d)

  valued_lands : (gs : List GlobalDecl) (a : List Terminal) (x : DeclState) (d : Decl) (s : Span) {i : Init} {c e : List Terminal} (t : Terminal) (b : List Terminal) →
      run decl_step a x ≡ Finished d (mark m.Equal s ∷ c) → e ≡ t ∷ b → IsInit i c e → EndsGlobal t.sort →
      go a (Declaring (cap_globals n gs) x) ≡ after (global_end t.sort (cap_globals n (gs ++ global_of d (Some i) ∷ []))) (go b) (t ∷ b)
  valued_lands gs a x d s {i} {c} t b r q v h =
      decl_lands (cap_globals n gs) a x d (mark m.Equal s) c r
      ∙ hosted (init_step n) (globals_step n) (Valued (cap_globals n gs) d) (init_over (cap_globals n gs) d) (λ k y. valued_said (cap_globals n gs) d k (init_step n k y)) c init_start (cap_init n i) t b
      (init_complete n low t b q v (global_init t.sort h))
      ∙ ap (λ p. after (global_end t.sort p) (go b) (t ∷ b)) (with_init-cap n low gs d i)

  -- the globals of one base, whose first name has been read
  pub record GlobalsLand (gs : List GlobalDecl) (c : List Terminal) (t : Terminal) (b : List Terminal) : Type 0 where
    pub stars : List Span
    pub text : List ℕ
    pub span : Span
    pub rest : List Terminal
    pub begins : IsStars stars c (named text span ∷ rest)
    pub behind : Behind rest
    pub runs : run (globals_step n) rest (Declaring (cap_globals n []) (decl_state.Named (decl stars (name_of text span) []))) ≡ after (global_end t.sort (cap_globals n gs)) (run (globals_step n) b) (t ∷ b)

  first_lands : {g : GlobalDecl} {c e : List Terminal} (t : Terminal) (b : List Terminal) → e ≡ t ∷ b → IsGlobal g c e → EndsGlobal t.sort → GlobalsLand (g ∷ []) c t b
  first_lands t b q (without_value (declared {ss = ss} {x = x} {s = s} {ls = ls} {b = c} p l)) h = record {
    stars = ss;
    text = x;
    span = s;
    rest = c;
    begins = p;
    behind = lengths_begin t b q l (global_no_paren t.sort h);
    runs = plain_lands [] c (decl_state.Named (decl ss (name_of x s) [])) (decl ss (name_of x s) ls) t b (named_complete ss x s t b (subst (λ z. IsLengths ls c z) q l) (global_decl t.sort h)) h;
  }
  first_lands t b q (with_value {s = u} {b = v} (declared {ss = ss} {x = x} {s = s} {ls = ls} {b = c} p l) i) h = record {
    stars = ss;
    text = x;
    span = s;
    rest = c;
    begins = p;
    behind = lengths_begin (mark m.Equal u) v refl l tt;
    runs = valued_lands [] c (decl_state.Named (decl ss (name_of x s) [])) (decl ss (name_of x s) ls) u t b (named_complete ss x s (mark m.Equal u) v l tt) q i h;
  }

  next_lands : (gs : List GlobalDecl) {g : GlobalDecl} {c e : List Terminal} (t : Terminal) (b : List Terminal) → e ≡ t ∷ b → IsGlobal g c e → EndsGlobal t.sort →
      go c (Declaring (cap_globals n gs) (decl_state.Stars [])) ≡ after (global_end t.sort (cap_globals n (gs ++ g ∷ []))) (go b) (t ∷ b)
  next_lands gs {c = c} t b q (without_value {d = d} p) h = plain_lands gs c (decl_state.Stars []) d t b (decl_complete t b q p (global_decl t.sort h)) h
  next_lands gs {c = c} t b q (with_value {d = d} {s = u} {b = v} p i) h = valued_lands gs c (decl_state.Stars []) d u t b (decl_complete (mark m.Equal u) v refl p tt) q i h

  pub globals_land : {gs : List GlobalDecl} {c e : List Terminal} (t : Terminal) (b : List Terminal) → e ≡ t ∷ b → IsGlobals gs c e → EndsGlobal t.sort → GlobalsLand gs c t b
  globals_land t b q (first_global d) h = first_lands t b q d h
  globals_land t b q (next_global {gs = gs} {s = s} {b = c} e d) h =
      let y = globals_land (mark m.Comma s) c refl e tt in
      record { stars = y.stars; text = y.text; span = y.span; rest = y.rest; begins = y.begins; behind = y.behind; runs = y.runs ∙ next_lands gs t b q d h }

  -- ---- what is read is in the grammar

  pub record PGlobals (p : GlobalsPart) (a b : List Terminal) : Type 0 where
    pub trees : List GlobalDecl
    pub is : p ≡ cap_globals n trees
    pub reads : IsGlobals trees a b

  -- the globals before one that begins at g, where the first began at c
  pub data Before (c : List Terminal) : GlobalsPart → List Terminal → Type 0 where
    before_first : Before c no_globals c
    before_next : {p : GlobalsPart} {g : List Terminal} (s : Span) → PGlobals p c (mark m.Comma s ∷ g) → Before c p g

  plain_part : {c : List Terminal} {p : GlobalsPart} {g : List Terminal} → Before c p g → {d : Decl} {a : List Terminal} → IsDecl d g a → PGlobals (without_init p d) c a
  plain_part before_first {d} x = record { trees = global_of d None ∷ []; is = ap (λ q. without_init q d) (no_globals-cap n) ∙ without_init-cap n low [] d; reads = first_global (without_value x) }
  plain_part (before_next s y) {d} x = record {
    trees = y.trees ++ global_of d None ∷ [];
    is = ap (λ q. without_init q d) y.is ∙ without_init-cap n low y.trees d;
    reads = next_global y.reads (without_value x);
  }

  valued_part : {c : List Terminal} {p : GlobalsPart} {g : List Terminal} → Before c p g → {d : Decl} (s : Span) {e : List Terminal} → IsDecl d g (mark m.Equal s ∷ e) → {i : InitPart} {a : List Terminal} →
      IsInitRead n i e a → PGlobals (with_init p d i) c a
  valued_part before_first {d} s x {i} z = record {
    trees = global_of d (Some z.tree) ∷ [];
    is = ap (λ q. with_init q d i) (no_globals-cap n) ∙ ap (with_init (cap_globals n []) d) z.is ∙ with_init-cap n low [] d z.tree;
    reads = first_global (with_value x z.reads);
  }
  valued_part (before_next u y) {d} s x {i} z = record {
    trees = y.trees ++ global_of d (Some z.tree) ∷ [];
    is = ap (λ q. with_init q d i) y.is ∙ ap (with_init (cap_globals n y.trees) d) z.is ∙ with_init-cap n low y.trees d z.tree;
    reads = next_global y.reads (with_value x z.reads);
  }

  -- the state of globals whose first began at c is at a
  pub data GlobalsAt (c : List Terminal) : GlobalsState → List Terminal → Type 0 where
    at_declaring : {p : GlobalsPart} {ss : List Span} {x : DeclState} {g e a : List Terminal} → Before c p g → IsStars ss g e → Came decl_step (decl_state.Stars ss) e x a → GlobalsAt c (Declaring p x) a
    at_valued : {p : GlobalsPart} {d : Decl} {x : InitState} {g e a : List Terminal} (s : Span) → Before c p g → IsDecl d g (mark m.Equal s ∷ e) → Came (init_step n) init_start e x a →
        GlobalsAt c (Valued p d x) a

  -- the first name has been read
  pub globals_begun : {ss : List Span} {x : List ℕ} {s : Span} {c a : List Terminal} → IsStars ss c (named x s ∷ a) → GlobalsAt c (Declaring no_globals (decl_state.Named (decl ss (name_of x s) []))) a
  globals_begun i = at_declaring before_first i (taken begun refl)

  abbrev pub GlobalsTold : GlobalsSaid → List Terminal → Terminal → List Terminal → Type 0
  GlobalsTold (More st) c t a = GlobalsAt c st a
  GlobalsTold (Done p) c t a = PGlobals p c (t ∷ a) × (t.sort ≡ sort.Mark m.Semicolon)
  GlobalsTold Bad c t a = Unit {0}

  end_mark_told : (k : Mark) (s : Span) {c : List Terminal} {p : GlobalsPart} {a : List Terminal} → PGlobals p c (mark k s ∷ a) → GlobalsTold (global_end (sort.Mark k) p) c (mark k s) a
  end_mark_told m.Comma s y = at_declaring (before_next s y) no_stars begun
  end_mark_told m.Semicolon s y = (y, refl)
  end_mark_told _ s y = tt

  end_told : (k : Sort) (s : Span) {c : List Terminal} {p : GlobalsPart} {a : List Terminal} → PGlobals p c (term k s ∷ a) → GlobalsTold (global_end k p) c (term k s) a
  end_told (sort.Mark k) s y = end_mark_told k s y
  end_told (sort.Name x) s y = tt
  end_told (sort.Word x) s y = tt
  end_told (sort.Number x i) s y = tt
  end_told (sort.Char x) s y = tt
  end_told (sort.Text x) s y = tt
  end_told sort.Unknown s y = tt

  over_mark_told : (k : Mark) (s : Span) {c : List Terminal} {p : GlobalsPart} {g : List Terminal} {d : Decl} {a : List Terminal} → Before c p g → IsDecl d g (mark k s ∷ a) →
      GlobalsTold (declared_end (sort.Mark k) p d) c (mark k s) a
  over_mark_told m.Equal s f x = at_valued s f x begun
  over_mark_told m.Comma s f x = end_mark_told m.Comma s (plain_part f x)
  over_mark_told m.Semicolon s f x = end_mark_told m.Semicolon s (plain_part f x)
  over_mark_told _ s f x = tt

  over_told : (k : Sort) (s : Span) {c : List Terminal} {p : GlobalsPart} {g : List Terminal} {d : Decl} {a : List Terminal} → Before c p g → IsDecl d g (term k s ∷ a) →
      GlobalsTold (declared_end k p d) c (term k s) a
  over_told (sort.Mark k) s f x = over_mark_told k s f x
  over_told (sort.Name y) s f x = tt
  over_told (sort.Word y) s f x = tt
  over_told (sort.Number y i) s f x = tt
  over_told (sort.Char y) s f x = tt
  over_told (sort.Text y) s f x = tt
  over_told sort.Unknown s f x = tt

  declaring_told : (t : Terminal) {c : List Terminal} {p : GlobalsPart} {ss : List Span} {g e : List Terminal} (x : DeclState) (a : List Terminal) → Before c p g → IsStars ss g e →
      Came decl_step (decl_state.Stars ss) e x (t ∷ a) → (v : Answer DeclState Decl) → decl_step t x ≡ v → GlobalsTold (global_declared t.sort p v) c t a
  declaring_told t x a f i q (More x') r = at_declaring f i (taken q r)
  declaring_told t x a f i q (Done d) r = over_told t.sort t.span f (decl_sound i x d t a q r)
  declaring_told t x a f i q Bad r = tt

  valued_told : (t : Terminal) {c : List Terminal} {p : GlobalsPart} {d : Decl} {g e : List Terminal} (s : Span) (x : InitState) (a : List Terminal) → Before c p g → IsDecl d g (mark m.Equal s ∷ e) →
      Came (init_step n) init_start e x (t ∷ a) → (v : Answer InitState InitPart) → init_step n t x ≡ v → GlobalsTold (global_valued t.sort p d v) c t a
  valued_told t s x a f y q (More x') r = at_valued s f y (taken q r)
  valued_told t {e = e} s x a f y q (Done i) r = end_told t.sort t.span (valued_part f s y (init_sound n low e x i t a q r))
  valued_told t s x a f y q Bad r = tt

  pub globals_told : (t : Terminal) {st : GlobalsState} {c : List Terminal} (a : List Terminal) → GlobalsAt c st (t ∷ a) → GlobalsTold (globals_step n t st) c t a
  globals_told t a (at_declaring {x = x} f i q) = declaring_told t x a f i q (decl_step t x) refl
  globals_told t a (at_valued {x = x} s f y q) = valued_told t s x a f y q (init_step n t x) refl

  -- ---- what was read can be completed

  pub globals_ends : (st : GlobalsState) (s : Span) → CanEnd GlobalsState GlobalsPart (globals_step n) st (mark m.Semicolon s)
  globals_ends (Declaring p x) s =
      let c = decl_ends x (mark m.Semicolon s) tt in
      ends_with decl_step (globals_step n) (Declaring p) (decl_over p) (λ k v. declared_said p k (decl_step k v)) x (mark m.Semicolon s) c (without_init p c.part_of) refl
  globals_ends (Valued p d x) s =
      let c = init_ends n (mark m.Semicolon s) tt x in
      ends_with (init_step n) (globals_step n) (Valued p d) (init_over p d) (λ k v. valued_said p d k (init_step n k v)) x (mark m.Semicolon s) c (with_init p d c.part_of) refl
