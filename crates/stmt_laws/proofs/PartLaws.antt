-- What is done with capped parts is what is done with trees, capped.
use Rattle.std.proofs.Common.{◌≡◌, ℕ, suc, ◌+◌, ◌<◌, ◌≤◌, max, Bool, true, false, cond, List, [], ◌∷◌, ◌++◌, Option, Some, None, nat_le, refl, sym, ap, ◌∙◌, arith}
use Rattle.std.proofs.lemmas.Bool.{le-leb, lt-leb, leb-true, leb-false}
use Rattle.c_types.specs.declared.types.Span.{Span}
use Rattle.c_tree.specs.declared.expressions.Name.{Name}
use Rattle.c_tree.specs.declared.expressions.Base.{Base}
use Rattle.c_tree.specs.declared.expressions.Expr.{Expr}
use Rattle.c_tree.specs.declared.declarations.Decl.{Decl}
use Rattle.c_tree.specs.declared.statements.LocalDecl.{LocalDecl}
use Rattle.c_tree.specs.declared.statements.Local.TheVariants as local
use Rattle.c_tree.specs.declared.statements.ForStart.{ForStart}
use Rattle.c_tree.specs.declared.statements.ForStart.TheVariants as start
use Rattle.c_tree.specs.declared.statements.BlockItem.{BlockItem}
use Rattle.c_tree.specs.declared.statements.BlockItem.TheVariants as block_item
use Rattle.c_tree.specs.declared.statements.Stmt.{Stmt}
use Rattle.c_tree.specs.declared.statements.Stmt.TheVariants as stmt
use Rattle.c_tree.specs.Height.{expr_height, optional_height, local_decl_height, start_height, block_item_height, stmt_height}
use Rattle.c_tree.proofs.HeightLaws.{block_item_height-Local, block_item_height-Stmt, stmt_height-Block, stmt_height-Effect, stmt_height-If, stmt_height-IfElse, stmt_height-While, stmt_height-Do, stmt_height-For, stmt_height-Return}
use Rattle.c_tree.proofs.Tallest.{tallest-append}
use Rattle.parse_expr.specs.declared.parts.Part.TheVariants as part
use Rattle.parse_expr.specs.ExprGrammar.{is_effect}
use Rattle.parse_expr.specs.Parts.{cap}
use Rattle.parse_stmt.specs.declared.parts.Capped.{Capped}
use Rattle.parse_stmt.specs.declared.parts.Capped.TheVariants.{Built, Deep}
use Rattle.parse_stmt.specs.declared.parts.ForHead.{ForHead}
use Rattle.parse_stmt.specs.StmtGrammar.{local_decl}
use Rattle.parse_stmt.specs.StmtParts.{ExprPart, OptionPart, DeclsPart, StmtPart, capped, decls_height, items_height, cap_body, mapped, merged, raised, at_least_one, leaf_part, of_part, no_items, no_decls, no_part, some_part, with_decl, with_stmt, with_locals, with_va_list, start_locals, start_of, start_part, pair_of, head_of, for_head, block_part, effect_part, return_part, if_part, if_else_part, while_part, do_part, for_part}

-- ---- trees as parts

abbrev pub cap_expr : ℕ → Expr → ExprPart
cap_expr n e = capped n e (expr_height e)

abbrev pub cap_option : ℕ → Option Expr → OptionPart
cap_option n e = capped n e (optional_height e)

abbrev pub cap_decls : ℕ → List LocalDecl → DeclsPart
cap_decls n ds = capped n ds (decls_height ds)

abbrev pub cap_start : ℕ → ForStart → Capped ForStart
cap_start n i = capped n i (start_height i)

abbrev pub head_height : ForHead → ℕ
head_height h = max (start_height h.start) (max (optional_height h.test) (optional_height h.step))

abbrev pub cap_head : ℕ → ForHead → Capped ForHead
cap_head n h = capped n h (head_height h)

abbrev pub cap_stmt : ℕ → Stmt → StmtPart
cap_stmt n x = capped n x (stmt_height x)

-- ---- the operations

past : {A : Type 0} (k n : ℕ) (x y : A) → n < k → cond (nat_le k n) x y ≡ y
past k n x y h = ap (λ v. cond v x y) (lt-leb k n h)

within : {A : Type 0} (k n : ℕ) (x y : A) → k ≤ n → cond (nat_le k n) x y ≡ x
within k n x y h = ap (λ v. cond v x y) (le-leb k n h)

mapped-cap : {A B : Type 0} (n : ℕ) (f : A → B) (x : A) (h : ℕ) → mapped f (capped n x h) ≡ capped n (f x) h
mapped-cap n f x h = go (nat_le h n)
  where
    go : (v : Bool) → mapped f (cond v (Built x h) Deep) ≡ cond v (Built (f x) h) Deep
    go true = refl
    go false = refl

merged-cap : {A B C : Type 0} (n : ℕ) (f : A → B → C) (x : A) (h : ℕ) (y : B) (k : ℕ) → merged f (capped n x h) (capped n y k) ≡ capped n (f x y) (max h k)
merged-cap n f x h y k = go (nat_le h n) refl (nat_le k n) refl
  where
    go : (v : Bool) → nat_le h n ≡ v → (w : Bool) → nat_le k n ≡ w → merged f (cond v (Built x h) Deep) (cond w (Built y k) Deep) ≡ capped n (f x y) (max h k)
    go true p true q = sym (within (max h k) n (Built (f x y) (max h k)) Deep (omega (arith, leb-true h n p, leb-true k n q)))
    go true p false q = sym (past (max h k) n (Built (f x y) (max h k)) Deep (omega (arith, leb-false k n q)))
    go false p w q = sym (past (max h k) n (Built (f x y) (max h k)) Deep (omega (arith, leb-false h n p)))

raised-cap : {A : Type 0} (n : ℕ) (x : A) (h : ℕ) → raised n (capped n x h) ≡ capped n x (h + 1)
raised-cap n x h = go (nat_le h n) refl
  where
    go : (v : Bool) → nat_le h n ≡ v → raised n (cond v (Built x h) Deep) ≡ capped n x (h + 1)
    go true p = let k : suc h ≡ h + 1 = omega arith in ap (λ z. cond (nat_le z n) (Built x (h + 1)) Deep) k
    go false p = sym (past (h + 1) n (Built x (h + 1)) Deep (omega (arith, leb-false h n p)))

least-cap : {A : Type 0} (n : ℕ) → 1 ≤ n → (x : A) (h : ℕ) → at_least_one (capped n x h) ≡ capped n x (max 1 h)
least-cap n low x h = go (nat_le h n) refl
  where
    go : (v : Bool) → nat_le h n ≡ v → at_least_one (cond v (Built x h) Deep) ≡ capped n x (max 1 h)
    go true p = sym (within (max 1 h) n (Built x (max 1 h)) Deep (omega (arith, low, leb-true h n p)))
    go false p = sym (past (max 1 h) n (Built x (max 1 h)) Deep (omega (arith, leb-false h n p)))

leaf-cap : {A : Type 0} (n : ℕ) → 1 ≤ n → (x : A) → leaf_part x ≡ capped n x 1
leaf-cap n low x = sym (within 1 n (Built x 1) Deep low)

-- what is above a part
above-cap : {A : Type 0} (n : ℕ) (p : Capped A) (x : A) (h k : ℕ) → p ≡ capped n x h → k ≡ h + 1 → raised n p ≡ capped n x k
above-cap n p x h k q r = ap (raised n) q ∙ raised-cap n x h ∙ ap (capped n x) (sym r)

pub of_part-cap : (n : ℕ) (e : Expr) → of_part (cap n e) ≡ cap_expr n e
of_part-cap n e = go (nat_le (expr_height e) n)
  where
    go : (v : Bool) → of_part (cond v (part.Built e (expr_height e)) (part.Deep (is_effect e))) ≡ cond v (Built e (expr_height e)) Deep
    go true = refl
    go false = refl

pub stmt_leaf-cap : (n : ℕ) → 1 ≤ n → (x : Stmt) → stmt_height x ≡ 1 → leaf_part x ≡ cap_stmt n x
stmt_leaf-cap n low x h = leaf-cap n low x ∙ ap (capped n x) (sym h)

pub no_items-cap : (n : ℕ) → no_items ≡ cap_body n []
no_items-cap n = sym (within 0 n (Built [] 0) Deep (omega arith))

pub no_decls-cap : (n : ℕ) → no_decls ≡ cap_decls n []
no_decls-cap n = sym (within 0 n (Built [] 0) Deep (omega arith))

pub no_part-cap : (n : ℕ) → no_part ≡ cap_option n None
no_part-cap n = sym (within 0 n (Built None 0) Deep (omega arith))

pub some_part-cap : (n : ℕ) (e : Expr) → some_part (cap_expr n e) ≡ cap_option n (Some e)
unfolding some_part
some_part-cap n e = mapped-cap n Some e (expr_height e)

pub with_decl-cap : (n : ℕ) → 1 ≤ n → (ds : List LocalDecl) (d : Decl) (i : Option Expr) → with_decl (cap_decls n ds) d (cap_option n i) ≡ cap_decls n (ds ++ local_decl d i ∷ [])
unfolding with_decl
with_decl-cap n low ds d i =
    ap (merged (λ xs x. xs ++ local_decl d x ∷ []) (cap_decls n ds)) (least-cap n low i (optional_height i))
    ∙ merged-cap n (λ xs x. xs ++ local_decl d x ∷ []) ds (decls_height ds) i (max 1 (optional_height i))
    ∙ ap (capped n (ds ++ local_decl d i ∷ [])) (sym (tallest-append local_decl_height ds (local_decl d i)))

more_items : (n : ℕ) (xs : List BlockItem) (x : BlockItem) (h : ℕ) → block_item_height x ≡ h → capped n (xs ++ x ∷ []) (max (items_height xs) h) ≡ cap_body n (xs ++ x ∷ [])
more_items n xs x h q = ap (λ k. capped n (xs ++ x ∷ []) (max (items_height xs) k)) (sym q) ∙ ap (capped n (xs ++ x ∷ [])) (sym (tallest-append block_item_height xs x))

pub with_stmt-cap : (n : ℕ) (xs : List BlockItem) (x : Stmt) → with_stmt (cap_body n xs) (cap_stmt n x) ≡ cap_body n (xs ++ block_item.Stmt x ∷ [])
unfolding with_stmt
with_stmt-cap n xs x =
    merged-cap n (λ ys y. ys ++ block_item.Stmt y ∷ []) xs (items_height xs) x (stmt_height x)
    ∙ more_items n xs (block_item.Stmt x) (stmt_height x) (block_item_height-Stmt x)

pub with_locals-cap : (n : ℕ) (b : Base) (ds : List LocalDecl) (xs : List BlockItem) → with_locals n b (cap_decls n ds) (cap_body n xs) ≡ cap_body n (xs ++ block_item.Local (local.Declared b ds) ∷ [])
unfolding with_locals
with_locals-cap n b ds xs =
    ap (merged (λ ys y. ys ++ block_item.Local (local.Declared b y) ∷ []) (cap_body n xs)) (raised-cap n ds (decls_height ds))
    ∙ merged-cap n (λ ys y. ys ++ block_item.Local (local.Declared b y) ∷ []) xs (items_height xs) ds (decls_height ds + 1)
    ∙ more_items n xs (block_item.Local (local.Declared b ds)) (decls_height ds + 1) (block_item_height-Local (local.Declared b ds))

pub with_va_list-cap : (n : ℕ) → 1 ≤ n → (s : Span) (x : Name) (xs : List BlockItem) → with_va_list s x (cap_body n xs) ≡ cap_body n (xs ++ block_item.Local (local.VaList s x) ∷ [])
unfolding with_va_list
with_va_list-cap n low s x xs =
    ap (merged (λ ys y. ys ++ y ∷ []) (cap_body n xs)) (leaf-cap n low (block_item.Local (local.VaList s x)))
    ∙ merged-cap n (λ ys y. ys ++ y ∷ []) xs (items_height xs) (block_item.Local (local.VaList s x)) 1
    ∙ more_items n xs (block_item.Local (local.VaList s x)) 1 (block_item_height-Local (local.VaList s x))

pub start_locals-cap : (n : ℕ) (b : Base) (ds : List LocalDecl) → start_locals n b (cap_decls n ds) ≡ cap_start n (start.Local b ds)
unfolding start_locals
start_locals-cap n b ds = above-cap n (mapped (start.Local b) (cap_decls n ds)) (start.Local b ds) (decls_height ds) (start_height (start.Local b ds)) (mapped-cap n (start.Local b) ds (decls_height ds)) refl

pub start_part-cap : (n : ℕ) (e : Option Expr) → start_part (cap_option n e) ≡ cap_start n (start_of e)
unfolding start_part
start_part-cap n e = mapped-cap n start_of e (optional_height e) ∙ ap (capped n (start_of e)) (same e)
  where
    same : (i : Option Expr) → optional_height i ≡ start_height (start_of i)
    same None = refl
    same (Some x) = refl

pub for_head-cap : (n : ℕ) (i : ForStart) (c e : Option Expr) → for_head (cap_start n i) (cap_option n c) (cap_option n e) ≡ cap_head n (head_of i (c, e))
unfolding for_head
for_head-cap n i c e =
    ap (merged head_of (cap_start n i)) (merged-cap n pair_of c (optional_height c) e (optional_height e))
    ∙ merged-cap n head_of i (start_height i) (c, e) (max (optional_height c) (optional_height e))

pub block_part-cap : (n : ℕ) (s : Span) (xs : List BlockItem) → block_part n s (cap_body n xs) ≡ cap_stmt n (stmt.Block s xs)
unfolding block_part
block_part-cap n s xs = above-cap n (mapped (stmt.Block s) (cap_body n xs)) (stmt.Block s xs) (items_height xs) (stmt_height (stmt.Block s xs)) (mapped-cap n (stmt.Block s) xs (items_height xs)) (stmt_height-Block s xs)

pub effect_part-cap : (n : ℕ) (e : Expr) → effect_part n (cap_expr n e) ≡ cap_stmt n (stmt.Effect e)
unfolding effect_part
effect_part-cap n e = above-cap n (mapped stmt.Effect (cap_expr n e)) (stmt.Effect e) (expr_height e) (stmt_height (stmt.Effect e)) (mapped-cap n stmt.Effect e (expr_height e)) (stmt_height-Effect e)

pub return_part-cap : (n : ℕ) (s : Span) (e : Option Expr) → return_part n s (cap_option n e) ≡ cap_stmt n (stmt.Return s e)
unfolding return_part
return_part-cap n s e = above-cap n (mapped (stmt.Return s) (cap_option n e)) (stmt.Return s e) (optional_height e) (stmt_height (stmt.Return s e)) (mapped-cap n (stmt.Return s) e (optional_height e)) (stmt_height-Return s e)

pub if_part-cap : (n : ℕ) (s : Span) (c : Expr) (x : Stmt) → if_part n s (cap_expr n c) (cap_stmt n x) ≡ cap_stmt n (stmt.If s c x)
unfolding if_part
if_part-cap n s c x =
    above-cap n (merged (stmt.If s) (cap_expr n c) (cap_stmt n x)) (stmt.If s c x) (max (expr_height c) (stmt_height x)) (stmt_height (stmt.If s c x))
    (merged-cap n (stmt.If s) c (expr_height c) x (stmt_height x)) (stmt_height-If s c x)

pub if_else_part-cap : (n : ℕ) (s : Span) (c : Expr) (x y : Stmt) → if_else_part n s (cap_expr n c) (cap_stmt n x) (cap_stmt n y) ≡ cap_stmt n (stmt.IfElse s c x y)
unfolding if_else_part
if_else_part-cap n s c x y =
    above-cap n (merged (λ f z. f z) (merged (stmt.IfElse s) (cap_expr n c) (cap_stmt n x)) (cap_stmt n y)) (stmt.IfElse s c x y) (max (max (expr_height c) (stmt_height x)) (stmt_height y)) (stmt_height (stmt.IfElse s c x y))
    (ap (λ p. merged (λ f z. f z) p (cap_stmt n y)) (merged-cap n (stmt.IfElse s) c (expr_height c) x (stmt_height x))
    ∙ merged-cap n (λ f z. f z) (stmt.IfElse s c x) (max (expr_height c) (stmt_height x)) y (stmt_height y))
    (stmt_height-IfElse s c x y)

pub while_part-cap : (n : ℕ) (s : Span) (c : Expr) (x : Stmt) → while_part n s (cap_expr n c) (cap_stmt n x) ≡ cap_stmt n (stmt.While s c x)
unfolding while_part
while_part-cap n s c x =
    above-cap n (merged (stmt.While s) (cap_expr n c) (cap_stmt n x)) (stmt.While s c x) (max (expr_height c) (stmt_height x)) (stmt_height (stmt.While s c x))
    (merged-cap n (stmt.While s) c (expr_height c) x (stmt_height x)) (stmt_height-While s c x)

pub do_part-cap : (n : ℕ) (s : Span) (x : Stmt) (c : Expr) → do_part n s (cap_stmt n x) (cap_expr n c) ≡ cap_stmt n (stmt.Do s x c)
unfolding do_part
do_part-cap n s x c =
    above-cap n (merged (λ y z. stmt.Do s z y) (cap_expr n c) (cap_stmt n x)) (stmt.Do s x c) (max (expr_height c) (stmt_height x)) (stmt_height (stmt.Do s x c))
    (merged-cap n (λ y z. stmt.Do s z y) c (expr_height c) x (stmt_height x)) (stmt_height-Do s x c)

pub for_part-cap : (n : ℕ) (s : Span) (h : ForHead) (x : Stmt) → for_part n s (cap_head n h) (cap_stmt n x) ≡ cap_stmt n (stmt.For s h.start h.test h.step x)
unfolding for_part
for_part-cap n s h x =
    above-cap n (merged (λ y z. stmt.For s y.start y.test y.step z) (cap_head n h) (cap_stmt n x)) (stmt.For s h.start h.test h.step x) (max (head_height h) (stmt_height x)) (stmt_height (stmt.For s h.start h.test h.step x))
    (merged-cap n (λ y z. stmt.For s y.start y.test y.step z) h (head_height h) x (stmt_height x)) (stmt_height-For s h.start h.test h.step x)
