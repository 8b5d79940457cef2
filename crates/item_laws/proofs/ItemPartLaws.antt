-- What is done with capped globals, items and units is what is done with trees, capped.
use Rattle.std.proofs.Common.{◌≡◌, ℕ, suc, ◌+◌, ◌<◌, ◌≤◌, max, Bool, true, false, cond, List, [], ◌∷◌, ◌++◌, map, Option, Some, None, nat_lt, nat_le, refl, sym, ap, ◌∙◌, arith}
use Rattle.std.proofs.lemmas.Bool.{le-leb, lt-leb, leb-true, leb-false}
use Rattle.c_types.specs.declared.types.Span.{Span}
use Rattle.c_tree.specs.declared.expressions.Base.{Base}
use Rattle.c_tree.specs.declared.statements.BlockItem.{BlockItem}
use Rattle.c_tree.specs.declared.declarations.Decl.{Decl}
use Rattle.c_tree.specs.declared.declarations.Param.{Param}
use Rattle.c_tree.specs.declared.declarations.Init.{Init}
use Rattle.c_tree.specs.declared.declarations.GlobalDecl.{GlobalDecl}
use Rattle.c_tree.specs.declared.declarations.FunctionHead.{FunctionHead}
use Rattle.c_tree.specs.declared.declarations.Item.{Item}
use Rattle.c_tree.specs.declared.declarations.Item.TheVariants as item
use Rattle.c_tree.specs.Height.{tallest, ones, block_item_height, init_height, global_decl_height, params_height, item_height}
use Rattle.c_tree.proofs.Tallest.{tallest-append}
use Rattle.parse_decl.specs.declared.inits.InitPart.TheVariants as init_part
use Rattle.parse_decl.specs.Inits.{cap_init}
use Rattle.parse_stmt.specs.declared.parts.Capped.{Capped}
use Rattle.parse_stmt.specs.declared.parts.Capped.TheVariants.{Built, Deep}
use Rattle.parse_stmt.specs.StmtParts.{capped, cap_body, items_height, mapped, merged, raised, at_least_one}
use Rattle.parse_item.specs.ItemGrammar.{global_of, unit_of}
use Rattle.parse_item.specs.ItemParts.{GlobalsPart, cap_globals, cap_item, cap_items, cap_unit, of_init, without_init, with_init, globals_part, define_part, with_item, unit_part}

past : {A : Type 0} (k n : ℕ) (x y : A) → n < k → cond (nat_le k n) x y ≡ y
past k n x y h = ap (λ v. cond v x y) (lt-leb k n h)

within : {A : Type 0} (k n : ℕ) (x y : A) → k ≤ n → cond (nat_le k n) x y ≡ x
within k n x y h = ap (λ v. cond v x y) (le-leb k n h)

-- a tree that is no higher than n
pub built-cap : {A : Type 0} (n : ℕ) (x : A) (h : ℕ) → h ≤ n → Built x h ≡ capped n x h
built-cap n x h le = sym (within h n (Built x h) Deep le)

pub merged-cap : {A B C : Type 0} (f : A → B → C) (n : ℕ) (x : A) (h : ℕ) (y : B) (k : ℕ) → merged f (capped n x h) (capped n y k) ≡ capped n (f x y) (max h k)
merged-cap f n x h y k = go (nat_le h n) refl (nat_le k n) refl
  where
    go : (v : Bool) → nat_le h n ≡ v → (w : Bool) → nat_le k n ≡ w → merged f (cond v (Built x h) Deep) (cond w (Built y k) Deep) ≡ cond (nat_le (max h k) n) (Built (f x y) (max h k)) Deep
    go true p true q = sym (within (max h k) n (Built (f x y) (max h k)) Deep (omega (arith, leb-true h n p, leb-true k n q)))
    go true p false q = sym (past (max h k) n (Built (f x y) (max h k)) Deep (omega (arith, leb-false k n q)))
    go false p w q = sym (past (max h k) n (Built (f x y) (max h k)) Deep (omega (arith, leb-false h n p)))

pub raised-cap : {A : Type 0} (n : ℕ) (x : A) (h : ℕ) → raised n (capped n x h) ≡ capped n x (h + 1)
raised-cap n x h = go (nat_le h n) refl
  where
    go : (v : Bool) → nat_le h n ≡ v → raised n (cond v (Built x h) Deep) ≡ cond (nat_le (h + 1) n) (Built x (h + 1)) Deep
    go true p = let k : suc h ≡ h + 1 = omega arith in ap (λ y. cond (nat_le y n) (Built x (h + 1)) Deep) k
    go false p = sym (past (h + 1) n (Built x (h + 1)) Deep (omega (arith, leb-false h n p)))

pub mapped-cap : {A B : Type 0} (f : A → B) (n : ℕ) (x : A) (h : ℕ) → mapped f (capped n x h) ≡ capped n (f x) h
mapped-cap f n x h = go (nat_le h n)
  where
    go : (v : Bool) → mapped f (cond v (Built x h) Deep) ≡ cond v (Built (f x) h) Deep
    go true = refl
    go false = refl

least-cap : {A : Type 0} (n : ℕ) → 1 ≤ n → (x : A) (h : ℕ) → at_least_one (capped n x h) ≡ capped n x (max 1 h)
least-cap n low x h = go (nat_le h n) refl
  where
    go : (v : Bool) → nat_le h n ≡ v → at_least_one (cond v (Built x h) Deep) ≡ cond (nat_le (max 1 h) n) (Built x (max 1 h)) Deep
    go true p = sym (within (max 1 h) n (Built x (max 1 h)) Deep (omega (arith, leb-true h n p)))
    go false p = sym (past (max 1 h) n (Built x (max 1 h)) Deep (omega (arith, leb-false h n p)))

of_init-cap : (n : ℕ) (i : Init) → of_init (cap_init n i) ≡ capped n i (init_height i)
of_init-cap n i = go (nat_le (init_height i) n)
  where
    go : (v : Bool) → of_init (cond v (init_part.Built i (init_height i)) init_part.Deep) ≡ cond v (Built i (init_height i)) Deep
    go true = refl
    go false = refl

pub no_globals-cap : (n : ℕ) → Built [] 0 ≡ cap_globals n []
no_globals-cap n = built-cap n [] 0 (omega arith)

pub no_items-cap : (n : ℕ) → Built [] 0 ≡ cap_items n []
no_items-cap n = built-cap n [] 0 (omega arith)

more_globals : (n : ℕ) (gs : List GlobalDecl) (g : GlobalDecl) → capped n (gs ++ g ∷ []) (max (tallest (map global_decl_height gs)) (global_decl_height g)) ≡ cap_globals n (gs ++ g ∷ [])
more_globals n gs g = ap (λ k. capped n (gs ++ g ∷ []) k) (sym (tallest-append global_decl_height gs g))

pub without_init-cap : (n : ℕ) → 1 ≤ n → (gs : List GlobalDecl) (d : Decl) → without_init (cap_globals n gs) d ≡ cap_globals n (gs ++ global_of d None ∷ [])
unfolding without_init
without_init-cap n low gs d =
    ap (λ p. merged (λ ys y. ys ++ y ∷ []) (cap_globals n gs) p) (built-cap n (global_of d None) 1 low)
    ∙ merged-cap (λ ys y. ys ++ y ∷ []) n gs (tallest (map global_decl_height gs)) (global_of d None) 1
    ∙ more_globals n gs (global_of d None)

pub with_init-cap : (n : ℕ) → 1 ≤ n → (gs : List GlobalDecl) (d : Decl) (i : Init) → with_init (cap_globals n gs) d (cap_init n i) ≡ cap_globals n (gs ++ global_of d (Some i) ∷ [])
unfolding with_init
with_init-cap n low gs d i =
    ap (λ p. merged (λ ys y. ys ++ global_of d (Some y) ∷ []) (cap_globals n gs) (at_least_one p)) (of_init-cap n i)
    ∙ ap (λ p. merged (λ ys y. ys ++ global_of d (Some y) ∷ []) (cap_globals n gs) p) (least-cap n low i (init_height i))
    ∙ merged-cap (λ ys y. ys ++ global_of d (Some y) ∷ []) n gs (tallest (map global_decl_height gs)) i (max 1 (init_height i))
    ∙ more_globals n gs (global_of d (Some i))

pub globals_part-cap : (n : ℕ) (y : Base) (gs : List GlobalDecl) → globals_part n y (cap_globals n gs) ≡ cap_item n (item.Globals y gs)
unfolding globals_part
globals_part-cap n y gs =
    ap (raised n) (mapped-cap (item.Globals y) n gs (tallest (map global_decl_height gs))) ∙ raised-cap n (item.Globals y gs) (tallest (map global_decl_height gs))

ones_low : {A : Type 0} (xs : List A) → ones xs ≤ 1
ones_low [] = omega arith
ones_low (x ∷ xs) = omega arith

pub define_part-cap : (n : ℕ) → 1 ≤ n → (h : FunctionHead) (s : Span) (xs : List BlockItem) → define_part n h s (cap_body n xs) ≡ cap_item n (item.Define h s xs)
unfolding define_part
define_part-cap n low h s xs =
    let le : params_height h.params ≤ n = omega (arith, ones_low h.params.list) in
    ap (λ p. raised n (merged (λ g ys. item.Define g s ys) (Built h (params_height h.params)) p)) (raised-cap n xs (items_height xs))
    ∙ ap (λ p. raised n (merged (λ g ys. item.Define g s ys) p (capped n xs (items_height xs + 1)))) (built-cap n h (params_height h.params) le)
    ∙ ap (raised n) (merged-cap (λ g ys. item.Define g s ys) n h (params_height h.params) xs (items_height xs + 1))
    ∙ raised-cap n (item.Define h s xs) (max (params_height h.params) (items_height xs + 1))

pub head-cap : (n : ℕ) → 4 ≤ n → (x : Item) (h : FunctionHead) → item_height x ≡ params_height h.params + 1 → Built x (params_height h.params + 1) ≡ cap_item n x
head-cap n low x h e = built-cap n x (params_height h.params + 1) (omega (arith, ones_low h.params.list)) ∙ ap (λ k. capped n x k) (sym e)

-- an item that is never too high
pub low-cap : (n : ℕ) (x : Item) (h : ℕ) → h ≤ n → item_height x ≡ h → Built x h ≡ cap_item n x
low-cap n x h le e = built-cap n x h le ∙ ap (λ k. capped n x k) (sym e)

pub with_item-cap : (n : ℕ) (xs : List Item) (x : Item) → with_item (cap_items n xs) (cap_item n x) ≡ cap_items n (xs ++ x ∷ [])
unfolding with_item
with_item-cap n xs x =
    merged-cap (λ ys y. ys ++ y ∷ []) n xs (tallest (map item_height xs)) x (item_height x)
    ∙ ap (λ k. capped n (xs ++ x ∷ []) k) (sym (tallest-append item_height xs x))

pub unit_part-cap : (n : ℕ) (xs : List Item) → unit_part n (cap_items n xs) ≡ cap_unit n (unit_of xs)
unfolding unit_part
unit_part-cap n xs = ap (raised n) (mapped-cap unit_of n xs (tallest (map item_height xs))) ∙ raised-cap n (unit_of xs) (tallest (map item_height xs))
