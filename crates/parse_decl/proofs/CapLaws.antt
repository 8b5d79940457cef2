-- What is done with capped values is what is done with trees, capped.
use Rattle.std.proofs.Common.{◌≡◌, ℕ, suc, ◌+◌, ◌<◌, ◌≤◌, max, Bool, true, false, cond, List, [], ◌∷◌, ◌++◌, map, nat_le, refl, sym, ap, ◌∙◌, arith}
use Rattle.std.proofs.lemmas.Bool.{le-leb, lt-leb, leb-true, leb-false}
use Rattle.c_types.specs.declared.types.Span.{Span}
use Rattle.c_tree.specs.declared.declarations.Init.{Init}
use Rattle.c_tree.specs.declared.declarations.Init.TheVariants as init
use Rattle.c_tree.specs.Height.{tallest, init_height}
use Rattle.c_tree.proofs.HeightLaws.{init_height-List}
use Rattle.c_tree.proofs.Tallest.{tallest-append}
use Rattle.parse_decl.specs.declared.inits.InitPart.TheVariants as part
use Rattle.parse_decl.specs.declared.inits.InitParts.TheVariants as parts
use Rattle.parse_decl.specs.Inits.{cap_init, cap_inits, init_leaf, no_inits, more_inits, list_of, with_init, listed_init}

past : {A : Type 0} (k n : ℕ) (x y : A) → n < k → cond (nat_le k n) x y ≡ y
past k n x y h = ap (λ v. cond v x y) (lt-leb k n h)

within : {A : Type 0} (k n : ℕ) (x y : A) → k ≤ n → cond (nat_le k n) x y ≡ x
within k n x y h = ap (λ v. cond v x y) (le-leb k n h)

pub init_leaf-cap : (n : ℕ) → 1 ≤ n → (i : Init) → init_height i ≡ 1 → init_leaf i ≡ cap_init n i
init_leaf-cap n low i h = sym (ap (λ k. cond (nat_le k n) (part.Built i k) part.Deep) h ∙ within 1 n (part.Built i 1) part.Deep low)

pub no_inits-cap : (n : ℕ) → no_inits ≡ cap_inits n []
no_inits-cap n = sym (within 0 n (parts.Built [] 0) parts.Deep (omega arith))

pub with_init-cap : (n : ℕ) (is : List Init) (i : Init) → with_init (cap_inits n is) (cap_init n i) ≡ cap_inits n (is ++ i ∷ [])
unfolding with_init
with_init-cap n is i =
    go (nat_le (tallest (map init_height is)) n) refl (nat_le (init_height i) n) refl
    ∙ ap (λ k. cond (nat_le k n) (parts.Built (is ++ i ∷ []) k) parts.Deep) (sym (tallest-append init_height is i))
  where
    go : (v : Bool) → nat_le (tallest (map init_height is)) n ≡ v → (w : Bool) → nat_le (init_height i) n ≡ w →
        more_inits (cond v (parts.Built is (tallest (map init_height is))) parts.Deep) (cond w (part.Built i (init_height i)) part.Deep) ≡ cond (nat_le (max (tallest (map init_height is)) (init_height i)) n) (parts.Built (is ++ i ∷ []) (max (tallest (map init_height is)) (init_height i))) parts.Deep
    go true p true q = sym (within (max (tallest (map init_height is)) (init_height i)) n (parts.Built (is ++ i ∷ []) (max (tallest (map init_height is)) (init_height i))) parts.Deep (omega (arith, leb-true (tallest (map init_height is)) n p, leb-true (init_height i) n q)))
    go true p false q = sym (past (max (tallest (map init_height is)) (init_height i)) n (parts.Built (is ++ i ∷ []) (max (tallest (map init_height is)) (init_height i))) parts.Deep (omega (arith, leb-false (init_height i) n q)))
    go false p w q = sym (past (max (tallest (map init_height is)) (init_height i)) n (parts.Built (is ++ i ∷ []) (max (tallest (map init_height is)) (init_height i))) parts.Deep (omega (arith, leb-false (tallest (map init_height is)) n p)))

pub listed_init-cap : (n : ℕ) (s : Span) (is : List Init) → listed_init n s (cap_inits n is) ≡ cap_init n (init.List s is)
unfolding listed_init
listed_init-cap n s is =
    go (nat_le (tallest (map init_height is)) n) refl
    ∙ ap (λ k. cond (nat_le k n) (part.Built (init.List s is) k) part.Deep) (sym (init_height-List s is))
  where
    go : (v : Bool) → nat_le (tallest (map init_height is)) n ≡ v → list_of n s (cond v (parts.Built is (tallest (map init_height is))) parts.Deep) ≡ cond (nat_le ((tallest (map init_height is)) + 1) n) (part.Built (init.List s is) ((tallest (map init_height is)) + 1)) part.Deep
    go true p = let k : suc (tallest (map init_height is)) ≡ (tallest (map init_height is)) + 1 = omega arith in ap (λ x. cond (nat_le x n) (part.Built (init.List s is) ((tallest (map init_height is)) + 1)) part.Deep) k
    go false p = sym (past ((tallest (map init_height is)) + 1) n (part.Built (init.List s is) ((tallest (map init_height is)) + 1)) part.Deep (omega (arith, leb-false (tallest (map init_height is)) n p)))
