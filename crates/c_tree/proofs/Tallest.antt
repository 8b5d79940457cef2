-- The tallest of one more.
use Rattle.std.proofs.Common.{◌≡◌, ℕ, ◌+◌, ◌<◌, max, List, [], ◌∷◌, ◌++◌, map, take, length, get_or, sym, ap, ◌∙◌, add-one, arith}
use Rattle.std.proofs.Math.Seq.{take-suc}
use Rattle.c_tree.specs.Height.{tallest}

pub tallest-append : {A : Type 0} (f : A → ℕ) (xs : List A) (x : A) → tallest (map f (xs ++ x ∷ [])) ≡ max (tallest (map f xs)) (f x)
tallest-append f [] x = omega arith
tallest-append f (y ∷ xs) x = let e : tallest (map f (xs ++ x ∷ [])) ≡ max (tallest (map f xs)) (f x) = tallest-append f xs x in omega arith

pub tallest_more : {A : Type 0} (f : A → ℕ) (xs : List A) (i : ℕ) (x : A) → i < length xs → x ≡ get_or xs i x →
    tallest (map f (take (i + 1) xs)) ≡ max (tallest (map f (take i xs))) (f x)
tallest_more f xs i x h e =
    ap (λ n. tallest (map f (take n xs))) (add-one i) ∙ ap (λ ys. tallest (map f ys)) (take-suc xs i x h)
    ∙ tallest-append f (take i xs) (get_or xs i x) ∙ ap (λ y. max (tallest (map f (take i xs))) (f y)) (sym e)
