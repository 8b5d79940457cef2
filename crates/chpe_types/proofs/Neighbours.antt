-- Lists whose neighbours pass a test.
use Rattle.std.proofs.Common.{◌≡◌, ℕ, zero, suc, ◌<◌, Bool, true, false, List, [], ◌∷◌, length, get_or, refl, sym, arith, add-one, subst}
use Rattle.std.proofs.lemmas.Bool.{and_parts, and_from, and_left, and_right}
use Rattle.std.specs.List.{AllAdjacentBelow, IsAllAdjacentAnswer}
use Rattle.chpe_types.specs.Looks.{each_follows, all_neighbours}

module _ {X : Type 0} (p : X → X → Bool) where
  follows_all : (x : X) (xs : List X) → ((k : ℕ) (d : X) → k < length xs → true ≡ p (get_or (x ∷ xs) k d) (get_or xs k d)) → each_follows p x xs ≡ true
  follows_all x [] h = refl
  follows_all x (y ∷ ys) h = and_from (p x y) (each_follows p y ys) (sym (h 0 x (omega arith))) (follows_all y ys (λ k d lt. h (suc k) d (omega arith)))

  follows_not : (x : X) (xs : List X) (k : ℕ) → k < length xs → ((d : X) → false ≡ p (get_or (x ∷ xs) k d) (get_or xs k d)) → each_follows p x xs ≡ false
  follows_not x [] k lt h = absurd (omega arith)
  follows_not x (y ∷ ys) zero lt h = and_left (p x y) (each_follows p y ys) (sym (h x))
  follows_not x (y ∷ ys) (suc k) lt h = and_right (p x y) (each_follows p y ys) (follows_not y ys k (omega arith) h)

  follows_each : (R : X → X → Type 0) → ((x y : X) → p x y ≡ true → R x y) → (x : X) (xs : List X) → each_follows p x xs ≡ true → (k : ℕ) (d : X) → k < length xs → R (get_or (x ∷ xs) k d) (get_or xs k d)
  follows_each R f x [] h k d lt = absurd (omega arith)
  follows_each R f x (y ∷ ys) h zero d lt = f x y (and_parts (p x y) (each_follows p y ys) h).0
  follows_each R f x (y ∷ ys) h (suc k) d lt = follows_each R f y ys (and_parts (p x y) (each_follows p y ys) h).1 k d (omega arith)

  -- what the test of a slice's neighbours answers
  pub answered : (xs : List X) (b : Bool) → IsAllAdjacentAnswer (λ x y c. c ≡ p x y) xs b → b ≡ all_neighbours p xs
  answered [] true h = refl
  answered [] false h = absurd (omega (arith, h.1))
  answered (x ∷ xs) true h = sym (follows_all x xs (λ k d lt. subst (λ (j : ℕ). true ≡ p (get_or (x ∷ xs) k d) (get_or (x ∷ xs) j d)) (add-one k) (h k d (omega arith))))
  answered (x ∷ xs) false h = sym (follows_not x xs h.0 (omega (arith, h.1)) (λ d. subst (λ (j : ℕ). false ≡ p (get_or (x ∷ xs) h.0 d) (get_or (x ∷ xs) j d)) (add-one h.0) (h.2 d)))

  pub adjacent : (R : X → X → Type 0) → ((x y : X) → p x y ≡ true → R x y) → (xs : List X) → all_neighbours p xs ≡ true → AllAdjacentBelow R xs (length xs)
  adjacent R f [] h k d lt = absurd (omega arith)
  adjacent R f (x ∷ xs) h k d lt = subst (λ (j : ℕ). R (get_or (x ∷ xs) k d) (get_or (x ∷ xs) j d)) (sym (add-one k)) (follows_each R f x xs h k d (omega arith))
