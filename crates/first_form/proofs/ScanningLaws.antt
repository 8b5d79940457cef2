-- Laws of the scanner.
use Rattle.std.proofs.Common.{◌≡◌, ℕ, ◌&&◌, Bool, true, false, cond, eqb, List, [], ◌∷◌, length, take, drop, Option, Some, None, MatchOption, option_map, Bor, refl, ap, sym, ◌∙◌, nat_eq}
use Rattle.std.proofs.Common.{◌++◌, inl, inr, subst, arith}
use Rattle.std.specs.List.{prefix_len}
use Rattle.std.proofs.lemmas.Bool.{cases_Bool, eq-eqb, eqb-true}
use Rattle.std.proofs.lemmas.Bool.Decides.{nat_tests}
use Rattle.std.proofs.lemmas.List.{take-append-drop, append-nil}
use Rattle.std.proofs.lemmas.Option.{same_Some, none-some}
use Rattle.std.proofs.Math.Seq.{drop-append-add}
use lib.Pointwise.{pointwise}
use Rattle.first_form.specs.FirstForm.{is_blank, is_digit, AreBlanks}
use Rattle.first_form.specs.Scanning.{after_blanks, after_text}
use Rattle.first_form.proofs.Fronts.{front_passes, prefix_len-append_passes, prefix_len-stop}

both : {X : Type 0} (a b : Bool) (x y : X) → cond a (cond b x y) y ≡ cond (a && b) x y
both true b x y = refl
both false b x y = refl

-- a test of the whole front
pub after_text-by_front : (text bytes : List ℕ) → after_text text bytes ≡ cond (pointwise nat_eq (take (length text) bytes) text) (Some (drop (length text) bytes)) None
unfolding after_text
after_text-by_front [] bytes = refl
after_text-by_front (t ∷ ts) [] = refl
after_text-by_front (t ∷ ts) (b ∷ bs) = ap (λ x. cond (eqb b t) x None) (after_text-by_front ts bs) ∙ both (eqb b t) _ _ _

-- what a test of the front tells
pub from_front : (r : Option (Bor (List ℕ))) (b : Bool) (rest : List ℕ) (P : List ℕ → Type 0) → MatchOption r (b ≡ false) (λ x. (b ≡ true) × (x.now ≡ rest) × P x.now) → option_map (λ x. x.now) r ≡ cond b (Some rest) None
from_front None b rest P h = ap (λ c. cond c (Some rest) None) (sym h)
from_front (Some x) b rest P h = ap Some h.1 ∙ ap (λ c. cond c (Some rest) None) (sym h.0)

-- a blank is no digit
pub blank_no_digit : (b : ℕ) → is_blank b ≡ true → is_digit b ≡ false
blank_no_digit b h = grind (arith, nat_tests)

pub digit_no_blank : (b : ℕ) → is_digit b ≡ true → is_blank b ≡ false
digit_no_blank b h = grind (arith, nat_tests)

-- the blanks that bytes begin with
abbrev pub blanks_before : List ℕ → List ℕ
blanks_before bytes = take (prefix_len is_blank bytes) bytes

pub blanks_pass : (bytes : List ℕ) → AreBlanks (blanks_before bytes)
blanks_pass bytes = front_passes is_blank bytes

pub blanks_cut : (bytes : List ℕ) → bytes ≡ blanks_before bytes ++ after_blanks bytes
unfolding after_blanks
blanks_cut bytes = sym (take-append-drop (prefix_len is_blank bytes) bytes)

-- past blanks
pub after_blanks-append : (gap bytes : List ℕ) → AreBlanks gap → after_blanks (gap ++ bytes) ≡ after_blanks bytes
unfolding after_blanks
after_blanks-append gap bytes h =
    ap (λ n. drop n (gap ++ bytes)) (prefix_len-append_passes is_blank gap bytes h) ∙ drop-append-add gap bytes (prefix_len is_blank bytes)

-- nothing to skip
pub after_blanks-solid : (b : ℕ) (bs : List ℕ) → is_blank b ≡ false → after_blanks (b ∷ bs) ≡ b ∷ bs
unfolding after_blanks
after_blanks-solid b bs h = ap (λ n. drop n (b ∷ bs)) (prefix_len-stop is_blank b bs h)

pub after_blanks-all : (bytes : List ℕ) → AreBlanks bytes → after_blanks bytes ≡ []
unfolding after_blanks
after_blanks-all bytes h = ap after_blanks (sym (append-nil bytes)) ∙ after_blanks-append bytes [] h

-- blanks alone, where nothing is left after them
pub blanks_alone : (bytes : List ℕ) → after_blanks bytes ≡ [] → AreBlanks bytes
blanks_alone bytes h =
    let e : bytes ≡ blanks_before bytes = blanks_cut bytes ∙ ap (λ rest. blanks_before bytes ++ rest) h ∙ append-nil (blanks_before bytes) in
    subst (λ (xs : List ℕ). AreBlanks xs) (sym e) (blanks_pass bytes)

-- a text is what it leaves out
pub after_text-append : (text rest : List ℕ) → after_text text (text ++ rest) ≡ Some rest
unfolding after_text
after_text-append [] rest = refl
after_text-append (t ∷ ts) rest = ap (λ c. cond c (after_text ts (ts ++ rest)) None) (eq-eqb t t refl) ∙ after_text-append ts rest

pub after_text_found : (text bytes rest : List ℕ) → after_text text bytes ≡ Some rest → bytes ≡ text ++ rest
unfolding after_text
after_text_found [] bytes rest h = same_Some bytes rest h
after_text_found (t ∷ ts) [] rest h = cc
after_text_found (t ∷ ts) (b ∷ bs) rest h =
    elim (cases_Bool (eqb b t)) [
      | inl e ↦ let more : after_text ts bs ≡ Some rest = ap (λ c. cond c (after_text ts bs) None) (sym e) ∙ h in
          let here : b ≡ t = eqb-true b t e in
          let then : bs ≡ ts ++ rest = after_text_found ts bs rest more in cc
      | inr e ↦ let none : ◌≡◌ {A = Option (List ℕ)} None (Some rest) = ap (λ c. cond c (after_text ts bs) None) (sym e) ∙ h in absurd (none-some rest none)
    ]
