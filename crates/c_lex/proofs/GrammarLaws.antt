-- A token stands in front of a text exactly where reading finds it there.
use Rattle.std.proofs.Common.{◌≡◌, ◌≢◌, ◌⊎◌, inl, inr, ℕ, zero, suc, ◌+◌, ◌-◌, ◌<◌, ◌≤◌, Bool, true, false, cond, ◌&&◌, ◌||◌, not, eqb, List, [], ◌∷◌, ◌++◌, length, get_or, take, drop, Option, Some, None, refl, sym, ap, subst, ◌∙◌, arith, length-take}
use Rattle.std.proofs.lemmas.List.{take-append-drop}
use Rattle.std.proofs.lemmas.Bool.{eqb-true, eqb-false, ne_eqb, false≢true}
use Rattle.c_lex.specs.declared.token.TokKind.{TokKind}
use Rattle.c_lex.specs.declared.token.TokKind.TheVariants as kind
use Rattle.c_lex.specs.declared.next.Fault.{Fault}
use Rattle.c_lex.specs.declared.next.Fault.TheVariants as fault
use Rattle.c_lex.specs.declared.next.Next.{Next}
use Rattle.c_lex.specs.declared.next.Next.TheVariants as next
use Rattle.c_lex.specs.Bytes.{is_blank, is_letter, is_decimal, is_word_byte, is_in_line}
use Rattle.c_lex.specs.Reading.{comment_closed, close_of, slash_at, next_of, mark_at, mark_of, stray}
use Rattle.c_lex.specs.Grammar.{IsToken, is_number, begins_comment, Stands}
use Rattle.c_lex.proofs.QuoteLaws.{by_test, and_left, and_right}
use Rattle.c_lex.proofs.ReadingLaws.{found_bounds}
use Rattle.c_lex.proofs.TokenSound.{token_sound}
use Rattle.c_lex.proofs.TokenReads.{by_or, Outcome, exact, longer, run_on, commented, token_reads}

closed_not_found : (o : Option ℕ) (k : TokKind) (n : ℕ) → comment_closed o ≡ next.Found k n → ⊥
unfolding comment_closed
closed_not_found None k n e = cc
closed_not_found (Some m) k n e = cc

-- where a comment begins no token is found
comment_not_found : (first : Bool) (text : List ℕ) (k : TokKind) (n : ℕ) → begins_comment text ≡ true → next_of first text ≡ next.Found k n → ⊥
unfolding begins_comment next_of slash_at is_blank is_letter is_decimal
comment_not_found first text k n comment found =
    let slash : get_or text 0 0 ≡ 47 = eqb-true _ _ (and_left (eqb (get_or text 0 0) 47) _ comment) in
    let read = rw slash at found in
    by_or ⊥ (eqb (get_or text 1 0) 47) (eqb (get_or text 1 0) 42) (and_right (eqb (get_or text 0 0) 47) _ comment)
    (λ line. let there = rw line at read in cc)
    (λ block.
    let other : eqb (get_or text 1 0) 47 ≡ false = ne_eqb _ _ (λ e. omega (arith, e, eqb-true _ _ block)) in
    closed_not_found (close_of (drop 2 text)) k n (rw (other, block) at read))

pub at_drop : (n : ℕ) (text : List ℕ) → get_or (drop n text) 0 0 ≡ get_or text n 0
at_drop zero text = refl
at_drop (suc n) [] = refl
at_drop (suc n) (b ∷ bs) = at_drop n bs

taken : (m : ℕ) (text : List ℕ) → m ≤ length text → length (take m text) ≡ m
taken m text h = simp length-take (omega arith)

-- reading at a front and its rest is reading the whole
outcome : (first : Bool) (text : List ℕ) (k : TokKind) (m : ℕ) → IsToken k (take m text) → Outcome k (take m text) (drop m text) (next_of first text)
outcome first text k m token =
    subst (λ t. Outcome k (take m text) (drop m text) (next_of first t)) (take-append-drop m text) (token_reads first k (take m text) (drop m text) token)

no_longer : (first : Bool) (text : List ℕ) (k other : TokKind) (n m : ℕ) → next_of first text ≡ next.Found k n → n < m → m ≤ length text → Outcome other (take m text) (drop m text) (next_of first text) → ⊥
no_longer first text k other n m found more within (exact apart e) = let same : n ≡ length (take m text) = cc in omega (arith, same, taken m text within)
no_longer first text k other n m found more within (longer third i h e) = let same : n ≡ i = cc in omega (arith, same, h, taken m text within)
no_longer first text k other n m found more within (run_on number word e) = cc
no_longer first text k other n m found more within (commented comment) =
    comment_not_found first text k n (subst (λ t. begins_comment t ≡ true) (take-append-drop m text) comment) found

is_apart : (first : Bool) (text : List ℕ) (k : TokKind) (n : ℕ) → next_of first text ≡ next.Found k n → n ≤ length text → Outcome k (take n text) (drop n text) (next_of first text) →
    is_number k ≡ true → is_word_byte (get_or text n 0) ≡ false
is_apart first text k n found within (exact apart e) number =
    let at : get_or (drop n text) 0 0 ≡ get_or text n 0 = at_drop n text in
    subst (λ b. is_word_byte b ≡ false) at (apart number)
is_apart first text k n found within (longer third i h e) number = let same : n ≡ i = cc in absurd (omega (arith, same, h, taken n text within))
is_apart first text k n found within (run_on other word e) number = cc
is_apart first text k n found within (commented comment) number =
    absurd (comment_not_found first text k n (subst (λ t. begins_comment t ≡ true) (take-append-drop n text) comment) found)

false_by : (b : Bool) → (b ≡ true → ⊥) → b ≡ false
false_by true h = absurd (h refl)
false_by false h = refl

-- what is found stands there
pub found_stands : (first : Bool) (text : List ℕ) (k : TokKind) (n : ℕ) → 0 < length text → next_of first text ≡ next.Found k n → Stands k n text
found_stands first text k n some found =
    let token = token_sound first text k n found in
    let bounds = found_bounds first text k n some found in
    record {
      within = bounds.1;
      token = token;
      longest = λ m other more within there. no_longer first text k other n m found more within (outcome first text other m there);
      apart = is_apart first text k n found bounds.1 (outcome first text k n token);
      no_comment = false_by (begins_comment text) (λ comment. comment_not_found first text k n comment found);
    }

empty_not_found : (first : Bool) (k : TokKind) (n : ℕ) → next_of first [] ≡ next.Found k n → ⊥
unfolding next_of mark_at mark_of stray is_blank is_letter is_decimal
empty_not_found first k n e = cc

pub some_found : (first : Bool) (text : List ℕ) (k : TokKind) (n : ℕ) → next_of first text ≡ next.Found k n → 0 < length text
some_found first [] k n e = absurd (empty_not_found first k n e)
some_found first (b ∷ bs) k n e = omega arith

read_as : (first : Bool) (text : List ℕ) (k : TokKind) (n : ℕ) → Stands k n text → Outcome k (take n text) (drop n text) (next_of first text) → next_of first text ≡ next.Found k n
read_as first text k n s (exact apart e) = e ∙ ap (next.Found k) (taken n text s.within)
read_as first text k n s (longer other m h e) =
    let bounds = found_bounds first text other m (some_found first text other m e) e in
    absurd (s.longest m other (omega (arith, h, taken n text s.within)) bounds.1 (token_sound first text other m e))
read_as first text k n s (run_on number word e) =
    let at : get_or (drop n text) 0 0 ≡ get_or text n 0 = at_drop n text in
    absurd (false≢true (sym (s.apart number) ∙ (rw (← at) word)))
read_as first text k n s (commented comment) =
    absurd (false≢true (sym s.no_comment ∙ subst (λ t. begins_comment t ≡ true) (take-append-drop n text) comment))

-- what stands there is found
pub stands_found : (first : Bool) (text : List ℕ) (k : TokKind) (n : ℕ) → Stands k n text → next_of first text ≡ next.Found k n
stands_found first text k n s = read_as first text k n s (outcome first text k n s.token)
