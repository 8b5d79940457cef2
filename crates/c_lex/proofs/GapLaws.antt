-- A blank or a comment stands in front of a text exactly where reading finds it there, and where it finds nothing
-- no token and no gap stands.
use Rattle.std.proofs.Common.{◌≡◌, ◌≢◌, ◌⊎◌, inl, inr, ℕ, zero, suc, ◌+◌, ◌-◌, ◌<◌, ◌≤◌, Bool, true, false, cond, ◌&&◌, ◌||◌, not, eqb, leb, List, [], ◌∷◌, ◌++◌, length, get_or, take, drop, Option, Some, None, unwrap_or, refl, sym, ap, subst, ◌∙◌, arith, add-zero, add-one}
use Rattle.std.specs.Prelude.{option_map}
use Rattle.std.specs.List.{prefix_len, list_all}
use Rattle.std.proofs.lemmas.List.Sums.{prefix_len-le-length, prefix_len_is, prefix_len_passes, prefix_len_stops}
use Rattle.std.proofs.lemmas.Bool.{eqb-true, eqb-false, ne_eqb, false≢true}
use Rattle.c_lex.specs.declared.token.TokKind.{TokKind}
use Rattle.c_lex.specs.declared.token.TokKind.TheVariants as kind
use Rattle.c_lex.specs.declared.next.Fault.{Fault}
use Rattle.c_lex.specs.declared.next.Fault.TheVariants as fault
use Rattle.c_lex.specs.declared.next.Next.{Next}
use Rattle.c_lex.specs.declared.next.Next.TheVariants as next
use Rattle.c_lex.specs.declared.quotes.Quoted.{Quoted}
use Rattle.c_lex.specs.Bytes.{is_blank, is_letter, is_decimal, is_word_byte, is_in_line}
use Rattle.c_lex.specs.Quotes.{Literal}
use Rattle.c_lex.specs.Reading.{name_at, found_or, number_at, char_closed, char_at, text_closed, text_at, closes, close_of, comment_closed, mark_of, stray, mark_at, slash_at, next_of}
use Rattle.c_lex.specs.Grammar.{begins_comment, Stands, IsGap, blank, line, block, fault_of}
use Rattle.c_lex.proofs.QuoteLaws.{by_test, and_left, and_right}
use Rattle.c_lex.proofs.GrammarLaws.{stands_found, found_stands}

-- the first end of a comment
record FirstEnd (bs : List ℕ) (n : ℕ) : Type 0 where
  place : ℕ
  count : n ≡ place + 2
  here : closes (drop place bs) ≡ true
  before : (j : ℕ) → j < place → closes (drop j bs) ≡ false

first_before : (b : ℕ) (bs : List ℕ) (place : ℕ) → closes (b ∷ bs) ≡ false → ((j : ℕ) → j < place → closes (drop j bs) ≡ false) → (j : ℕ) → j < suc place → closes (drop j (b ∷ bs)) ≡ false
first_before b bs place unclosed before zero h = unclosed
first_before b bs place unclosed before (suc j) h = before j (omega arith)

first_more : (b : ℕ) (bs : List ℕ) (n m : ℕ) → closes (b ∷ bs) ≡ false → suc n ≡ m → FirstEnd bs n → FirstEnd (b ∷ bs) m
first_more b bs n m unclosed counts end = record {
  place = suc end.place;
  count = omega (arith, end.count);
  here = end.here;
  before = first_before b bs end.place unclosed end.before;
}

first_end_by : (b : ℕ) (bs : List ℕ) (n : ℕ) (o : Option ℕ) → closes (b ∷ bs) ≡ false → option_map suc o ≡ Some n → ((m : ℕ) → o ≡ Some m → FirstEnd bs m) → FirstEnd (b ∷ bs) n
first_end_by b bs n None unclosed e tail = cc
first_end_by b bs n (Some m) unclosed e tail = let counts : suc m ≡ n = cc in first_more b bs m n unclosed counts (tail m refl)

first_end : (bs : List ℕ) (n : ℕ) → close_of bs ≡ Some n → FirstEnd bs n
unfolding close_of
first_end [] n e = cc
first_end (b ∷ bs) n e =
    by_test (λ (o : Option ℕ). o ≡ Some n → FirstEnd (b ∷ bs) n) (closes (b ∷ bs)) (Some 2) (option_map suc (close_of bs))
    (λ here two. let counts : 2 ≡ n = cc in record { place = 0; count = sym counts; here = here; before = λ j h. absurd (omega arith) })
    (λ unclosed more. first_end_by b bs n (close_of bs) unclosed more (λ m read. first_end bs m read)) e

close_is : (bs : List ℕ) (place : ℕ) → closes (drop place bs) ≡ true → ((j : ℕ) → j < place → closes (drop j bs) ≡ false) → close_of bs ≡ Some (place + 2)
unfolding close_of closes
close_is [] zero here before = cc
close_is [] (suc place) here before = cc
close_is (b ∷ bs) zero here before = rw here
close_is (b ∷ bs) (suc place) here before =
    let unclosed : closes (b ∷ bs) ≡ false = before 0 (omega arith) in
    let tail = close_is bs place here (λ j h. before (suc j) (omega arith)) in
    let counts : suc (place + 2) ≡ suc place + 2 = omega arith in
    rw (unclosed, tail, counts)

drop-nil : (i : ℕ) → drop {A = ℕ} i [] ≡ []
drop-nil zero = refl
drop-nil (suc i) = refl

nothing_dropped : (i : ℕ) → drop {A = ℕ} i [] ≡ drop (i + 2) []
nothing_dropped i = drop-nil i ∙ sym (drop-nil (i + 2))

one_dropped : (i a : ℕ) → drop {A = ℕ} i [] ≡ drop (i + 2) (a ∷ [])
one_dropped i a = let counts : i + 2 ≡ suc (suc i) = omega arith in rw counts (drop-nil i ∙ sym (drop-nil (suc i)))

drop_two : (i : ℕ) (text : List ℕ) → drop i (drop 2 text) ≡ drop (i + 2) text
drop_two i [] = nothing_dropped i
drop_two i (a ∷ []) = one_dropped i a
drop_two i (a ∷ b ∷ bs) = let counts : i + 2 ≡ suc (suc i) = omega arith in rw counts

-- what is found as a gap is one
line_gap : (text : List ℕ) (n : ℕ) → get_or text 0 0 ≡ 47 → get_or text 1 0 ≡ 47 → prefix_len is_in_line text ≡ n → IsGap n text
line_gap text n slash second e =
    subst (λ m. IsGap m text) e (line slash second (prefix_len-le-length is_in_line text) (λ i h. prefix_len_passes is_in_line text i 0 h) (λ h. prefix_len_stops is_in_line text 0 h))

block_gap : (text : List ℕ) (n : ℕ) (o : Option ℕ) → get_or text 0 0 ≡ 47 → get_or text 1 0 ≡ 42 → close_of (drop 2 text) ≡ o → comment_closed o ≡ next.Gap n → IsGap n text
unfolding comment_closed
block_gap text n None slash star e found = cc
block_gap text n (Some m) slash star e found =
    let end = first_end (drop 2 text) m e in
    let counts : m + 2 ≡ n = cc in
    block slash star end.place (omega (arith, counts, end.count)) (rw (← drop_two end.place text) end.here) (λ j h. rw (← drop_two j text) (end.before j h))

is_gap : Next → Bool
is_gap (next.Gap n) = true
is_gap (next.Found k n) = false
is_gap (next.Refused f) = false

not_gap : (x : Next) (n : ℕ) → is_gap x ≡ false → x ≡ next.Gap n → ⊥
unfolding is_gap
not_gap x n h e = false≢true (sym h ∙ ap is_gap e)

name_not_gap : (text : List ℕ) → is_gap (name_at text) ≡ false
unfolding name_at is_gap
name_not_gap text = refl

found_or_not_gap : (f : Fault) (n : ℕ) (o : Option TokKind) → is_gap (found_or f n o) ≡ false
unfolding found_or is_gap
found_or_not_gap f n None = refl
found_or_not_gap f n (Some k) = refl

number_not_gap : (text : List ℕ) → is_gap (number_at text) ≡ false
unfolding number_at
number_not_gap text = found_or_not_gap fault.BadNumber _ _

closed_not_gap : (text : List ℕ) (o : Option Quoted) → is_gap (char_closed text o) ≡ false
unfolding char_closed is_gap
closed_not_gap text None = refl
closed_not_gap text (Some q) = by_test (λ x. is_gap x ≡ false) (eqb (get_or text (q.length + 1) 0) 39) _ (next.Refused fault.Unclosed) (λ _. refl) (λ _. refl)

char_not_gap : (text : List ℕ) → is_gap (char_at text) ≡ false
unfolding char_at
char_not_gap text = closed_not_gap text _

literal_not_gap : (o : Option Literal) → is_gap (text_closed o) ≡ false
unfolding text_closed is_gap
literal_not_gap None = refl
literal_not_gap (Some t) = refl

text_not_gap : (text : List ℕ) → is_gap (text_at text) ≡ false
unfolding text_at
text_not_gap text = literal_not_gap _

option_not_gap : (j : ℕ) (o : Option ℕ) (x : Next) → is_gap x ≡ false → is_gap (unwrap_or (option_map (λ m. next.Found (kind.Mark m) j) o) x) ≡ false
unfolding is_gap
option_not_gap j None x h = h
option_not_gap j (Some m) x h = refl

or_not_gap : (j : ℕ) (text : List ℕ) (x : Next) → is_gap x ≡ false → is_gap (unwrap_or (mark_of j text) x) ≡ false
unfolding mark_of
or_not_gap j text x h = by_test (λ o. is_gap (unwrap_or o x) ≡ false) (leb j (length text)) _ None (λ _. option_not_gap j _ x h) (λ _. h)

mark_not_gap : (first : Bool) (text : List ℕ) → is_gap (mark_at first text) ≡ false
unfolding mark_at stray is_gap
mark_not_gap first text = or_not_gap 3 text _ (or_not_gap 2 text _ (or_not_gap 1 text _ refl))

slash_gap : (first : Bool) (text : List ℕ) (n : ℕ) → eqb (get_or text 0 0) 47 ≡ true → slash_at first text ≡ next.Gap n → IsGap n text
unfolding slash_at
slash_gap first text n slash found =
    let P : Next → Type 0 = λ x. x ≡ next.Gap n → IsGap n text in
    by_test P (eqb (get_or text 1 0) 47) _ _
    (λ second e. let counts : prefix_len is_in_line text ≡ n = cc in line_gap text n (eqb-true _ _ slash) (eqb-true _ _ second) counts)
    (λ _. by_test P (eqb (get_or text 1 0) 42) _ _
    (λ star e. block_gap text n (close_of (drop 2 text)) (eqb-true _ _ slash) (eqb-true _ _ star) refl e)
    (λ _ e. absurd (not_gap (mark_at first text) n (mark_not_gap first text) e))) found

pub found_gap : (first : Bool) (text : List ℕ) (n : ℕ) → next_of first text ≡ next.Gap n → IsGap n text
unfolding next_of
found_gap first text n found =
    let P : Next → Type 0 = λ x. x ≡ next.Gap n → IsGap n text in
    let b = get_or text 0 0 in
    by_test P (is_blank b) _ _ (λ h e. let counts : 1 ≡ n = cc in blank (sym counts) h)
    (λ _. by_test P (is_letter b) _ _ (λ _ e. absurd (not_gap (name_at text) n (name_not_gap text) e))
    (λ _. by_test P (is_decimal b) _ _ (λ _ e. absurd (not_gap (number_at text) n (number_not_gap text) e))
    (λ _. by_test P (eqb b 39) _ _ (λ _ e. absurd (not_gap (char_at text) n (char_not_gap text) e))
    (λ _. by_test P (eqb b 34) _ _ (λ _ e. absurd (not_gap (text_at text) n (text_not_gap text) e))
    (λ _. by_test P (eqb b 47) _ _ (λ slash e. slash_gap first text n slash e)
    (λ _ e. absurd (not_gap (mark_at first text) n (mark_not_gap first text) e))))))) found

-- a gap that stands there is found
pub gap_found : (first : Bool) (text : List ℕ) (n : ℕ) → IsGap n text → next_of first text ≡ next.Gap n
unfolding next_of slash_at comment_closed is_blank is_letter is_decimal
gap_found first text n (blank one h) = rw (h, one)
gap_found first text n (line slash second within each stop) =
    rw (slash, second, prefix_len_is is_in_line text n 0 within each stop)
gap_found first text n (block slash star i counts here before) =
    let end = close_is (drop 2 text) i (rw (drop_two i text) here) (λ j h. rw (drop_two j text) (before j h)) in
    let four : i + 2 + 2 ≡ n = omega (arith, counts) in
    rw (slash, star, end, four)

-- why nothing is found
fault_by : (P : Fault → Type 0) (first : Bool) (text : List ℕ) → is_decimal (get_or text 0 0) ≡ false → eqb (get_or text 0 0) 39 ≡ false → eqb (get_or text 0 0) 34 ≡ false → begins_comment text ≡ false →
    P (cond (eqb (get_or text 0 0) 35 && first) fault.Directive fault.BadByte) → P (fault_of first text)
unfolding fault_of
fault_by P first text digit quote quotes comment h = rw (digit, quote, quotes, comment) h

mark_option_refused : (j : ℕ) (o : Option ℕ) (x : Next) (f : Fault) → unwrap_or (option_map (λ m. next.Found (kind.Mark m) j) o) x ≡ next.Refused f → x ≡ next.Refused f
mark_option_refused j None x f e = e
mark_option_refused j (Some m) x f e = cc

mark_or_refused : (j : ℕ) (text : List ℕ) (x : Next) (f : Fault) → unwrap_or (mark_of j text) x ≡ next.Refused f → x ≡ next.Refused f
unfolding mark_of
mark_or_refused j text x f e = by_test (λ o. unwrap_or o x ≡ next.Refused f → x ≡ next.Refused f) (leb j (length text)) _ None (λ _ there. mark_option_refused j _ x f there) (λ _ there. there) e

mark_refused : (first : Bool) (text : List ℕ) (f : Fault) → mark_at first text ≡ next.Refused f → f ≡ cond (eqb (get_or text 0 0) 35 && first) fault.Directive fault.BadByte
unfolding mark_at stray
mark_refused first text f e =
    let last = mark_or_refused 1 text _ f (mark_or_refused 2 text _ f (mark_or_refused 3 text _ f e)) in cc

number_refused : (n : ℕ) (o : Option TokKind) (f : Fault) → found_or fault.BadNumber n o ≡ next.Refused f → f ≡ fault.BadNumber
unfolding found_or
number_refused n None f e = cc
number_refused n (Some k) f e = cc

closed_refused : (text : List ℕ) (o : Option Quoted) (f : Fault) → char_closed text o ≡ next.Refused f → f ≡ fault.Unclosed
unfolding char_closed
closed_refused text None f e = cc
closed_refused text (Some q) f e = by_test (λ (x : Next). x ≡ next.Refused f → f ≡ fault.Unclosed) (eqb (get_or text (q.length + 1) 0) 39) _ (next.Refused fault.Unclosed) (λ _ there. cc) (λ _ there. cc) e

literal_refused : (o : Option Literal) (f : Fault) → text_closed o ≡ next.Refused f → f ≡ fault.Unclosed
unfolding text_closed
literal_refused None f e = cc
literal_refused (Some t) f e = cc

comment_refused : (o : Option ℕ) (f : Fault) → comment_closed o ≡ next.Refused f → f ≡ fault.Unclosed
unfolding comment_closed
comment_refused None f e = cc
comment_refused (Some n) f e = cc

unclosed_fault : (first : Bool) (text : List ℕ) → is_decimal (get_or text 0 0) ≡ false → (eqb (get_or text 0 0) 39 || eqb (get_or text 0 0) 34 || begins_comment text) ≡ true → fault_of first text ≡ fault.Unclosed
unfolding fault_of
unclosed_fault first text digit h = rw (digit, h)

begins_by : (text : List ℕ) (slashes star : Bool) → eqb (get_or text 1 0) 47 ≡ slashes → eqb (get_or text 1 0) 42 ≡ star → eqb (get_or text 0 0) 47 ≡ true → begins_comment text ≡ (slashes || star)
unfolding begins_comment
begins_by text slashes star second third slash = rw (slash, second, third)

no_slash : (text : List ℕ) → eqb (get_or text 0 0) 47 ≡ false → begins_comment text ≡ false
unfolding begins_comment
no_slash text h = rw h

number_fault : (first : Bool) (text : List ℕ) → is_decimal (get_or text 0 0) ≡ true → fault_of first text ≡ fault.BadNumber
unfolding fault_of
number_fault first text digit = rw digit

slash_refused : (first : Bool) (text : List ℕ) (f : Fault) → is_decimal (get_or text 0 0) ≡ false → eqb (get_or text 0 0) 39 ≡ false → eqb (get_or text 0 0) 34 ≡ false → eqb (get_or text 0 0) 47 ≡ true →
    slash_at first text ≡ next.Refused f → f ≡ fault_of first text
unfolding slash_at number_at
slash_refused first text f digit quote quotes slash e =
    let P : Next → Type 0 = λ x. x ≡ next.Refused f → f ≡ fault_of first text in
    by_test P (eqb (get_or text 1 0) 47) _ _ (λ _ there. cc)
    (λ second. by_test P (eqb (get_or text 1 0) 42) _ _
    (λ star there. comment_refused _ f there ∙ sym (unclosed_fault first text digit (rw (quote, quotes, begins_by text false true second star slash))))
    (λ star there. fault_by (λ g. f ≡ g) first text digit quote quotes (begins_by text false false second star slash) (mark_refused first text f there))) e

pub refused_fault : (first : Bool) (text : List ℕ) (f : Fault) → next_of first text ≡ next.Refused f → f ≡ fault_of first text
unfolding next_of number_at char_at text_at name_at
refused_fault first text f e =
    let P : Next → Type 0 = λ x. x ≡ next.Refused f → f ≡ fault_of first text in
    let b = get_or text 0 0 in
    by_test P (is_blank b) _ _ (λ _ there. cc)
    (λ _. by_test P (is_letter b) _ _ (λ _ there. cc)
    (λ _. by_test P (is_decimal b) _ _ (λ digit there. number_refused _ _ f there ∙ sym (number_fault first text digit))
    (λ digit. by_test P (eqb b 39) _ _ (λ quote there. closed_refused text _ f there ∙ sym (unclosed_fault first text digit (rw quote)))
    (λ quote. by_test P (eqb b 34) _ _ (λ quotes there. literal_refused _ f there ∙ sym (unclosed_fault first text digit (rw (quote, quotes))))
    (λ quotes. by_test P (eqb b 47) _ _ (λ slash there. slash_refused first text f digit quote quotes slash there)
    (λ slash there. fault_by (λ g. f ≡ g) first text digit quote quotes (no_slash text slash) (mark_refused first text f there))))))) e

-- a gap takes a byte
pub some_gap : (n : ℕ) (text : List ℕ) → IsGap n text → 0 < length text
unfolding is_blank
some_gap n (b ∷ bs) gap = omega arith
some_gap n [] (blank one h) = cc
some_gap n [] (line slash second within each stop) = absurd (omega (arith, slash))
some_gap n [] (block slash star i counts here before) = absurd (omega (arith, slash))
