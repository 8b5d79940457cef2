-- Where a token of the grammar stands in front, reading finds it, or a longer one.
use Rattle.std.proofs.Common.{◌≡◌, ◌≢◌, ◌⊎◌, inl, inr, ℕ, zero, suc, ◌+◌, ◌-◌, ◌*◌, ◌<◌, ◌≤◌, Bool, true, false, cond, ◌&&◌, ◌||◌, not, eqb, leb, ltb, List, [], ◌∷◌, ◌++◌, length, get_or, take, drop, Option, Some, None, unwrap_or, refl, sym, ap, subst, ◌∙◌, arith, take_at, drop_at, append_assoc, append-nil, length-append, is_some, le-ltb, lt-ltb, le-leb, leb-true, ltb-true, lit≤, add-zero}
use Rattle.std.specs.Prelude.{option_map, option_and_then}
use Rattle.std.specs.List.{prefix_len, list_all}
use Rattle.std.specs.Char.{digit_value, is_digit}
use Rattle.std.specs.Str.Parse.{digits_value}
use Rattle.std.proofs.lemmas.List.{get_or_at}
use Rattle.std.proofs.lemmas.List.Folds.{list_all-append}
use Rattle.std.proofs.lemmas.Bool.{eqb-true, eqb-false, ne_eqb, false≢true}
use Rattle.std.proofs.lemmas.Bool.Decides.{nat_tests}
use Rattle.hx_words.specs.TwosComplement.{signed_of}
use Rattle.c_types.specs.declared.types.IntTy.{IntTy}
use Rattle.c_lex.specs.declared.token.TokKind.{TokKind}
use Rattle.c_lex.specs.declared.token.TokKind.TheVariants as kind
use Rattle.c_lex.specs.declared.numbers.Suffix.{Suffix}
use Rattle.c_lex.specs.declared.next.Fault.{Fault}
use Rattle.c_lex.specs.declared.next.Fault.TheVariants as fault
use Rattle.c_lex.specs.declared.next.Next.{Next}
use Rattle.c_lex.specs.declared.next.Next.TheVariants as next
use Rattle.c_lex.specs.declared.quotes.Quoted.{Quoted}
use Rattle.c_lex.specs.declared.words.Word.TheVariants as word
use Rattle.c_lex.specs.declared.marks.Mark.TheVariants as mark
use Rattle.c_lex.specs.Numbering.{words, word_text, marks, mark_text}
use Rattle.c_lex.specs.Bytes.{is_blank, is_letter, is_decimal, is_word_byte, is_in_line}
use Rattle.c_lex.specs.Spelling.{number_of_word, number_of_mark}
use Rattle.c_lex.specs.Numbers.{is_x, is_u, is_l, base_of, prefix_of, suffix_of, type_of, digits_len, number_from, number_of}
use Rattle.c_lex.specs.Quotes.{escape_value, hex_escape, escape_at, is_plain, quoted_at, Literal, literal_from, with_quoted}
use Rattle.c_lex.specs.Reading.{word_len, name_kind, name_at, found_or, number_at, char_closed, char_at, text_closed, text_at, comment_closed, mark_of, stray, mark_at, slash_at, next_of}
use Rattle.c_lex.specs.Grammar.{is_name, IsNumeral, decimal, octal, hexadecimal, IsNumber, IsCharacter, plain, escaped, coded, AreCharacters, IsToken, is_number, begins_comment}
use Rattle.c_lex.proofs.QuoteLaws.{present, by_test, and_left, and_right}
use Rattle.c_lex.proofs.LiteralLaws.{joined, literal_step}
use Rattle.c_lex.proofs.ReadingLaws.{letter_in_word, decimal_in_word}
use Rattle.c_lex.proofs.GrammarLemmas.{prefix_len-passing, prefix_len-stopping, in_table}

-- a byte that passes a test is none that fails it
pub differs : (p : ℕ → Bool) (b c : ℕ) → p c ≡ false → p b ≡ true → eqb b c ≡ false
differs p b c fails passes = ne_eqb b c (λ e. false≢true (sym fails ∙ ap p (sym e) ∙ passes))

not_blank : (p : ℕ → Bool) (b : ℕ) → p 32 ≡ false → p 9 ≡ false → p 13 ≡ false → p 10 ≡ false → p b ≡ true → is_blank b ≡ false
unfolding is_blank
not_blank p b space tab return feed h = rw (differs p b 32 space h, differs p b 9 tab h, differs p b 13 return h, differs p b 10 feed h)

letter_not_blank : (b : ℕ) → is_letter b ≡ true → is_blank b ≡ false
unfolding is_letter
letter_not_blank b h = not_blank is_letter b refl refl refl refl h

decimal_not_blank : (b : ℕ) → is_decimal b ≡ true → is_blank b ≡ false
unfolding is_decimal
decimal_not_blank b h = not_blank is_decimal b refl refl refl refl h

above_fails : (a b : ℕ) → b < a → leb a b ≡ false
above_fails a b h = grind (arith, nat_tests)

decimal_not_letter : (b : ℕ) → is_decimal b ≡ true → is_letter b ≡ false
unfolding is_decimal is_letter
decimal_not_letter b h =
    let small : b ≤ 57 = leb-true _ _ (and_right (leb 48 b) _ h) in
    let other : eqb b 95 ≡ false = ne_eqb b 95 (λ e. omega arith) in
    rw (above_fails 65 b (omega arith), above_fails 97 b (omega arith), other)

-- what reading finds where a token stands in front: that token, a longer one, or a number that runs on; or a
-- comment begins there
pub data Outcome (k : TokKind) (t more : List ℕ) (x : Next) : Type 0 where
  exact : (is_number k ≡ true → is_word_byte (get_or more 0 0) ≡ false) → x ≡ next.Found k (length t) → Outcome k t more x
  longer : (other : TokKind) (n : ℕ) → length t < n → x ≡ next.Found other n → Outcome k t more x
  run_on : is_number k ≡ true → is_word_byte (get_or more 0 0) ≡ true → x ≡ next.Refused fault.BadNumber → Outcome k t more x
  commented : begins_comment (t ++ more) ≡ true → Outcome k t more x

word_len-word : (t more : List ℕ) → list_all is_word_byte t ≡ true → word_len (t ++ more) ≡ length t + word_len more
unfolding word_len
word_len-word t more h = prefix_len-passing is_word_byte t more h

word_taken : (t more : List ℕ) → list_all is_word_byte t ≡ true → word_len more ≡ 0 → take (word_len (t ++ more)) (t ++ more) ≡ t
word_taken t more h none = take_at t more (word_len (t ++ more)) (sym (word_len-word t more h ∙ (rw none (add-zero (length t)))))

name_outcome : (k : TokKind) (t more : List ℕ) (d : ℕ) → (is_number k ≡ false) → list_all is_word_byte t ≡ true → name_kind t ≡ k → word_len more ≡ d → Outcome k t more (name_at (t ++ more))
unfolding name_at
name_outcome k t more zero name h same e =
    let counts : word_len (t ++ more) ≡ length t = word_len-word t more h ∙ (rw e (add-zero (length t))) in
    exact (λ number. absurd (false≢true (sym name ∙ number))) (rw (word_taken t more h e, counts, same))
name_outcome k t more (suc d) name h same e =
    let counts : word_len (t ++ more) ≡ length t + suc d = word_len-word t more h ∙ (rw e) in
    longer (name_kind (take (word_len (t ++ more)) (t ++ more))) (word_len (t ++ more)) (omega (arith, counts)) refl

name_reads : (first : Bool) (k : TokKind) (t more : List ℕ) → is_number k ≡ false → is_name t ≡ true → name_kind t ≡ k → Outcome k t more (next_of first (t ++ more))
unfolding is_name next_of
name_reads first k [] more plain_kind name same = cc
name_reads first k (b ∷ bs) more plain_kind name same =
    let letter : is_letter b ≡ true = and_left (is_letter b) _ name in
    let all : list_all is_word_byte (b ∷ bs) ≡ true = rw (letter_in_word b letter) (and_right (is_letter b) _ name) in
    rw (letter_not_blank b letter, letter) (name_outcome k (b ∷ bs) more (word_len more) plain_kind all same refl)

runs_first : (b d : ℕ) (bs : List ℕ) (p : Bool) → is_word_byte b ≡ p → cond p (1 + prefix_len is_word_byte bs) 0 ≡ suc d → is_word_byte b ≡ true
runs_first b d bs true h e = h
runs_first b d bs false h e = cc

runs_on : (more : List ℕ) (d : ℕ) → word_len more ≡ suc d → is_word_byte (get_or more 0 0) ≡ true
unfolding word_len
runs_on [] d e = cc
runs_on (b ∷ bs) d e = runs_first b d bs (is_word_byte b) refl e

stops_first : (b : ℕ) (bs : List ℕ) (p : Bool) → is_word_byte b ≡ p → cond p (1 + prefix_len is_word_byte bs) 0 ≡ 0 → is_word_byte b ≡ false
stops_first b bs true h e = absurd (omega (arith, e))
stops_first b bs false h e = h

stops : (more : List ℕ) → word_len more ≡ 0 → is_word_byte (get_or more 0 0) ≡ false
unfolding word_len is_word_byte is_letter is_decimal
stops [] e = refl
stops (b ∷ bs) e = stops_first b bs (is_word_byte b) refl e

number_outcome : (k : TokKind) (t more : List ℕ) (d : ℕ) (o : Option TokKind) → list_all is_word_byte t ≡ true → is_number k ≡ true → number_of t ≡ Some k → word_len more ≡ d →
    number_of (take (word_len (t ++ more)) (t ++ more)) ≡ o → Outcome k t more (number_at (t ++ more))
unfolding number_at found_or
number_outcome k t more zero o h numeral same e read =
    let counts : word_len (t ++ more) ≡ length t = word_len-word t more h ∙ (rw e (add-zero (length t))) in
    exact (λ _. stops more e) (rw (word_taken t more h e, counts, same))
number_outcome k t more (suc d) None h numeral same e read = run_on numeral (runs_on more d e) (rw read)
number_outcome k t more (suc d) (Some other) h numeral same e read =
    let counts : word_len (t ++ more) ≡ length t + suc d = word_len-word t more h ∙ (rw e) in
    longer other (word_len (t ++ more)) (omega (arith, counts)) (rw read)

number_reads : (first : Bool) (k : TokKind) (t more : List ℕ) → 0 < length t → is_decimal (get_or t 0 0) ≡ true → list_all is_word_byte t ≡ true → is_number k ≡ true → number_of t ≡ Some k →
    Outcome k t more (next_of first (t ++ more))
unfolding next_of
number_reads first k [] more some digit all numeral same = absurd (omega arith)
number_reads first k (b ∷ bs) more some digit all numeral same =
    rw (decimal_not_blank b digit, decimal_not_letter b digit, digit) (number_outcome k (b ∷ bs) more (word_len more) _ all numeral same refl refl)

-- suffixes
is_suffix_byte : ℕ → Bool
is_suffix_byte b = is_u b || is_l b

-- the letters of a suffix, none or some
all_of : (p : ℕ → Bool) (text : List ℕ) (n : ℕ) → length text ≡ n → ((k : ℕ) → k < n → p (get_or text k 0) ≡ true) → list_all p text ≡ true
all_of p [] n e each = refl
all_of p (b ∷ bs) zero e each = absurd (omega arith)
all_of p (b ∷ bs) (suc n) e each = rw (each 0 (omega arith)) (all_of p bs n (omega arith) (λ k h. each (suc k) (omega arith)))

or_left : (a b : Bool) → a ≡ true → (a || b) ≡ true
or_left a b h = rw h

or_second : (a b : Bool) → b ≡ true → (a || b) ≡ true
or_second true b h = refl
or_second false b h = h

too_long : (a b c d : ℕ) (more : List ℕ) (s : Suffix) → suffix_of (a ∷ b ∷ c ∷ d ∷ more) ≡ Some s → list_all is_suffix_byte (a ∷ b ∷ c ∷ d ∷ more) ≡ true
unfolding suffix_of
too_long a b c d more s e =
    let none : eqb (length (a ∷ b ∷ c ∷ d ∷ more)) 0 ≡ false = ne_eqb _ _ (λ h. omega arith) in
    let one : eqb (length (a ∷ b ∷ c ∷ d ∷ more)) 1 ≡ false = ne_eqb _ _ (λ h. omega arith) in
    let two : eqb (length (a ∷ b ∷ c ∷ d ∷ more)) 2 ≡ false = ne_eqb _ _ (λ h. omega arith) in
    let three : eqb (length (a ∷ b ∷ c ∷ d ∷ more)) 3 ≡ false = ne_eqb _ _ (λ h. omega arith) in
    let read = rw (none, one, two, three) at e in cc

suffix_bytes : (text : List ℕ) (s : Suffix) → suffix_of text ≡ Some s → list_all is_suffix_byte text ≡ true
unfolding suffix_of is_suffix_byte
suffix_bytes [] s e = refl
suffix_bytes (a ∷ []) s e =
    by_test (λ (o : Option Suffix). o ≡ Some s → list_all is_suffix_byte (a ∷ []) ≡ true) (is_u a) _ _
    (λ u _. rw (or_left (is_u a) (is_l a) u)) (λ _ n. cc) e
suffix_bytes (a ∷ b ∷ []) s e =
    by_test (λ (o : Option Suffix). o ≡ Some s → list_all is_suffix_byte (a ∷ b ∷ []) ≡ true) (is_l a && is_l b) _ _
    (λ l _. rw (or_second (is_u a) (is_l a) (and_left (is_l a) _ l), or_second (is_u b) (is_l b) (and_right (is_l a) _ l))) (λ _ n. cc) e
suffix_bytes (a ∷ b ∷ c ∷ []) s e =
    by_test (λ (o : Option Suffix). o ≡ Some s → list_all is_suffix_byte (a ∷ b ∷ c ∷ []) ≡ true) (is_u a && (is_l b && is_l c)) _ _
    (λ l _. rw (or_left (is_u a) (is_l a) (and_left (is_u a) _ l), or_second (is_u b) (is_l b) (and_left (is_l b) _ (and_right (is_u a) _ l)), or_second (is_u c) (is_l c) (and_right (is_l b) _ (and_right (is_u a) _ l)))) (λ _ n. cc) e
suffix_bytes (a ∷ b ∷ c ∷ d ∷ more) s e = too_long a b c d more s e

-- a suffix's first byte, or 0
abbrev Ends : List ℕ → Type 0
Ends suffix = (get_or suffix 0 0 ≡ 0) ⊎ (is_suffix_byte (get_or suffix 0 0) ≡ true)

ends : (suffix : List ℕ) → list_all is_suffix_byte suffix ≡ true → Ends suffix
ends [] h = inl refl
ends (b ∷ bs) h = inr (and_left (is_suffix_byte b) _ h)

pub by_or : (P : Type 0) (a b : Bool) → (a || b) ≡ true → (a ≡ true → P) → (b ≡ true → P) → P
by_or P true b h first second = first refl
by_or P false b h first second = second h

or_false_left : (a b : Bool) → (a || b) ≡ false → a ≡ false
or_false_left true b h = cc
or_false_left false b h = refl

or_false_right : (a b : Bool) → (a || b) ≡ false → b ≡ false
or_false_right true b h = cc
or_false_right false b h = h

one_of_two : (p : ℕ → Type 0) (b c d : ℕ) → (eqb b c || eqb b d) ≡ true → p c → p d → p b
one_of_two p b c d h first second = by_or (p b) (eqb b c) (eqb b d) h (λ e. subst p (sym (eqb-true b c e)) first) (λ e. subst p (sym (eqb-true b d e)) second)

suffix_byte : (p : ℕ → Type 0) (b : ℕ) → is_suffix_byte b ≡ true → p 117 → p 85 → p 108 → p 76 → p b
unfolding is_suffix_byte is_u is_l
suffix_byte p b h small_u capital_u small_l capital_l =
    by_or (p b) (eqb b 117 || eqb b 85) (eqb b 108 || eqb b 76) h
    (λ u. one_of_two p b 117 85 u small_u capital_u) (λ l. one_of_two p b 108 76 l small_l capital_l)

-- what a suffix begins with is no digit of a base up to 16, and no `x`
no_digit : (base : ℕ) (suffix : List ℕ) → base ≤ 16 → Ends suffix → is_digit (get_or suffix 0 0) base ≡ false
no_digit base suffix small (inl e) = rw e (le-ltb _ _ (omega arith))
no_digit base suffix small (inr h) =
    suffix_byte (λ b. is_digit b base ≡ false) (get_or suffix 0 0) h (le-ltb _ _ (omega arith)) (le-ltb _ _ (omega arith)) (le-ltb _ _ (omega arith)) (le-ltb _ _ (omega arith))

no_x : (suffix : List ℕ) → Ends suffix → is_x (get_or suffix 0 0) ≡ false
unfolding is_x
no_x suffix (inl e) = rw e
no_x suffix (inr h) = suffix_byte (λ b. is_x b ≡ false) (get_or suffix 0 0) h refl refl refl refl

suffix_in_word : (b : ℕ) → is_suffix_byte b ≡ true → is_word_byte b ≡ true
unfolding is_word_byte is_letter is_decimal
suffix_in_word b h = suffix_byte (λ c. is_word_byte c ≡ true) b h refl refl refl refl

all_more : (p q : ℕ → Bool) → ((b : ℕ) → p b ≡ true → q b ≡ true) → (text : List ℕ) → list_all p text ≡ true → list_all q text ≡ true
all_more p q more [] h = refl
all_more p q more (b ∷ bs) h = rw (more b (and_left (p b) _ h)) (all_more p q more bs (and_right (p b) _ h))

-- digits
digit_decimal : (b : ℕ) → is_digit b 10 ≡ true → is_decimal b ≡ true
unfolding is_decimal
digit_decimal b h = grind (arith, nat_tests)

digit_in_word : (b : ℕ) → is_digit b 16 ≡ true → is_word_byte b ≡ true
unfolding is_word_byte is_letter is_decimal
digit_in_word b h = grind (arith, nat_tests)

smaller_base : (b base more : ℕ) → base ≤ more → is_digit b base ≡ true → is_digit b more ≡ true
smaller_base b base more h digit = let small : digit_value b < base = ltb-true _ _ digit in lt-ltb _ _ (omega arith)

digits_split : (base : ℕ) (digits suffix : List ℕ) → list_all (λ b. is_digit b base) digits ≡ true → is_digit (get_or suffix 0 0) base ≡ false → digits_len base (digits ++ suffix) ≡ length digits
unfolding digits_len
digits_split base digits suffix each stop =
    prefix_len-passing (λ b. is_digit b base) digits suffix each ∙ (rw (prefix_len-stopping (λ b. is_digit b base) suffix stop) (add-zero (length digits)))

first_digit : (digits suffix : List ℕ) → 0 < length digits → get_or (digits ++ suffix) 0 0 ≡ get_or digits 0 0
first_digit [] suffix some = absurd (omega arith)
first_digit (d ∷ ds) suffix some = refl

-- the second byte of an octal number is no `x`
second_octal : (digits suffix : List ℕ) → 0 < length digits → list_all (λ b. is_digit b 8) digits ≡ true → is_x (get_or suffix 0 0) ≡ false → is_x (get_or (digits ++ suffix) 1 0) ≡ false
unfolding is_x
second_octal [] suffix some each stop = absurd (omega arith)
second_octal (d ∷ []) suffix some each stop = stop
second_octal (d ∷ e ∷ ds) suffix some each stop =
    let digit : is_digit e 8 ≡ true = and_left (is_digit e 8) _ (and_right (is_digit d 8) _ each) in
    let small : eqb e 120 ≡ false = differs (λ b. is_digit b 8) e 120 refl digit in
    let capital : eqb e 88 ≡ false = differs (λ b. is_digit b 8) e 88 refl digit in
    rw (small, capital)

base_small : (text digits suffix : List ℕ) (base : ℕ) → IsNumeral text digits suffix base → base ≤ 16
base_small text digits suffix base (decimal e f g) = omega (arith, e)
base_small text digits suffix base (octal e f g) = omega (arith, e)
base_small text digits suffix base (hexadecimal x e f g) = omega (arith, e)

-- the base that a numeral's text tells, and what stands behind its front
record Based (text digits suffix : List ℕ) (base : ℕ) : Type 0 where
  base_is : base_of text ≡ base
  body_is : drop (prefix_of base) text ≡ digits ++ suffix

based : (text digits suffix : List ℕ) (base : ℕ) → IsNumeral text digits suffix base → 0 < length digits → list_all (λ b. is_digit b base) digits ≡ true → Ends suffix → Based text digits suffix base
unfolding base_of prefix_of
based text digits suffix base (decimal ten first whole) some each stop = record {
  base_is = rw (whole, first_digit digits suffix some, first) (sym ten);
  body_is = rw ten whole;
}
based text digits suffix base (octal eight first whole) some each stop =
    let digits_octal = rw eight at each in
    record {
      base_is = rw (whole, first_digit digits suffix some, first, second_octal digits suffix some digits_octal (no_x suffix stop)) (sym eight);
      body_is = rw eight whole;
    }
based text digits suffix base (hexadecimal x sixteen is whole) some each stop = record {
  base_is = rw (whole, is) (sym sixteen);
  body_is = rw (sixteen, whole);
}

number_from_parts : (base : ℕ) (digits suffix : List ℕ) (s : Suffix) (ty : IntTy) → suffix_of suffix ≡ Some s → type_of (digits_value base digits) base s ≡ Some ty → 0 < length digits →
    number_from base digits suffix ≡ Some (kind.Number (digits_value base digits) ty)
unfolding number_from
number_from_parts base digits suffix s ty suffixed typed some =
    let more : eqb (length digits) 0 ≡ false = ne_eqb _ _ (λ h. omega arith) in
    rw (suffixed, typed, more)

split_number : (word digits suffix : List ℕ) (base : ℕ) → Based word digits suffix base → digits_len base (digits ++ suffix) ≡ length digits → number_of word ≡ number_from base digits suffix
unfolding number_of
split_number word digits suffix base b count =
    rw (b.base_is, b.body_is, count, take_at digits suffix (length digits) refl, drop_at digits suffix (length digits) refl)

number_read : (text : List ℕ) (value : ℕ) (ty : IntTy) → IsNumber text value ty → number_of text ≡ Some (kind.Number value ty)
number_read text value ty n =
    let stop : Ends n.suffix = ends n.suffix (suffix_bytes n.suffix n.sign n.suffixed) in
    let small = base_small text n.digits n.suffix n.base n.spelled in
    let based_on = based text n.digits n.suffix n.base n.spelled n.some n.each stop in
    split_number text n.digits n.suffix n.base based_on (digits_split n.base n.digits n.suffix n.each (no_digit n.base n.suffix small stop))
    ∙ number_from_parts n.base n.digits n.suffix n.sign ty n.suffixed (rw n.written at n.typed) n.some
    ∙ ap (λ v. Some (kind.Number v ty)) (sym n.written)

x_in_word : (x : ℕ) → is_x x ≡ true → is_word_byte x ≡ true
unfolding is_x is_word_byte is_letter is_decimal
x_in_word x h = one_of_two (λ b. is_word_byte b ≡ true) x 120 88 h refl refl

digits_in_word : (base : ℕ) (digits suffix : List ℕ) → base ≤ 16 → list_all (λ b. is_digit b base) digits ≡ true → list_all is_suffix_byte suffix ≡ true → list_all is_word_byte (digits ++ suffix) ≡ true
digits_in_word base digits suffix small each letters =
    list_all-append is_word_byte digits suffix
    ∙ (rw (
      all_more (λ b. is_digit b base) is_word_byte (λ b h. digit_in_word b (smaller_base b base 16 small h)) digits each,
      all_more is_suffix_byte is_word_byte suffix_in_word suffix letters,
    ))

front_decimal : (base : ℕ) (digits suffix : List ℕ) → base ≤ 10 → 0 < length digits → list_all (λ b. is_digit b base) digits ≡ true → is_decimal (get_or (digits ++ suffix) 0 0) ≡ true
front_decimal base [] suffix small some each = absurd (omega arith)
front_decimal base (d ∷ ds) suffix small some each = digit_decimal d (smaller_base d base 10 small (and_left (is_digit d base) _ each))

-- a number's text is a word that begins with a digit
record NumberText (text : List ℕ) : Type 0 where
  some : 0 < length text
  digit : is_decimal (get_or text 0 0) ≡ true
  word : list_all is_word_byte text ≡ true

number_text : (text digits suffix : List ℕ) (base : ℕ) → IsNumeral text digits suffix base → 0 < length digits → list_all (λ b. is_digit b base) digits ≡ true → list_all is_suffix_byte suffix ≡ true → NumberText text
unfolding is_decimal is_word_byte is_letter
number_text text digits suffix base (decimal ten first whole) some each letters = record {
  some = rw (whole, length-append digits suffix) (omega arith);
  digit = rw whole (front_decimal base digits suffix (omega (arith, ten)) some each);
  word = rw whole (digits_in_word base digits suffix (omega (arith, ten)) each letters);
}
number_text text digits suffix base (octal eight first whole) some each letters = record {
  some = rw (whole, length-append digits suffix) (omega arith);
  digit = rw whole (front_decimal base digits suffix (omega (arith, eight)) some each);
  word = rw whole (digits_in_word base digits suffix (omega (arith, eight)) each letters);
}
number_text text digits suffix base (hexadecimal x sixteen is whole) some each letters =
    let front : is_word_byte x ≡ true = x_in_word x is in
    record {
      some = rw whole (omega arith);
      digit = rw whole refl;
      word = rw (whole, front, digits_in_word base digits suffix (omega (arith, sixteen)) each letters) refl;
    }

-- characters
quoted_reads : (quote v : ℕ) (sp rest : List ℕ) → IsCharacter quote v sp → quoted_at quote (sp ++ rest) ≡ Some (record { value = v; length = length sp })
unfolding quoted_at escape_at hex_escape escape_value
quoted_reads quote v sp rest (plain other itself form) = rw (form, other, itself)
quoted_reads quote v sp rest (escaped letter e form) =
    let not_x : eqb letter 120 ≡ false = differs (λ b. is_some (escape_value b)) letter 120 refl (ap is_some e) in
    rw (form, not_x, e)
quoted_reads quote v sp rest (coded high low h l value form) = rw (form, h, l, value)

char_reads : (first : Bool) (k : TokKind) (t more sp : List ℕ) (v : ℕ) → IsCharacter 39 v sp → k ≡ kind.Char (signed_of 8 v) → t ≡ 39 ∷ (sp ++ 39 ∷ []) → next_of first (t ++ more) ≡ next.Found k (length t)
unfolding next_of char_at char_closed is_blank is_letter is_decimal
char_reads first k t more sp v character same form =
    let after : length sp + 1 ≡ suc (length sp) = omega arith in
    let counts : suc (length sp + 1) ≡ length sp + 2 = omega arith in
    rw (form, append_assoc sp (39 ∷ []) more, quoted_reads 39 v sp (39 ∷ more) character, after, get_or_at sp 39 more 0 (length sp) refl, same, length-append sp (39 ∷ []), counts)

character_other : (v : ℕ) (sp : List ℕ) → IsCharacter 34 v sp → eqb (get_or sp 0 0) 34 ≡ false
unfolding is_plain
character_other v sp (plain other itself form) = rw form (differs (is_plain 34) v 34 refl itself)
character_other v sp (escaped letter e form) = rw form
character_other v sp (coded high low h l value form) = rw form

character_some : (quote v : ℕ) (sp : List ℕ) → IsCharacter quote v sp → 0 < length sp
character_some quote v sp (plain other itself form) = rw form (omega arith)
character_some quote v sp (escaped letter e form) = rw form (omega arith)
character_some quote v sp (coded high low h l value form) = rw form (omega arith)

-- one character of a literal, and what follows it
literal_front : (v : ℕ) (sp rest : List ℕ) → IsCharacter 34 v sp → literal_from 0 (sp ++ rest) ≡ joined (v ∷ []) (length sp) (literal_from 0 rest)
literal_front v [] rest character = absurd (omega (arith, character_some 34 v [] character))
literal_front v (b ∷ bs) rest character =
    let q : Quoted = record { value = v; length = length (b ∷ bs) } in
    let within : length (b ∷ bs) ≤ length (b ∷ (bs ++ rest)) = simp (length-append bs rest) (omega arith) in
    literal_step b (bs ++ rest) q (length (b ∷ bs)) (eqb-false b 34 (character_other v (b ∷ bs) character)) (quoted_reads 34 v (b ∷ bs) rest character) refl (character_some 34 v (b ∷ bs) character) within
    ∙ ap (λ l. joined (v ∷ []) (length (b ∷ bs)) (literal_from 0 l)) (drop_at bs rest (length bs) refl)

literal_reads : (bytes sp more : List ℕ) → AreCharacters bytes sp → literal_from 0 (sp ++ 34 ∷ more) ≡ Some (record { bytes = bytes; length = length sp + 1 })
unfolding literal_from joined
literal_reads [] sp more e = rw e
literal_reads (v ∷ vs) sp more (front, rest, character, characters, e) =
    let counts : length front + (length rest + 1) ≡ length front + length rest + 1 = omega arith in
    rw (e, append_assoc front rest (34 ∷ more), literal_front v front (rest ++ 34 ∷ more) character, literal_reads vs rest more characters, length-append front rest, counts)

text_reads : (first : Bool) (k : TokKind) (t more sp bytes : List ℕ) → AreCharacters bytes sp → k ≡ kind.Text bytes → t ≡ 34 ∷ (sp ++ 34 ∷ []) → next_of first (t ++ more) ≡ next.Found k (length t)
unfolding next_of text_at text_closed is_blank is_letter is_decimal
text_reads first k t more sp bytes characters same form =
    let counts : suc (length sp + 1) ≡ length sp + 1 + 1 = omega arith in
    rw (form, append_assoc sp (34 ∷ []) more, literal_reads bytes sp more characters, same, length-append sp (34 ∷ []), counts)

-- marks: one to three bytes, none of which begins anything else
begins_mark : List ℕ → Bool
begins_mark t =
    not (is_blank (get_or t 0 0)) && (not (is_letter (get_or t 0 0)) && (not (is_decimal (get_or t 0 0)) && (not (eqb (get_or t 0 0) 39) && (not (eqb (get_or t 0 0) 34) && (leb 1 (length t) && leb (length t) 3)))))

record MarkFront (t : List ℕ) : Type 0 where
  blank : is_blank (get_or t 0 0) ≡ false
  letter : is_letter (get_or t 0 0) ≡ false
  digit : is_decimal (get_or t 0 0) ≡ false
  quote : eqb (get_or t 0 0) 39 ≡ false
  quotes : eqb (get_or t 0 0) 34 ≡ false
  some : 1 ≤ length t
  few : length t ≤ 3

not_true : (b : Bool) → not b ≡ true → b ≡ false
not_true true h = cc
not_true false h = refl

mark_front : (t : List ℕ) → begins_mark t ≡ true → MarkFront t
unfolding begins_mark
mark_front t h =
    let b = get_or t 0 0 in
    let h1 = and_right (not (is_blank b)) _ h in
    let h2 = and_right (not (is_letter b)) _ h1 in
    let h3 = and_right (not (is_decimal b)) _ h2 in
    let h4 = and_right (not (eqb b 39)) _ h3 in
    let h5 = and_right (not (eqb b 34)) _ h4 in
    record {
      blank = not_true (is_blank b) (and_left (not (is_blank b)) _ h);
      letter = not_true (is_letter b) (and_left (not (is_letter b)) _ h1);
      digit = not_true (is_decimal b) (and_left (not (is_decimal b)) _ h2);
      quote = not_true (eqb b 39) (and_left (not (eqb b 39)) _ h3);
      quotes = not_true (eqb b 34) (and_left (not (eqb b 34)) _ h4);
      some = leb-true 1 (length t) (and_left (leb 1 (length t)) _ h5);
      few = leb-true (length t) 3 (and_right (leb 1 (length t)) _ h5);
    }

mark_begins : (t : List ℕ) (n : ℕ) → number_of_mark t ≡ Some n → begins_mark t ≡ true
unfolding number_of_mark begins_mark is_blank is_letter is_decimal
mark_begins t n e = in_table mark_text begins_mark marks t n mark.Star refl e

word_begins : (t : List ℕ) (n : ℕ) → number_of_word t ≡ Some n → is_name t ≡ true
unfolding number_of_word is_name is_letter is_word_byte is_decimal
word_begins t n e = in_table word_text is_name words t n word.Typedef refl e

mark_here : (n : ℕ) (t more : List ℕ) → number_of_mark t ≡ Some n → mark_of (length t) (t ++ more) ≡ Some (next.Found (kind.Mark n) (length t))
unfolding mark_of
mark_here n t more e =
    let within : leb (length t) (length (t ++ more)) ≡ true = le-leb _ _ (simp (length-append t more) (omega arith)) in
    rw (within, take_at t more (length t) refl, e)

or_more : (k : TokKind) (t more : List ℕ) (j : ℕ) (o : Option ℕ) (x : Next) → length t < j → Outcome k t more x → Outcome k t more (unwrap_or (option_map (λ m. next.Found (kind.Mark m) j) o) x)
or_more k t more j None x h found = found
or_more k t more j (Some m) x h found = longer (kind.Mark m) j h refl

or_longer : (k : TokKind) (t more : List ℕ) (j : ℕ) (x : Next) → length t < j → Outcome k t more x → Outcome k t more (unwrap_or (mark_of j (t ++ more)) x)
unfolding mark_of
or_longer k t more j x h found =
    by_test (λ o. Outcome k t more (unwrap_or o x)) (leb j (length (t ++ more))) _ None (λ _. or_more k t more j (number_of_mark (take j (t ++ more))) x h found) (λ _. found)

is_here : (n : ℕ) (t more : List ℕ) (j : ℕ) (x : Next) → number_of_mark t ≡ Some n → length t ≡ j → Outcome (kind.Mark n) t more (unwrap_or (mark_of j (t ++ more)) x)
is_here n t more j x e same =
    let here : mark_of j (t ++ more) ≡ Some (next.Found (kind.Mark n) (length t)) = rw (← same) (mark_here n t more e) in
    exact (λ number. cc) (rw here)

mark_outcome : (first : Bool) (n : ℕ) (t more : List ℕ) (size : ℕ) → number_of_mark t ≡ Some n → length t ≡ size → 1 ≤ size → size ≤ 3 → Outcome (kind.Mark n) t more (mark_at first (t ++ more))
unfolding mark_at
mark_outcome first n t more zero e same some few = absurd (omega arith)
mark_outcome first n t more (suc zero) e same some few =
    or_longer (kind.Mark n) t more 3 _ (omega arith) (or_longer (kind.Mark n) t more 2 _ (omega arith) (is_here n t more 1 _ e same))
mark_outcome first n t more (suc (suc zero)) e same some few = or_longer (kind.Mark n) t more 3 _ (omega arith) (is_here n t more 2 _ e same)
mark_outcome first n t more (suc (suc (suc zero))) e same some few = is_here n t more 3 _ e same
mark_outcome first n t more (suc (suc (suc (suc size)))) e same some few = absurd (omega arith)

first_same : (t more : List ℕ) → 1 ≤ length t → get_or (t ++ more) 0 0 ≡ get_or t 0 0
first_same [] more some = absurd (omega arith)
first_same (b ∷ bs) more some = refl

no_comment_outcome : (first : Bool) (n : ℕ) (t more : List ℕ) → number_of_mark t ≡ Some n → MarkFront t → eqb (get_or (t ++ more) 0 0) 47 ≡ true → begins_comment (t ++ more) ≡ false →
    Outcome (kind.Mark n) t more (slash_at first (t ++ more))
unfolding slash_at begins_comment
no_comment_outcome first n t more e front slash comment =
    let neither : (eqb (get_or (t ++ more) 1 0) 47 || eqb (get_or (t ++ more) 1 0) 42) ≡ false = rw slash at comment in
    let line : eqb (get_or (t ++ more) 1 0) 47 ≡ false = or_false_left _ _ neither in
    let block : eqb (get_or (t ++ more) 1 0) 42 ≡ false = or_false_right _ _ neither in
    rw (line, block) (mark_outcome first n t more (length t) e refl front.some front.few)

slash_outcome : (first : Bool) (n : ℕ) (t more : List ℕ) (comment : Bool) → number_of_mark t ≡ Some n → MarkFront t → eqb (get_or (t ++ more) 0 0) 47 ≡ true → begins_comment (t ++ more) ≡ comment →
    Outcome (kind.Mark n) t more (slash_at first (t ++ more))
slash_outcome first n t more true e front slash comment = commented comment
slash_outcome first n t more false e front slash comment = no_comment_outcome first n t more e front slash comment

mark_reads : (first : Bool) (n : ℕ) (t more : List ℕ) → number_of_mark t ≡ Some n → Outcome (kind.Mark n) t more (next_of first (t ++ more))
unfolding next_of
mark_reads first n t more e =
    let front = mark_front t (mark_begins t n e) in
    let same = first_same t more front.some in
    let blank : is_blank (get_or (t ++ more) 0 0) ≡ false = rw same front.blank in
    let letter : is_letter (get_or (t ++ more) 0 0) ≡ false = rw same front.letter in
    let digit : is_decimal (get_or (t ++ more) 0 0) ≡ false = rw same front.digit in
    let quote : eqb (get_or (t ++ more) 0 0) 39 ≡ false = rw same front.quote in
    let quotes : eqb (get_or (t ++ more) 0 0) 34 ≡ false = rw same front.quotes in
    rw (blank, letter, digit, quote, quotes) (by_test (Outcome (kind.Mark n) t more) (eqb (get_or (t ++ more) 0 0) 47) _ _
    (λ slash. slash_outcome first n t more (begins_comment (t ++ more)) e front slash refl)
    (λ _. mark_outcome first n t more (length t) e refl front.some front.few))

-- reading finds what stands in front, or a longer token, but in the cases that Outcome names
pub token_reads : (first : Bool) (k : TokKind) (t more : List ℕ) → IsToken k t → Outcome k t more (next_of first (t ++ more))
unfolding name_kind
token_reads first (kind.Ident name) t more (same, named, none) =
    let kinds : name_kind t ≡ kind.Ident name = rw (none, same) in
    name_reads first (kind.Ident name) t more refl named kinds
token_reads first (kind.Word n) t more e =
    let kinds : name_kind t ≡ kind.Word n = rw e in
    name_reads first (kind.Word n) t more refl (word_begins t n e) kinds
token_reads first (kind.Number value ty) t more number =
    let text = number_text t number.digits number.suffix number.base number.spelled number.some number.each (suffix_bytes number.suffix number.sign number.suffixed) in
    number_reads first (kind.Number value ty) t more text.some text.digit text.word refl (number_read t value ty number)
token_reads first (kind.Char z) t more (v, sp, character, same, form) =
    exact (λ number. cc) (char_reads first (kind.Char z) t more sp v character (ap kind.Char same) form)
token_reads first (kind.Text bytes) t more (sp, characters, form) =
    exact (λ number. cc) (text_reads first (kind.Text bytes) t more sp bytes characters refl form)
token_reads first (kind.Mark n) t more e = mark_reads first n t more e
