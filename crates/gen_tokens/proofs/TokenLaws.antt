-- What is read where a piece stands in front.
use Rattle.std.proofs.Common.{◌≡◌, ℕ, zero, suc, ◌^◌, ◌<◌, ◌≤◌, Bool, true, false, ◌&&◌, not, is_some, eqb, leb, List, [], ◌∷◌, ◌++◌, length, get_or, take, drop, Option, Some, None, refl, sym, ap, subst, ◌∙◌, arith, take_at, drop_at, append-nil, add-zero, lt-ltb, le-leb, leb-true, lit≤}
use Rattle.std.specs.Prelude.{decimal}
use Rattle.std.specs.List.{prefix_len, list_all}
use Rattle.std.specs.Char.{digit_value, is_digit}
use Rattle.std.specs.Str.Parse.{digits_value, AllDigits}
use Rattle.std.proofs.lemmas.Fmt.{decimal_is_IsNumeral, decimal_digit, first_decimal}
use Rattle.std.proofs.lemmas.Str.Parse.{digit_from_value}
use Rattle.std.proofs.lemmas.Bool.{ne_eqb}
use Rattle.std.proofs.lemmas.Bool.Decides.{nat_tests}
use Rattle.c_types.specs.declared.types.IntTy.TheVariants.{I32}
use Rattle.c_lex.specs.declared.token.TokKind.{TokKind}
use Rattle.c_lex.specs.declared.token.TokKind.TheVariants as kind
use Rattle.c_lex.specs.declared.next.Next.TheVariants as next
use Rattle.c_lex.specs.declared.words.Word.{Word}
use Rattle.c_lex.specs.declared.words.Word.TheVariants as w
use Rattle.c_lex.specs.Numbering.{word_number, word_text}
use Rattle.c_lex.specs.Bytes.{is_blank, is_letter, is_decimal, is_word_byte}
use Rattle.c_lex.specs.Spelling.{number_of_word, number_of_mark}
use Rattle.c_lex.specs.Numbers.{is_x, base_of, prefix_of, suffix_of, all_types, types_of, end_of, has_64_bits, type_of, digits_len, number_from, number_of}
use Rattle.c_lex.specs.Reading.{word_len, name_kind, name_at, found_or, number_at, mark_of, next_of}
use Rattle.c_lex.specs.Grammar.{is_name}
use Rattle.c_lex.proofs.QuoteLaws.{and_left, and_right, by_test}
use Rattle.c_lex.proofs.ReadingLaws.{letter_in_word, decimal_in_word}
use Rattle.c_lex.proofs.GrammarLemmas.{prefix_len-passing, prefix_len-stopping}
use Rattle.c_lex.proofs.TokenReads.{differs}

-- a byte that passes a test that no blank passes is none
not_blank : (p : ℕ → Bool) (b : ℕ) → p 32 ≡ false → p 9 ≡ false → p 13 ≡ false → p 10 ≡ false → p b ≡ true → is_blank b ≡ false
unfolding is_blank
not_blank p b space tab return feed h = rw (differs p b 32 space h, differs p b 9 tab h, differs p b 13 return h, differs p b 10 feed h)

letter_not_blank : (b : ℕ) → is_letter b ≡ true → is_blank b ≡ false
unfolding is_letter
letter_not_blank b h = not_blank is_letter b refl refl refl refl h

decimal_not_blank : (b : ℕ) → is_decimal b ≡ true → is_blank b ≡ false
unfolding is_decimal
decimal_not_blank b h = not_blank is_decimal b refl refl refl refl h

above_fails : (a b : ℕ) → b < a → leb a b ≡ false
above_fails a b h = grind (arith, nat_tests)

decimal_not_letter : (b : ℕ) → is_decimal b ≡ true → is_letter b ≡ false
unfolding is_decimal is_letter
decimal_not_letter b h =
    let small : b ≤ 57 = leb-true _ _ (and_right (leb 48 b) _ h) in
    let other : eqb b 95 ≡ false = ne_eqb b 95 (λ e. omega arith) in
    rw (above_fails 65 b (omega arith), above_fails 97 b (omega arith), other)

-- a word and what stands behind it
word_length : (t more : List ℕ) → list_all is_word_byte t ≡ true → is_word_byte (get_or more 0 0) ≡ false → word_len (t ++ more) ≡ length t
unfolding word_len
word_length t more each stop = prefix_len-passing is_word_byte t more each ∙ (rw (prefix_len-stopping is_word_byte more stop) (add-zero (length t)))

word_taken : (t more : List ℕ) → list_all is_word_byte t ≡ true → is_word_byte (get_or more 0 0) ≡ false → take (word_len (t ++ more)) (t ++ more) ≡ t
word_taken t more each stop = take_at t more (word_len (t ++ more)) (sym (word_length t more each stop))

-- a name or a reserved word is read up to what is none of its bytes
pub name_read : (first : Bool) (k : TokKind) (t more : List ℕ) → is_name t ≡ true → name_kind t ≡ k → is_word_byte (get_or more 0 0) ≡ false → next_of first (t ++ more) ≡ next.Found k (length t)
unfolding is_name next_of name_at
name_read first k [] more name same stop = cc
name_read first k (b ∷ bs) more name same stop =
    let letter : is_letter b ≡ true = and_left (is_letter b) _ name in
    let all : list_all is_word_byte (b ∷ bs) ≡ true = rw (letter_in_word b letter) (and_right (is_letter b) _ name) in
    rw (letter_not_blank b letter, letter, word_taken (b ∷ bs) more all stop, word_length (b ∷ bs) more all stop, same)

-- a number likewise
pub number_read : (first : Bool) (k : TokKind) (t more : List ℕ) → 0 < length t → is_decimal (get_or t 0 0) ≡ true → list_all is_word_byte t ≡ true → number_of t ≡ Some k → is_word_byte (get_or more 0 0) ≡ false →
    next_of first (t ++ more) ≡ next.Found k (length t)
unfolding next_of number_at found_or
number_read first k [] more some digit all same stop = absurd (omega arith)
number_read first k (b ∷ bs) more some digit all same stop =
    rw (decimal_not_blank b digit, decimal_not_letter b digit, digit, word_taken (b ∷ bs) more all stop, word_length (b ∷ bs) more all stop, same)

-- digits
digit_is_decimal : (b : ℕ) → digit_value b < 10 → is_decimal b ≡ true
unfolding is_decimal
digit_is_decimal b h =
    let range = digit_from_value b h in
    rw (le-leb 48 b (omega (arith, range)), le-leb b 57 (omega (arith, range)))

pub digits_are_words : (ds : List ℕ) → AllDigits 10 ds → list_all is_word_byte ds ≡ true
digits_are_words [] h = refl
digits_are_words (d ∷ ds) h = rw (decimal_in_word d (digit_is_decimal d h.0)) (digits_are_words ds h.1)

digits_all : (ds : List ℕ) → AllDigits 10 ds → list_all (λ b. is_digit b 10) ds ≡ true
digits_all [] h = refl
digits_all (d ∷ ds) h = rw (lt-ltb _ _ h.0) (digits_all ds h.1)

small_wide : (k : ℕ) → k < 2147483648 → k < 2 ^ 64
small_wide k h = let wide : 2147483648 ≤ 2 ^ 64 = lit≤ tt in omega (arith, h, wide)

first_digit : (ds : List ℕ) → AllDigits 10 ds → 0 < length ds → is_decimal (get_or ds 0 0) ≡ true
first_digit [] h some = absurd (omega arith)
first_digit (d ∷ ds) h some = digit_is_decimal d h.0

-- a number below 2 ^ 31 is an `int`
int_type : (v : ℕ) → v < 2147483648 → type_of v 10 (record { unsigned = false; long = false }) ≡ Some I32
unfolding type_of types_of all_types end_of has_64_bits
int_type v h = rw (lt-ltb v 2147483648 h)

from_digits : (ds : List ℕ) → AllDigits 10 ds → 0 < length ds → digits_value 10 ds < 2147483648 → number_from 10 ds [] ≡ Some (kind.Number (digits_value 10 ds) I32)
unfolding number_from suffix_of
from_digits ds each some small =
    let more : eqb (length ds) 0 ≡ false = ne_eqb _ _ (λ h. omega arith) in
    rw (int_type (digits_value 10 ds) small, more)

digits_counted : (ds : List ℕ) → AllDigits 10 ds → digits_len 10 ds ≡ length ds
unfolding digits_len
digits_counted ds each =
    subst (λ l. prefix_len (λ b. is_digit b 10) l ≡ length ds) (append-nil ds) (prefix_len-passing (λ b. is_digit b 10) ds [] (digits_all ds each) ∙ add-zero (length ds))

take_all : (ds : List ℕ) → take (length ds) ds ≡ ds
take_all ds = subst (λ l. take (length ds) l ≡ ds) (append-nil ds) (take_at ds [] (length ds) refl)

drop_all : (ds : List ℕ) → drop (length ds) ds ≡ []
drop_all ds = subst (λ l. drop (length ds) l ≡ []) (append-nil ds) (drop_at ds [] (length ds) refl)

-- decimal digits that don't begin with 0
decimal_number : (ds : List ℕ) → AllDigits 10 ds → 0 < length ds → 48 < get_or ds 0 0 → digits_value 10 ds < 2147483648 → number_of ds ≡ Some (kind.Number (digits_value 10 ds) I32)
unfolding number_of base_of prefix_of
decimal_number ds each some lead small =
    let front : eqb (get_or ds 0 0) 48 ≡ false = ne_eqb _ _ (λ h. omega arith) in
    rw (front, digits_counted ds each, take_all ds, drop_all ds) (from_digits ds each some small)

zero_number : number_of (48 ∷ []) ≡ Some (kind.Number 0 I32)
unfolding number_of base_of prefix_of is_x digits_len number_from suffix_of type_of types_of all_types end_of has_64_bits
zero_number = refl

pub constant_number : (k : ℕ) → k < 2147483648 → number_of (decimal k) ≡ Some (kind.Number k I32)
constant_number zero h = subst (λ l. number_of l ≡ Some (kind.Number 0 I32)) (sym (decimal_digit 0 (omega arith))) zero_number
constant_number (suc k) h =
    let numeral = decimal_is_IsNumeral (suc k) (small_wide (suc k) h) in
    let small : digits_value 10 (decimal (suc k)) < 2147483648 = rw numeral.1 h in
    decimal_number (decimal (suc k)) numeral.0.1 numeral.0.0 (first_decimal (suc k) (omega arith) (small_wide (suc k) h)) small
    ∙ ap (λ v. Some (kind.Number v I32)) numeral.1

pub constant_read : (first : Bool) (k : ℕ) (more : List ℕ) → k < 2147483648 → is_word_byte (get_or more 0 0) ≡ false → next_of first (decimal k ++ more) ≡ next.Found (kind.Number k I32) (length (decimal k))
constant_read first k more h stop =
    let numeral = decimal_is_IsNumeral k (small_wide k h) in
    number_read first (kind.Number k I32) (decimal k) more numeral.0.0 (first_digit (decimal k) numeral.0.1 numeral.0.0) (digits_are_words (decimal k) numeral.0.1) (constant_number k h) stop

-- `f` with digits behind it is no reserved word
f_name : (ds : List ℕ) → AllDigits 10 ds → is_name (102 ∷ ds) ≡ true
unfolding is_name is_letter
f_name ds each = digits_are_words ds each

digit_differs : (d c : ℕ) → digit_value d < 10 → 58 ≤ c → eqb d c ≡ false
digit_differs d c h large = ne_eqb d c (λ e. omega (arith, e, digit_from_value d h, large))

f_unreserved : (ds : List ℕ) → AllDigits 10 ds → 0 < length ds → number_of_word (102 ∷ ds) ≡ None
unfolding number_of_word
f_unreserved [] each some = absurd (omega arith)
f_unreserved (d ∷ ds) each some = rw (digit_differs d 111 each.0 (omega arith), digit_differs d 108 each.0 (omega arith))

pub function_read : (first : Bool) (k : ℕ) (more : List ℕ) → k < 2147483648 → is_word_byte (get_or more 0 0) ≡ false → next_of first (102 ∷ (decimal k ++ more)) ≡ next.Found (kind.Ident (102 ∷ decimal k)) (length (102 ∷ decimal k))
unfolding name_kind
function_read first k more h stop =
    let numeral = decimal_is_IsNumeral k (small_wide k h) in
    let plain : name_kind (102 ∷ decimal k) ≡ kind.Ident (102 ∷ decimal k) = rw (f_unreserved (decimal k) numeral.0.1 numeral.0.0) in
    name_read first (kind.Ident (102 ∷ decimal k)) (102 ∷ decimal k) more (f_name (decimal k) numeral.0.1) plain stop

-- the reserved words
abbrev WordIs : Word → Type 0
WordIs v = (is_name (word_text v) ≡ true) × (number_of_word (word_text v) ≡ Some (word_number v))

word_is : (v : Word) → WordIs v
unfolding is_name is_letter is_word_byte is_decimal number_of_word
word_is w.Typedef = (refl, refl)
word_is w.Struct = (refl, refl)
word_is w.Extern = (refl, refl)
word_is w.Adjustor = (refl, refl)
word_is w.Void = (refl, refl)
word_is w.Signed = (refl, refl)
word_is w.Unsigned = (refl, refl)
word_is w.Char = (refl, refl)
word_is w.Short = (refl, refl)
word_is w.Int = (refl, refl)
word_is w.Long = (refl, refl)
word_is w.VaList = (refl, refl)
word_is w.Break = (refl, refl)
word_is w.Continue = (refl, refl)
word_is w.If = (refl, refl)
word_is w.Else = (refl, refl)
word_is w.While = (refl, refl)
word_is w.Do = (refl, refl)
word_is w.For = (refl, refl)
word_is w.Return = (refl, refl)
word_is w.VaStart = (refl, refl)
word_is w.VaEnd = (refl, refl)
word_is w.Sizeof = (refl, refl)
word_is w.VaArg = (refl, refl)
word_is w.Auto = (refl, refl)
word_is w.Case = (refl, refl)
word_is w.Const = (refl, refl)
word_is w.Default = (refl, refl)
word_is w.Double = (refl, refl)
word_is w.Enum = (refl, refl)
word_is w.Float = (refl, refl)
word_is w.Goto = (refl, refl)
word_is w.Inline = (refl, refl)
word_is w.Register = (refl, refl)
word_is w.Restrict = (refl, refl)
word_is w.Static = (refl, refl)
word_is w.Switch = (refl, refl)
word_is w.Union = (refl, refl)
word_is w.Volatile = (refl, refl)

pub word_read : (first : Bool) (v : Word) (more : List ℕ) → is_word_byte (get_or more 0 0) ≡ false → next_of first (word_text v ++ more) ≡ next.Found (kind.Word (word_number v)) (length (word_text v))
unfolding name_kind
word_read first v more stop =
    let is = word_is v in
    let known : name_kind (word_text v) ≡ kind.Word (word_number v) = rw is.1 in
    name_read first (kind.Word (word_number v)) (word_text v) more is.0 known stop

unreserved : (o : Option ℕ) → not (is_some o) ≡ true → o ≡ None
unreserved None h = refl
unreserved (Some n) h = cc

pub called_read : (first : Bool) (x more : List ℕ) → (is_name x && not (is_some (number_of_word x))) ≡ true → is_word_byte (get_or more 0 0) ≡ false → next_of first (x ++ more) ≡ next.Found (kind.Ident x) (length x)
unfolding name_kind
called_read first x more named stop =
    let none : number_of_word x ≡ None = unreserved (number_of_word x) (and_right (is_name x) _ named) in
    let plain : name_kind x ≡ kind.Ident x = rw none in
    name_read first (kind.Ident x) x more (and_left (is_name x) _ named) plain stop

-- marks
pub no_mark : (n : ℕ) (text : List ℕ) → number_of_mark (take n text) ≡ None → mark_of n text ≡ None
unfolding mark_of
no_mark n text none = by_test (λ o. o ≡ None) (leb n (length text)) _ None (λ _. rw none) (λ _. refl)
