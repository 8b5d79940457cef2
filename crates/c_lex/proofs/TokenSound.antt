-- What is found at a place is a token of the grammar.
use Rattle.std.proofs.Common.{◌≡◌, ◌≢◌, ℕ, zero, suc, ◌+◌, ◌-◌, ◌*◌, ◌<◌, ◌≤◌, Bool, true, false, cond, ◌&&◌, ◌||◌, eqb, leb, ltb, List, [], ◌∷◌, ◌++◌, length, get_or, take, drop, Option, Some, None, unwrap_or, refl, sym, ap, subst, ◌∙◌, arith, take_at, append_assoc, length-drop}
use Rattle.std.specs.Prelude.{option_map, option_and_then}
use Rattle.std.proofs.Math.Numerals.{one-add}
use Rattle.std.specs.List.{prefix_len, list_all}
use Rattle.std.specs.Char.{digit_value, is_digit}
use Rattle.std.specs.Str.Parse.{digits_value}
use Rattle.std.proofs.lemmas.List.{take-append-drop, take_more}
use Rattle.std.proofs.lemmas.Bool.{eqb-true, eqb-false, false≢true}
use Rattle.std.proofs.lemmas.Option.{cond_some}
use Rattle.hx_words.specs.TwosComplement.{signed_of}
use Rattle.c_types.specs.declared.types.IntTy.{IntTy}
use Rattle.c_lex.specs.declared.token.TokKind.{TokKind}
use Rattle.c_lex.specs.declared.token.TokKind.TheVariants as kind
use Rattle.c_lex.specs.declared.numbers.Suffix.{Suffix}
use Rattle.c_lex.specs.declared.next.Fault.{Fault}
use Rattle.c_lex.specs.declared.next.Fault.TheVariants as fault
use Rattle.c_lex.specs.declared.next.Next.{Next}
use Rattle.c_lex.specs.declared.next.Next.TheVariants as next
use Rattle.c_lex.specs.declared.quotes.Quoted.{Quoted}
use Rattle.c_lex.specs.Bytes.{is_blank, is_letter, is_decimal, is_word_byte, is_in_line}
use Rattle.c_lex.specs.Spelling.{number_of_word, number_of_mark}
use Rattle.c_lex.specs.Numbers.{is_x, base_of, prefix_of, suffix_of, type_of, digits_len, number_from, number_of}
use Rattle.c_lex.specs.Quotes.{escape_value, hex_escape, escape_at, is_plain, quoted_at, Literal, literal_from, with_quoted}
use Rattle.c_lex.specs.Reading.{word_len, name_kind, name_at, found_or, number_at, char_closed, char_at, text_closed, text_at, comment_closed, mark_of, stray, mark_at, slash_at, next_of}
use Rattle.c_lex.specs.Grammar.{is_name, IsNumeral, decimal, octal, hexadecimal, IsNumber, IsCharacter, plain, escaped, coded, AreCharacters, IsToken}
use Rattle.c_lex.proofs.QuoteLaws.{present, by_test, and_left, and_right, IsWithin, quoted_within, quoted_bounds}
use Rattle.c_lex.proofs.LiteralLaws.{joined, literal_step}
use Rattle.c_lex.proofs.ReadingLaws.{letter_in_word}
use Rattle.c_lex.proofs.GrammarLemmas.{front_passes, take-add}

name_front : (text : List ℕ) → is_letter (get_or text 0 0) ≡ true → is_name (take (word_len text) text) ≡ true
unfolding word_len is_name is_letter
name_front [] h = cc
name_front (b ∷ bs) h = rw (letter_in_word b h, one-add, h) (front_passes is_word_byte bs)

name_is : (word : List ℕ) (o : Option ℕ) → is_name word ≡ true → number_of_word word ≡ o → IsToken (unwrap_or (option_map kind.Word o) (kind.Ident word)) word
name_is word None name e = (refl, name, e)
name_is word (Some n) name e = e

name_sound : (text : List ℕ) (k : TokKind) (n : ℕ) → is_letter (get_or text 0 0) ≡ true → name_at text ≡ next.Found k n → IsToken k (take n text)
unfolding name_at name_kind
name_sound text k n letter e =
    let word = take (word_len text) text in
    let kinds : unwrap_or (option_map kind.Word (number_of_word word)) (kind.Ident word) ≡ k = cc in
    let counts : word_len text ≡ n = cc in
    let there = name_is word (number_of_word word) (name_front text letter) refl in
    subst (λ m. IsToken k (take m text)) counts (subst (λ j. IsToken j word) kinds there)

-- what a number takes
record Parts (base : ℕ) (digits suffix : List ℕ) (k : TokKind) : Type 0 where
  sign : Suffix
  ty : IntTy
  suffixed : suffix_of suffix ≡ Some sign
  typed : type_of (digits_value base digits) base sign ≡ Some ty
  some : 0 < length digits
  same : kind.Number (digits_value base digits) ty ≡ k

parts_typed : (base : ℕ) (digits suffix : List ℕ) (k : TokKind) (s : Suffix) (o : Option IntTy) → suffix_of suffix ≡ Some s → type_of (digits_value base digits) base s ≡ o →
    option_and_then (λ ty. cond (eqb (length digits) 0) None (Some (kind.Number (digits_value base digits) ty))) o ≡ Some k → Parts base digits suffix k
parts_typed base digits suffix k s None suffixed typed e = cc
parts_typed base digits suffix k s (Some ty) suffixed typed e =
    by_test (λ (o : Option TokKind). o ≡ Some k → Parts base digits suffix k) (eqb (length digits) 0) None (Some (kind.Number (digits_value base digits) ty))
    (λ _ n. cc)
    (λ none y. record { sign = s; ty = ty; suffixed = suffixed; typed = typed; some = omega (arith, eqb-false (length digits) 0 none); same = cc }) e

parts_suffixed : (base : ℕ) (digits suffix : List ℕ) (k : TokKind) (o : Option Suffix) → suffix_of suffix ≡ o →
    option_and_then (λ s. option_and_then (λ ty. cond (eqb (length digits) 0) None (Some (kind.Number (digits_value base digits) ty))) (type_of (digits_value base digits) base s)) o ≡ Some k →
    Parts base digits suffix k
parts_suffixed base digits suffix k None suffixed e = cc
parts_suffixed base digits suffix k (Some s) suffixed e = parts_typed base digits suffix k s (type_of (digits_value base digits) base s) suffixed refl e

parts_of : (base : ℕ) (digits suffix : List ℕ) (k : TokKind) → number_from base digits suffix ≡ Some k → Parts base digits suffix k
unfolding number_from
parts_of base digits suffix k e = parts_suffixed base digits suffix k (suffix_of suffix) refl e

first_kept : (n : ℕ) (text : List ℕ) → 0 < length (take n text) → get_or (take n text) 0 0 ≡ get_or text 0 0
first_kept zero text h = absurd (omega arith)
first_kept (suc n) [] h = refl
first_kept (suc n) (b ∷ bs) h = refl

-- the digits and the suffix behind what a base puts in front
abbrev Splits : List ℕ → ℕ → Type 0
Splits word base = (n : ℕ) → 0 < length (take n (drop (prefix_of base) word)) → IsNumeral word (take n (drop (prefix_of base) word)) (drop n (drop (prefix_of base) word)) base

two_more : (word : List ℕ) → eqb (get_or word 0 0) 48 ≡ true → is_x (get_or word 1 0) ≡ true → Splits word 16
unfolding prefix_of is_x
two_more [] zero_first x n h = cc
two_more (a ∷ []) zero_first x n h = cc
two_more (a ∷ b ∷ bs) zero_first x n h = hexadecimal b refl x (rw (eqb-true a 48 zero_first, take-append-drop n bs))

splits : (word : List ℕ) → Splits word (base_of word)
unfolding base_of prefix_of
splits word =
    by_test (Splits word) (eqb (get_or word 0 0) 48) _ 10
    (λ zero_first. by_test (Splits word) (is_x (get_or word 1 0)) 16 8
    (λ x. two_more word zero_first x)
    (λ _ n some. octal refl (rw (first_kept n word some) zero_first) (sym (take-append-drop n word))))
    (λ other n some. decimal refl (rw (first_kept n word some) other) (sym (take-append-drop n word)))

number_sound : (word : List ℕ) (k : TokKind) → number_of word ≡ Some k → IsToken k word
unfolding number_of digits_len
number_sound word k e =
    let base = base_of word in
    let body = drop (prefix_of base) word in
    let n = prefix_len (λ b. is_digit b base) body in
    let parts = parts_of base (take n body) (drop n body) k e in
    subst (λ j. IsToken j word) parts.same (record {
      base = base;
      digits = take n body;
      suffix = drop n body;
      sign = parts.sign;
      spelled = splits word n parts.some;
      some = parts.some;
      each = front_passes (λ b. is_digit b base) body;
      suffixed = parts.suffixed;
      written = refl;
      typed = parts.typed;
    })

number_found : (text : List ℕ) (o : Option TokKind) (k : TokKind) (n : ℕ) → number_of (take (word_len text) text) ≡ o → found_or fault.BadNumber (word_len text) o ≡ next.Found k n → IsToken k (take n text)
unfolding found_or
number_found text None k n e found = cc
number_found text (Some j) k n e found =
    let counts : word_len text ≡ n = cc in
    let kinds : j ≡ k = cc in
    subst (λ m. IsToken k (take m text)) counts (number_sound (take (word_len text) text) k (e ∙ ap Some kinds))

number_at_sound : (text : List ℕ) (k : TokKind) (n : ℕ) → number_at text ≡ next.Found k n → IsToken k (take n text)
unfolding number_at
number_at_sound text k n found = number_found text (number_of (take (word_len text) text)) k n refl found

-- characters
simple_sound : (quote : ℕ) (text : List ℕ) (o : Option ℕ) (q : Quoted) → eqb (get_or text 0 0) 92 ≡ true → escape_value (get_or text 1 0) ≡ o →
    option_map (λ v. record { value = v; length = 2 }) o ≡ Some q → IsCharacter quote q.value (take q.length text)
unfolding escape_value
simple_sound quote text None q slash e found = cc
simple_sound quote [] (Some v) q slash e found = cc
simple_sound quote (a ∷ []) (Some v) q slash e found = cc
simple_sound quote (a ∷ b ∷ bs) (Some v) q slash e found =
    let escape : Quoted = record { value = v; length = 2 } in
    let same : escape ≡ q = cc in
    subst (λ (x : Quoted). IsCharacter quote x.value (take x.length (a ∷ b ∷ bs))) same (escaped b e (rw (eqb-true a 92 slash)))

hex_sound : (quote : ℕ) (text : List ℕ) (q : Quoted) → eqb (get_or text 0 0) 92 ≡ true → eqb (get_or text 1 0) 120 ≡ true → hex_escape text ≡ Some q → IsCharacter quote q.value (take q.length text)
unfolding hex_escape
hex_sound quote [] q slash x found = cc
hex_sound quote (a ∷ []) q slash x found = cc
hex_sound quote (a ∷ b ∷ []) q slash x found = cc
hex_sound quote (a ∷ b ∷ h ∷ []) q slash x found = absurd (false≢true (and_right (ltb (digit_value h) 16) false (cond_some (ltb (digit_value h) 16 && false) _ q found).0))
hex_sound quote (a ∷ b ∷ h ∷ l ∷ bs) q slash x found =
    let there = cond_some (ltb (digit_value h) 16 && ltb (digit_value l) 16) _ q found in
    subst (λ (y : Quoted). IsCharacter quote y.value (take y.length (a ∷ b ∷ h ∷ l ∷ bs))) there.1
    (coded h l (and_left (ltb (digit_value h) 16) _ there.0) (and_right (ltb (digit_value h) 16) _ there.0) refl (rw (eqb-true a 92 slash, eqb-true b 120 x)))

itself : (quote : ℕ) (text : List ℕ) (q : Quoted) → eqb (get_or text 0 0) 92 ≡ false →
    cond (is_plain quote (get_or text 0 0)) (Some (record { value = get_or text 0 0; length = 1 })) None ≡ Some q → IsCharacter quote q.value (take q.length text)
unfolding is_plain
itself quote [] q other e = cc
itself quote (a ∷ bs) q other e =
    let there = cond_some (is_plain quote a) _ q e in
    subst (λ (y : Quoted). IsCharacter quote y.value (take y.length (a ∷ bs))) there.1 (plain other there.0 refl)

pub quoted_sound : (quote : ℕ) (text : List ℕ) (q : Quoted) → quoted_at quote text ≡ Some q → IsCharacter quote q.value (take q.length text)
unfolding quoted_at escape_at
quoted_sound quote text q found =
    let P : Option Quoted → Type 0 = λ o. o ≡ Some q → IsCharacter quote q.value (take q.length text) in
    by_test P (eqb (get_or text 0 0) 92) _ _
    (λ slash. by_test P (eqb (get_or text 1 0) 120) _ _
    (λ x e. hex_sound quote text q slash x e)
    (λ _ e. simple_sound quote text (escape_value (get_or text 1 0)) q slash refl e))
    (λ other e. itself quote text q other e) found

char_closed_sound : (body : List ℕ) (o : Option Quoted) (k : TokKind) (n : ℕ) → quoted_at 39 body ≡ o → char_closed (39 ∷ body) o ≡ next.Found k n → IsToken k (take n (39 ∷ body))
unfolding char_closed
char_closed_sound body None k n e found = cc
char_closed_sound body (Some q) k n e found =
    by_test (λ (x : Next). x ≡ next.Found k n → IsToken k (take n (39 ∷ body))) (eqb (get_or (39 ∷ body) (q.length + 1) 0) 39) _ (next.Refused fault.Unclosed)
    (λ quote same.
    let after : q.length + 1 ≡ suc q.length = omega arith in
    let closes : eqb (get_or body q.length 0) 39 ≡ true = rw after at quote in
    let within : q.length < length body = present (λ b. eqb b 39) body q.length refl closes in
    let kinds : kind.Char (signed_of 8 q.value) ≡ k = cc in
    let counts : q.length + 2 ≡ n = cc in
    let two : q.length + 2 ≡ suc (q.length + 1) = omega arith in
    let there : IsToken (kind.Char (signed_of 8 q.value)) (take (q.length + 2) (39 ∷ body)) =
    (q.value, take q.length body, quoted_sound 39 body q e, refl, rw (two, take_more body q.length 0 within, eqb-true _ 39 closes)) in
    subst (λ m. IsToken k (take m (39 ∷ body))) counts (subst (λ j. IsToken j (take (q.length + 2) (39 ∷ body))) kinds there))
    (λ _ same. cc) found

char_sound : (text : List ℕ) (k : TokKind) (n : ℕ) → eqb (get_or text 0 0) 39 ≡ true → char_at text ≡ next.Found k n → IsToken k (take n text)
unfolding char_at
char_sound [] k n quote found = cc
char_sound (b ∷ body) k n quote found =
    let same : b ≡ 39 = eqb-true b 39 quote in
    let there = rw same at found in
    rw same (char_closed_sound body (quoted_at 39 body) k n refl there)

-- string literals
record Begun (rest : List ℕ) (q : Quoted) (t : Literal) : Type 0 where
  more : Literal
  read : literal_from 0 (drop q.length rest) ≡ Some more
  bytes : t.bytes ≡ q.value ∷ more.bytes
  counts : t.length ≡ q.length + more.length

begun : (rest : List ℕ) (q : Quoted) (t : Literal) (o : Option Literal) → literal_from 0 (drop q.length rest) ≡ o → joined (q.value ∷ []) q.length o ≡ Some t → Begun rest q t
unfolding joined
begun rest q t None e same = cc
begun rest q t (Some more) e same =
    let whole : Literal = record { bytes = q.value ∷ more.bytes; length = q.length + more.length } in
    let equal : whole ≡ t = cc in
    record { more = more; read = e; bytes = ap (λ (x : Literal). x.bytes) (sym equal); counts = ap (λ (x : Literal). x.length) (sym equal) }

-- what a literal's front spells
record Spelled (rest : List ℕ) (t : Literal) : Type 0 where
  spelling : List ℕ
  characters : AreCharacters t.bytes spelling
  form : take t.length rest ≡ spelling ++ 34 ∷ []

spelled_more : (rest : List ℕ) (q : Quoted) (t : Literal) (start : Begun rest q t) → quoted_at 34 rest ≡ Some q → q.length ≤ length rest → Spelled (drop q.length rest) start.more → Spelled rest t
spelled_more rest q t start e within tail = record {
  spelling = take q.length rest ++ tail.spelling;
  characters = subst (λ bs. AreCharacters bs (take q.length rest ++ tail.spelling)) (sym start.bytes)
      (take q.length rest, tail.spelling, quoted_sound 34 rest q e, tail.characters, refl);
  form = rw (start.counts, take-add q.length start.more.length rest, tail.form) (sym (append_assoc (take q.length rest) tail.spelling (34 ∷ [])));
}

nothing_read : (t : Literal) → literal_from 0 [] ≡ Some t → Spelled [] t
unfolding literal_from
nothing_read t e = cc

quote_read : (b : ℕ) (bs : List ℕ) (t : Literal) → eqb b 34 ≡ true → literal_from 0 (b ∷ bs) ≡ Some t → Spelled (b ∷ bs) t
unfolding literal_from
quote_read b bs t quote e =
    let last : Literal = record { bytes = []; length = 1 } in
    let read = rw quote at e in
    let same : last ≡ t = cc in
    subst (λ (x : Literal). Spelled (b ∷ bs) x) same (record { spelling = []; characters = refl; form = rw (eqb-true b 34 quote) })

bad_read : (b : ℕ) (bs : List ℕ) (t : Literal) → eqb b 34 ≡ false → quoted_at 34 (b ∷ bs) ≡ None → literal_from 0 (b ∷ bs) ≡ Some t → ⊥
unfolding literal_from with_quoted
bad_read b bs t other none e = let read = rw (other, none) at e in cc

literal_case : (size b : ℕ) (bs : List ℕ) (t : Literal) (quote : Bool) (o : Option Quoted) → eqb b 34 ≡ quote → quoted_at 34 (b ∷ bs) ≡ o → length bs ≤ size → literal_from 0 (b ∷ bs) ≡ Some t →
    ((rest : List ℕ) (more : Literal) → length rest ≤ size → literal_from 0 rest ≡ Some more → Spelled rest more) → Spelled (b ∷ bs) t
literal_case size b bs t true o quote read h e tail = quote_read b bs t quote e
literal_case size b bs t false None other read h e tail = absurd (bad_read b bs t other read e)
literal_case size b bs t false (Some q) other read h e tail =
    let bounds = quoted_bounds 34 (b ∷ bs) q read in
    let step = literal_step b bs q q.length (eqb-false b 34 other) read refl bounds.0 bounds.1 in
    let start = begun (b ∷ bs) q t (literal_from 0 (drop q.length (b ∷ bs))) refl (sym step ∙ e) in
    let shorter : length (drop q.length (b ∷ bs)) ≤ size = simp (length-drop q.length (b ∷ bs)) (omega (arith, bounds, h)) in
    spelled_more (b ∷ bs) q t start read bounds.1 (tail (drop q.length (b ∷ bs)) start.more shorter start.read)

literal_sound : (size : ℕ) (rest : List ℕ) (t : Literal) → length rest ≤ size → literal_from 0 rest ≡ Some t → Spelled rest t
literal_sound size [] t h e = nothing_read t e
literal_sound zero (b ∷ bs) t h e = absurd (omega arith)
literal_sound (suc size) (b ∷ bs) t h e =
    literal_case size b bs t (eqb b 34) (quoted_at 34 (b ∷ bs)) refl refl (omega arith) e (λ rest more within read. literal_sound size rest more within read)

text_closed_sound : (body : List ℕ) (o : Option Literal) (k : TokKind) (n : ℕ) → literal_from 0 body ≡ o → text_closed o ≡ next.Found k n → IsToken k (take n (34 ∷ body))
unfolding text_closed
text_closed_sound body None k n e found = cc
text_closed_sound body (Some t) k n e found =
    let there = literal_sound (length body) body t (omega arith) e in
    let kinds : kind.Text t.bytes ≡ k = cc in
    let counts : t.length + 1 ≡ n = cc in
    let one : t.length + 1 ≡ suc t.length = omega arith in
    let token : IsToken (kind.Text t.bytes) (take (t.length + 1) (34 ∷ body)) = (there.spelling, there.characters, rw (one, there.form)) in
    subst (λ m. IsToken k (take m (34 ∷ body))) counts (subst (λ j. IsToken j (take (t.length + 1) (34 ∷ body))) kinds token)

text_sound : (text : List ℕ) (k : TokKind) (n : ℕ) → eqb (get_or text 0 0) 34 ≡ true → text_at text ≡ next.Found k n → IsToken k (take n text)
unfolding text_at
text_sound [] k n quote found = cc
text_sound (b ∷ body) k n quote found = rw (eqb-true b 34 quote) (text_closed_sound body (literal_from 0 body) k n refl found)

-- marks
mark_found_sound : (j : ℕ) (text : List ℕ) (o : Option ℕ) (x : Next) (k : TokKind) (n : ℕ) → number_of_mark (take j text) ≡ o → (x ≡ next.Found k n → IsToken k (take n text)) →
    unwrap_or (option_map (λ m. next.Found (kind.Mark m) j) o) x ≡ next.Found k n → IsToken k (take n text)
mark_found_sound j text None x k n e others found = others found
mark_found_sound j text (Some m) x k n e others found =
    let kinds : kind.Mark m ≡ k = cc in
    let counts : j ≡ n = cc in
    let token : IsToken (kind.Mark m) (take j text) = e in
    subst (λ i. IsToken k (take i text)) counts (subst (λ i. IsToken i (take j text)) kinds token)

mark_or_sound : (j : ℕ) (text : List ℕ) (x : Next) (k : TokKind) (n : ℕ) → (x ≡ next.Found k n → IsToken k (take n text)) → unwrap_or (mark_of j text) x ≡ next.Found k n → IsToken k (take n text)
unfolding mark_of
mark_or_sound j text x k n others found =
    by_test (λ o. unwrap_or o x ≡ next.Found k n → IsToken k (take n text)) (leb j (length text)) _ None
    (λ _. mark_found_sound j text (number_of_mark (take j text)) x k n refl others)
    (λ _. others) found

mark_sound : (first : Bool) (text : List ℕ) (k : TokKind) (n : ℕ) → mark_at first text ≡ next.Found k n → IsToken k (take n text)
unfolding mark_at stray
mark_sound first text k n found =
    mark_or_sound 3 text _ k n (λ second. mark_or_sound 2 text _ k n (λ third. mark_or_sound 1 text _ k n (λ none. cc) third) second) found

comment_sound : (o : Option ℕ) (k : TokKind) (n : ℕ) → comment_closed o ≡ next.Found k n → ⊥
unfolding comment_closed
comment_sound None k n found = cc
comment_sound (Some m) k n found = cc

slash_sound : (first : Bool) (text : List ℕ) (k : TokKind) (n : ℕ) → slash_at first text ≡ next.Found k n → IsToken k (take n text)
unfolding slash_at
slash_sound first text k n found =
    let P : Next → Type 0 = λ x. x ≡ next.Found k n → IsToken k (take n text) in
    by_test P (eqb (get_or text 1 0) 47) _ _ (λ _ e. cc)
    (λ _. by_test P (eqb (get_or text 1 0) 42) _ _ (λ _ e. absurd (comment_sound _ k n e)) (λ _ e. mark_sound first text k n e)) found

-- what is found is a token
pub token_sound : (first : Bool) (text : List ℕ) (k : TokKind) (n : ℕ) → next_of first text ≡ next.Found k n → IsToken k (take n text)
unfolding next_of
token_sound first text k n found =
    let P : Next → Type 0 = λ x. x ≡ next.Found k n → IsToken k (take n text) in
    let b = get_or text 0 0 in
    by_test P (is_blank b) _ _ (λ _ e. cc)
    (λ _. by_test P (is_letter b) _ _ (λ letter e. name_sound text k n letter e)
    (λ _. by_test P (is_decimal b) _ _ (λ _ e. number_at_sound text k n e)
    (λ _. by_test P (eqb b 39) _ _ (λ quote e. char_sound text k n quote e)
    (λ _. by_test P (eqb b 34) _ _ (λ quote e. text_sound text k n quote e)
    (λ _. by_test P (eqb b 47) _ _ (λ _ e. slash_sound first text k n e)
    (λ _ e. mark_sound first text k n e)))))) found
