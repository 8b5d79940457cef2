-- What stands at a place takes a byte at least and lies within the text, so that a reading goes on behind it.
use Rattle.std.proofs.Common.{◌≡◌, ◌≢◌, ℕ, zero, suc, ◌+◌, ◌-◌, ◌<◌, ◌≤◌, Bool, true, false, cond, ◌&&◌, ◌||◌, eqb, leb, leb-true, List, [], ◌∷◌, ◌++◌, length, get_or, take, drop, Option, Some, None, unwrap_or, Result, Ok, Err, refl, sym, ap, subst, ◌∙◌, arith, append_assoc, append-nil, add-zero, length-drop}
use Rattle.std.specs.Prelude.{option_map}
use Rattle.std.specs.List.{prefix_len}
use Rattle.std.proofs.lemmas.List.Sums.{prefix_len-le-length}
use Rattle.std.proofs.lemmas.Bool.{eqb-true}
use Rattle.c_lex.specs.declared.token.TokKind.{TokKind}
use Rattle.c_lex.specs.declared.token.TokKind.TheVariants as kind
use Rattle.c_lex.specs.declared.token.Token.{Token}
use Rattle.c_lex.specs.declared.token.LexRefusal.{LexRefusal}
use Rattle.c_lex.specs.declared.next.Fault.{Fault}
use Rattle.c_lex.specs.declared.next.Fault.TheVariants as fault
use Rattle.c_lex.specs.declared.next.Next.{Next}
use Rattle.c_lex.specs.declared.next.Next.TheVariants as next
use Rattle.c_lex.specs.declared.quotes.Quoted.{Quoted}
use Rattle.c_lex.specs.Bytes.{is_blank, is_letter, is_decimal, is_word_byte, is_in_line}
use Rattle.c_lex.specs.Spelling.{number_of_mark}
use Rattle.c_lex.specs.Quotes.{Literal, spelled, with_byte, with_quoted, quoted_at, literal_from}
use Rattle.c_lex.specs.Reading.{word_len, name_at, found_or, number_at, char_closed, char_at, text_closed, text_at, close_of, comment_closed, mark_of, stray, mark_at, slash_at, next_of, ends_line, token, refusal_of, with_front, read_next, reading, tokens_of, Told}
use Rattle.c_lex.proofs.QuoteLaws.{present, by_test, IsWithin, quoted_within}
use Rattle.c_lex.proofs.CommentLaws.{EndsWithin, close_within}

-- what stands in front of so many bytes
abbrev pub Advances : ℕ → Next → Type 0
Advances length (next.Gap n) = (0 < n) × (n ≤ length)
Advances length (next.Found k n) = (0 < n) × (n ≤ length)
Advances length (next.Refused f) = Unit {0}

word_some : (text : List ℕ) → is_word_byte (get_or text 0 0) ≡ true → 0 < word_len text
unfolding word_len is_word_byte is_letter is_decimal
word_some [] h = cc
word_some (b ∷ bs) h = rw h (omega arith)

word_within : (text : List ℕ) → word_len text ≤ length text
unfolding word_len
word_within text = prefix_len-le-length is_word_byte text

pub letter_in_word : (b : ℕ) → is_letter b ≡ true → is_word_byte b ≡ true
unfolding is_word_byte
letter_in_word b h = rw h

or_right : (a b : Bool) → b ≡ true → (a || b) ≡ true
or_right true b h = refl
or_right false b h = h

pub decimal_in_word : (b : ℕ) → is_decimal b ≡ true → is_word_byte b ≡ true
unfolding is_word_byte
decimal_in_word b h = or_right (is_letter b) (is_decimal b) h

name_advances : (text : List ℕ) → is_letter (get_or text 0 0) ≡ true → Advances (length text) (name_at text)
unfolding name_at
name_advances text h = (word_some text (letter_in_word _ h), word_within text)

found_advances : (length n : ℕ) (f : Fault) (o : Option TokKind) → 0 < n → n ≤ length → Advances length (found_or f n o)
unfolding found_or
found_advances length n f None some within = tt
found_advances length n f (Some k) some within = (some, within)

number_advances : (text : List ℕ) → is_decimal (get_or text 0 0) ≡ true → Advances (length text) (number_at text)
unfolding number_at
number_advances text h = found_advances (length text) (word_len text) fault.BadNumber _ (word_some text (decimal_in_word _ h)) (word_within text)

closed_advances : (text : List ℕ) (o : Option Quoted) → Advances (length text) (char_closed text o)
unfolding char_closed
closed_advances text None = tt
closed_advances text (Some q) =
    by_test (Advances (length text)) (eqb (get_or text (q.length + 1) 0) 39) _ (next.Refused fault.Unclosed)
    (λ t. let last : q.length + 1 < length text = present (λ b. eqb b 39) text (q.length + 1) refl t in (omega arith, omega arith))
    (λ _. tt)

char_advances : (text : List ℕ) → Advances (length text) (char_at text)
unfolding char_at
char_advances text = closed_advances text _

-- a literal takes a byte at least, and lies within its text
abbrev LiteralWithin : ℕ → Option Literal → Type 0
LiteralWithin n None = Unit {0}
LiteralWithin n (Some text) = (0 < text.length) × (text.length ≤ n)

spelled_within : (n : ℕ) (o : Option Literal) → LiteralWithin n o → LiteralWithin (suc n) (spelled o)
unfolding spelled
spelled_within n None h = tt
spelled_within n (Some text) h = (omega (arith, h), omega (arith, h))

byte_within : (v n : ℕ) (o : Option Literal) → LiteralWithin n o → LiteralWithin n (with_byte v o)
unfolding with_byte
byte_within v n None h = tt
byte_within v n (Some text) h = h

quoted_literal_within : (n : ℕ) (q : Option Quoted) (more : ℕ → Option Literal) → ((k : ℕ) → LiteralWithin n (more k)) → LiteralWithin (suc n) (with_quoted q more)
unfolding with_quoted
quoted_literal_within n None more h = tt
quoted_literal_within n (Some q) more h = byte_within q.value (suc n) _ (spelled_within n _ (h (q.length - 1)))

literal_within : (k : ℕ) (bs : List ℕ) → LiteralWithin (length bs) (literal_from k bs)
unfolding literal_from
literal_within zero [] = tt
literal_within (suc k) [] = tt
literal_within (suc k) (b ∷ bs) = spelled_within (length bs) _ (literal_within k bs)
literal_within zero (b ∷ bs) =
    by_test (LiteralWithin (length (b ∷ bs))) (eqb b 34) _ _
    (λ _. (omega arith, omega arith))
    (λ _. quoted_literal_within (length bs) _ _ (λ k. literal_within k bs))

text_closed_advances : (n : ℕ) (o : Option Literal) → LiteralWithin n o → Advances (suc n) (text_closed o)
unfolding text_closed
text_closed_advances n None h = tt
text_closed_advances n (Some text) h = (omega (arith, h), omega (arith, h))

text_advances : (text : List ℕ) → 0 < length text → Advances (length text) (text_at text)
unfolding text_at
text_advances [] some = absurd (omega arith)
text_advances (b ∷ bs) some = text_closed_advances (length bs) _ (literal_within 0 bs)

comment_advances : (n : ℕ) (text : List ℕ) (o : Option ℕ) → EndsWithin (length text - 2) o → Advances (length text) (comment_closed o)
unfolding comment_closed
comment_advances n text None h = tt
comment_advances n text (Some k) h = (omega (arith, h), omega (arith, h))

line_some : (text : List ℕ) → is_in_line (get_or text 0 0) ≡ true → 0 < length text → 0 < prefix_len is_in_line text
line_some [] h some = absurd (omega arith)
line_some (b ∷ bs) h some = rw h (omega arith)

mark_found : (n : ℕ) (text : List ℕ) (o : Option ℕ) → 0 < n → n ≤ length text → (x : Next) → Advances (length text) x → Advances (length text) (unwrap_or (option_map (λ k. next.Found (kind.Mark k) n) o) x)
mark_found n text None some within x h = h
mark_found n text (Some k) some within x h = (some, within)

mark_or : (n : ℕ) (text : List ℕ) (x : Next) → 0 < n → Advances (length text) x → Advances (length text) (unwrap_or (mark_of n text) x)
unfolding mark_of
mark_or n text x some h =
    by_test (λ o. Advances (length text) (unwrap_or o x)) (leb n (length text)) _ None
    (λ within. mark_found n text _ some (leb-true _ _ within) x h)
    (λ _. h)

mark_advances : (first : Bool) (text : List ℕ) → Advances (length text) (mark_at first text)
unfolding mark_at stray
mark_advances first text = mark_or 3 text _ (omega arith) (mark_or 2 text _ (omega arith) (mark_or 1 text _ (omega arith) tt))

slash_advances : (first : Bool) (text : List ℕ) → eqb (get_or text 0 0) 47 ≡ true → 0 < length text → Advances (length text) (slash_at first text)
unfolding slash_at is_in_line
slash_advances first text slash some =
    by_test (Advances (length text)) (eqb (get_or text 1 0) 47) _ _
    (λ _. let is_slash : get_or text 0 0 ≡ 47 = eqb-true _ _ slash in
    let in_line : is_in_line (get_or text 0 0) ≡ true = rw is_slash in
    (line_some text in_line some, prefix_len-le-length is_in_line text))
    (λ _. by_test (Advances (length text)) (eqb (get_or text 1 0) 42) _ _
    (λ _. comment_advances 0 text _ (rw (← length-drop 2 text) (close_within (drop 2 text))))
    (λ _. mark_advances first text))

pub next_advances : (first : Bool) (text : List ℕ) → 0 < length text → Advances (length text) (next_of first text)
unfolding next_of
next_advances first text some =
    let P = Advances (length text) in
    let b = get_or text 0 0 in
    by_test P (is_blank b) _ _ (λ _. (omega arith, omega arith))
    (λ _. by_test P (is_letter b) _ _ (λ letter. name_advances text letter)
    (λ _. by_test P (is_decimal b) _ _ (λ digit. number_advances text digit)
    (λ _. by_test P (eqb b 39) _ _ (λ _. char_advances text)
    (λ _. by_test P (eqb b 34) _ _ (λ _. text_advances text some)
    (λ _. by_test P (eqb b 47) _ _ (λ slash. slash_advances first text slash some)
    (λ _. mark_advances first text))))))

reading_skips : (k : ℕ) (first : Bool) (at : ℕ) (bs : List ℕ) → k ≤ length bs → reading k first at bs ≡ reading 0 first (at + k) (drop k bs)
unfolding reading
reading_skips zero first at bs h = rw add-zero
reading_skips (suc k) first at [] h = absurd (omega arith)
reading_skips (suc k) first at (b ∷ bs) h =
    let places : at + 1 + k ≡ at + suc k = omega arith in
    reading_skips k first (at + 1) bs (omega arith) ∙ rw places

goes_on : (first : Bool) (at n : ℕ) (b : ℕ) (bs : List ℕ) → 0 < n → n ≤ length (b ∷ bs) → reading (n - 1) first (at + 1) bs ≡ reading 0 first (at + n) (drop n (b ∷ bs))
goes_on first at zero b bs some within = absurd (omega arith)
goes_on first at (suc n) b bs some within =
    let less : suc n - 1 ≡ n = omega arith in
    let places : at + 1 + n ≡ at + suc n = omega arith in
    rw less (reading_skips n first (at + 1) bs (omega arith) ∙ rw places)

reads_on : (first : Bool) (at b : ℕ) (bs : List ℕ) (x : Next) → Advances (length (b ∷ bs)) x →
    read_next first at (b ∷ bs) (λ n after. reading (n - 1) after (at + 1) bs) x ≡ read_next first at (b ∷ bs) (λ n after. reading 0 after (at + n) (drop n (b ∷ bs))) x
unfolding read_next
reads_on first at b bs (next.Gap n) h = goes_on _ at n b bs h.0 h.1
reads_on first at b bs (next.Found k n) h = ap (with_front (token k at n ∷ [])) (goes_on false at n b bs h.0 h.1)
reads_on first at b bs (next.Refused f) h = refl

-- a reading is what stands in front, and the reading behind it
pub reading_next : (first : Bool) (at : ℕ) (text : List ℕ) → 0 < length text →
    reading 0 first at text ≡ read_next first at text (λ n after. reading 0 after (at + n) (drop n text)) (next_of first text)
unfolding reading
reading_next first at [] some = absurd (omega arith)
reading_next first at (b ∷ bs) some = reads_on first at b bs (next_of first (b ∷ bs)) (next_advances first (b ∷ bs) some)

with_front-with_front : (xs ys : List Token) (r : Result (List Token) LexRefusal) → with_front xs (with_front ys r) ≡ with_front (xs ++ ys) r
unfolding with_front
with_front-with_front xs ys (Ok ts) = ap Ok (sym (append_assoc xs ys ts))
with_front-with_front xs ys (Err e) = refl

with_front-nothing : (r : Result (List Token) LexRefusal) → with_front [] r ≡ r
unfolding with_front
with_front-nothing (Ok ts) = refl
with_front-nothing (Err e) = refl

-- the tokens so far, and the reading of the rest, are the reading of all
pub record IsReadTo (bytes : List ℕ) (tokens : List Token) (first : Bool) (rest : List ℕ) : Type 0 where
  pub within : length rest ≤ length bytes
  pub so_far : with_front tokens (reading 0 first (length bytes - length rest) rest) ≡ tokens_of bytes

pub read_begins : (bytes : List ℕ) → IsReadTo bytes [] true bytes
unfolding tokens_of
read_begins bytes = let none : length bytes - length bytes ≡ 0 = omega arith in record {
  within = omega arith;
  so_far = rw none (with_front-nothing (reading 0 true 0 bytes));
}

behind_at : (bytes rest : List ℕ) (n : ℕ) → n ≤ length rest → length rest ≤ length bytes → length bytes - length rest + n ≡ length bytes - length (drop n rest)
behind_at bytes rest n h within = simp (length-drop n rest) (omega arith)

pub read_gap : (bytes : List ℕ) (tokens : List Token) (first : Bool) (rest : List ℕ) (n : ℕ) → 0 < length rest → next_of first rest ≡ next.Gap n →
    IsReadTo bytes tokens first rest → IsReadTo bytes tokens (first || ends_line (take n rest)) (drop n rest)
unfolding read_next
read_gap bytes tokens first rest n some e read =
    let P : Next → Type 0 = Advances (length rest) in
    let bounds : P (next.Gap n) = subst P e (next_advances first rest some) in
    let on = reading_next first (length bytes - length rest) rest some in
    record {
      within = simp (length-drop n rest) (omega (arith, read.within));
      so_far = rw (← behind_at bytes rest n bounds.1 read.within) (ap (with_front tokens) (sym (rw e at on)) ∙ read.so_far);
    }

pub read_found : (bytes : List ℕ) (tokens : List Token) (first : Bool) (rest : List ℕ) (k : TokKind) (n : ℕ) → 0 < length rest → next_of first rest ≡ next.Found k n →
    IsReadTo bytes tokens first rest → IsReadTo bytes (tokens ++ token k (length bytes - length rest) n ∷ []) false (drop n rest)
unfolding read_next
read_found bytes tokens first rest k n some e read =
    let P : Next → Type 0 = Advances (length rest) in
    let bounds : P (next.Found k n) = subst P e (next_advances first rest some) in
    let on = reading_next first (length bytes - length rest) rest some in
    record {
      within = simp (length-drop n rest) (omega (arith, read.within));
      so_far = rw (← behind_at bytes rest n bounds.1 read.within) (sym (with_front-with_front tokens (token k (length bytes - length rest) n ∷ []) _) ∙ ap (with_front tokens) (sym (rw e at on)) ∙ read.so_far);
    }

pub read_refused : (bytes : List ℕ) (tokens : List Token) (first : Bool) (rest : List ℕ) (f : Fault) → 0 < length rest → next_of first rest ≡ next.Refused f →
    IsReadTo bytes tokens first rest → tokens_of bytes ≡ Err (refusal_of f (length bytes - length rest))
unfolding read_next with_front
read_refused bytes tokens first rest f some e read =
    let on = reading_next first (length bytes - length rest) rest some in
    sym read.so_far ∙ ap (with_front tokens) (rw e at on)

pub read_ends : (bytes : List ℕ) (tokens : List Token) (first : Bool) (rest : List ℕ) → length rest ≡ 0 → IsReadTo bytes tokens first rest → tokens_of bytes ≡ Ok tokens
unfolding reading with_front
read_ends bytes tokens first [] none read = sym read.so_far ∙ ap Ok (append-nil tokens)
read_ends bytes tokens first (b ∷ bs) none read = absurd (omega arith)

pub gap_bounds : (first : Bool) (rest : List ℕ) (n : ℕ) → 0 < length rest → next_of first rest ≡ next.Gap n → (0 < n) × (n ≤ length rest)
gap_bounds first rest n some e = subst (Advances (length rest)) e (next_advances first rest some)

pub found_bounds : (first : Bool) (rest : List ℕ) (k : TokKind) (n : ℕ) → 0 < length rest → next_of first rest ≡ next.Found k n → (0 < n) × (n ≤ length rest)
found_bounds first rest k n some e = subst (Advances (length rest)) e (next_advances first rest some)

-- a refusal that was told is no want of memory
pub told : (e : LexRefusal) (f : Fault) (at : ℕ) (read : Result (List Token) LexRefusal) → e ≡ refusal_of f at → read ≡ Err (refusal_of f at) → Told e read
unfolding refusal_of
told e fault.BadByte at read same h = subst (λ x. Told x read) (sym same) h
told e fault.BadNumber at read same h = subst (λ x. Told x read) (sym same) h
told e fault.Unclosed at read same h = subst (λ x. Told x read) (sym same) h
told e fault.Directive at read same h = subst (λ x. Told x read) (sym same) h
