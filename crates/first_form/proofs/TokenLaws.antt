-- What the scanner takes as a token is one, and it takes each.
use Rattle.std.proofs.Common.{◌≡◌, ℕ, ◌<◌, Bool, true, false, cond, ltb, List, [], ◌∷◌, ◌++◌, length, take, drop, Option, Some, None, refl, ap, sym, ◌∙◌, arith, append_assoc, IsTrue, length-append}
use Rattle.std.specs.List.{prefix_len}
use Rattle.std.proofs.lemmas.Bool.{and_parts, and_from, ltb-true, lt-ltb, false≢true}
use Rattle.std.proofs.lemmas.List.{take-append-drop}
use Rattle.std.proofs.Math.Seq.{take-append_seam, drop-append_seam}
use Rattle.std.proofs.lemmas.Option.{cond_some, some_pair_parts}
use Rattle.first_form.specs.FirstForm.{is_blank, is_digit, AreBlanks, IsNumeral, Token, Number, Mark, is_word, IsText, IsTokenAt}
use Rattle.first_form.specs.Scanning.{◌>>=◌, after_blanks, after_gap, after_text, after_token, numeral_at, number_at}
use Rattle.first_form.proofs.Binds.{bind_some, some_bind}
use Rattle.first_form.proofs.Fronts.{prefix_len-append_passes, prefix_len-stop}
use Rattle.first_form.proofs.ScanningLaws.{blank_no_digit, digit_no_blank, blanks_before, blanks_pass, blanks_cut, after_blanks-append, after_blanks-solid, after_text-append, after_text_found}
use Rattle.first_form.proofs.NumeralLaws.{numeral_found, numeral_again}

-- a text that no blank begins
pub record IsSolid (text : List ℕ) : Type 0 where
  pub first : ℕ
  pub others : List ℕ
  pub is : text ≡ first ∷ others
  pub solid : is_blank first ≡ false

pub after_blanks-solid_text : (gap text rest : List ℕ) → AreBlanks gap → IsSolid text → after_blanks (gap ++ (text ++ rest)) ≡ text ++ rest
after_blanks-solid_text gap text rest h s =
    after_blanks-append gap (text ++ rest) h
    ∙ ap (λ t. after_blanks (t ++ rest)) s.is
    ∙ after_blanks-solid s.first (s.others ++ rest) s.solid
    ∙ ap (λ t. t ++ rest) (sym s.is)

-- a token where no blank is asked for
pub token_found : (token : Token) (text bytes rest : List ℕ) → IsText token text → after_token text bytes ≡ Some rest → IsTokenAt false token bytes rest
unfolding after_token
token_found token text bytes rest spelled h = record {
  gap = blanks_before bytes;
  text = text;
  whole = blanks_cut bytes ∙ ap (λ xs. blanks_before bytes ++ xs) (after_text_found text (after_blanks bytes) rest h);
  blank = blanks_pass bytes;
  apart = λ e. absurd (false≢true e);
  spelled = spelled;
}

-- a word or a mark, whose text is the only one
pub token_again : (after_word : Bool) (token : Token) (text bytes rest : List ℕ) → IsSolid text → ((other : List ℕ) → IsText token other → other ≡ text) → IsTokenAt after_word token bytes rest → after_token text bytes ≡ Some rest
unfolding after_token
token_again after_word token text bytes rest solid only at =
    let whole : bytes ≡ at.gap ++ (text ++ rest) = at.whole ∙ ap (λ t. at.gap ++ (t ++ rest)) (only at.text at.spelled) in
    ap (λ b. after_text text (after_blanks b)) whole
    ∙ ap (after_text text) (after_blanks-solid_text at.gap text rest at.blank solid)
    ∙ after_text-append text rest

-- a token is one wherever no blank is asked for
pub beside : (after_word : Bool) (token : Token) (bytes rest : List ℕ) → IsTokenAt after_word token bytes rest → IsTokenAt false token bytes rest
beside after_word token bytes rest at = record {
  gap = at.gap;
  text = at.text;
  whole = at.whole;
  blank = at.blank;
  apart = λ e. absurd (false≢true e);
  spelled = at.spelled;
}

-- a mark asks for none
pub mark_beside : (after_word : Bool) (m : ℕ) (bytes rest : List ℕ) → IsTokenAt false (Mark (m ∷ [])) bytes rest → IsTokenAt after_word (Mark (m ∷ [])) bytes rest
mark_beside true m bytes rest at = record {
  gap = at.gap;
  text = at.text;
  whole = at.whole;
  blank = at.blank;
  apart = λ e. absurd (false≢true e);
  spelled = at.spelled;
}
mark_beside false m bytes rest at = at

-- behind a word, past the blanks
pub spaced_found : (token : Token) (bytes start rest : List ℕ) → after_gap bytes ≡ Some start → IsTokenAt false token start rest → IsTokenAt true token bytes rest
unfolding after_gap
spaced_found token bytes start rest h at =
    let parts = cond_some (ltb (length (after_blanks bytes)) (length bytes)) (after_blanks bytes) start h in
    let cut : bytes ≡ blanks_before bytes ++ start = blanks_cut bytes ∙ ap (λ xs. blanks_before bytes ++ xs) parts.1 in
    let below = ltb-true _ _ parts.0 in
    let same = ap length parts.1 in
    let lengths = ap length cut ∙ length-append (blanks_before bytes) start in
    let more = length-append (blanks_before bytes) at.gap in
    record {
      gap = blanks_before bytes ++ at.gap;
      text = at.text;
      whole = cut ∙ ap (λ xs. blanks_before bytes ++ xs) at.whole ∙ sym (append_assoc (blanks_before bytes) at.gap (at.text ++ rest));
      blank = all_append (blanks_before bytes) at.gap (blanks_pass bytes) at.blank;
      apart = λ _. omega arith;
      spelled = at.spelled;
    }
  where
    all_append : (xs ys : List ℕ) → AreBlanks xs → AreBlanks ys → AreBlanks (xs ++ ys)
    all_append [] ys h g = g
    all_append (x ∷ xs) ys h g = let p = and_parts (is_blank x) _ h in and_from (is_blank x) _ p.0 (all_append xs ys p.1 g)

pub spaced_again : (token : Token) (bytes rest : List ℕ) → IsTrue (is_word token) → ((text : List ℕ) → IsText token text → IsSolid text) → IsTokenAt true token bytes rest → (start : List ℕ) × (after_gap bytes ≡ Some start) × IsTokenAt false token start rest
unfolding after_gap
spaced_again token bytes rest word solid at =
    let start : after_blanks bytes ≡ at.text ++ rest = ap after_blanks at.whole ∙ after_blanks-solid_text at.gap at.text rest at.blank (solid at.text at.spelled) in
    let lengths = ap length at.whole ∙ length-append at.gap (at.text ++ rest) in
    let same = ap length start in
    let some : 0 < length at.gap = at.apart word in
    let below : length (after_blanks bytes) < length bytes = omega arith in (
      at.text ++ rest,
      ap (λ c. cond c (Some (after_blanks bytes)) None) (lt-ltb _ _ below) ∙ ap Some start,
      record { gap = []; text = at.text; whole = refl; blank = refl; apart = λ e. absurd (false≢true e); spelled = at.spelled },
    )

-- numbers
pub numeral_solid : (n : ℕ) (text : List ℕ) → IsNumeral text n → IsSolid text
numeral_solid n [] h = absurd (let p : 0 < length {A = ℕ} [] = h.some in omega arith)
numeral_solid n (b ∷ bs) h = record { first = b; others = bs; is = refl; solid = digit_no_blank b (and_parts (is_digit b) _ h.digits).0 }

pub number_found : (bytes rest : List ℕ) (n : ℕ) → number_at bytes ≡ Some (n, rest) → IsTokenAt false (Number n) bytes rest
unfolding number_at
number_found bytes rest n h =
    let start = after_blanks bytes in
    let count = prefix_len is_digit start in
    let read = bind_some _ _ (n, rest) h in
    let parts = some_pair_parts read.0 n (drop count start) rest read.2 in
    record {
      gap = blanks_before bytes;
      text = take count start;
      whole = blanks_cut bytes ∙ ap (λ xs. blanks_before bytes ++ xs) (sym (take-append-drop count start) ∙ ap (λ xs. take count start ++ xs) parts.1);
      blank = blanks_pass bytes;
      apart = λ e. absurd (false≢true e);
      spelled = numeral_found (take count start) n (read.1 ∙ ap Some parts.0);
    }

-- no digit begins the bytes
abbrev pub Stops : List ℕ → Type 0
Stops rest = prefix_len is_digit rest ≡ 0

pub mark_stops : (after_word : Bool) (m : ℕ) (bytes rest : List ℕ) → is_digit m ≡ false → IsTokenAt after_word (Mark (m ∷ [])) bytes rest → Stops bytes
mark_stops after_word m bytes rest h at = ap (prefix_len is_digit) (at.whole ∙ ap (λ t. at.gap ++ (t ++ rest)) at.spelled) ∙ stops at.gap at.blank
  where
    stops : (gap : List ℕ) → AreBlanks gap → prefix_len is_digit (gap ++ (m ∷ rest)) ≡ 0
    stops [] g = prefix_len-stop is_digit m rest h
    stops (b ∷ bs) g = prefix_len-stop is_digit b (bs ++ (m ∷ rest)) (blank_no_digit b (and_parts (is_blank b) _ g).0)

pub number_again : (after_word : Bool) (bytes rest : List ℕ) (n : ℕ) → Stops rest → IsTokenAt after_word (Number n) bytes rest → number_at bytes ≡ Some (n, rest)
unfolding number_at
number_again after_word bytes rest n stops at =
    let whole : after_blanks bytes ≡ at.text ++ rest = ap after_blanks at.whole ∙ after_blanks-solid_text at.gap at.text rest at.blank (numeral_solid n at.text at.spelled) in
    let more = prefix_len-append_passes is_digit at.text rest at.spelled.digits in
    let count : prefix_len is_digit (at.text ++ rest) ≡ length at.text = omega arith in
    ap (λ start. number_from (prefix_len is_digit start) start) whole
    ∙ ap (λ k. number_from k (at.text ++ rest)) count
    ∙ ap (λ xs. numeral_at xs >>= λ x. Some (x, drop (length at.text) (at.text ++ rest))) (take-append_seam at.text rest)
    ∙ some_bind _ _ n _ (numeral_again at.text n at.spelled) (ap (λ xs. Some (n, xs)) (drop-append_seam at.text rest))
  where
    number_from : ℕ → List ℕ → Option (ℕ × List ℕ)
    number_from k start = numeral_at (take k start) >>= λ x. Some (x, drop k start)
