-- How many bytes tokens take, and what numbers a unit has.
use Rattle.std.proofs.Common.{◌≡◌, ℕ, suc, ◌+◌, ◌*◌, ◌<◌, ◌≤◌, Bool, true, false, List, [], ◌∷◌, ◌++◌, length, Some, ap, ◌∙◌, subst, arith, length-append}
use Rattle.std.proofs.Common.{nat_le}
use Rattle.std.proofs.lemmas.Bool.{and_parts, leb-true}
use Rattle.std.proofs.lemmas.Option.{some_pair_parts}
use Rattle.first_form.specs.FirstForm.{is_digit, IsNumeral, Token, Word, Number, Mark, IsTokenAt, IsSpelled, body_tokens, IsFirstForm, AreBelow}
use Rattle.first_form.specs.Reading.{put_at}
use Rattle.first_form.proofs.Binds.{bind_some}
use Rattle.first_form.proofs.TokenLaws.{number_found}
use Rattle.first_form.proofs.UnitLaws.{spelled_less, word_found, mark_found, head_again, put_again}

-- the fewest bytes of a token
least : Token → ℕ
least (Word letters) = length letters
least (Number n) = 1
least (Mark marks) = length marks

least_text : (t : Token) (after_word : Bool) (bytes rest : List ℕ) (at : IsTokenAt after_word t bytes rest) → least t ≤ length at.text
unfolding least
least_text (Word letters) after_word bytes rest at = let e = ap length at.spelled in omega arith
least_text (Number n) after_word bytes rest at = omega (arith, at.spelled.some)
least_text (Mark marks) after_word bytes rest at = let e = ap length at.spelled in omega arith

token_length : (after_word : Bool) (t : Token) (bytes rest : List ℕ) → IsTokenAt after_word t bytes rest → least t + length rest ≤ length bytes
token_length after_word t bytes rest at =
    let e = ap length at.whole ∙ length-append at.gap (at.text ++ rest) in
    let f = length-append at.text rest in
    let g = least_text t after_word bytes rest at in
    omega arith

five : (a b x c d z : ℕ) → 8 + a ≤ z → 1 + b ≤ a → 1 + x ≤ b → 1 + c ≤ x → 1 + d ≤ c → 12 + d ≤ z
five a b x c d z ha hb hx hc hd = omega arith

-- the reader's calls take something
pub put_shortens : (bytes rest : List ℕ) (n : ℕ) → put_at bytes ≡ Some (n, rest) → 12 + length rest ≤ length bytes
unfolding put_at least
put_shortens bytes rest n h =
    let a = bind_some _ _ (n, rest) h in
    let b = bind_some _ _ (n, rest) a.2 in
    let x = bind_some _ _ (n, rest) b.2 in
    let c = bind_some _ _ (n, rest) x.2 in
    let d = bind_some _ _ (n, rest) c.2 in
    let parts = some_pair_parts (x.0).0 n d.0 rest d.2 in
    let la : 8 + length a.0 ≤ length bytes = token_length false _ bytes a.0 (word_found _ bytes a.0 a.1) in
    let lb : 1 + length b.0 ≤ length a.0 = token_length true _ a.0 b.0 (mark_found true 40 a.0 b.0 b.1) in
    let lx : 1 + length (x.0).1 ≤ length b.0 = token_length false _ b.0 (x.0).1 (number_found b.0 (x.0).1 (x.0).0 x.1) in
    let lc : 1 + length c.0 ≤ length (x.0).1 = token_length true _ (x.0).1 c.0 (mark_found true 41 (x.0).1 c.0 c.1) in
    let ld : 1 + length d.0 ≤ length c.0 = token_length false _ c.0 d.0 (mark_found false 59 c.0 d.0 d.1) in
    let fewer : 12 + length d.0 ≤ length bytes = five (length a.0) (length b.0) (length (x.0).1) (length c.0) (length d.0) (length bytes) la lb lx lc ld in
    subst (λ (r : List ℕ). 12 + length r ≤ length bytes) parts.1 fewer

-- `put_byte(0);` is the shortest call
body_length : (puts : List ℕ) (status : ℕ) (bytes : List ℕ) → IsSpelled false (body_tokens puts status) bytes → 12 * length puts ≤ length bytes
unfolding body_tokens least
body_length [] status bytes h = omega arith
body_length (put ∷ puts) status bytes h =
    let a = spelled_less false _ _ bytes h in
    let b = spelled_less true _ _ a.0 a.2 in
    let x = spelled_less false _ _ b.0 b.2 in
    let c = spelled_less true _ _ x.0 x.2 in
    let d = spelled_less false _ _ c.0 c.2 in
    let la : 8 + length a.0 ≤ length bytes = token_length false _ bytes a.0 a.1 in
    let lb : 1 + length b.0 ≤ length a.0 = token_length true _ a.0 b.0 b.1 in
    let lx : 1 + length x.0 ≤ length b.0 = token_length false _ b.0 x.0 x.1 in
    let lc : 1 + length c.0 ≤ length x.0 = token_length true _ x.0 c.0 c.1 in
    let ld : 1 + length d.0 ≤ length c.0 = token_length false _ c.0 d.0 d.1 in
    let fewer : 12 + length d.0 ≤ length bytes = five (length a.0) (length b.0) (length x.0) (length c.0) (length d.0) (length bytes) la lb lx lc ld in
    calls (length puts) (length d.0) (length bytes) (body_length puts status d.0 d.2) fewer
  where
    calls : (k d z : ℕ) → 12 * k ≤ d → 12 + d ≤ z → 12 * suc k ≤ z
    calls k d z h g = omega arith

pub IsFirstForm-length : (puts : List ℕ) (status : ℕ) (bytes : List ℕ) → IsFirstForm puts status bytes → 12 * length puts ≤ length bytes
unfolding IsFirstForm
IsFirstForm-length puts status bytes h =
    let a = spelled_less false _ _ bytes h in
    let b = spelled_less true _ _ a.0 a.2 in
    let c = spelled_less true _ _ b.0 b.2 in
    let d = spelled_less false _ _ c.0 c.2 in
    let e = spelled_less true _ _ d.0 d.2 in
    let f = spelled_less false _ _ e.0 e.2 in
    let la = token_length false _ bytes a.0 a.1 in
    let lb = token_length true _ a.0 b.0 b.1 in
    let lc = token_length true _ b.0 c.0 c.1 in
    let ld = token_length false _ c.0 d.0 d.1 in
    let le = token_length true _ d.0 e.0 e.1 in
    let lf = token_length false _ e.0 f.0 f.1 in
    let body = body_length puts status f.0 f.2 in
    omega arith

-- a digit is at most 57, `9`
digit_below : (b : ℕ) → is_digit b ≡ true → b ≤ 57
digit_below b h = leb-true b 57 (and_parts (nat_le 48 b) (nat_le b 57) h).1

-- a numeral has three digits at most
numeral_below : (text : List ℕ) (n : ℕ) → IsNumeral text n → n < 1000
numeral_below [] n h = absurd (let p : 0 < length {A = ℕ} [] = h.some in omega arith)
numeral_below (a ∷ []) n h =
    let pa = and_parts (is_digit a) true h.digits in
    let da = digit_below a pa.0 in
    omega (arith, h.value)
numeral_below (a ∷ b ∷ []) n h =
    let pa = and_parts (is_digit a) _ h.digits in
    let pb = and_parts (is_digit b) true pa.1 in
    let da = digit_below a pa.0 in
    let db = digit_below b pb.0 in
    omega (arith, h.value)
numeral_below (a ∷ b ∷ c ∷ []) n h =
    let pa = and_parts (is_digit a) _ h.digits in
    let pb = and_parts (is_digit b) _ pa.1 in
    let pc = and_parts (is_digit c) true pb.1 in
    let da = digit_below a pa.0 in
    let db = digit_below b pb.0 in
    let dc = digit_below c pc.0 in
    omega (arith, h.value)
numeral_below (a ∷ b ∷ c ∷ d ∷ ds) n h = absurd (let p : length (a ∷ b ∷ c ∷ d ∷ ds) ≤ 3 = h.short in omega arith)

body_below : (puts : List ℕ) (status : ℕ) (bytes : List ℕ) → IsSpelled false (body_tokens puts status) bytes → AreBelow puts × (status < 1000)
unfolding body_tokens
body_below [] status bytes h =
    let a = spelled_less false _ _ bytes h in
    let x = spelled_less true _ _ a.0 a.2 in
    (tt, numeral_below (x.1).text status (x.1).spelled)
body_below (put ∷ puts) status bytes h =
    let a = put_again (body_tokens puts status) bytes put h in
    let b = spelled_less false _ _ bytes h in
    let c = spelled_less true _ _ b.0 b.2 in
    let x = spelled_less false _ _ c.0 c.2 in
    let more = body_below puts status a.0 a.2 in
    ((numeral_below (x.1).text put (x.1).spelled, more.0), more.1)

-- the numbers of a unit
pub IsFirstForm-below : (puts : List ℕ) (status : ℕ) (bytes : List ℕ) → IsFirstForm puts status bytes → AreBelow puts × (status < 1000)
unfolding IsFirstForm
IsFirstForm-below puts status bytes h = let a = head_again (body_tokens puts status) bytes h in body_below puts status a.0 a.2
