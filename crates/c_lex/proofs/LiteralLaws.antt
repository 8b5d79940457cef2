-- String literals, character by character.
use Rattle.std.proofs.Common.{◌≡◌, ◌≢◌, ℕ, zero, suc, ◌+◌, ◌-◌, ◌<◌, ◌≤◌, Bool, true, false, cond, eqb, List, [], ◌∷◌, ◌++◌, length, get_or, drop, Option, Some, None, refl, sym, ap, subst, ◌∙◌, arith, append_assoc, append-nil, zero-add, length-drop}
use Rattle.std.proofs.lemmas.Bool.{ne_eqb}
use Rattle.c_lex.specs.declared.next.Fault.TheVariants as fault
use Rattle.c_lex.specs.declared.next.Next.TheVariants as next
use Rattle.c_lex.specs.declared.token.TokKind.TheVariants as kind
use Rattle.c_lex.specs.declared.quotes.Quoted.{Quoted}
use Rattle.c_lex.specs.Quotes.{quoted_at, Literal, spelled, with_byte, with_quoted, literal_from}
use Rattle.c_lex.specs.Reading.{text_closed, text_at}
use Rattle.c_lex.proofs.QuoteLaws.{IsWithin, quoted_within}

-- bytes and their spelling in front of a literal
unfoldable pub joined : List ℕ → ℕ → Option Literal → Option Literal
joined front n None = None
joined front n (Some text) = Some (record { bytes = front ++ text.bytes; length = n + text.length })

joined-joined : (xs ys : List ℕ) (m n : ℕ) (o : Option Literal) → joined xs m (joined ys n o) ≡ joined (xs ++ ys) (m + n) o
unfolding joined
joined-joined xs ys m n None = refl
joined-joined xs ys m n (Some text) =
    let bytes : xs ++ (ys ++ text.bytes) ≡ (xs ++ ys) ++ text.bytes = sym (append_assoc xs ys text.bytes) in
    let counts : m + (n + text.length) ≡ (m + n) + text.length = omega arith in
    rw (bytes, counts)

pub joined-nothing : (o : Option Literal) → joined [] 0 o ≡ o
unfolding joined
joined-nothing None = refl
joined-nothing (Some text) = let counts : 0 + text.length ≡ text.length = omega arith in rw counts

spelled-joined : (k : ℕ) (o : Option Literal) → spelled (joined [] k o) ≡ joined [] (suc k) o
unfolding joined spelled
spelled-joined k None = refl
spelled-joined k (Some text) = let counts : k + text.length + 1 ≡ suc k + text.length = omega arith in rw counts

with_byte-joined : (v k : ℕ) (o : Option Literal) → with_byte v (joined [] k o) ≡ joined (v ∷ []) k o
unfolding joined with_byte
with_byte-joined v k None = refl
with_byte-joined v k (Some text) = refl

literal_skips : (k : ℕ) (bs : List ℕ) → k ≤ length bs → literal_from k bs ≡ joined [] k (literal_from 0 (drop k bs))
unfolding literal_from
literal_skips zero bs h = sym (joined-nothing (literal_from 0 bs))
literal_skips (suc k) [] h = absurd (omega arith)
literal_skips (suc k) (b ∷ bs) h = ap spelled (literal_skips k bs (omega arith)) ∙ spelled-joined k (literal_from 0 (drop k bs))

one_character : (b : ℕ) (bs : List ℕ) (q : Quoted) (n : ℕ) → q.length ≡ suc n → n ≤ length bs →
    with_quoted (Some q) (λ k. literal_from k bs) ≡ joined (q.value ∷ []) (suc n) (literal_from 0 (drop n bs))
unfolding with_quoted
one_character b bs q n e h =
    let less : q.length - 1 ≡ n = omega arith in
    rw less (ap (λ o. with_byte q.value (spelled o)) (literal_skips n bs h)
    ∙ ap (with_byte q.value) (spelled-joined n (literal_from 0 (drop n bs)))
    ∙ with_byte-joined q.value (suc n) (literal_from 0 (drop n bs)))

not_quote : (b : ℕ) (bs : List ℕ) → b ≢ 34 → literal_from 0 (b ∷ bs) ≡ with_quoted (quoted_at 34 (b ∷ bs)) (λ k. literal_from k bs)
unfolding literal_from
not_quote b bs h = rw (ne_eqb b 34 h)

pub literal_step : (b : ℕ) (bs : List ℕ) (q : Quoted) (n : ℕ) → b ≢ 34 → quoted_at 34 (b ∷ bs) ≡ Some q → q.length ≡ n → 0 < n → n ≤ length (b ∷ bs) →
    literal_from 0 (b ∷ bs) ≡ joined (q.value ∷ []) n (literal_from 0 (drop n (b ∷ bs)))
literal_step b bs q zero other e len some within = absurd (omega arith)
literal_step b bs q (suc n) other e len some within = not_quote b bs other ∙ rw e (one_character b bs q n len (omega arith))

pub literal_on : (body rest bytes : List ℕ) (q : Quoted) → 0 < length rest → get_or rest 0 0 ≢ 34 → quoted_at 34 rest ≡ Some q → length rest ≤ length body →
    joined bytes (length body - length rest) (literal_from 0 rest) ≡ literal_from 0 body →
    joined (bytes ++ q.value ∷ []) (length body - length (drop q.length rest)) (literal_from 0 (drop q.length rest)) ≡ literal_from 0 body
literal_on body [] bytes q some other e within so_far = absurd (omega arith)
literal_on body (b ∷ bs) bytes q some other e within so_far =
    let takes : IsWithin (length (b ∷ bs)) (Some q) = subst (IsWithin (length (b ∷ bs))) e (quoted_within 34 (b ∷ bs)) in
    let rest = b ∷ bs in
    let counts : length body - length (drop q.length (b ∷ bs)) ≡ (length body - length (b ∷ bs)) + q.length = simp (length-drop q.length (b ∷ bs)) (omega (arith, takes)) in
    rw counts (sym (joined-joined bytes (q.value ∷ []) (length body - length (b ∷ bs)) q.length (literal_from 0 (drop q.length (b ∷ bs))))
    ∙ ap (joined bytes (length body - length (b ∷ bs))) (sym (literal_step b bs q q.length other e refl takes.0 takes.1)) ∙ so_far)

-- the literal that the rest ends is the text's
abbrev pub IsSoFar : List ℕ → List ℕ → List ℕ → Type 0
IsSoFar text bytes rest = (length rest ≤ length (drop 1 text)) × (joined bytes (length (drop 1 text) - length rest) (literal_from 0 rest) ≡ literal_from 0 (drop 1 text))

literal_ends : (rest : List ℕ) → 0 < length rest → get_or rest 0 0 ≡ 34 → literal_from 0 rest ≡ Some (record { bytes = []; length = 1 })
unfolding literal_from
literal_ends [] some e = absurd (omega arith)
literal_ends (b ∷ bs) some e = rw e

literal_fails : (rest : List ℕ) → 0 < length rest → get_or rest 0 0 ≢ 34 → quoted_at 34 rest ≡ None → literal_from 0 rest ≡ None
unfolding with_quoted
literal_fails [] some other e = absurd (omega arith)
literal_fails (b ∷ bs) some other e = not_quote b bs other ∙ rw e

literal_none : (rest : List ℕ) → length rest ≡ 0 → literal_from 0 rest ≡ None
unfolding literal_from
literal_none [] e = refl
literal_none (b ∷ bs) e = absurd (omega arith)

front_more : (text rest : List ℕ) → 0 < length rest → length rest ≤ length (drop 1 text) → length (drop 1 text) - length rest + 1 + 1 ≡ length text - length rest + 1
front_more [] rest some within = absurd (omega arith)
front_more (t ∷ text) rest some within = omega arith

pub text_found : (text bytes rest : List ℕ) → 0 < length rest → get_or rest 0 0 ≡ 34 → IsSoFar text bytes rest →
    next.Found (kind.Text bytes) (length text - length rest + 1) ≡ text_at text
unfolding text_at text_closed joined
text_found text bytes rest some quote so_far =
    let front = length (drop 1 text) - length rest in
    let whole : Some (record { bytes = bytes ++ []; length = front + 1 }) ≡ literal_from 0 (drop 1 text) = ap (joined bytes front) (sym (literal_ends rest some quote)) ∙ so_far.1 in
    let same : next.Found (kind.Text (bytes ++ [])) (front + 1 + 1) ≡ text_at text = ap text_closed whole in
    rw (← front_more text rest some so_far.0, ← append-nil bytes) same

refused : (text bytes rest : List ℕ) → literal_from 0 rest ≡ None → IsSoFar text bytes rest → next.Refused fault.Unclosed ≡ text_at text
unfolding text_at text_closed joined
refused text bytes rest e so_far = ap text_closed (ap (joined bytes (length (drop 1 text) - length rest)) (sym e) ∙ so_far.1)

pub text_refused : (text bytes rest : List ℕ) → 0 < length rest → get_or rest 0 0 ≢ 34 → quoted_at 34 rest ≡ None → IsSoFar text bytes rest → next.Refused fault.Unclosed ≡ text_at text
text_refused text bytes rest some other e so_far = refused text bytes rest (literal_fails rest some other e) so_far

pub text_open : (text bytes rest : List ℕ) → length rest ≡ 0 → IsSoFar text bytes rest → next.Refused fault.Unclosed ≡ text_at text
text_open text bytes rest e so_far = refused text bytes rest (literal_none rest e) so_far

pub text_begins : (text : List ℕ) → IsSoFar text [] (drop 1 text)
text_begins text = let none : length (drop 1 text) - length (drop 1 text) ≡ 0 = omega arith in (omega arith, rw none (joined-nothing (literal_from 0 (drop 1 text))))

pub text_on : (text bytes rest : List ℕ) (q : Quoted) → 0 < length rest → get_or rest 0 0 ≢ 34 → quoted_at 34 rest ≡ Some q → IsSoFar text bytes rest →
    IsSoFar text (bytes ++ q.value ∷ []) (drop q.length rest)
text_on text bytes rest q some other e so_far =
    (simp (length-drop q.length rest) (omega (arith, so_far.0)), literal_on (drop 1 text) rest bytes q some other e so_far.0 so_far.1)
