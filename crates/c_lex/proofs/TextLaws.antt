-- Reading gives the tokens of a text where it has them, and the refusal where it doesn't.
use Rattle.std.proofs.Common.{◌≡◌, ◌⊎◌, inl, inr, ℕ, zero, suc, ◌+◌, ◌-◌, ◌<◌, ◌≤◌, Bool, true, false, ◌||◌, List, [], ◌∷◌, ◌++◌, length, take, drop, Result, Ok, Err, refl, sym, ap, subst, ◌∙◌, arith, length-drop}
use Rattle.std.specs.Prelude.{IfOk, IfErr}
use Rattle.std.specs.Global.{Vec}
use Rattle.c_lex.specs.declared.token.TokKind.{TokKind}
use Rattle.c_lex.specs.declared.token.Token.{Token}
use Rattle.c_lex.specs.declared.token.LexRefusal.{LexRefusal}
use Rattle.c_lex.specs.declared.token.LexRefusal.TheVariants as refusal
use Rattle.c_lex.specs.declared.next.Fault.{Fault}
use Rattle.c_lex.specs.declared.next.Next.{Next}
use Rattle.c_lex.specs.declared.next.Next.TheVariants as next
use Rattle.c_lex.specs.Reading.{next_of, ends_line, token, refusal_of, with_front, read_next, reading, tokens_of, Told, Gives}
use Rattle.c_lex.specs.Grammar.{Stands, IsGap, fault_of, AreTokens, ends, behind_gap, next_token, IsRefusal, refused_behind_gap, refused_behind_token, refused_here, IsRefusedAs}
use Rattle.c_lex.proofs.ReadingLaws.{reading_next, gap_bounds, found_bounds}
use Rattle.c_lex.proofs.GrammarLaws.{stands_found, found_stands, some_found}
use Rattle.c_lex.proofs.GapLaws.{found_gap, gap_found, refused_fault, some_gap}

read_gap_on : (first : Bool) (at n : ℕ) (text : List ℕ) → 0 < length text → next_of first text ≡ next.Gap n → reading 0 first at text ≡ reading 0 (first || ends_line (take n text)) (at + n) (drop n text)
unfolding read_next
read_gap_on first at n text some e = reading_next first at text some ∙ ap (read_next first at text (λ m after. reading 0 after (at + m) (drop m text))) e

read_token_on : (first : Bool) (at n : ℕ) (k : TokKind) (text : List ℕ) → 0 < length text → next_of first text ≡ next.Found k n → reading 0 first at text ≡ with_front (token k at n ∷ []) (reading 0 false (at + n) (drop n text))
unfolding read_next
read_token_on first at n k text some e = reading_next first at text some ∙ ap (read_next first at text (λ m after. reading 0 after (at + m) (drop m text))) e

read_refusal : (first : Bool) (at : ℕ) (f : Fault) (text : List ℕ) → 0 < length text → next_of first text ≡ next.Refused f → reading 0 first at text ≡ Err (refusal_of f at)
unfolding read_next
read_refusal first at f text some e = reading_next first at text some ∙ ap (read_next first at text (λ m after. reading 0 after (at + m) (drop m text))) e

-- what the grammar says is what reading gives
pub tokens_read : (first : Bool) {at : ℕ} {text : List ℕ} {tokens : List Token} → AreTokens at text tokens → reading 0 first at text ≡ Ok tokens
unfolding reading with_front
tokens_read first ends = refl
tokens_read first {at} {text} (behind_gap n gap more) =
    read_gap_on first at n text (some_gap n text gap) (gap_found first text n gap) ∙ tokens_read (first || ends_line (take n text)) more
tokens_read first {at} {text} (next_token k n stands more) =
    let found = stands_found first text k n stands in
    read_token_on first at n k text (some_found first text k n found) found ∙ ap (with_front (token k at n ∷ [])) (tokens_read false more)

refusal_by : (first : Bool) (at : ℕ) (text : List ℕ) (e : LexRefusal) (x : Next) → next_of first text ≡ x → 0 < length text → ((n : ℕ) → IsGap n text → ⊥) → ((k : TokKind) (n : ℕ) → Stands k n text → ⊥) →
    e ≡ refusal_of (fault_of first text) at → reading 0 first at text ≡ Err e
refusal_by first at text e (next.Gap n) found some no_gap no_token same = absurd (no_gap n (found_gap first text n found))
refusal_by first at text e (next.Found k n) found some no_gap no_token same = absurd (no_token k n (found_stands first text k n some found))
refusal_by first at text e (next.Refused f) found some no_gap no_token same =
    read_refusal first at f text some found ∙ ap Err (ap (λ g. refusal_of g at) (refused_fault first text f found) ∙ sym same)

pub refusal_read : {first : Bool} {at : ℕ} {text : List ℕ} {e : LexRefusal} → IsRefusal first at text e → reading 0 first at text ≡ Err e
unfolding with_front
refusal_read {first} {at} {text} (refused_behind_gap n gap more) =
    read_gap_on first at n text (some_gap n text gap) (gap_found first text n gap) ∙ refusal_read more
refusal_read {first} {at} {text} (refused_behind_token k n stands more) =
    let found = stands_found first text k n stands in
    read_token_on first at n k text (some_found first text k n found) found ∙ ap (with_front (token k at n ∷ [])) (refusal_read more)
refusal_read {first} {at} {text} {e} (refused_here some no_gap no_token same) = refusal_by first at text e (next_of first text) refl some no_gap no_token same

-- what reading gives is what the grammar says
abbrev Says : Bool → ℕ → List ℕ → Result (List Token) LexRefusal → Type 0
Says first at text (Ok tokens) = AreTokens at text tokens
Says first at text (Err e) = IsRefusal first at text e

says_gap : (first : Bool) (at n : ℕ) (text : List ℕ) (r : Result (List Token) LexRefusal) → IsGap n text → Says (first || ends_line (take n text)) (at + n) (drop n text) r → Says first at text r
says_gap first at n text (Ok tokens) gap more = behind_gap n gap more
says_gap first at n text (Err e) gap more = refused_behind_gap n gap more

says_token : (first : Bool) (at n : ℕ) (k : TokKind) (text : List ℕ) (r : Result (List Token) LexRefusal) → Stands k n text → Says false (at + n) (drop n text) r → Says first at text (with_front (token k at n ∷ []) r)
unfolding with_front
says_token first at n k text (Ok tokens) stands more = next_token k n stands more
says_token first at n k text (Err e) stands more = refused_behind_token k n stands more

gap_or : (first : Bool) (text : List ℕ) (f : Fault) → next_of first text ≡ next.Refused f → (n : ℕ) → IsGap n text → ⊥
gap_or first text f e n gap = let other = gap_found first text n gap in cc

token_or : (first : Bool) (text : List ℕ) (f : Fault) → next_of first text ≡ next.Refused f → (k : TokKind) (n : ℕ) → Stands k n text → ⊥
token_or first text f e k n stands = let other = stands_found first text k n stands in cc

says_next : (first : Bool) (at : ℕ) (text : List ℕ) (size : ℕ) (x : Next) → 0 < length text → length text ≤ suc size → next_of first text ≡ x →
    ((after : Bool) (place : ℕ) (rest : List ℕ) → length rest ≤ size → Says after place rest (reading 0 after place rest)) → Says first at text (reading 0 first at text)
says_next first at text size (next.Gap n) some h e tail =
    let bounds = gap_bounds first text n some e in
    let shorter : length (drop n text) ≤ size = simp (length-drop n text) (omega (arith, bounds, h)) in
    subst (Says first at text) (sym (read_gap_on first at n text some e)) (says_gap first at n text _ (found_gap first text n e) (tail (first || ends_line (take n text)) (at + n) (drop n text) shorter))
says_next first at text size (next.Found k n) some h e tail =
    let bounds = found_bounds first text k n some e in
    let shorter : length (drop n text) ≤ size = simp (length-drop n text) (omega (arith, bounds, h)) in
    subst (Says first at text) (sym (read_token_on first at n k text some e)) (says_token first at n k text _ (found_stands first text k n some e) (tail false (at + n) (drop n text) shorter))
says_next first at text size (next.Refused f) some h e tail =
    subst (Says first at text) (sym (read_refusal first at f text some e))
    (refused_here some (gap_or first text f e) (token_or first text f e) (ap (λ g. refusal_of g at) (refused_fault first text f e)))

empty_says : (first : Bool) (at : ℕ) → Says first at [] (reading 0 first at [])
unfolding reading
empty_says first at = ends

says : (size : ℕ) (first : Bool) (at : ℕ) (text : List ℕ) → length text ≤ size → Says first at text (reading 0 first at text)
says size first at [] h = empty_says first at
says zero first at (b ∷ bs) h = absurd (omega arith)
says (suc size) first at (b ∷ bs) h =
    says_next first at (b ∷ bs) size (next_of first (b ∷ bs)) (omega arith) h refl (λ after place rest within. says size after place rest within)

-- a text has tokens or a refusal
pub text_says : (bytes : List ℕ) → Says true 0 bytes (tokens_of bytes)
unfolding tokens_of
text_says bytes = says (length bytes) true 0 bytes (omega arith)

pub are_tokens : (bytes : List ℕ) (tokens : List Token) → tokens_of bytes ≡ Ok tokens → AreTokens 0 bytes tokens
are_tokens bytes tokens e = subst (Says true 0 bytes) e (text_says bytes)

pub is_refusal : (bytes : List ℕ) (e : LexRefusal) → tokens_of bytes ≡ Err e → IsRefusal true 0 bytes e
is_refusal bytes e read = subst (Says true 0 bytes) read (text_says bytes)

pub tokens_are : (bytes : List ℕ) (tokens : List Token) → AreTokens 0 bytes tokens → tokens_of bytes ≡ Ok tokens
unfolding tokens_of
tokens_are bytes tokens there = tokens_read true there

pub refusal_is : (bytes : List ℕ) (e : LexRefusal) → IsRefusal true 0 bytes e → tokens_of bytes ≡ Err e
unfolding tokens_of
refusal_is bytes e there = refusal_read there

refused_as : (bytes : List ℕ) (e : LexRefusal) → Told e (tokens_of bytes) → IsRefusedAs e bytes
refused_as bytes refusal.NoMemory h = tt
refused_as bytes (refusal.BadByte at) h = is_refusal bytes (refusal.BadByte at) h
refused_as bytes (refusal.BadNumber at) h = is_refusal bytes (refusal.BadNumber at) h
refused_as bytes (refusal.Unclosed at) h = is_refusal bytes (refusal.Unclosed at) h
refused_as bytes (refusal.Directive at) h = is_refusal bytes (refusal.Directive at) h

-- for the clauses of the call
pub gives_tokens : (result : Result (Vec Token) LexRefusal) (bytes : List ℕ) → Gives result (tokens_of bytes) → IfOk result (λ tokens. AreTokens 0 bytes tokens.items)
gives_tokens (Ok tokens) bytes h = are_tokens bytes tokens.items h
gives_tokens (Err e) bytes h = tt

pub gives_refusal : (result : Result (Vec Token) LexRefusal) (bytes : List ℕ) → Gives result (tokens_of bytes) → IfErr result (λ e. IsRefusedAs e bytes)
gives_refusal (Ok tokens) bytes h = tt
gives_refusal (Err e) bytes h = refused_as bytes e h

pub gives_only : (result : Result (Vec Token) LexRefusal) (bytes : List ℕ) → Gives result (tokens_of bytes) → (tokens : List Token) → AreTokens 0 bytes tokens → Gives result (Ok tokens)
gives_only result bytes h tokens there = subst (Gives result) (tokens_are bytes tokens there) h

pub gives_stop : (result : Result (Vec Token) LexRefusal) (bytes : List ℕ) → Gives result (tokens_of bytes) → (e : LexRefusal) → IsRefusal true 0 bytes e → Gives result (Err e)
gives_stop result bytes h e there = subst (Gives result) (refusal_is bytes e there) h
