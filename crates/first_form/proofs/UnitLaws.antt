-- What the reader takes as the head, a call or the end is one, and it takes each.
use Rattle.std.proofs.Common.{◌≡◌, ℕ, Bool, true, false, List, [], ◌∷◌, ◌++◌, Some, refl, ap, sym, ◌∙◌, subst, arith, codes}
use Rattle.std.proofs.lemmas.Option.{none-some, same_Some, some_pair_parts}
use Rattle.first_form.specs.FirstForm.{is_blank, AreBlanks, Token, Word, Number, Mark, is_word, IsTokenAt, IsSpelled, put_tokens, end_tokens, body_tokens, head_tokens, IsFirstForm}
use Rattle.first_form.specs.Scanning.{after_blanks, after_token, number_at}
use Rattle.first_form.specs.Reading.{after_head, put_at, at_end, status_at}
use Rattle.first_form.proofs.Binds.{bind_some, some_bind}
use Rattle.first_form.proofs.ScanningLaws.{after_blanks-all, blanks_alone}
use Rattle.first_form.proofs.TokenLaws.{IsSolid, token_found, token_again, mark_beside, spaced_found, spaced_again, after_blanks-solid_text, numeral_solid, number_found, mark_stops, number_again}

-- one token more, and one less
pub spelled_more : (after_word : Bool) (t : Token) (ts : List Token) (bytes rest : List ℕ) → IsTokenAt after_word t bytes rest → IsSpelled (is_word t) ts rest → IsSpelled after_word (t ∷ ts) bytes
unfolding IsSpelled
spelled_more after_word t ts bytes rest at more = (rest, at, more)

pub spelled_less : (after_word : Bool) (t : Token) (ts : List Token) (bytes : List ℕ) → IsSpelled after_word (t ∷ ts) bytes → (rest : List ℕ) × IsTokenAt after_word t bytes rest × IsSpelled (is_word t) ts rest
unfolding IsSpelled
spelled_less after_word t ts bytes h = h

-- no token more
pub spelled_end : (after_word : Bool) (bytes : List ℕ) → AreBlanks bytes → IsSpelled after_word [] bytes
unfolding IsSpelled
spelled_end after_word bytes h = h

pub ended_spelled : (after_word : Bool) (bytes : List ℕ) → IsSpelled after_word [] bytes → AreBlanks bytes
unfolding IsSpelled
ended_spelled after_word bytes h = h

at_end_found : (x n : ℕ) (bytes : List ℕ) → at_end x bytes ≡ Some n → (x ≡ n) × (bytes ≡ [])
at_end_found x n [] h = (same_Some x n h, refl)
at_end_found x n (b ∷ bs) h = absurd (none-some n h)

-- words and marks read
pub word_found : (letters bytes rest : List ℕ) → after_token letters bytes ≡ Some rest → IsTokenAt false (Word letters) bytes rest
word_found letters bytes rest h = token_found (Word letters) letters bytes rest refl h

pub mark_found : (after_word : Bool) (m : ℕ) (bytes rest : List ℕ) → after_token (m ∷ []) bytes ≡ Some rest → IsTokenAt after_word (Mark (m ∷ [])) bytes rest
mark_found after_word m bytes rest h = mark_beside after_word m bytes rest (token_found (Mark (m ∷ [])) (m ∷ []) bytes rest refl h)

solid : (b : ℕ) (bs : List ℕ) → is_blank b ≡ false → IsSolid (b ∷ bs)
solid b bs h = record { first = b; others = bs; is = refl; solid = h }

word_again : (after_word : Bool) (b : ℕ) (bs bytes rest : List ℕ) → is_blank b ≡ false → IsTokenAt after_word (Word (b ∷ bs)) bytes rest → after_token (b ∷ bs) bytes ≡ Some rest
word_again after_word b bs bytes rest h at = token_again after_word (Word (b ∷ bs)) (b ∷ bs) bytes rest (solid b bs h) (λ other e. e) at

mark_again : (after_word : Bool) (m : ℕ) (bytes rest : List ℕ) → is_blank m ≡ false → IsTokenAt after_word (Mark (m ∷ [])) bytes rest → after_token (m ∷ []) bytes ≡ Some rest
mark_again after_word m bytes rest h at = token_again after_word (Mark (m ∷ [])) (m ∷ []) bytes rest (solid m [] h) (λ other e. e) at

-- where the blanks end
begins : (after_word : Bool) (b : ℕ) (bs bytes rest : List ℕ) → is_blank b ≡ false → IsTokenAt after_word (Word (b ∷ bs)) bytes rest → after_blanks bytes ≡ b ∷ (bs ++ rest)
begins after_word b bs bytes rest h at =
    ap after_blanks (at.whole ∙ ap (λ t. at.gap ++ (t ++ rest)) at.spelled) ∙ after_blanks-solid_text at.gap (b ∷ bs) rest at.blank (solid b bs h)

-- the head
pub head_found : (ts : List Token) (bytes rest : List ℕ) → after_head bytes ≡ Some rest → IsSpelled false ts rest → IsSpelled false (head_tokens ++ ts) bytes
unfolding after_head
head_found ts bytes rest h more =
    let a = bind_some _ _ rest h in
    let b = bind_some _ _ rest a.2 in
    let c = bind_some _ _ rest b.2 in
    let d = bind_some _ _ rest c.2 in
    let e = bind_some _ _ rest d.2 in
    let f = bind_some _ _ rest e.2 in
    spelled_more false _ _ bytes a.0 (word_found _ bytes a.0 a.1)
    (spelled_more true _ _ a.0 c.0 (spaced_found _ a.0 b.0 c.0 b.1 (word_found _ b.0 c.0 c.1))
    (spelled_more true _ _ c.0 d.0 (mark_found true 40 c.0 d.0 d.1)
    (spelled_more false _ _ d.0 e.0 (word_found _ d.0 e.0 e.1)
    (spelled_more true _ _ e.0 f.0 (mark_found true 41 e.0 f.0 f.1)
    (spelled_more false _ _ f.0 rest (mark_found false 123 f.0 rest f.2) more)))))

pub head_again : (ts : List Token) (bytes : List ℕ) → IsSpelled false (head_tokens ++ ts) bytes → (rest : List ℕ) × (after_head bytes ≡ Some rest) × IsSpelled false ts rest
unfolding after_head
head_again ts bytes h =
    let a = spelled_less false _ _ bytes h in
    let b = spelled_less true _ _ a.0 a.2 in
    let g = spaced_again (Word (codes "main")) a.0 b.0 refl (λ text e. subst IsSolid (sym e) (solid 109 _ refl)) b.1 in
    let c = spelled_less true _ _ b.0 b.2 in
    let d = spelled_less false _ _ c.0 c.2 in
    let e = spelled_less true _ _ d.0 d.2 in
    let f = spelled_less false _ _ e.0 e.2 in (
      f.0,
      some_bind _ _ a.0 _ (word_again false 105 _ bytes a.0 refl a.1)
          (some_bind _ _ g.0 _ g.1
          (some_bind _ _ b.0 _ (word_again false 109 _ g.0 b.0 refl g.2)
          (some_bind _ _ c.0 _ (mark_again true 40 b.0 c.0 refl c.1)
          (some_bind _ _ d.0 _ (word_again false 118 _ c.0 d.0 refl d.1)
          (some_bind _ _ e.0 _ (mark_again true 41 d.0 e.0 refl e.1)
          (mark_again false 123 e.0 f.0 refl f.1)))))),
      f.2,
    )

-- a call
pub put_found : (ts : List Token) (bytes rest : List ℕ) (n : ℕ) → put_at bytes ≡ Some (n, rest) → IsSpelled false ts rest → IsSpelled false (put_tokens n ++ ts) bytes
unfolding put_at
put_found ts bytes rest n h more =
    let a = bind_some _ _ (n, rest) h in
    let b = bind_some _ _ (n, rest) a.2 in
    let x = bind_some _ _ (n, rest) b.2 in
    let c = bind_some _ _ (n, rest) x.2 in
    let d = bind_some _ _ (n, rest) c.2 in
    let parts = some_pair_parts (x.0).0 n d.0 rest d.2 in
    let number : number_at b.0 ≡ Some (n, (x.0).1) = x.1 ∙ ap (λ k. Some (k, (x.0).1)) parts.0 in
    let last : after_token (59 ∷ []) c.0 ≡ Some rest = d.1 ∙ ap Some parts.1 in
    spelled_more false _ _ bytes a.0 (word_found _ bytes a.0 a.1)
    (spelled_more true _ _ a.0 b.0 (mark_found true 40 a.0 b.0 b.1)
    (spelled_more false _ _ b.0 (x.0).1 (number_found b.0 (x.0).1 n number)
    (spelled_more true _ _ (x.0).1 c.0 (mark_found true 41 (x.0).1 c.0 c.1)
    (spelled_more false _ _ c.0 rest (mark_found false 59 c.0 rest last) more))))

pub put_again : (ts : List Token) (bytes : List ℕ) (n : ℕ) → IsSpelled false (put_tokens n ++ ts) bytes → (rest : List ℕ) × (put_at bytes ≡ Some (n, rest)) × IsSpelled false ts rest
unfolding put_at
put_again ts bytes n h =
    let a = spelled_less false _ _ bytes h in
    let b = spelled_less true _ _ a.0 a.2 in
    let x = spelled_less false _ _ b.0 b.2 in
    let c = spelled_less true _ _ x.0 x.2 in
    let d = spelled_less false _ _ c.0 c.2 in (
      d.0,
      some_bind _ _ a.0 _ (word_again false 112 _ bytes a.0 refl a.1)
          (some_bind _ _ b.0 _ (mark_again true 40 a.0 b.0 refl b.1)
          (some_bind _ _ (n, x.0) _ (number_again false b.0 x.0 n (mark_stops true 41 x.0 c.0 refl c.1) x.1)
          (some_bind _ _ c.0 _ (mark_again true 41 x.0 c.0 refl c.1)
          (some_bind _ _ d.0 _ (mark_again false 59 c.0 d.0 refl d.1) refl)))),
      d.2,
    )

-- the end
pub status_found : (bytes : List ℕ) (n : ℕ) → status_at bytes ≡ Some n → IsSpelled false (end_tokens n) bytes
unfolding status_at
status_found bytes n h =
    let a = bind_some _ _ n h in
    let b = bind_some _ _ n a.2 in
    let x = bind_some _ _ n b.2 in
    let c = bind_some _ _ n x.2 in
    let d = bind_some _ _ n c.2 in
    let ended = at_end_found (x.0).0 n (after_blanks d.0) d.2 in
    let number : number_at b.0 ≡ Some (n, (x.0).1) = x.1 ∙ ap (λ k. Some (k, (x.0).1)) ended.0 in
    spelled_more false _ _ bytes a.0 (word_found _ bytes a.0 a.1)
    (spelled_more true _ _ a.0 (x.0).1 (spaced_found (Number n) a.0 b.0 (x.0).1 b.1 (number_found b.0 (x.0).1 n number))
    (spelled_more true _ _ (x.0).1 c.0 (mark_found true 59 (x.0).1 c.0 c.1)
    (spelled_more false _ _ c.0 d.0 (mark_found false 125 c.0 d.0 d.1)
    (spelled_end false d.0 (blanks_alone d.0 ended.1)))))

pub status_again : (bytes : List ℕ) (n : ℕ) → IsSpelled false (end_tokens n) bytes → status_at bytes ≡ Some n
unfolding status_at
status_again bytes n h =
    let a = spelled_less false _ _ bytes h in
    let x = spelled_less true _ _ a.0 a.2 in
    let g = spaced_again (Number n) a.0 x.0 refl (λ text e. numeral_solid n text e) x.1 in
    let c = spelled_less true _ _ x.0 x.2 in
    let d = spelled_less false _ _ c.0 c.2 in
    some_bind _ _ a.0 _ (word_again false 114 _ bytes a.0 refl a.1)
    (some_bind _ _ g.0 _ g.1
    (some_bind _ _ (n, x.0) _ (number_again false g.0 x.0 n (mark_stops true 59 x.0 c.0 refl c.1) g.2)
    (some_bind _ _ c.0 _ (mark_again true 59 x.0 c.0 refl c.1)
    (some_bind _ _ d.0 _ (mark_again false 125 c.0 d.0 refl d.1)
    (ap (at_end n) (after_blanks-all d.0 (ended_spelled false d.0 d.2)))))))

-- a call is no end
pub put_no_end : (bytes rest : List ℕ) (n m : ℕ) → put_at bytes ≡ Some (n, rest) → IsSpelled false (end_tokens m) bytes → ⊥
unfolding put_at
put_no_end bytes rest n m h g =
    let a = bind_some _ _ (n, rest) h in
    let b = spelled_less false _ _ bytes g in
    let p = begins false 112 _ bytes a.0 refl (word_found _ bytes a.0 a.1) in
    let r = begins false 114 _ bytes b.0 refl b.1 in
    heads _ _ (sym p ∙ r)
  where
    heads : (xs ys : List ℕ) → 112 ∷ xs ≡ 114 ∷ ys → ⊥
    heads xs ys e = let f : ◌≡◌ {A = ℕ} 112 114 = cc in omega arith

-- what the bytes of the tokens say: the calls, and then the end
pub body_unique : (ps qs : List ℕ) (r s : ℕ) (bytes : List ℕ) → IsSpelled false (body_tokens ps r) bytes → IsSpelled false (body_tokens qs s) bytes → (ps ≡ qs) × (r ≡ s)
unfolding body_tokens
body_unique [] [] r s bytes h g = (refl, same_Some r s (sym (status_again bytes r h) ∙ status_again bytes s g))
body_unique [] (q ∷ qs) r s bytes h g = let a = put_again (body_tokens qs s) bytes q g in absurd (put_no_end bytes a.0 q r a.1 h)
body_unique (p ∷ ps) [] r s bytes h g = let a = put_again (body_tokens ps r) bytes p h in absurd (put_no_end bytes a.0 p s a.1 g)
body_unique (p ∷ ps) (q ∷ qs) r s bytes h g =
    let a = put_again (body_tokens ps r) bytes p h in
    let b = put_again (body_tokens qs s) bytes q g in
    let parts = some_pair_parts p q a.0 b.0 (sym a.1 ∙ b.1) in
    let more = body_unique ps qs r s b.0 (subst (λ (x : List ℕ). IsSpelled false (body_tokens ps r) x) parts.1 a.2) b.2 in
    (ap (λ x. x ∷ ps) parts.0 ∙ ap (λ xs. q ∷ xs) more.0, more.1)

pub IsFirstForm_unique : (ps qs : List ℕ) (r s : ℕ) (bytes : List ℕ) → IsFirstForm ps r bytes → IsFirstForm qs s bytes → (ps ≡ qs) × (r ≡ s)
unfolding IsFirstForm
IsFirstForm_unique ps qs r s bytes h g =
    let a = head_again (body_tokens ps r) bytes h in
    let b = head_again (body_tokens qs s) bytes g in
    body_unique ps qs r s b.0 (subst (λ (x : List ℕ). IsSpelled false (body_tokens ps r) x) (same_Some a.0 b.0 (sym a.1 ∙ b.1)) a.2) b.2
