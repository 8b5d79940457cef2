-- The reader's loop over the calls.
use Rattle.std.proofs.Common.{◌≡◌, ℕ, ◌↔◌, false, List, [], ◌∷◌, ◌++◌, Some, None, refl, ap, sym, ◌∙◌, subst, append_assoc}
use Rattle.std.proofs.lemmas.List.{append-nil}
use Rattle.std.proofs.lemmas.Option.{none-some, same_Some, some_pair_parts}
use Rattle.first_form.specs.FirstForm.{IsSpelled, body_tokens, IsFirstForm}
use Rattle.first_form.specs.Reading.{after_head, put_at, status_at}
use Rattle.first_form.proofs.UnitLaws.{head_found, head_again, put_found, put_again, put_no_end, status_found, status_again}

-- the bytes are a unit that puts these first exactly where the rest is what follows in it
pub record ReadsTo (puts rest bytes : List ℕ) : Type 0 where
  pub found : (ps : List ℕ) (status : ℕ) → IsSpelled false (body_tokens ps status) rest → IsFirstForm (puts ++ ps) status bytes
  pub only : (qs : List ℕ) (status : ℕ) → IsFirstForm qs status bytes → (ps : List ℕ) × (qs ≡ puts ++ ps) × IsSpelled false (body_tokens ps status) rest

pub reads_head : (bytes rest : List ℕ) → after_head bytes ≡ Some rest → ReadsTo [] rest bytes
unfolding IsFirstForm
reads_head bytes rest h = record {
  found = λ ps status more. head_found (body_tokens ps status) bytes rest h more;
  only = λ qs status whole.
      let a = head_again (body_tokens qs status) bytes whole in
      (qs, refl, subst (λ (x : List ℕ). IsSpelled false (body_tokens qs status) x) (same_Some a.0 rest (sym a.1 ∙ h)) a.2);
}

pub reads_none : (bytes qs : List ℕ) (status : ℕ) → after_head bytes ≡ None → IsFirstForm qs status bytes → ⊥
unfolding IsFirstForm
reads_none bytes qs status h whole =
    let a = head_again (body_tokens qs status) bytes whole in
    none-some a.0 (sym h ∙ a.1)

-- what follows is a call, where one is read
body_less : (ps : List ℕ) (status : ℕ) (rest : List ℕ) → IsSpelled false (body_tokens ps status) rest → (n : ℕ) (after : List ℕ) → put_at rest ≡ Some (n, after) → (qs : List ℕ) × (ps ≡ n ∷ qs) × IsSpelled false (body_tokens qs status) after
unfolding body_tokens
body_less [] status rest h n after put = absurd (put_no_end rest after n status put h)
body_less (p ∷ ps) status rest h n after put =
    let a = put_again (body_tokens ps status) rest p h in
    let parts = some_pair_parts p n a.0 after (sym a.1 ∙ put) in
    (ps, ap (λ x. x ∷ ps) parts.0, subst (λ (x : List ℕ). IsSpelled false (body_tokens ps status) x) parts.1 a.2)

pub reads_put : (puts rest bytes after : List ℕ) (n : ℕ) → ReadsTo puts rest bytes → put_at rest ≡ Some (n, after) → ReadsTo (puts ++ n ∷ []) after bytes
unfolding body_tokens
reads_put puts rest bytes after n reads put = record {
  found = λ ps status more.
      subst (λ (x : List ℕ). IsFirstForm x status bytes) (sym (append_assoc puts (n ∷ []) ps)) (reads.found (n ∷ ps) status (put_found (body_tokens ps status) rest after n put more));
  only = λ qs status whole.
      let a = reads.only qs status whole in
      let b = body_less a.0 status rest a.2 n after put in
      (b.0, a.1 ∙ ap (λ xs. puts ++ xs) b.1 ∙ sym (append_assoc puts (n ∷ []) b.0), b.2);
}

-- nothing but the end follows, where no call is read
body_end : (ps : List ℕ) (status : ℕ) (rest : List ℕ) → IsSpelled false (body_tokens ps status) rest → put_at rest ≡ None → (ps ≡ []) × (status_at rest ≡ Some status)
unfolding body_tokens
body_end [] status rest h none = (refl, status_again rest status h)
body_end (p ∷ ps) status rest h none = let a = put_again (body_tokens ps status) rest p h in absurd (none-some (p, a.0) (sym none ∙ a.1))

pub reads_end : (puts rest bytes qs : List ℕ) (status : ℕ) → ReadsTo puts rest bytes → put_at rest ≡ None → IsFirstForm qs status bytes → (puts ≡ qs) × (status_at rest ≡ Some status)
reads_end puts rest bytes qs status reads none whole =
    let a = reads.only qs status whole in
    let b = body_end a.0 status rest a.2 none in
    (sym (a.1 ∙ ap (λ xs. puts ++ xs) b.0 ∙ append-nil puts), b.1)

pub reads_status : (puts rest bytes : List ℕ) (status : ℕ) → ReadsTo puts rest bytes → status_at rest ≡ Some status → IsFirstForm puts status bytes
unfolding body_tokens
reads_status puts rest bytes status reads h =
    subst (λ (x : List ℕ). IsFirstForm x status bytes) (append-nil puts) (reads.found [] status (status_found rest status h))

-- the reader's answer is the unit, and the only one
pub answered : (puts rest bytes qs : List ℕ) (read status : ℕ) → ReadsTo puts rest bytes → put_at rest ≡ None → status_at rest ≡ Some read → ((puts ≡ qs) × (read ≡ status)) ↔ IsFirstForm qs status bytes
answered puts rest bytes qs read status reads none h = (
  λ e. subst (λ (x : List ℕ). IsFirstForm x status bytes) e.0 (reads_status puts rest bytes status reads (h ∙ ap Some e.1)),
  λ whole. let a = reads_end puts rest bytes qs status reads none whole in (a.0, same_Some read status (sym h ∙ a.1)),
)
