-- Walks over the records of a symbol table, in which a symbol may have a second record.
use Rattle.std.proofs.Common.{◌≡◌, ◌≢◌, ℕ, zero, suc, ◌+◌, ◌-◌, ◌<◌, ◌≤◌, Bool, true, false, cond, List, [], ◌∷◌, ◌++◌, Some, None, refl, sym, ap, ◌∙◌, arith}
use Rattle.std.proofs.lemmas.Bool.{or_parts}
use Rattle.coff_write.specs.Format.{records_in}
use Rattle.file_words.specs.Below.{any_below, count_below, first_below, table, chosen}
use Rattle.file_words.proofs.BelowLaws.{any_none, any_step, chosen_none, chosen_yes, chosen_no, count_none, count_yes, count_no, first_none, first_kept, first_stays, first_found}
use Rattle.coff_fields.specs.Fields.{skip_at, auxiliary_count}
use Rattle.coff_fields.proofs.FieldLaws.{skip_none, skip_first, skip_next}
use Rattle.coff_laws_base.specs.Records.{record_of}
use Rattle.coff_laws_base.proofs.Symbols.{record_none}

-- the records of n symbols say which has a second one
pub record IsTable (b : List ℕ) (more : ℕ → Bool) (n : ℕ) : Type 0 where
  pub counts : (k : ℕ) → k < n → auxiliary_count b (record_of more k) ≡ cond (more k) 1 0

-- a test that passes at the first record of a symbol alone
pub record OnlyMain (b : List ℕ) (p : ℕ → Bool) : Type 0 where
  pub main : (j : ℕ) → skip_at b j ≢ 0 → p j ≡ false

table_less : (b : List ℕ) (more : ℕ → Bool) (n : ℕ) → IsTable b more (suc n) → IsTable b more n
table_less b more n t = record { counts = λ k lt. t.counts k (omega arith) }

pub record_suc : (more : ℕ → Bool) (n : ℕ) → record_of more (suc n) ≡ record_of more n + records_in (more n)
unfolding record_of
record_suc more n = refl

-- ---- where symbols begin

begins_case : (b : List ℕ) (r : ℕ) (x : Bool) → skip_at b r ≡ 0 → auxiliary_count b r ≡ cond x 1 0 → skip_at b (r + records_in x) ≡ 0
begins_case b r true e a =
    let first : auxiliary_count b r ≡ skip_at b (r + 1) = skip_first b r (skip_at b r) refl e in
    let one : skip_at b (r + 1) ≡ 1 = sym first ∙ a in
    let next : skip_at b (r + 1) - 1 ≡ skip_at b (r + 1 + 1) = skip_next b (r + 1) (skip_at b (r + 1)) refl (λ z. omega (arith, one, z)) in
    let same : r + 2 ≡ r + 1 + 1 = omega arith in
    ap (skip_at b) same ∙ sym next ∙ omega (arith, one)
begins_case b r false e a = sym (skip_first b r (skip_at b r) refl e) ∙ a

pub begins : (b : List ℕ) (more : ℕ → Bool) (n : ℕ) → IsTable b more n → skip_at b (record_of more n) ≡ 0
begins b more zero t = ap (skip_at b) (record_none more) ∙ sym (skip_none b)
begins b more (suc n) t = ap (skip_at b) (record_suc more n) ∙ begins_case b (record_of more n) (more n) (begins b more n (table_less b more n t)) (t.counts n (omega arith))

pub begins_at : (b : List ℕ) (more : ℕ → Bool) (n k : ℕ) → IsTable b more n → k ≤ n → skip_at b (record_of more k) ≡ 0
begins_at b more n k t le = begins b more k (record { counts = λ i lt. t.counts i (omega arith) })

-- the second record is none that begins a symbol
second : (b : List ℕ) (more : ℕ → Bool) (n : ℕ) → IsTable b more (suc n) → more n ≡ true → skip_at b (record_of more n + 1) ≢ 0
second b more n t e z =
    let first : auxiliary_count b (record_of more n) ≡ skip_at b (record_of more n + 1) = skip_first b (record_of more n) (skip_at b (record_of more n)) refl (begins b more n (table_less b more n t)) in
    let one : auxiliary_count b (record_of more n) ≡ 1 = t.counts n (omega arith) ∙ ap (λ x. cond x 1 0) e in
    omega (arith, first, one, z)

-- ---- tests

any_case : (p : ℕ → Bool) (r : ℕ) (x : Bool) → any_below p r ≡ false → p r ≡ false → (x ≡ true → p (r + 1) ≡ false) → any_below p (r + records_in x) ≡ false
any_case p r true e f h =
    let one : any_below p (r + 1) ≡ false = sym (any_step p r false false (sym e) (sym f)) in
    let same : r + 2 ≡ r + 1 + 1 = omega arith in
    ap (any_below p) same ∙ sym (any_step p (r + 1) false false (sym one) (sym (h refl)))
any_case p r false e f h = sym (any_step p r false false (sym e) (sym f))

pub any_records : (b : List ℕ) (more : ℕ → Bool) (p : ℕ → Bool) (n : ℕ) → IsTable b more n → OnlyMain b p → ((k : ℕ) → k < n → p (record_of more k) ≡ false) → any_below p (record_of more n) ≡ false
any_records b more p zero t m h = ap (any_below p) (record_none more) ∙ sym (any_none p)
any_records b more p (suc n) t m h =
    ap (any_below p) (record_suc more n)
    ∙ any_case p (record_of more n) (more n) (any_records b more p n (table_less b more n t) m (λ k lt. h k (omega arith))) (h n (omega arith)) (λ e. m.main (record_of more n + 1) (second b more n t e))

-- ---- what passes

chosen_case : {X : Type 0} (p : ℕ → Bool) (f : ℕ → X) (r : ℕ) (x : Bool) (xs : List X) → xs ≡ chosen p f r → p r ≡ true → (x ≡ true → p (r + 1) ≡ false) → xs ++ f r ∷ [] ≡ chosen p f (r + records_in x)
chosen_case p f r true xs e y h =
    let same : r + 1 + 1 ≡ r + 2 = omega arith in
    chosen_no p f (r + 1) (xs ++ f r ∷ []) (chosen_yes p f r xs (f r) e y refl) (h refl) ∙ ap (chosen p f) same
chosen_case p f r false xs e y h = chosen_yes p f r xs (f r) e y refl

pub chosen_records : {X : Type 0} (b : List ℕ) (more : ℕ → Bool) (p : ℕ → Bool) (f : ℕ → X) (n : ℕ) → IsTable b more n → OnlyMain b p → ((k : ℕ) → k < n → p (record_of more k) ≡ true) → table (λ k. f (record_of more k)) n ≡ chosen p f (record_of more n)
unfolding table
chosen_records b more p f zero t m h = chosen_none p f ∙ ap (chosen p f) (sym (record_none more))
chosen_records b more p f (suc n) t m h =
    chosen_case p f (record_of more n) (more n) (table (λ k. f (record_of more k)) n) (chosen_records b more p f n (table_less b more n t) m (λ k lt. h k (omega arith))) (h n (omega arith)) (λ e. m.main (record_of more n + 1) (second b more n t e))
    ∙ ap (chosen p f) (sym (record_suc more n))

count_case : (p : ℕ → Bool) (r n : ℕ) (x : Bool) → n ≡ count_below p r → p r ≡ true → (x ≡ true → p (r + 1) ≡ false) → n + 1 ≡ count_below p (r + records_in x)
count_case p r n true e y h =
    let same : r + 1 + 1 ≡ r + 2 = omega arith in
    count_no p (r + 1) (n + 1) (count_yes p r n e y) (h refl) ∙ ap (count_below p) same
count_case p r n false e y h = count_yes p r n e y

pub count_records : (b : List ℕ) (more : ℕ → Bool) (p : ℕ → Bool) (n : ℕ) → IsTable b more n → OnlyMain b p → ((k : ℕ) → k < n → p (record_of more k) ≡ true) → n ≡ count_below p (record_of more n)
count_records b more p zero t m h = count_none p ∙ ap (count_below p) (sym (record_none more))
count_records b more p (suc n) t m h =
    let same : suc n ≡ n + 1 = omega arith in
    same ∙ count_case p (record_of more n) n (more n) (count_records b more p n (table_less b more n t) m (λ k lt. h k (omega arith))) (h n (omega arith)) (λ e. m.main (record_of more n + 1) (second b more n t e))
    ∙ ap (count_below p) (sym (record_suc more n))

-- ---- the first that passes

none_first : (p : ℕ → Bool) (n : ℕ) → any_below p n ≡ false → first_below p n ≡ None
unfolding any_below
none_first p zero e = sym (first_none p)
none_first p (suc n) e =
    let h = or_parts (any_below p n) (p n) e in
    let same : suc n ≡ n + 1 = omega arith in
    ap (first_below p) same ∙ sym (first_kept p n h.1) ∙ none_first p n h.0

first_later : (p : ℕ → Bool) (n k x : ℕ) → first_below p n ≡ Some x → first_below p (n + k) ≡ Some x
first_later p n zero x e = let same : n + 0 ≡ n = omega arith in ap (first_below p) same ∙ e
first_later p n (suc k) x e =
    let before = first_later p n k x e in
    let same : n + suc k ≡ n + k + 1 = omega arith in
    ap (first_below p) same ∙ sym (first_stays p (n + k) x before) ∙ before

records_grow : (more : ℕ → Bool) (k d : ℕ) → record_of more k + d ≤ record_of more (k + d)
records_grow more k zero = let same : k + 0 ≡ k = omega arith in omega (arith, ap (record_of more) same)
records_grow more k (suc d) =
    let same : k + suc d ≡ suc (k + d) = omega arith in
    omega (arith, records_grow more k d, ap (record_of more) same, record_suc more (k + d), some (more (k + d)))
  where
    some : (x : Bool) → 1 ≤ records_in x
    some true = omega arith
    some false = omega arith

pub record_below : (more : ℕ → Bool) (k n : ℕ) → k < n → record_of more k < record_of more n
record_below more k n lt = let same : k + (n - k) ≡ n = omega arith in omega (arith, records_grow more k (n - k), ap (record_of more) same)

pub first_records : (b : List ℕ) (more : ℕ → Bool) (p : ℕ → Bool) (n k : ℕ) → IsTable b more n → OnlyMain b p → k < n → p (record_of more k) ≡ true → ((i : ℕ) → i < k → p (record_of more i) ≡ false) → first_below p (record_of more n) ≡ Some (record_of more k)
first_records b more p n k t m lt e h =
    let r = record_of more k in
    let none : first_below p r ≡ None = none_first p r (any_records b more p k (record { counts = λ i ilt. t.counts i (omega arith) }) m h) in
    let found : first_below p (r + 1) ≡ Some r = sym (first_found p r none e) in
    let same : record_of more n ≡ r + 1 + (record_of more n - (r + 1)) = omega (arith, record_below more k n lt) in
    ap (first_below p) same ∙ first_later p (r + 1) (record_of more n - (r + 1)) r found
