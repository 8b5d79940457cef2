-- Registers and bytes that arguments took, as the machine counts them.
use Rattle.std.proofs.Common.{◌≡◌, ℕ, ◌+◌, ◌*◌, ◌/◌, ◌<◌, ◌≤◌, min, Bool, true, false, cond, leb, List, take, length, refl, sym, ap, ◌∙◌, subst, add-one, arith, ⊎_elim}
use Rattle.std.specs.List.{All}
use Rattle.std.proofs.lemmas.Bool.{le-leb, lt-leb, leb-true, lt-ltb, le-ltb, cases_lt}
use Rattle.std.proofs.lemmas.List.Sums.{sum_by_more}
use Rattle.sig_core.specs.declared.classes.Class.{Class}
use Rattle.sig_core.specs.declared.classes.Class.TheVariants.{Void, Word, Agg}
use Rattle.sig_core.specs.declared.places.Slot.{Slot}
use Rattle.sig_core.specs.Signatures.{IsArgument}
use Rattle.sig_core.specs.Registers.{ec_words, words_of, argument, is_in_registers, stack_words, in_registers, on_stack}

-- whether words fit behind others is told by the registers that are taken
pub fits_same : (total w : ℕ) → 1 ≤ w → leb (min 8 total + w) 8 ≡ leb (total + w) 8
fits_same total w some =
    ⊎_elim
    (λ (over : 8 < total + w). let a : 8 < min 8 total + w = omega arith in lt-leb (min 8 total + w) 8 a ∙ sym (lt-leb (total + w) 8 over))
    (λ (under : total + w ≤ 8). let a : min 8 total + w ≤ 8 = omega arith in le-leb (min 8 total + w) 8 a ∙ sym (le-leb (total + w) 8 under))
    (cases_lt 8 (total + w))

chosen_same : (b : Bool) (m n : ℕ) (F : ℕ → Slot) (s : Slot) → (b ≡ true → m ≡ n) → cond b (F m) s ≡ cond b (F n) s
chosen_same true m n F s h = ap F (h refl)
chosen_same false m n F s h = refl

-- the place of a value behind others
pub place_same : (c : Class) (total taken bytes bytes2 : ℕ) → 1 ≤ ec_words c → taken ≡ min 8 total → bytes ≡ bytes2
    → cond (leb (taken + ec_words c) 8) (in_registers c taken) (on_stack c bytes) ≡ cond (leb (total + ec_words c) 8) (in_registers c total) (on_stack c bytes2)
place_same c total taken bytes bytes2 some e h =
    ap (λ n. cond (leb (n + ec_words c) 8) (in_registers c n) (on_stack c bytes)) e ∙
    (ap (λ b. cond b (in_registers c (min 8 total)) (on_stack c bytes)) (fits_same total (ec_words c) some) ∙
    (chosen_same (leb (total + ec_words c) 8) (min 8 total) total (in_registers c) (on_stack c bytes) (λ t. let under : total + ec_words c ≤ 8 = leb-true (total + ec_words c) 8 t in omega arith) ∙
    ap (λ o. cond (leb (total + ec_words c) 8) (in_registers c total) (on_stack c o)) h))

-- an argument has a word or two
pub words_some : (c : Class) → IsArgument c → 1 ≤ ec_words c
words_some Void h = absurd h
words_some Word h = omega arith
words_some (Agg n) h = ⊎_elim
    (λ (over : 16 < n). subst (λ b. 1 ≤ cond b 1 ((n + 7) / 8)) (sym (lt-ltb 16 n over)) (omega arith))
    (λ (under : n ≤ 16). subst (λ b. 1 ≤ cond b 1 ((n + 7) / 8)) (sym (le-ltb 16 n under)) (omega (arith, h.0)))
    (cases_lt 16 n)

pub argument_some : (args : List Class) (i : ℕ) → All IsArgument args → i < length args → 1 ≤ ec_words (argument args i)
argument_some args i all h = words_some (argument args i) (all i Void h)

pub words_more : (args : List Class) (i : ℕ) → i < length args → words_of (take (i + 1) args) ≡ words_of (take i args) + ec_words (argument args i)
words_more args i h = sum_by_more ec_words args i Void h

pub stack_words_more : (args : List Class) (i : ℕ) → stack_words args (i + 1) ≡ stack_words args i + cond (is_in_registers args i) 0 (ec_words (argument args i))
stack_words_more args i = ap (stack_words args) (add-one i)

-- what is taken with one more argument
pub registers_more : (args : List Class) (i taken next : ℕ) → i < length args → taken ≡ min 8 (words_of (take i args))
    → next ≡ min 8 (taken + ec_words (argument args i)) → next ≡ min 8 (words_of (take (i + 1) args))
registers_more args i taken next h e n =
    let more = words_more args i h in
    omega arith

scaled : (b : Bool) (n m w : ℕ) → n ≡ 8 * m → n + cond b 0 (8 * w) ≡ 8 * (m + cond b 0 w)
scaled true n m w e = omega arith
scaled false n m w e = omega arith

pub bytes_more : (args : List Class) (i taken bytes next : ℕ) → All IsArgument args → i < length args → taken ≡ min 8 (words_of (take i args)) → bytes ≡ 8 * stack_words args i
    → next ≡ bytes + cond (leb (taken + ec_words (argument args i)) 8) 0 (8 * ec_words (argument args i)) → next ≡ 8 * stack_words args (i + 1)
bytes_more args i taken bytes next all h t e n =
    n ∙
    (ap (λ k. bytes + cond (leb (k + ec_words (argument args i)) 8) 0 (8 * ec_words (argument args i))) t ∙
    (ap (λ b. bytes + cond b 0 (8 * ec_words (argument args i))) (fits_same (words_of (take i args)) (ec_words (argument args i)) (argument_some args i all h)) ∙
    (scaled (is_in_registers args i) bytes (stack_words args i) (ec_words (argument args i)) e ∙
    ap (λ k. 8 * k) (sym (stack_words_more args i)))))
