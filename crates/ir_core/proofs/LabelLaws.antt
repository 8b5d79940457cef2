-- Labels in order, counted.
use Rattle.std.proofs.Common.{◌≡◌, ℕ, ◌+◌, ◌<◌, ◌≤◌, Bool, true, false, List, length, get_or, take, refl, sym, ap, ◌∙◌, arith}
use Rattle.std.specs.Prelude.{nat_eq, nat_lt, nat_le, if◌then◌else◌, Some, None, IsTrue}
use Rattle.std.specs.List.{count_by}
use Rattle.std.proofs.lemmas.List.Sums.{count_by_more_yes, count_by_more_no}
use Rattle.std.proofs.lemmas.Bool.Decides.{nat_tests}
use Rattle.std.proofs.lemmas.Bool.{leb-true, leb-false}
use Rattle.ir_core.specs.declared.operations.IrOp.{IrOp}
use Rattle.ir_core.specs.declared.operations.IrOp.TheVariants.{Label}
use Rattle.ir_core.specs.Steps.{is_label}
use Rattle.ir_core.specs.Valid.{label_of, StandOnce}

pub label_some : (op : IrOp) (x l : ℕ) → label_of op ≡ Some l → is_label x op ≡ nat_eq x l
label_some (Label m) x l e = cc
label_some _ x l e = cc

pub label_none : (op : IrOp) (x : ℕ) → label_of op ≡ None → is_label x op ≡ false
label_none (Label m) x e = cc
label_none _ x e = refl

-- 1 for those below, and 0 for the others
abbrev pub once : ℕ → ℕ → ℕ
once x n = if nat_lt x n then 1 else 0

once_same : (x n : ℕ) → nat_eq x n ≡ true → once x n + 1 ≡ once x (n + 1)
once_same x n h = grind (arith, nat_tests)

once_other : (x n : ℕ) → nat_eq x n ≡ false → once x n ≡ once x (n + 1)
once_other x n h = grind (arith, nat_tests)

-- one more label, which is the next
pub next_label : (ops : List IrOp) (i next : ℕ) (d : IrOp) → i < length ops → label_of (get_or ops i d) ≡ Some next → ((x : ℕ) → count_by (is_label x) (take i ops) ≡ once x next) → (x : ℕ) → count_by (is_label x) (take (i + 1) ops) ≡ once x (next + 1)
next_label ops i next d h e before x = pick (nat_eq x next) refl
  where
    pick : (b : Bool) → nat_eq x next ≡ b → count_by (is_label x) (take (i + 1) ops) ≡ once x (next + 1)
    pick true q = count_by_more_yes (is_label x) ops i d h (label_some (get_or ops i d) x next e ∙ q) ∙ (ap (λ n. n + 1) (before x) ∙ once_same x next q)
    pick false q = count_by_more_no (is_label x) ops i d h (label_some (get_or ops i d) x next e ∙ q) ∙ (before x ∙ once_other x next q)

-- one more operation that is no label
pub no_label : (ops : List IrOp) (i next : ℕ) (d : IrOp) → i < length ops → label_of (get_or ops i d) ≡ None → ((x : ℕ) → count_by (is_label x) (take i ops) ≡ once x next) → (x : ℕ) → count_by (is_label x) (take (i + 1) ops) ≡ once x next
no_label ops i next d h e before x = count_by_more_no (is_label x) ops i d h (label_none (get_or ops i d) x e) ∙ before x

-- labels that are those below n stand once where none is asked for from n on
pub enough : (ops : List IrOp) (n labels : ℕ) → ((x : ℕ) → count_by (is_label x) ops ≡ once x n) → labels ≤ n → StandOnce labels ops
enough ops n labels counts h l below = counts l ∙ below_once l n (omega arith)
  where
    below_once : (x m : ℕ) → x < m → once x m ≡ 1
    below_once x m lt = grind (arith, nat_tests)

pub only : (ops : List IrOp) (n labels : ℕ) → ((x : ℕ) → count_by (is_label x) ops ≡ once x n) → StandOnce labels ops → n < labels → ⊥
only ops n labels counts stand h = let e : 1 ≡ once n n = sym (stand n h) ∙ counts n in let z : once n n ≡ 0 = not_once n in omega (arith, e ∙ z)
  where
    not_once : (x : ℕ) → once x x ≡ 0
    not_once x = grind (arith, nat_tests)

-- what an operation with the next label makes of the count
pub one_more : (ops : List IrOp) (i next label more : ℕ) (op : IrOp) → i < length ops → op ≡ get_or ops i op → Some label ≡ label_of op → label ≡ next → more ≡ next + 1 → ((x : ℕ) → count_by (is_label x) (take i ops) ≡ once x next) → (x : ℕ) → count_by (is_label x) (take (i + 1) ops) ≡ once x more
one_more ops i next label more op h at e same up before x =
    next_label ops i next op h (ap label_of (sym at) ∙ (sym e ∙ ap (λ n. Some n) same)) before x ∙ ap (λ n. once x n) (sym up)

pub none_more : (ops : List IrOp) (i next more : ℕ) (op : IrOp) → i < length ops → op ≡ get_or ops i op → None ≡ label_of op → more ≡ next → ((x : ℕ) → count_by (is_label x) (take i ops) ≡ once x next) → (x : ℕ) → count_by (is_label x) (take (i + 1) ops) ≡ once x more
none_more ops i next more op h at e up before x =
    no_label ops i next op h (ap label_of (sym at) ∙ sym e) before x ∙ ap (λ n. once x n) (sym up)

-- so their number tells
pub number_tells : (ops : List IrOp) (n labels : ℕ) → ((x : ℕ) → count_by (is_label x) ops ≡ once x n) → (IsTrue (nat_le labels n) → StandOnce labels ops) × (StandOnce labels ops → IsTrue (nat_le labels n))
number_tells ops n labels counts = pick (nat_le labels n) refl
  where
    pick : (b : Bool) → nat_le labels n ≡ b → (IsTrue b → StandOnce labels ops) × (StandOnce labels ops → IsTrue b)
    pick true e = (λ h. enough ops n labels counts (leb-true labels n e), λ h. refl)
    pick false e = (λ h. cc, λ h. absurd (only ops n labels counts h (leb-false labels n e)))
