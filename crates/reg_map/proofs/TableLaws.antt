-- The table of registers read from either side.
use Rattle.std.proofs.Common.{◌≡◌, ◌≢◌, ◌↔◌, ℕ, Bool, true, false, cond, eqb, Option, Some, None, IsNone, refl, sym, ap, ◌∙◌, subst}
use Rattle.std.proofs.lemmas.Bool.{eqb-true}
use Rattle.reg_map.specs.declared.registers.X64Reg.{X64Reg}
use Rattle.reg_map.specs.declared.registers.X64Reg.TheVariants.{Rax, Rcx, Rdx, Rbx, Rsp, Rbp, Rsi, Rdi, R8, R9, R10, R11, R12, R13, R14, R15}
use Rattle.reg_map.specs.Table.{arm_number, x64_at}

-- what is found for a number is held by the register of this number
record Holds (n : ℕ) (o : Option X64Reg) : Type 0 where
  found : (q : X64Reg) → o ≡ Some q → arm_number q ≡ n

Holds-None : (n : ℕ) → Holds n None
Holds-None n = record { found = λ q e. absurd cc }

Holds-Some : (n k : ℕ) (r : X64Reg) → n ≡ k → arm_number r ≡ k → Holds n (Some r)
Holds-Some n k r at is = record { found = λ q e. let same : r ≡ q = cc in subst (λ (x : X64Reg). arm_number x ≡ n) same (is ∙ sym at) }

Holds-cond : (n k : ℕ) (b : Bool) (r : X64Reg) (rest : Option X64Reg) → (b ≡ true → n ≡ k) → arm_number r ≡ k → Holds n rest → Holds n (cond b (Some r) rest)
Holds-cond n k true r rest at is h = Holds-Some n k r (at refl) is
Holds-cond n k false r rest at is h = h

Holds-x64_at : (n : ℕ) → Holds n (x64_at n)
Holds-x64_at n =
    Holds-cond n 0 (eqb n 0) _ _ (eqb-true n 0) refl (
    Holds-cond n 1 (eqb n 1) _ _ (eqb-true n 1) refl (
    Holds-cond n 2 (eqb n 2) _ _ (eqb-true n 2) refl (
    Holds-cond n 3 (eqb n 3) _ _ (eqb-true n 3) refl (
    Holds-cond n 4 (eqb n 4) _ _ (eqb-true n 4) refl (
    Holds-cond n 5 (eqb n 5) _ _ (eqb-true n 5) refl (
    Holds-cond n 8 (eqb n 8) _ _ (eqb-true n 8) refl (
    Holds-cond n 19 (eqb n 19) _ _ (eqb-true n 19) refl (
    Holds-cond n 20 (eqb n 20) _ _ (eqb-true n 20) refl (
    Holds-cond n 21 (eqb n 21) _ _ (eqb-true n 21) refl (
    Holds-cond n 22 (eqb n 22) _ _ (eqb-true n 22) refl (
    Holds-cond n 25 (eqb n 25) _ _ (eqb-true n 25) refl (
    Holds-cond n 26 (eqb n 26) _ _ (eqb-true n 26) refl (
    Holds-cond n 27 (eqb n 27) _ _ (eqb-true n 27) refl (
    Holds-cond n 29 (eqb n 29) _ _ (eqb-true n 29) refl (
    Holds-cond n 31 (eqb n 31) _ _ (eqb-true n 31) refl (
    Holds-None n))))))))))))))))

pub x64_at-arm_number : (q : X64Reg) → x64_at (arm_number q) ≡ Some q
x64_at-arm_number Rax = refl
x64_at-arm_number Rcx = refl
x64_at-arm_number Rdx = refl
x64_at-arm_number Rbx = refl
x64_at-arm_number Rsp = refl
x64_at-arm_number Rbp = refl
x64_at-arm_number Rsi = refl
x64_at-arm_number Rdi = refl
x64_at-arm_number R8 = refl
x64_at-arm_number R9 = refl
x64_at-arm_number R10 = refl
x64_at-arm_number R11 = refl
x64_at-arm_number R12 = refl
x64_at-arm_number R13 = refl
x64_at-arm_number R14 = refl
x64_at-arm_number R15 = refl

pub arm_number-x64_at : (n : ℕ) (q : X64Reg) → x64_at n ≡ Some q → arm_number q ≡ n
arm_number-x64_at n = (Holds-x64_at n).found

pub x64_at-exact : (n : ℕ) (q : X64Reg) → (x64_at n ≡ Some q) ↔ (arm_number q ≡ n)
x64_at-exact n q = (arm_number-x64_at n q, λ e. ap x64_at (sym e) ∙ x64_at-arm_number q)

none_where : (n : ℕ) (o : Option X64Reg) → o ≡ x64_at n → ((q : X64Reg) → arm_number q ≢ n) → IsNone o
none_where n None e h = refl
none_where n (Some q) e h = absurd (h q (arm_number-x64_at n q (sym e)))

none_only : (n : ℕ) (o : Option X64Reg) → o ≡ x64_at n → IsNone o → (q : X64Reg) → arm_number q ≢ n
none_only n None e none q is = absurd (let h : x64_at n ≡ Some q = (x64_at-exact n q).1 is in cc)
none_only n (Some r) e none q is = absurd cc

pub x64_at-outside : (n : ℕ) → IsNone (x64_at n) ↔ ((q : X64Reg) → arm_number q ≢ n)
x64_at-outside n = (none_only n (x64_at n) refl, none_where n (x64_at n) refl)
