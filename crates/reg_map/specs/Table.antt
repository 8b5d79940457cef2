-- The table of registers (Microsoft, "Overview of ARM64EC ABI conventions").
use Rattle.std.specs.Prelude.{◌≡◌, ℕ, Bool, ◌==◌, ◌||◌, ◌⊎◌, Option, Some, None, if◌then◌else◌}
use Rattle.reg_map.specs.declared.registers.X64Reg.{X64Reg}
use Rattle.reg_map.specs.declared.registers.X64Reg.TheVariants.{Rax, Rcx, Rdx, Rbx, Rsp, Rbp, Rsi, Rdi, R8, R9, R10, R11, R12, R13, R14, R15}

-- the number of the Arm64 register that holds an x64 register; 31 is sp
abbrev pub arm_number : X64Reg → ℕ
arm_number Rax = 8
arm_number Rcx = 0
arm_number Rdx = 1
arm_number Rbx = 27
arm_number Rsp = 31
arm_number Rbp = 29
arm_number Rsi = 25
arm_number Rdi = 26
arm_number R8 = 2
arm_number R9 = 3
arm_number R10 = 4
arm_number R11 = 5
arm_number R12 = 19
arm_number R13 = 20
arm_number R14 = 21
arm_number R15 = 22

-- the x64 register that the Arm64 register of this number holds, if it holds one
abbrev pub x64_at : ℕ → Option X64Reg
x64_at n =
    if n == 0 then Some Rcx else (
    if n == 1 then Some Rdx else (
    if n == 2 then Some R8 else (
    if n == 3 then Some R9 else (
    if n == 4 then Some R10 else (
    if n == 5 then Some R11 else (
    if n == 8 then Some Rax else (
    if n == 19 then Some R12 else (
    if n == 20 then Some R13 else (
    if n == 21 then Some R14 else (
    if n == 22 then Some R15 else (
    if n == 25 then Some Rsi else (
    if n == 26 then Some Rdi else (
    if n == 27 then Some Rbx else (
    if n == 29 then Some Rbp else (
    if n == 31 then Some Rsp else (
    None))))))))))))))))

-- the test of these registers
abbrev pub is_blocked_at : ℕ → Bool
is_blocked_at n = (n == 13) || (n == 14) || (n == 18) || (n == 23) || (n == 24) || (n == 28)

-- the six registers that EC code does not name
abbrev pub IsBlocked : ℕ → Type 0
IsBlocked n = (n ≡ 13) ⊎ ((n ≡ 14) ⊎ ((n ≡ 18) ⊎ ((n ≡ 23) ⊎ ((n ≡ 24) ⊎ (n ≡ 28)))))
