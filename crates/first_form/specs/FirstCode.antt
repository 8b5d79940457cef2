-- The x64 code of a unit of the first form.
use Rattle.std.specs.Prelude.{ℕ, pos, List, [], ◌∷◌, ◌++◌}
use Rattle.reg_map.specs.declared.registers.X64Reg.TheVariants.{Rax, Rcx, Rsp}
use Rattle.x64_isa.specs.declared.instruction.XInstr.{XInstr}
use Rattle.x64_isa.specs.declared.instruction.XInstr.TheVariants.{MovImm64, SubImm, CallReg, Ud2}
use Rattle.x64_isa.specs.Spelling.{spell_of, Valid}
use Rattle.first_form.specs.declared.services.Service.{Service}
use Rattle.first_form.specs.declared.services.Service.TheVariants.{PutByte, Exit}
use Rattle.first_form.specs.Services.{address_of}

-- a service called on a number, and then the rest: the first argument is in rcx (Microsoft, "x64 calling convention")
abbrev pub call_of : Service → ℕ → List XInstr → List XInstr
call_of service argument rest = MovImm64 Rcx argument ∷ MovImm64 Rax (address_of service) ∷ CallReg Rax ∷ rest

-- each number is put, and then the status ends the run; nothing comes back from there
unfoldable pub body_of : List ℕ → ℕ → List XInstr
body_of [] status = call_of Exit status (Ud2 ∷ [])
body_of (put ∷ puts) status = call_of PutByte put (body_of puts status)

-- the room for the four register arguments of a callee, which its caller makes, and then the calls
unfoldable pub instructions_of : List ℕ → ℕ → List XInstr
instructions_of puts status = SubImm Rsp (pos 32) ∷ body_of puts status

-- instructions one after another
unfoldable pub spelled : List XInstr → List ℕ
spelled [] = []
spelled (i ∷ is) = spell_of i ++ spelled is

-- the bytes of the code
unfoldable pub code_of : List ℕ → ℕ → List ℕ
code_of puts status = spelled (instructions_of puts status)

-- each instruction has operands that its form has room for
abbrev pub AllValid : List XInstr → Type 0
AllValid [] = Unit {0}
AllValid (i ∷ is) = Valid i × AllValid is
