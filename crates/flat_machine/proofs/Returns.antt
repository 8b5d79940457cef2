-- What the code of a service that returns leaves is its definition's.
use Rattle.std.proofs.Common.{◌≡◌, ℕ, ◌+◌, List, Result, Ok, sym, ap, subst, ◌∙◌}
use Rattle.hx_mem.specs.Space.{load_of}
use Rattle.hx_mem.specs.declared.fault.MemBad.{MemBad}
use Rattle.reg_map.specs.declared.registers.X64Reg.TheVariants.{Rsp}
use Rattle.reg_map.specs.Registers.{Registers, x64_value, with_x64}
use Rattle.x64_exec.specs.Words.{word}
use Rattle.flat_machine.specs.Steps.{Guest, After, Goes, returned, returns}

pub returns-after : (put : List ℕ) (sp target : ℕ) (cpu new : Registers) (g : Guest) → sp ≡ x64_value g.cpu Rsp → x64_value cpu Rsp ≡ x64_value g.cpu Rsp → load_of g.mem sp 8 ≡ Ok target → new ≡ with_x64 cpu Rsp (word (sp + 8)) → (returns put cpu g).after ≡ Goes (record { cpu = record new { pc = target }; mem = g.mem })
returns-after put sp target cpu new g at kept loaded registers =
    let answer : load_of g.mem (x64_value g.cpu Rsp) 8 ≡ Ok target = subst (λ a. load_of g.mem a 8 ≡ Ok target) at loaded in
    let same : with_x64 cpu Rsp (word (x64_value cpu Rsp + 8)) ≡ new = ap (λ a. with_x64 cpu Rsp (word (a + 8))) (kept ∙ sym at) ∙ sym registers in
    ap (λ (r : Result ℕ MemBad). (returned r put cpu g).after) answer
    ∙ ap (λ (s : Registers). Goes (record { cpu = record s { pc = target }; mem = g.mem })) same
