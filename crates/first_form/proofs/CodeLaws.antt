-- The code of units: how it is put together, its size, and its instructions.
use Rattle.std.proofs.Common.{◌≡◌, ℕ, suc, ◌+◌, ◌*◌, ◌^◌, ◌<◌, pos, List, [], ◌∷◌, ◌++◌, length, drop, get_or, refl, ap, sym, ◌∙◌, arith, append_assoc, length-append}
use Rattle.std.proofs.Common.{add-one, lit<}
use Rattle.std.proofs.lemmas.Int.{ints}
use Rattle.std.proofs.Math.Seq.{drop-cons, drop-length}
use Rattle.std.proofs.lemmas.List.{append-nil}
use Rattle.reg_map.specs.declared.registers.X64Reg.TheVariants.{Rax, Rcx, Rsp}
use Rattle.x64_isa.specs.declared.instruction.XInstr.{XInstr}
use Rattle.x64_isa.specs.declared.instruction.XInstr.TheVariants.{MovImm64, SubImm, CallReg, Ud2}
use Rattle.x64_isa.specs.Fields.{high, number_of_register, fits8, register_bytes}
use Rattle.x64_isa.specs.Spelling.{spell_of, narrow, rex_if_needed, wide, arith_imm, Valid}
use Rattle.hx_words.specs.LittleEndian.{bytes_of}
use Rattle.hx_words.proofs.LittleEndianLaws.{length-bytes_of}
use Rattle.first_form.specs.FirstForm.{AreBelow}
use Rattle.first_form.specs.Services.{address_of}
use Rattle.first_form.specs.declared.services.Service.{Service}
use Rattle.first_form.specs.declared.services.Service.TheVariants.{PutByte, GetByte, Exit, Trap}
use Rattle.first_form.specs.FirstCode.{AllValid, call_of, body_of, instructions_of, spelled, code_of}

-- instructions in two parts
pub spelled-append : (is js : List XInstr) → spelled (is ++ js) ≡ spelled is ++ spelled js
unfolding spelled
spelled-append [] js = refl
spelled-append (i ∷ is) js = ap (λ bytes. spell_of i ++ bytes) (spelled-append is js) ∙ sym (append_assoc (spell_of i) (spelled is) (spelled js))

-- the code before the calls
pub code_begins : (puts : List ℕ) (status : ℕ) → code_of puts status ≡ spell_of (SubImm Rsp (pos 32)) ++ spelled (body_of puts status)
unfolding code_of instructions_of spelled
code_begins puts status = refl

-- a call of one number, and of those after it
pub body_next : (puts : List ℕ) (status put i : ℕ) → i < length puts → put ≡ get_or puts i 0 → spelled (body_of (drop i puts) status) ≡ spelled (call_of PutByte put []) ++ spelled (body_of (drop (i + 1) puts) status)
unfolding body_of
body_next puts status put i h e =
    let next : drop i puts ≡ put ∷ drop (i + 1) puts = drop-cons puts i 0 h ∙ ap (λ p. p ∷ drop (suc i) puts) (sym e) ∙ ap (λ k. put ∷ drop k puts) (sym (add-one i)) in
    ap (λ xs. spelled (body_of xs status)) next ∙ spelled-append (call_of PutByte put []) (body_of (drop (i + 1) puts) status)

-- after the last call
pub body_ends : (puts : List ℕ) (status i : ℕ) → length puts ≡ i → spelled (body_of (drop i puts) status) ≡ spelled (call_of Exit status []) ++ spell_of Ud2
unfolding body_of spelled
body_ends puts status i h =
    ap (λ xs. spelled (body_of xs status)) (drop_all puts i h) ∙ spelled-append (call_of Exit status []) (Ud2 ∷ []) ∙ ap (λ bytes. spelled (call_of Exit status []) ++ bytes) (append-nil (spell_of Ud2))
  where
    drop_all : (xs : List ℕ) (k : ℕ) → length xs ≡ k → drop k xs ≡ []
    drop_all xs k g = ap (λ n. drop n xs) (sym g) ∙ drop-length xs

-- one call more is coded
pub put_more : (old new whole puts : List ℕ) (status put i : ℕ) → new ≡ old ++ spelled (call_of PutByte put []) → i < length puts → put ≡ get_or puts i 0 → old ++ spelled (body_of (drop i puts) status) ≡ whole → new ++ spelled (body_of (drop (i + 1) puts) status) ≡ whole
put_more old new whole puts status put i e h p g =
    let rest = spelled (body_of (drop (i + 1) puts) status) in
    ap (λ xs. xs ++ rest) e ∙ append_assoc old (spelled (call_of PutByte put [])) rest ∙ ap (λ xs. old ++ xs) (sym (body_next puts status put i h p)) ∙ g

-- all calls are coded, and then the end
pub code_ends : (old new end puts : List ℕ) (status i : ℕ) → new ≡ old ++ spelled (call_of Exit status []) → end ≡ new ++ spell_of Ud2 → length puts ≡ i → old ++ spelled (body_of (drop i puts) status) ≡ code_of puts status → end ≡ code_of puts status
code_ends old new end puts status i e f h g =
    f ∙ ap (λ xs. xs ++ spell_of Ud2) e ∙ append_assoc old (spelled (call_of Exit status [])) (spell_of Ud2) ∙ ap (λ xs. old ++ xs) (sym (body_ends puts status i h)) ∙ g

-- the sizes of the instructions
pub mov_rcx_size : (n : ℕ) → length (spell_of (MovImm64 Rcx n)) ≡ 10
unfolding spell_of
mov_rcx_size n = ap (λ k. suc (suc k)) (length-bytes_of 8 n)

pub mov_rax_size : (n : ℕ) → length (spell_of (MovImm64 Rax n)) ≡ 10
unfolding spell_of
mov_rax_size n = ap (λ k. suc (suc k)) (length-bytes_of 8 n)

pub call_size : length (spell_of (CallReg Rax)) ≡ 2
unfolding spell_of narrow rex_if_needed register_bytes high number_of_register
call_size = refl

pub sub_size : length (spell_of (SubImm Rsp (pos 32))) ≡ 4
unfolding spell_of arith_imm wide register_bytes fits8 bytes_of
sub_size = refl

pub end_size : length (spell_of Ud2) ≡ 2
unfolding spell_of
end_size = refl

spelled_size : (i : XInstr) (is : List XInstr) → length (spelled (i ∷ is)) ≡ length (spell_of i) + length (spelled is)
unfolding spelled
spelled_size i is = length-append (spell_of i) (spelled is)

nothing_size : length (spelled []) ≡ 0
unfolding spelled
nothing_size = refl

pub service_size : (service : Service) (argument : ℕ) (rest : List XInstr) → length (spelled (call_of service argument rest)) ≡ 22 + length (spelled rest)
service_size service argument rest =
    let a = spelled_size (MovImm64 Rcx argument) (MovImm64 Rax (address_of service) ∷ CallReg Rax ∷ rest) in
    let b = spelled_size (MovImm64 Rax (address_of service)) (CallReg Rax ∷ rest) in
    let c = spelled_size (CallReg Rax) rest in
    omega (arith, mov_rcx_size argument, mov_rax_size (address_of service), call_size)

pub body_size : (puts : List ℕ) (status : ℕ) → length (spelled (body_of puts status)) ≡ 24 + 22 * length puts
unfolding body_of
body_size [] status = omega (arith, service_size Exit status (Ud2 ∷ []), spelled_size Ud2 [], end_size, nothing_size)
body_size (put ∷ puts) status = omega (arith, service_size PutByte put (body_of puts status), body_size puts status)

pub code_size : (puts : List ℕ) (status : ℕ) → length (code_of puts status) ≡ 28 + 22 * length puts
code_size puts status =
    let whole = ap length (code_begins puts status) ∙ length-append (spell_of (SubImm Rsp (pos 32))) (spelled (body_of puts status)) in
    omega (arith, sub_size, body_size puts status)

-- each instruction has operands that its form has room for
address_fits : (service : Service) → address_of service < 2 ^ 64
address_fits PutByte = lit< tt
address_fits GetByte = lit< tt
address_fits Exit = lit< tt
address_fits Trap = lit< tt

call_valid : (service : Service) (argument : ℕ) (rest : List XInstr) → argument < 1000 → AllValid rest → AllValid (call_of service argument rest)
unfolding Valid
call_valid service argument rest h more = (omega arith, (address_fits service, (tt, more)))

body_valid : (puts : List ℕ) (status : ℕ) → AreBelow puts → status < 1000 → AllValid (body_of puts status)
unfolding body_of Valid
body_valid [] status h g = call_valid Exit status (Ud2 ∷ []) g (tt, tt)
body_valid (put ∷ puts) status h g = call_valid PutByte put (body_of puts status) h.0 (body_valid puts status h.1 g)

pub instructions_valid : (puts : List ℕ) (status : ℕ) → AreBelow puts → status < 1000 → AllValid (instructions_of puts status)
unfolding instructions_of Valid
instructions_valid puts status h g = ((omega (arith, ints), omega (arith, ints)), body_valid puts status h g)
