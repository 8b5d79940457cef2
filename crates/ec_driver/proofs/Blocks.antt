-- Calls of services, as the machine runs them.
use Rattle.std.proofs.Common.{◌≡◌, ℕ, suc, ◌+◌, ◌-◌, ◌%◌, ◌^◌, ◌<◌, List, [], ◌∷◌, ◌++◌, length, drop, Result, Ok, refl, sym, ap, ◌∙◌, arith}
use Rattle.std.proofs.lemmas.List.{drop-drop}
use Rattle.std.proofs.Math.Seq.{drop-append_seam}
use Rattle.hx_mem.specs.Space.{store_of, load_of, after_store}
use Rattle.hx_mem.specs.declared.fault.MemBad.{MemBad}
use Rattle.hx_mem.proofs.Writes.{code_of-put}
use Rattle.hx_mem.proofs.Laws.{load_after_store, store_of-after_store, store_ok-writable}
use Rattle.hx_words.specs.LittleEndian.{bytes_of}
use Rattle.reg_map.specs.declared.registers.X64Reg.{X64Reg}
use Rattle.reg_map.specs.declared.registers.X64Reg.TheVariants.{Rax, Rcx, Rsp}
use Rattle.reg_map.specs.Registers.{with_x64}
use Rattle.x64_isa.specs.declared.instruction.XInstr.TheVariants.{MovImm64, CallReg}
use Rattle.x64_isa.specs.Spelling.{spell_of, Valid}
use Rattle.x64_exec.specs.Words.{Effect, word, minus, stored}
use Rattle.x64_exec.specs.declared.event.XEvent.TheVariants.{CallTo}
use Rattle.x64_exec.specs.Effects.{effect_of}
use Rattle.flat_machine.specs.Layout.{image_base, stack_top, services_base}
use Rattle.flat_machine.specs.declared.ends.RunEnd.TheVariants.{Exit}
use Rattle.flat_machine.specs.Steps.{Guest, Goes, Ends, Act, quiet, moved, returned, step_of}
use Rattle.flat_machine.specs.Runs.{run_from}
use Rattle.flat_machine.proofs.Stepping.{HasCode, step_at}
use Rattle.flat_machine.proofs.Unrolled.{run_goes}
use Rattle.first_form.proofs.CodeLaws.{mov_rcx_size, mov_rax_size, call_size}

-- where the code keeps the stack pointer, and the word below it
abbrev pub kept_sp : ℕ
kept_sp = stack_top - 32

abbrev pub below_sp : ℕ
below_sp = stack_top - 40

-- the machine stands at a place of the image, with the stack pointer where the code keeps it
pub record IsReady (image : List ℕ) (k : ℕ) (g : Guest) : Type 0 where
  pub has : HasCode image g.mem
  pub place : g.cpu.pc ≡ image_base + k
  pub sp : g.cpu.value 31 ≡ kept_sp
  pub room : store_of g.mem below_sp 8 ≡ Ok tt

-- what stands behind a part
pub behind : (image front rest : List ℕ) (k n : ℕ) → drop k image ≡ front ++ rest → length front ≡ n → drop (k + n) image ≡ rest
behind image front rest k n e size =
    sym (drop-drop n k image) ∙ ap (λ (xs : List ℕ). drop n xs) e ∙ ap (λ m. drop m (front ++ rest)) (sym size) ∙ drop-append_seam front rest

-- a state with a register set, further on
abbrev set : X64Reg → ℕ → ℕ → Guest → Guest
set r v place g = record { cpu = record (with_x64 g.cpu r v) { pc = place }; mem = g.mem }

next_place : (k n pc : ℕ) → pc ≡ image_base + k → k + n < 2 ^ 33 → word (pc + n) ≡ image_base + (k + n)
next_place k n pc e h = omega arith

mov_step : (image : List ℕ) (k v : ℕ) (r : X64Reg) (g : Guest) (rest : List ℕ) → HasCode image g.mem → g.cpu.pc ≡ image_base + k → k < 2 ^ 32 → drop k image ≡ spell_of (MovImm64 r v) ++ rest → Valid (MovImm64 r v) → length (spell_of (MovImm64 r v)) ≡ 10
    → step_of (length image) g ≡ quiet (Goes (set r v (image_base + (k + 10)) g))
unfolding effect_of
mov_step image k v r g rest has place low stands valid size =
    step_at image k g (MovImm64 r v) rest has place stands valid
    ∙ ap (λ p. quiet (Goes (set r v p g))) (ap (λ n. word (g.cpu.pc + n)) size ∙ next_place k 10 g.cpu.pc place (omega arith))

-- a state in a service that was called
abbrev called : ℕ → ℕ → ℕ → Guest → Guest
called service a k g = record {
  cpu = record (with_x64 (with_x64 (with_x64 g.cpu Rcx a) Rax service) Rsp below_sp) { pc = service };
  mem = after_store g.mem below_sp 8 (image_base + (k + 22));
}

call_step : (image : List ℕ) (k service a : ℕ) (g : Guest) (rest : List ℕ) → IsReady image k g → k < 2 ^ 32 → drop (k + 20) image ≡ spell_of (CallReg Rax) ++ rest → Valid (CallReg Rax)
    → step_of (length image) (set Rax service (image_base + (k + 20)) (set Rcx a (image_base + (k + 10)) g)) ≡ quiet (Goes (called service a k g))
unfolding effect_of
call_step image k service a g rest ready low stands valid =
    let here : Guest = set Rax service (image_base + (k + 20)) (set Rcx a (image_base + (k + 10)) g) in
    let sp : minus (g.cpu.value 31) 8 ≡ below_sp = ap (λ s. minus s 8) ready.sp in
    let back : word (image_base + (k + 20) + length (spell_of (CallReg Rax))) ≡ image_base + (k + 22) = ap (λ n. word (image_base + (k + 20) + n)) call_size ∙ omega arith in
    let gone : Effect → Act = λ (e : Effect). quiet (moved e.event e here) in
    let made : ℕ → ℕ → Effect = λ (s b : ℕ). record { cpu = record (with_x64 here.cpu Rsp s) { pc = service }; mem = after_store g.mem s 8 b; event = CallTo service } in
    step_at image (k + 20) here (CallReg Rax) rest ready.has refl stands valid
    ∙ ap (λ s. gone (stored (store_of g.mem s 8) here.cpu g.mem (made s (word (image_base + (k + 20) + length (spell_of (CallReg Rax))))))) sp
    ∙ ap (λ (r : Result (Unit {0}) MemBad). gone (stored r here.cpu g.mem (made below_sp (word (image_base + (k + 20) + length (spell_of (CallReg Rax))))))) ready.room
    ∙ ap (λ b. gone (made below_sp b)) back

-- the three instructions of a call
abbrev call_bytes : ℕ → ℕ → List ℕ → List ℕ
call_bytes service a rest = spell_of (MovImm64 Rcx a) ++ (spell_of (MovImm64 Rax service) ++ (spell_of (CallReg Rax) ++ rest))

pub call_runs : (image : List ℕ) (k service a n : ℕ) (g : Guest) (rest : List ℕ) → IsReady image k g → k < 2 ^ 31 → drop k image ≡ call_bytes service a rest → Valid (MovImm64 Rcx a) → Valid (MovImm64 Rax service) → Valid (CallReg Rax)
    → run_from (length image) (suc (suc (suc n))) g ≡ run_from (length image) n (called service a k g)
call_runs image k service a n g rest ready low stands va vs vc =
    let second : drop (k + 10) image ≡ spell_of (MovImm64 Rax service) ++ (spell_of (CallReg Rax) ++ rest) = behind image _ _ k 10 stands (mov_rcx_size a) in
    let third : drop (k + 20) image ≡ spell_of (CallReg Rax) ++ rest = ap (λ m. drop m image) (let e : k + 20 ≡ k + 10 + 10 = omega arith in e) ∙ behind image _ _ (k + 10) 10 second (mov_rax_size service) in
    let at_second : Guest = set Rcx a (image_base + (k + 10)) g in
    let here : image_base + (k + 10 + 10) ≡ image_base + (k + 20) = omega arith in
    run_goes (length image) (suc (suc n)) g at_second (mov_step image k a Rcx g _ ready.has ready.place (omega arith) stands va (mov_rcx_size a))
    ∙ run_goes (length image) (suc n) at_second (set Rax service (image_base + (k + 20)) at_second)
    (mov_step image (k + 10) service Rax at_second _ ready.has refl (omega arith) second vs (mov_rax_size service) ∙ ap (λ p. quiet (Goes (set Rax service p at_second))) here)
    ∙ run_goes (length image) n (set Rax service (image_base + (k + 20)) at_second) (called service a k g) (call_step image k service a g rest ready (omega arith) third vc)

-- what stands behind a call
pub call_behind : (image : List ℕ) (k service a : ℕ) (rest : List ℕ) → drop k image ≡ call_bytes service a rest → drop (k + 22) image ≡ rest
call_behind image k service a rest stands =
    let second : drop (k + 10) image ≡ spell_of (MovImm64 Rax service) ++ (spell_of (CallReg Rax) ++ rest) = behind image _ _ k 10 stands (mov_rcx_size a) in
    let third : drop (k + 10 + 10) image ≡ spell_of (CallReg Rax) ++ rest = behind image _ _ (k + 10) 10 second (mov_rax_size service) in
    ap (λ m. drop m image) (let e : k + 22 ≡ k + 10 + 10 + 2 = omega arith in e) ∙ behind image _ _ (k + 10 + 10) 2 third call_size

-- a state behind a call that returned
abbrev pub returned_to : ℕ → ℕ → ℕ → Guest → Guest
returned_to service a k g = record {
  cpu = record (with_x64 (called service a k g).cpu Rsp kept_sp) { pc = image_base + (k + 22) };
  mem = after_store g.mem below_sp 8 (image_base + (k + 22));
}

pub returned_ready : (image : List ℕ) (k service a : ℕ) (g : Guest) → IsReady image k g → IsReady image (k + 22) (returned_to service a k g)
returned_ready image k service a g ready = record {
  has = record {
    small = ready.has.small;
    code = λ j n h. code_of-put g.mem.regions below_sp (bytes_of 8 (image_base + (k + 22))) (image_base + j) n ∙ ready.has.code j n h;
  };
  place = refl;
  sp = refl;
  room = store_of-after_store g.mem below_sp 8 (image_base + (k + 22)) below_sp 8 ∙ ready.room;
}

-- a byte is put, and control comes back
pub put_step : (image : List ℕ) (k a : ℕ) (g : Guest) → IsReady image k g → k < 2 ^ 32
    → step_of (length image) (called (services_base + 48) a k g) ≡ record { put = a % 256 ∷ []; after = Goes (returned_to (services_base + 48) a k g) }
unfolding step_of
put_step image k a g ready low =
    let back : (image_base + (k + 22)) % 256 ^ 8 ≡ image_base + (k + 22) = omega arith in
    let loaded : load_of (after_store g.mem below_sp 8 (image_base + (k + 22))) below_sp 8 ≡ Ok (image_base + (k + 22)) =
    load_after_store g.mem below_sp 8 (image_base + (k + 22)) (store_ok-writable g.mem below_sp 8 ready.room) ∙ ap (λ v. Ok v) back in
    ap (λ (r : Result ℕ MemBad). returned r (a % 256 ∷ []) (called (services_base + 48) a k g).cpu (called (services_base + 48) a k g)) loaded

-- the run ends
pub exit_step : (image : List ℕ) (k a : ℕ) (g : Guest) → step_of (length image) (called (services_base + 80) a k g) ≡ quiet (Ends (Exit (a % 256)))
unfolding step_of
exit_step image k a g = refl
