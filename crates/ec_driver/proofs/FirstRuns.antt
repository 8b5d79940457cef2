-- The code of a unit of the first form puts what the unit says, and ends with its status.
use Rattle.std.proofs.Common.{◌≡◌, ℕ, suc, pos, ◌+◌, ◌-◌, ◌*◌, ◌%◌, ◌^◌, ◌<◌, ◌≤◌, List, [], ◌∷◌, ◌++◌, length, drop, refl, ap, ◌∙◌, arith}
use Rattle.reg_map.specs.declared.registers.X64Reg.TheVariants.{Rax, Rcx, Rsp}
use Rattle.reg_map.specs.Registers.{with_x64}
use Rattle.x64_isa.specs.declared.instruction.XInstr.TheVariants.{MovImm64, SubImm, CallReg, Ud2}
use Rattle.x64_isa.specs.Spelling.{spell_of, Valid}
use Rattle.x64_exec.specs.Words.{word, flags_of_minus}
use Rattle.x64_exec.specs.Effects.{effect_of}
use Rattle.flat_machine.specs.Layout.{image_base, stack_top, services_base, start_memory, start_registers}
use Rattle.flat_machine.specs.declared.ends.RunEnd.TheVariants.{Exit}
use Rattle.flat_machine.specs.Steps.{Guest, Goes, Ends, quiet, step_of}
use Rattle.flat_machine.specs.Runs.{Run, before, run_from, start_of}
use Rattle.flat_machine.proofs.Stepping.{HasCode, step_at}
use Rattle.flat_machine.proofs.Starting.{start_code, start_room}
use Rattle.flat_machine.proofs.Unrolled.{run_goes, run_puts, run_ends}
use Rattle.first_form.specs.FirstForm.{AreBelow}
use Rattle.first_form.specs.FirstCode.{body_of, instructions_of, spelled, code_of}
use Rattle.first_form.proofs.CodeLaws.{code_begins, sub_size, code_size, instructions_valid}
use Rattle.ec_driver.specs.Answers.{output_of, IsImage}
use Rattle.ec_driver.proofs.Blocks.{kept_sp, IsReady, behind, call_runs, call_behind, put_step, exit_step, returned_to, returned_ready}

four_more : (n : ℕ) → 4 ≤ n → n ≡ suc (suc (suc (suc (n - 4))))
four_more n h = omega arith

-- the bytes of the calls
body_ends : (status : ℕ) → spelled (body_of [] status) ≡ spell_of (MovImm64 Rcx status) ++ (spell_of (MovImm64 Rax (services_base + 80)) ++ (spell_of (CallReg Rax) ++ spelled (Ud2 ∷ [])))
unfolding body_of spelled
body_ends status = refl

body_puts : (put : ℕ) (puts : List ℕ) (status : ℕ) → spelled (body_of (put ∷ puts) status) ≡ spell_of (MovImm64 Rcx put) ++ (spell_of (MovImm64 Rax (services_base + 48)) ++ (spell_of (CallReg Rax) ++ spelled (body_of puts status)))
unfolding body_of spelled
body_puts put puts status = refl

valid_mov_rcx : (v : ℕ) → v < 1000 → Valid (MovImm64 Rcx v)
unfolding Valid
valid_mov_rcx v h = omega arith

valid_put : Valid (MovImm64 Rax (services_base + 48))
unfolding Valid
valid_put = omega arith

valid_exit : Valid (MovImm64 Rax (services_base + 80))
unfolding Valid
valid_exit = omega arith

valid_call : Valid (CallReg Rax)
unfolding Valid
valid_call = tt

valid_sub : Valid (SubImm Rsp (pos 32))
unfolding instructions_of
valid_sub = (instructions_valid [] 0 tt (omega arith)).0

abbrev done : List ℕ → ℕ → Run
done puts status = record { output = output_of puts; after = Ends (Exit (status % 256)) }

pub body_runs : (puts image : List ℕ) (k status n : ℕ) (g : Guest) → IsReady image k g → k + 22 * length puts < 2 ^ 31 → drop k image ≡ spelled (body_of puts status) → AreBelow puts → status < 1000 → 4 * length puts + 4 ≤ n
    → run_from (length image) n g ≡ done puts status
body_runs [] image k status n g ready low stands below small steps =
    ap (λ m. run_from (length image) m g) (four_more n (omega arith))
    ∙ call_runs image k (services_base + 80) status (suc (n - 4)) g _ ready (omega arith) (stands ∙ body_ends status) (valid_mov_rcx status small) valid_exit valid_call
    ∙ run_ends (length image) (n - 4) _ (Exit (status % 256)) (exit_step image k status g)
body_runs (put ∷ puts) image k status n g ready low stands below small steps =
    let next : drop (k + 22) image ≡ spelled (body_of puts status) = call_behind image k (services_base + 48) put _ (stands ∙ body_puts put puts status) in
    ap (λ m. run_from (length image) m g) (four_more n (omega arith))
    ∙ call_runs image k (services_base + 48) put (suc (n - 4)) g _ ready (omega arith) (stands ∙ body_puts put puts status) (valid_mov_rcx put below.0) valid_put valid_call
    ∙ run_puts (length image) (n - 4) _ (returned_to (services_base + 48) put k g) (put % 256 ∷ []) (put_step image k put g ready (omega arith))
    ∙ ap (before (put % 256 ∷ [])) (body_runs puts image (k + 22) status (n - 4) (returned_to (services_base + 48) put k g) (returned_ready image k (services_base + 48) put g ready) (omega arith) next below.1 small (omega arith))

-- the first instruction makes room on the stack
abbrev begun : List ℕ → Guest
begun image = record {
  cpu = record (with_x64 start_registers Rsp kept_sp) { pc = image_base + 4; xf = flags_of_minus stack_top 32 };
  mem = start_memory image;
}

first_step : (image rest : List ℕ) → HasCode image (start_memory image) → image ≡ spell_of (SubImm Rsp (pos 32)) ++ rest → step_of (length image) (start_of image) ≡ quiet (Goes (begun image))
unfolding effect_of
first_step image rest has stands =
    let moved_to : ℕ → Guest = λ (p : ℕ). record (begun image) { cpu = record (begun image).cpu { pc = p } } in
    step_at image 0 (start_of image) (SubImm Rsp (pos 32)) rest has refl stands valid_sub
    ∙ ap (λ n. quiet (Goes (moved_to (word (image_base + n))))) sub_size

begun_ready : (image : List ℕ) → 0 < length image → length image < 2 ^ 32 → IsReady image 4 (begun image)
begun_ready image some small = record { has = start_code image some small; place = refl; sp = refl; room = start_room image some small }

-- the code of a unit is an image of it
pub code_is_image : (puts : List ℕ) (status : ℕ) → AreBelow puts → status < 1000 → length puts < 2 ^ 24 → IsImage (code_of puts status) puts status
code_is_image puts status below small few n steps =
    let image : List ℕ = code_of puts status in
    let size : length image ≡ 28 + 22 * length puts = code_size puts status in
    let has : HasCode image (start_memory image) = start_code image (omega arith) (omega arith) in
    let next : drop 4 image ≡ spelled (body_of puts status) = behind image (spell_of (SubImm Rsp (pos 32))) _ 0 4 (code_begins puts status) sub_size in
    let more : n ≡ suc (n - 1) = omega arith in
    ap (λ m. run_from (length image) m (start_of image)) more
    ∙ run_goes (length image) (n - 1) (start_of image) (begun image) (first_step image _ has (code_begins puts status))
    ∙ body_runs puts image 4 status (n - 1) (begun image) (begun_ready image (omega arith) (omega arith)) (omega arith) next below small (omega arith)
