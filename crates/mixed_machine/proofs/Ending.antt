-- Ends: those of machines that had ended, and of steps and runs that end them.
use Rattle.std.proofs.Common.{◌≡◌, ℕ, ◌<◌, Bool, List, ◌++◌, append-nil, Option, Some, sym, ap, ◌∙◌, IsTrue}
use Rattle.machine_rules.specs.declared.ends.GuestEnd.{GuestEnd}
use Rattle.machine_rules.specs.declared.ends.GuestEnd.TheVariants.{Exit as GuestExit, Trap as GuestTrap, StackSpent as GuestStackSpent, Stuck as GuestStuck}
use Rattle.machine_rules.specs.declared.ends.RunEnd.{RunEnd}
use Rattle.machine_rules.specs.declared.ends.RunEnd.TheVariants.{Exit, Trap, Budget, StackSpent, Stuck, ReadFault, WriteFault}
use Rattle.machine_rules.specs.State.{Guest, Machine, Code, After, Ends, Act}
use Rattle.machine_rules.specs.Runs.{Run, act_of, run_from}
use Rattle.machine_rules.proofs.Running.{ended}
use Rattle.mixed_machine.specs.declared.machine.StepEnd.TheVariants.{Ended}
use Rattle.mixed_machine.specs.States.{after_with}
use Rattle.mixed_machine.specs.Answers.{Tells, TellsStep, StepsTo, StepLeaves, Runs, RunPuts, run_end_of}
use Rattle.mixed_machine.proofs.Running.{Progress, ends, ends_put, stops, stops_before, stops_within}

-- an end of the guest is none of the outside
pub not_read : (end : GuestEnd) → run_end_of end ≡ ReadFault → ⊥
not_read (GuestExit k) e = absurd cc
not_read (GuestTrap k) e = absurd cc
not_read GuestStackSpent e = absurd cc
not_read (GuestStuck why pc) e = absurd cc

pub not_written : (end : GuestEnd) → run_end_of end ≡ WriteFault → ⊥
not_written (GuestExit k) e = absurd cc
not_written (GuestTrap k) e = absurd cc
not_written GuestStackSpent e = absurd cc
not_written (GuestStuck why pc) e = absurd cc

-- a step that ends the guest
pub tells_end : (end : GuestEnd) (kept : Option GuestEnd) → kept ≡ Some end → TellsStep (Ended (run_end_of end)) kept
tells_end (GuestExit k) kept e = e
tells_end (GuestTrap k) kept e = e
tells_end GuestStackSpent kept e = e
tells_end (GuestStuck why pc) kept e = e

pub steps_to : (end : GuestEnd) (act : Act) (old new : After) → new ≡ act.after → StepsTo (Ended (run_end_of end)) act old new
steps_to (GuestExit k) act old new e = e
steps_to (GuestTrap k) act old new e = e
steps_to GuestStackSpent act old new e = e
steps_to (GuestStuck why pc) act old new e = e

pub leaves : (end : GuestEnd) (old put new : List ℕ) → new ≡ old ++ put → StepLeaves (Ended (run_end_of end)) old put new
leaves (GuestExit k) old put new e = e
leaves (GuestTrap k) old put new e = e
leaves GuestStackSpent old put new e = e
leaves (GuestStuck why pc) old put new e = e

-- a machine that had ended
pub kept_after : (code : Code) (kept : Option GuestEnd) (end : GuestEnd) (g : Guest) (input : List ℕ) → kept ≡ Some end → after_with kept g input ≡ (act_of code (after_with kept g input)).after
kept_after code kept end g input e =
    ap (λ o. after_with o g input) e ∙ sym (ap (λ o. (act_of code (after_with o g input)).after) e)

pub kept_put : (code : Code) (kept : Option GuestEnd) (end : GuestEnd) (g : Guest) (input bytes : List ℕ) → kept ≡ Some end → bytes ≡ bytes ++ (act_of code (after_with kept g input)).put
kept_put code kept end g input bytes e = sym (append-nil bytes) ∙ sym (ap (λ o. bytes ++ (act_of code (after_with o g input)).put) e)

pub tells_kept : (end : GuestEnd) (kept : Option GuestEnd) → kept ≡ Some end → Tells (run_end_of end) kept
tells_kept (GuestExit k) kept e = e
tells_kept (GuestTrap k) kept e = e
tells_kept GuestStackSpent kept e = e
tells_kept (GuestStuck why pc) kept e = e

runs_so : (end : GuestEnd) (code : Code) (n : ℕ) (old new : After) → new ≡ (run_from code n old).after → Runs (run_end_of end) code n old new
runs_so (GuestExit k) code n old new e = e
runs_so (GuestTrap k) code n old new e = e
runs_so GuestStackSpent code n old new e = e
runs_so (GuestStuck why pc) code n old new e = e

puts_so : (end : GuestEnd) (code : Code) (n : ℕ) (old new : After) (start bytes : List ℕ) → bytes ≡ start ++ (run_from code n old).output → RunPuts (run_end_of end) code n old new start bytes
puts_so (GuestExit k) code n old new start bytes e = e
puts_so (GuestTrap k) code n old new start bytes e = e
puts_so GuestStackSpent code n old new start bytes e = e
puts_so (GuestStuck why pc) code n old new start bytes e = e

pub runs_kept : (code : Code) (n : ℕ) (kept : Option GuestEnd) (end : GuestEnd) (g : Guest) (input : List ℕ) → kept ≡ Some end → Runs (run_end_of end) code n (after_with kept g input) (after_with kept g input)
runs_kept code n kept end g input e =
    let m : Machine = record { guest = g; input = input } in
    let is : after_with kept g input ≡ Ends end m = ap (λ o. after_with o g input) e in
    runs_so end code n _ _ (is ∙ sym (ap (λ (r : Run). r.after) (ap (run_from code n) is ∙ ended code n end m)))

pub puts_kept : (code : Code) (n : ℕ) (kept : Option GuestEnd) (end : GuestEnd) (g : Guest) (input bytes : List ℕ) → kept ≡ Some end → RunPuts (run_end_of end) code n (after_with kept g input) (after_with kept g input) bytes bytes
puts_kept code n kept end g input bytes e =
    let m : Machine = record { guest = g; input = input } in
    let is : after_with kept g input ≡ Ends end m = ap (λ o. after_with o g input) e in
    puts_so end code n _ _ bytes bytes (sym (append-nil bytes) ∙ sym (ap (λ (r : Run). bytes ++ r.output) (ap (run_from code n) is ∙ ended code n end m)))

-- a run whose step ends it
pub tells_run : (end : RunEnd) (kept : Option GuestEnd) → TellsStep (Ended end) kept → Tells end kept
tells_run (Exit k) kept t = t
tells_run (Trap k) kept t = t
tells_run Budget kept t = absurd t
tells_run StackSpent kept t = t
tells_run (Stuck why pc) kept t = t
tells_run ReadFault kept t = t
tells_run WriteFault kept t = t

module _ (code : Code) (n turn : ℕ) (a now : After) (tells : Bool) (start bytes : List ℕ) (h : turn < n) (p : Progress code n turn a now tells start bytes) (kept : Option GuestEnd) (g : Guest) (input : List ℕ) where
  abbrev new : After
  new = after_with kept g input

  is_end : (end : GuestEnd) → kept ≡ Some end → new ≡ Ends end (record { guest = g; input = input })
  is_end end t = ap (λ o. after_with o g input) t

  pub runs_then : (end : RunEnd) → TellsStep (Ended end) kept → StepsTo (Ended end) (act_of code now) now new → Runs end code n a new
  runs_then (Exit k) t e = ends code n turn a now tells start bytes h p new _ _ e (is_end _ t)
  runs_then (Trap k) t e = ends code n turn a now tells start bytes h p new _ _ e (is_end _ t)
  runs_then Budget t e = absurd t
  runs_then StackSpent t e = ends code n turn a now tells start bytes h p new _ _ e (is_end _ t)
  runs_then (Stuck why pc) t e = ends code n turn a now tells start bytes h p new _ _ e (is_end _ t)
  runs_then ReadFault t e = stops code n turn a now tells start bytes h p new e
  runs_then WriteFault t e = stops code n turn a now tells start bytes h p new e

  pub puts_then : (end : RunEnd) (later : List ℕ) → IsTrue tells → TellsStep (Ended end) kept → StepsTo (Ended end) (act_of code now) now new → StepLeaves (Ended end) bytes (act_of code now).put later → RunPuts end code n a new start later
  puts_then (Exit k) later q t e l = ends_put code n turn a now tells start bytes h p new _ _ later e (is_end _ t) q l
  puts_then (Trap k) later q t e l = ends_put code n turn a now tells start bytes h p new _ _ later e (is_end _ t) q l
  puts_then Budget later q t e l = absurd t
  puts_then StackSpent later q t e l = ends_put code n turn a now tells start bytes h p new _ _ later e (is_end _ t) q l
  puts_then (Stuck why pc) later q t e l = ends_put code n turn a now tells start bytes h p new _ _ later e (is_end _ t) q l
  puts_then ReadFault later q t e l = stops_before code n turn a now tells start bytes h p new later e q l
  puts_then WriteFault later q t e l = stops_within code n turn a now tells start bytes h p new later e q l

pub tells_on : (a b : Bool) → a ≡ b → IsTrue b → IsTrue a
tells_on a b e t = e ∙ t
