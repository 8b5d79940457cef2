-- The report of the run of an image, by its course and by what the run left.
use Rattle.std.proofs.Common.{◌≡◌, ℕ, Some, refl, sym, ap, subst}
use Rattle.ec_words.specs.Table.{Text}
use Rattle.chpe_types.specs.declared.image.Image.{Image}
use Rattle.machine_rules.specs.declared.ends.RunEnd.{RunEnd}
use Rattle.machine_rules.specs.declared.ends.RunEnd.TheVariants as ends
use Rattle.machine_rules.specs.declared.ends.GuestEnd.{GuestEnd}
use Rattle.machine_rules.specs.declared.ends.GuestEnd.TheVariants as guest
use Rattle.machine_rules.specs.Runs.{Run}
use Rattle.ec_report.specs.declared.kinds.Outcome.TheVariants.{Budget}
use Rattle.ec_report.specs.declared.reports.Report.{Report}
use Rattle.ec_report.specs.declared.reports.Report.TheVariants as answer
use Rattle.ec_units.specs.Verdicts.{absent}
use Rattle.image_run.specs.declared.refusal.RunRefusal.{RunRefusal}
use Rattle.image_run.specs.declared.refusal.RunRefusal.TheVariants as unrun
use Rattle.image_run.specs.Courses.{ImageCourse, Refuses, why_of, load_why}
use Rattle.image_run.specs.Courses as opened
use Rattle.image_run.specs.Runs.{Streams, GoesOn, EndedAs, IsWhole, Leaves, HasRun}
use Rattle.ec_driver.specs.Courses.{Course, BadFiles, RunsImage, run_course}
use Rattle.ec_driver.specs.Answers.{StoreCall, SourceCall, SinkCall, Follows, NothingPassed, told_guest, told_after, streams_of, IsGuestRun, GuestLeaves, HasGuestRun, RunPasses}
use Rattle.ec_driver.specs.Plans.{report_of_end, NamesFile, TellsRefusal}

-- ---- where it isn't run

missing_follows : (name : Text) (r : Report) → NamesFile name r → Follows (run_course name opened.absent) r
missing_follows name (answer.Missing file) h = ap (λ (n : Text). Some (BadFiles (absent n))) h
missing_follows name answer.NoMemory h = tt
missing_follows name other h = absurd h

pub refused_follows : (name : Text) (course : ImageCourse) (why : RunRefusal) (r : Report) → Refuses course why → TellsRefusal name why r → Follows (run_course name course) r
refused_follows name course unrun.Missing r e t = subst (λ (c : ImageCourse). Follows (run_course name c) r) (sym e) (missing_follows name r t)
refused_follows name course unrun.StoreFault r e t = subst (Follows (run_course name course)) (sym t) tt
refused_follows name course (unrun.Image why) r e t = subst (Follows (run_course name course)) (sym t) (subst (λ (c : ImageCourse). Follows (run_course name c) (answer.Image why)) (sym e) refl)
refused_follows name course (unrun.Load why) r e t = subst (Follows (run_course name course)) (sym t) (subst (λ (c : ImageCourse). Follows (run_course name c) (answer.Load why)) (sym e) refl)
refused_follows name course unrun.NoMemory r e t = subst (Follows (run_course name course)) (sym t) tt

module _ (name : Text) (base fuel : ℕ) (course : Course) (files : StoreCall) (input : SourceCall) (output : SinkCall) where
  missing_passes : (r : Report) → NamesFile name r → NothingPassed input output → RunPasses name base fuel course files input output r
  missing_passes (answer.Missing file) h n = (n, h)
  missing_passes answer.NoMemory h n = n
  missing_passes other h n = absurd h

  pub refused_passes : (why : RunRefusal) (r : Report) → TellsRefusal name why r → NothingPassed input output → RunPasses name base fuel course files input output r
  refused_passes unrun.Missing r t n = missing_passes r t n
  refused_passes unrun.StoreFault r t n = subst (RunPasses name base fuel course files input output) (sym t) n
  refused_passes (unrun.Image why) r t n = subst (RunPasses name base fuel course files input output) (sym t) n
  refused_passes (unrun.Load why) r t n = subst (RunPasses name base fuel course files input output) (sym t) n
  refused_passes unrun.NoMemory r t n = subst (RunPasses name base fuel course files input output) (sym t) n

-- ---- where it is

image_follows : (i : Image) (end : RunEnd) → Follows (RunsImage i) (report_of_end end)
image_follows i (ends.Exit k) = tt
image_follows i (ends.Trap k) = tt
image_follows i ends.Budget = tt
image_follows i ends.StackSpent = tt
image_follows i (ends.Stuck why pc) = tt
image_follows i ends.ReadFault = tt
image_follows i ends.WriteFault = tt

pub ended_follows : (name : Text) (course : ImageCourse) (end : RunEnd) (r : Report) → ((i : Image) × (course ≡ opened.runs i)) → r ≡ report_of_end end → Follows (run_course name course) r
ended_follows name course end r (i, e) t = subst (Follows (run_course name course)) (sym t) (subst (λ (c : ImageCourse). Follows (run_course name c) (report_of_end end)) (sym e) (image_follows i end))

ended_run : (run : Run) (s : Streams) (end : GuestEnd) (told : RunEnd) → EndedAs end run.after → IsWhole run s told → IsGuestRun run s (told_guest end)
ended_run run s end told (m, e) w = record { end = sym (ap told_after e); put = w.put; gone = w.gone }

spent_run : (run : Run) (s : Streams) (told : RunEnd) → GoesOn run.after → IsWhole run s told → IsGuestRun run s Budget
spent_run run s told (m, e) w = record { end = sym (ap told_after e); put = w.put; gone = w.gone }

guest_leaves : (i : Image) (base fuel : ℕ) (s : Streams) (end : RunEnd) → Leaves i base fuel s end → GuestLeaves i base fuel s (report_of_end end)
guest_leaves i base fuel s (ends.Exit k) w = ended_run _ s (guest.Exit k) (ends.Exit k) w.ends w
guest_leaves i base fuel s (ends.Trap k) w = ended_run _ s (guest.Trap k) (ends.Trap k) w.ends w
guest_leaves i base fuel s ends.Budget w = spent_run _ s ends.Budget w.ends w
guest_leaves i base fuel s ends.StackSpent w = ended_run _ s guest.StackSpent ends.StackSpent w.ends w
guest_leaves i base fuel s (ends.Stuck why pc) w = ended_run _ s (guest.Stuck why pc) (ends.Stuck why pc) w.ends w
guest_leaves i base fuel s ends.ReadFault w = w
guest_leaves i base fuel s ends.WriteFault w = w

pub has_guest_run : (name : Text) (base fuel : ℕ) (course : ImageCourse) (files : StoreCall) (input : SourceCall) (output : SinkCall) (end : RunEnd)
    → HasRun files.told course base fuel input.told (streams_of input output) end → HasGuestRun base fuel files (run_course name course) input output (report_of_end end)
has_guest_run name base fuel course files input output end h = record {
  image = h.image;
  wanted = λ t. ap (run_course name) (h.wanted t);
  leaves = λ t. guest_leaves h.image base fuel (streams_of input output) end (h.leaves t);
}

passes_so : (name : Text) (base fuel : ℕ) (course : Course) (files : StoreCall) (input : SourceCall) (output : SinkCall) (end : RunEnd)
    → HasGuestRun base fuel files course input output (report_of_end end) → RunPasses name base fuel course files input output (report_of_end end)
passes_so name base fuel course files input output (ends.Exit k) h = h
passes_so name base fuel course files input output (ends.Trap k) h = h
passes_so name base fuel course files input output ends.Budget h = h
passes_so name base fuel course files input output ends.StackSpent h = h
passes_so name base fuel course files input output (ends.Stuck why pc) h = h
passes_so name base fuel course files input output ends.ReadFault h = h
passes_so name base fuel course files input output ends.WriteFault h = h

pub ended_passes : (name : Text) (base fuel : ℕ) (course : ImageCourse) (files : StoreCall) (input : SourceCall) (output : SinkCall) (end : RunEnd) (r : Report)
    → HasRun files.told course base fuel input.told (streams_of input output) end → r ≡ report_of_end end → RunPasses name base fuel (run_course name course) files input output r
ended_passes name base fuel course files input output end r h t =
    subst (RunPasses name base fuel (run_course name course) files input output) (sym t)
    (passes_so name base fuel (run_course name course) files input output end (has_guest_run name base fuel course files input output end h))

-- a report of a fault comes of an end that is that fault
pub read_end : (end : RunEnd) → report_of_end end ≡ answer.ReadFault → end ≡ ends.ReadFault
read_end (ends.Exit k) e = absurd cc
read_end (ends.Trap k) e = absurd cc
read_end ends.Budget e = absurd cc
read_end ends.StackSpent e = absurd cc
read_end (ends.Stuck why pc) e = absurd cc
read_end ends.ReadFault e = refl
read_end ends.WriteFault e = absurd cc

pub write_end : (end : RunEnd) → report_of_end end ≡ answer.WriteFault → end ≡ ends.WriteFault
write_end (ends.Exit k) e = absurd cc
write_end (ends.Trap k) e = absurd cc
write_end ends.Budget e = absurd cc
write_end ends.StackSpent e = absurd cc
write_end (ends.Stuck why pc) e = absurd cc
write_end ends.ReadFault e = absurd cc
write_end ends.WriteFault e = refl
