-- What the run of an image leaves, by the machine's definition (`machine_rules`).
use Rattle.std.specs.Prelude.{◌≡◌, ℕ, ◌<◌, Bool, IsTrue, List, ◌++◌, length}
use Rattle.hx_io.specs.Streams.{AppendsPrefix}
use Rattle.chpe_types.specs.declared.image.Image.{Image}
use Rattle.machine_rules.specs.declared.ends.GuestEnd.{GuestEnd}
use Rattle.machine_rules.specs.declared.ends.GuestEnd.TheVariants as guest
use Rattle.machine_rules.specs.declared.ends.RunEnd.{RunEnd}
use Rattle.machine_rules.specs.declared.ends.RunEnd.TheVariants.{Exit, Trap, Budget, StackSpent, Stuck, ReadFault, WriteFault}
use Rattle.machine_rules.specs.State.{Machine, Code, After, Goes, Ends}
use Rattle.machine_rules.specs.Loads.{code_in}
use Rattle.machine_rules.specs.Runs.{Run, act_of, machine, taken}
use Rattle.image_run.specs.Courses.{ImageCourse, runs}

-- the machine goes on
abbrev pub GoesOn : After → Type 0
GoesOn after = (m : Machine) × (after ≡ Goes m)

abbrev pub EndedAs : GuestEnd → After → Type 0
EndedAs end after = (m : Machine) × (after ≡ Ends end m)

-- how a run that the outside didn't break off ended
abbrev pub EndsAs : RunEnd → After → Type 0
EndsAs (Exit k) after = EndedAs (guest.Exit k) after
EndsAs (Trap k) after = EndedAs (guest.Trap k) after
EndsAs StackSpent after = EndedAs guest.StackSpent after
EndsAs (Stuck why pc) after = EndedAs (guest.Stuck why pc) after
EndsAs Budget after = GoesOn after
EndsAs ReadFault after = ⊥
EndsAs WriteFault after = ⊥

-- a source and a sink over a call: what the source had left and has left, and, where the sink tells, what it held and
-- holds
pub record Streams : Type 0 where
  pub left : List ℕ
  pub rest : List ℕ
  pub told : Bool
  pub old : List ℕ
  pub new : List ℕ

-- the bytes that the run took are gone from the source's front, and no others
abbrev pub IsGone : Run → Streams → Type 0
IsGone run s = (gone : List ℕ) × (s.left ≡ gone ++ s.rest) × (length gone ≡ taken s.left run)

-- a run, with its end
pub record IsWhole (run : Run) (s : Streams) (end : RunEnd) : Type 0 where
  pub ends : EndsAs end run.after
  pub put : IsTrue s.told → s.new ≡ s.old ++ run.output
  pub gone : IsGone run s

-- a run up to a step whose byte the source didn't give
pub record IsUnread (run : Run) (s : Streams) : Type 0 where
  pub goes : GoesOn run.after
  pub put : IsTrue s.told → s.new ≡ s.old ++ run.output
  pub gone : IsGone run s

-- a run up to a step whose byte the sink didn't take, or took and failed
pub record IsUnwritten (code : Code) (run : Run) (s : Streams) : Type 0 where
  pub goes : GoesOn run.after
  pub put : IsTrue s.told → AppendsPrefix (s.old ++ run.output) (act_of code run.after).put s.new
  pub gone : IsGone run s

-- what a run of n steps leaves; one that was broken off made fewer
abbrev pub Leaves : Image → ℕ → ℕ → Streams → RunEnd → Type 0
Leaves i base n s (Exit k) = IsWhole (machine i base s.left n) s (Exit k)
Leaves i base n s (Trap k) = IsWhole (machine i base s.left n) s (Trap k)
Leaves i base n s StackSpent = IsWhole (machine i base s.left n) s StackSpent
Leaves i base n s (Stuck why pc) = IsWhole (machine i base s.left n) s (Stuck why pc)
Leaves i base n s Budget = IsWhole (machine i base s.left n) s Budget
Leaves i base n s ReadFault = (k : ℕ) × (k < n) × IsUnread (machine i base s.left k) s
Leaves i base n s WriteFault = (k : ℕ) × (k < n) × IsUnwritten (code_in i base) (machine i base s.left k) s

-- the image that the course has, where it is told, was run
pub record HasRun (told : Bool) (course : ImageCourse) (base n : ℕ) (input_told : Bool) (s : Streams) (end : RunEnd) : Type 0 where
  pub image : Image
  pub wanted : IsTrue told → course ≡ runs image
  pub leaves : IsTrue input_told → Leaves image base n s end
