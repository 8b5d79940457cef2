-- What a call of `ecc` answers, and what stands after it.
use Rattle.std.specs.Prelude.{◌≡◌, ℕ, ◌+◌, ◌*◌, ◌%◌, ◌<◌, ◌≤◌, Bool, IsTrue, List, ◌++◌, length, map, Contains, Option, Some, None, ◌⊎◌}
use Rattle.hx_words.specs.Counts.{Rose}
use Rattle.hx_io.specs.Streams.{AppendsPrefix}
use Rattle.hx_io.specs.Files.{Files, SameFiles, SameButAt, HoldsOldOrPrefix}
use Rattle.c_program.specs.declared.program.Program.{Program}
use Rattle.c_meaning.specs.declared.outcome.SourceEnd.{SourceEnd}
use Rattle.c_meaning.specs.declared.outcome.SourceEnd.TheVariants as ends
use Rattle.c_meaning.specs.Source.{Run as SourceRun, source}
use Rattle.chpe_types.specs.declared.image.Image.{Image}
use Rattle.machine_rules.specs.declared.ends.StuckWhy.{StuckWhy as MachineWhy}
use Rattle.machine_rules.specs.declared.ends.StuckWhy.TheVariants as cause
use Rattle.machine_rules.specs.declared.ends.GuestEnd.{GuestEnd}
use Rattle.machine_rules.specs.declared.ends.GuestEnd.TheVariants as guest
use Rattle.machine_rules.specs.State.{After}
use Rattle.machine_rules.specs.State as mixed
use Rattle.machine_rules.specs.Loads.{code_in}
use Rattle.machine_rules.specs.Runs.{Run as MachineRun, machine}
use Rattle.image_run.specs.Courses.{image_course, why_of, load_why}
use Rattle.image_run.specs.Courses as opened
use Rattle.image_run.specs.Runs.{Streams, IsGone, IsUnread, IsUnwritten}
use Rattle.first_form.specs.FirstForm.{IsFirstForm}
use Rattle.flat_machine.specs.declared.ends.RunEnd.TheVariants.{Exit as ExitEnd}
use Rattle.flat_machine.specs.Steps.{Guest as GuestState, Goes, Ends}
use Rattle.flat_machine.specs.Runs.{Run, flat_run}
use Rattle.ec_words.specs.Table.{Text}
use Rattle.ec_words.specs.Markings.{Marks}
use Rattle.case_gen.specs.Units.{unit_of}
use Rattle.ec_words.specs.Commands.{Form, check, interp, run as run_form, exec, gen, command_of}
use Rattle.ec_report.specs.declared.kinds.Outcome.{Outcome}
use Rattle.ec_report.specs.declared.kinds.Outcome.TheVariants.{Exit, Trap, Budget, StackSpent, Stuck}
use Rattle.ec_report.specs.declared.kinds.StuckWhy.{StuckWhy}
use Rattle.ec_report.specs.declared.kinds.StuckWhy.TheVariants as stuck
use Rattle.ec_report.specs.declared.reports.Report.{Report}
use Rattle.ec_report.specs.declared.reports.Report.TheVariants as answer
use Rattle.ec_report.specs.Reports.{line_of}
use Rattle.ec_units.specs.Verdicts.{absent, over, broken}
use Rattle.ec_driver.specs.Courses.{Refusal, NoCommand, NotBuiltYet, BadFiles, UnknownMark, NoImage, NotLoaded, Course, Stops, Checks, Interprets, RunsImage, Generates, Builds, course_of}

-- a store over a call: whether its files are told, its files and its faults before and after
pub record StoreCall : Type 0 where
  pub told : Bool
  pub before : Files
  pub after : Files
  pub faults_before : ℕ
  pub faults_after : ℕ

-- a source over a call: whether the bytes that it has left are told, these bytes and its faults before and after
pub record SourceCall : Type 0 where
  pub told : Bool
  pub before : List ℕ
  pub after : List ℕ
  pub faults_before : ℕ
  pub faults_after : ℕ

-- a sink over a call: whether its bytes are told, its bytes and its faults before and after
pub record SinkCall : Type 0 where
  pub told : Bool
  pub before : List ℕ
  pub after : List ℕ
  pub faults_before : ℕ
  pub faults_after : ℕ

abbrev pub StoreRose : StoreCall → Type 0
StoreRose files = Rose files.faults_before files.faults_after

abbrev pub SourceRose : SourceCall → Type 0
SourceRose input = Rose input.faults_before input.faults_after

abbrev pub SinkRose : SinkCall → Type 0
SinkRose sink = Rose sink.faults_before sink.faults_after

-- ---- the report by the course

-- the unit isn't of the first form
abbrev pub IsNoUnit : List ℕ → Type 0
IsNoUnit source = (puts : List ℕ) (status : ℕ) → ¬ IsFirstForm puts status source

-- the refusal that a report tells, if it tells one
abbrev pub refusal_in : Report → Option Refusal
refusal_in answer.Usage = Some NoCommand
refusal_in answer.NotBuilt = Some NotBuiltYet
refusal_in (answer.Missing name) = Some (BadFiles (absent name.items))
refusal_in (answer.Limit which count) = Some (BadFiles (over which count))
refusal_in (answer.Unit number why) = Some (BadFiles (broken number why))
refusal_in (answer.Mark name) = Some (UnknownMark name.items)
refusal_in (answer.Image why) = Some (NoImage (why_of why))
refusal_in (answer.Load why) = Some (NotLoaded (load_why why))
refusal_in other = None

-- What the report of a command is, by its course. A unit that is to be built and isn't of the first form
-- isn't built yet; where it is, `BuildLeaves` says what comes. A fault, or want of memory, may come in place
-- of each.
abbrev pub Follows : Course → Report → Type 0
Follows course answer.StoreFault = Unit {0}
Follows course answer.NoMemory = Unit {0}
Follows (Stops why) report = refusal_in report ≡ Some why
Follows Checks report = report ≡ answer.Checked
Follows (Interprets program) (answer.Meant outcome units peak) = Unit {0}
Follows (Interprets program) answer.ReadFault = Unit {0}
Follows (Interprets program) answer.WriteFault = Unit {0}
Follows (Interprets program) other = ⊥
Follows (RunsImage image) (answer.Guest outcome) = Unit {0}
Follows (RunsImage image) answer.ReadFault = Unit {0}
Follows (RunsImage image) answer.WriteFault = Unit {0}
Follows (RunsImage image) other = ⊥
Follows (Generates text) answer.Generated = Unit {0}
Follows (Generates text) answer.WriteFault = Unit {0}
Follows (Generates text) other = ⊥
Follows (Builds source) answer.NotBuilt = IsNoUnit source
Follows (Builds source) (answer.Guest outcome) = Unit {0}
Follows (Builds source) answer.WriteFault = Unit {0}
Follows (Builds source) other = ⊥

-- a fault comes only where the count of its object rose
abbrev pub IsCaused : StoreCall → SinkCall → Report → Type 0
IsCaused files output answer.StoreFault = StoreRose files
IsCaused files output answer.WriteFault = SinkRose output
IsCaused files output other = Unit {0}

abbrev pub IsReadCaused : SourceCall → Report → Type 0
IsReadCaused input answer.ReadFault = SourceRose input
IsReadCaused input other = Unit {0}

-- ---- what is saved and put

-- no file changed
abbrev pub NothingSaved : StoreCall → Type 0
NothingSaved files = IsTrue files.told → SameFiles files.before files.after

-- nothing was saved, and nothing put
pub record IsUntouched (files : StoreCall) (output : SinkCall) : Type 0 where
  pub saved : NothingSaved files
  pub put : output.after ≡ output.before

-- the image's file holds what it held or a prefix of the image, and no other file changed
pub record IsPartlySaved (files : StoreCall) (name image : List ℕ) : Type 0 where
  pub others : IsTrue files.told → SameButAt files.before name files.after
  pub kept : IsTrue files.told → HoldsOldOrPrefix (files.before name) image (files.after name)

-- the image's file holds the image, and no other file changed
pub record IsSaved (files : StoreCall) (name image : List ℕ) : Type 0 where
  pub others : IsTrue files.told → SameButAt files.before name files.after
  pub whole : IsTrue files.told → files.after name ≡ Some image

-- the bytes put, of which each has the low 8 bits of its number
abbrev pub output_of : List ℕ → List ℕ
output_of puts = map (λ a. a % 256) puts

-- The bytes are an image of a unit that puts these numbers and returns the status: the run of the image
-- ends in `exit` with the status's low 8 bits and this output, within 8 steps for each call.
abbrev pub IsImage : List ℕ → List ℕ → ℕ → Type 0
IsImage image puts status =
    (n : ℕ) → 8 * (length puts + 1) ≤ n → flat_run image n ≡ record { output = output_of puts; after = Ends (ExitEnd (status % 256)) }

-- the image belongs to a unit of the first form, which is the one that is to be built
pub record IsBuilt (told : Bool) (course : Course) (image puts : List ℕ) (status : ℕ) : Type 0 where
  pub source : List ℕ
  pub wanted : IsTrue told → course ≡ Builds source
  pub reads : IsFirstForm puts status source
  pub image_runs : IsImage image puts status

-- nothing was saved, or the saving of an image of the unit was begun
abbrev pub MaySave : StoreCall → Course → List ℕ → Type 0
MaySave files course name =
    NothingSaved files ⊎
    ((image : List ℕ) × (puts : List ℕ) × (status : ℕ) × IsBuilt files.told course image puts status × IsPartlySaved files name image)

-- an image of the unit was saved
pub record HasImage (files : StoreCall) (course : Course) (name : List ℕ) : Type 0 where
  pub image : List ℕ
  pub puts : List ℕ
  pub status : ℕ
  pub built : IsBuilt files.told course image puts status
  pub saved : IsSaved files name image

-- How the run of an image of so many steps is told: by `exit`, or by `budget` where it goes on. It comes to no
-- other end.
abbrev pub IsOutcome : Run → Outcome → Type 0
IsOutcome run (Exit k) = run.after ≡ Ends (ExitEnd k)
IsOutcome run Budget = (g : GuestState) × (run.after ≡ Goes g)
IsOutcome run other = ⊥

-- what a run of an image answers and puts
abbrev pub RunStands : Run → SinkCall → Report → Type 0
RunStands run output (answer.Guest outcome) = IsOutcome run outcome × (IsTrue output.told → output.after ≡ output.before ++ run.output)
RunStands run output answer.WriteFault = IsTrue output.told → AppendsPrefix output.before run.output output.after
RunStands run output answer.NoMemory = IsTrue output.told → output.after ≡ output.before
RunStands run output other = ⊥

-- what is left, of the files and of the output, once a unit is built: its image is saved under this name,
-- and run with so many steps
abbrev pub BuildLeaves : Course → List ℕ → ℕ → StoreCall → SinkCall → Report → Type 0
BuildLeaves course name fuel files output (answer.Guest outcome) =
    (h : HasImage files course name) × RunStands (flat_run h.image fuel) output (answer.Guest outcome)
BuildLeaves course name fuel files output answer.WriteFault =
    (h : HasImage files course name) × RunStands (flat_run h.image fuel) output answer.WriteFault
BuildLeaves course name fuel files output answer.NoMemory =
    MaySave files course name × (IsTrue output.told → output.after ≡ output.before)
BuildLeaves course name fuel files output answer.StoreFault = MaySave files course name × (output.after ≡ output.before)
BuildLeaves course name fuel files output other = ⊥

-- what `exec` of these units leaves with each report that it may have: a refusal leaves all as it is
abbrev pub ExecLeaves : List Text → Course → List ℕ → ℕ → StoreCall → SinkCall → Report → Type 0
ExecLeaves units course name fuel files output answer.NotBuilt = IsUntouched files output
ExecLeaves units course name fuel files output (answer.Missing unit) = IsUntouched files output × Contains units unit.items
ExecLeaves units course name fuel files output (answer.Limit which count) = IsUntouched files output
ExecLeaves units course name fuel files output (answer.Unit number why) = IsUntouched files output
ExecLeaves units course name fuel files output (answer.Mark definition) = IsUntouched files output
ExecLeaves units course name fuel files output other = BuildLeaves course name fuel files output other

-- the reports that `check` of these units may have
abbrev pub IsOfCheck : List Text → Report → Type 0
IsOfCheck units answer.Checked = Unit {0}
IsOfCheck units (answer.Missing unit) = Contains units unit.items
IsOfCheck units (answer.Limit which count) = Unit {0}
IsOfCheck units (answer.Unit number why) = Unit {0}
IsOfCheck units answer.StoreFault = Unit {0}
IsOfCheck units answer.NoMemory = Unit {0}
IsOfCheck units other = ⊥

-- how a report tells the end of a program's run by its meaning: `budget` where the units were spent
abbrev pub outcome_of : SourceEnd → Outcome
outcome_of (ends.Exit k) = Exit k
outcome_of (ends.Trap k) = Trap k
outcome_of ends.Running = Budget

-- the report tells a run's end, the units that it paid and its peak; all that it puts was put, and the bytes that it
-- takes were taken
pub record IsMeant (run : SourceRun) (input : SourceCall) (output : SinkCall) (outcome : Outcome) (units peak : ℕ) : Type 0 where
  pub end : outcome ≡ outcome_of run.outcome
  pub paid : units ≡ run.units
  pub highest : peak ≡ run.peak
  pub put : IsTrue output.told → output.after ≡ output.before ++ run.output
  pub taken : (gone : List ℕ) × (input.before ≡ gone ++ input.after) × (length gone ≡ run.taken)

-- a run that was broken off: a prefix of its output was put, and no more was taken than it takes
pub record IsBrokenOff (run : SourceRun) (input : SourceCall) (output : SinkCall) : Type 0 where
  pub put : IsTrue output.told → AppendsPrefix output.before run.output output.after
  pub taken : (gone : List ℕ) × (input.before ≡ gone ++ input.after) × (length gone ≤ run.taken)

abbrev pub RunLeaves : SourceRun → SourceCall → SinkCall → Report → Type 0
RunLeaves run input output (answer.Meant outcome units peak) = IsMeant run input output outcome units peak
RunLeaves run input output answer.ReadFault = IsBrokenOff run input output
RunLeaves run input output answer.WriteFault = IsBrokenOff run input output
RunLeaves run input output answer.NoMemory = IsBrokenOff run input output
RunLeaves run input output other = ⊥

-- the program of the units was run with so many units of work, and this is left of it
pub record HasRun (fuel : ℕ) (files : StoreCall) (course : Course) (input : SourceCall) (output : SinkCall) (report : Report) : Type 0 where
  pub program : Program
  pub wanted : IsTrue files.told → course ≡ Interprets program
  pub leaves : IsTrue input.told → RunLeaves (source program input.before fuel) input output report

-- nothing was put, and nothing taken
abbrev pub NothingPassed : SourceCall → SinkCall → Type 0
NothingPassed input output = (input.after ≡ input.before) × (output.after ≡ output.before)

-- what `interp` of these units leaves of input and output
abbrev pub InterpPasses : List Text → ℕ → Course → StoreCall → SourceCall → SinkCall → Report → Type 0
InterpPasses units fuel course files input output (answer.Meant outcome paid peak) = HasRun fuel files course input output (answer.Meant outcome paid peak)
InterpPasses units fuel course files input output answer.ReadFault = HasRun fuel files course input output answer.ReadFault
InterpPasses units fuel course files input output answer.WriteFault = HasRun fuel files course input output answer.WriteFault
InterpPasses units fuel course files input output answer.NoMemory = NothingPassed input output ⊎ HasRun fuel files course input output answer.NoMemory
InterpPasses units fuel course files input output (answer.Missing unit) = NothingPassed input output × Contains units unit.items
InterpPasses units fuel course files input output (answer.Limit which count) = NothingPassed input output
InterpPasses units fuel course files input output (answer.Unit number why) = NothingPassed input output
InterpPasses units fuel course files input output answer.StoreFault = NothingPassed input output
InterpPasses units fuel course files input output other = ⊥

-- ---- the run of an image

-- how a report tells why the machine is stuck, how a guest ended, and what a run came to: `budget` where the machine
-- goes on
abbrev pub told_why : MachineWhy → StuckWhy
told_why cause.NoRange = stuck.NoRange
told_why cause.Misaligned = stuck.Misaligned
told_why cause.BadInstruction = stuck.BadInstruction
told_why cause.Blocked = stuck.Blocked
told_why cause.Unmapped = stuck.Unmapped
told_why cause.Protected = stuck.Protected
told_why cause.Divide = stuck.Divide
told_why cause.Halt = stuck.Halt
told_why cause.BadSwitch = stuck.BadSwitch
told_why cause.NoThunk = stuck.NoThunk
told_why cause.BadTarget = stuck.BadTarget

abbrev pub told_guest : GuestEnd → Outcome
told_guest (guest.Exit k) = Exit k
told_guest (guest.Trap k) = Trap k
told_guest guest.StackSpent = StackSpent
told_guest (guest.Stuck reason pc) = Stuck (told_why reason) pc

abbrev pub told_after : After → Outcome
told_after (mixed.Goes m) = Budget
told_after (mixed.Ends end m) = told_guest end

abbrev pub streams_of : SourceCall → SinkCall → Streams
streams_of input output = record { left = input.before; rest = input.after; told = output.told; old = output.before; new = output.after }

-- the report tells what a run of the machine came to; all that it puts was put, and the bytes that it takes were taken
pub record IsGuestRun (run : MachineRun) (s : Streams) (outcome : Outcome) : Type 0 where
  pub end : outcome ≡ told_after run.after
  pub put : IsTrue s.told → s.new ≡ s.old ++ run.output
  pub gone : IsGone run s

-- what a run of an image at a base leaves; one that the outside broke off made fewer steps
abbrev pub GuestLeaves : Image → ℕ → ℕ → Streams → Report → Type 0
GuestLeaves i base fuel s (answer.Guest outcome) = IsGuestRun (machine i base s.left fuel) s outcome
GuestLeaves i base fuel s answer.ReadFault = (k : ℕ) × (k < fuel) × IsUnread (machine i base s.left k) s
GuestLeaves i base fuel s answer.WriteFault = (k : ℕ) × (k < fuel) × IsUnwritten (code_in i base) (machine i base s.left k) s
GuestLeaves i base fuel s other = ⊥

-- the image of the file was run at this base with so many steps, and this is left of it
pub record HasGuestRun (base fuel : ℕ) (files : StoreCall) (course : Course) (input : SourceCall) (output : SinkCall) (report : Report) : Type 0 where
  pub image : Image
  pub wanted : IsTrue files.told → course ≡ RunsImage image
  pub leaves : IsTrue input.told → GuestLeaves image base fuel (streams_of input output) report

-- what `run` of the image of this name leaves of input and output
abbrev pub RunPasses : Text → ℕ → ℕ → Course → StoreCall → SourceCall → SinkCall → Report → Type 0
RunPasses name base fuel course files input output (answer.Guest outcome) = HasGuestRun base fuel files course input output (answer.Guest outcome)
RunPasses name base fuel course files input output answer.ReadFault = HasGuestRun base fuel files course input output answer.ReadFault
RunPasses name base fuel course files input output answer.WriteFault = HasGuestRun base fuel files course input output answer.WriteFault
RunPasses name base fuel course files input output (answer.Missing file) = NothingPassed input output × (file.items ≡ name)
RunPasses name base fuel course files input output (answer.Image why) = NothingPassed input output
RunPasses name base fuel course files input output (answer.Load why) = NothingPassed input output
RunPasses name base fuel course files input output answer.StoreFault = NothingPassed input output
RunPasses name base fuel course files input output answer.NoMemory = NothingPassed input output
RunPasses name base fuel course files input output other = ⊥

-- ---- what commands leave

-- what `gen` of this text puts: all of it, or a prefix of it where the output failed
abbrev pub GenPuts : List ℕ → SinkCall → Report → Type 0
GenPuts text output answer.Generated = IsTrue output.told → output.after ≡ output.before ++ text
GenPuts text output answer.WriteFault = IsTrue output.told → AppendsPrefix output.before text output.after
GenPuts text output answer.NoMemory = output.after ≡ output.before
GenPuts text output other = ⊥

-- What a command leaves, with each report that it may have: `exec` saves an image and puts its output, `interp`
-- and `run` take input and put output, `gen` puts its text, and all others leave files and output as they are.
abbrev pub Leaves : Option Form → Course → StoreCall → SourceCall → SinkCall → Report → Type 0
Leaves None course files input output report = IsUntouched files output × ((report ≡ answer.Usage) ⊎ (report ≡ answer.NoMemory))
Leaves (Some (check units)) course files input output report = IsUntouched files output × IsOfCheck units report
Leaves (Some (interp units fuel)) course files input output report = NothingSaved files × InterpPasses units fuel course files input output report
Leaves (Some (run_form name base fuel)) course files input output report = NothingSaved files × RunPasses name base fuel course files input output report
Leaves (Some (gen number size)) course files input output report = NothingSaved files × GenPuts (unit_of number size) output report
Leaves (Some (exec units image marks stack base fuel)) course files input output report = ExecLeaves units course image fuel files output report
Leaves (Some other) course files input output report = IsUntouched files output × ((report ≡ answer.NotBuilt) ⊎ (report ≡ answer.NoMemory))

-- what stands after each report that a command has of its own
pub record Stands (command : Option Form) (files : StoreCall) (input : SourceCall) (output : SinkCall) (report : Report) : Type 0 where
  pub follows : IsTrue files.told → Follows (course_of command files.before) report
  pub caused : IsCaused files output report
  pub read_caused : IsReadCaused input report
  pub leaves : Leaves command (course_of command files.before) files input output report

-- the line of a report was put, and the report given; or the sink of lines failed
abbrev pub Tells : Report → SinkCall → Report → Type 0
Tells own line report =
    ((report ≡ own) × (IsTrue line.told → line.after ≡ line.before ++ line_of own))
    ⊎ ((report ≡ answer.WriteFault) × SinkRose line × (IsTrue line.told → AppendsPrefix line.before (line_of own) line.after))

-- The command that the words are had a report of its own, which stands; what is told and given is this, or
-- that memory for its line ran out.
pub record Answers (words : List Text) (files : StoreCall) (input : SourceCall) (output line : SinkCall) (report : Report) : Type 0 where
  pub own : Report
  pub stands : Stands (command_of words) files input output own
  pub told : Report
  pub told_is : (told ≡ own) ⊎ (told ≡ answer.NoMemory)
  pub tells : Tells told line report

-- ---- what a user may rely on

-- the words of `exec`
pub record ExecWords : Type 0 where
  pub units : List Text
  pub image : Text
  pub marks : Marks
  pub stack : ℕ
  pub base : ℕ
  pub fuel : ℕ

abbrev pub exec_form : ExecWords → Form
exec_form e = exec e.units e.image e.marks e.stack e.base e.fuel

-- What stands after `exit k`: the words are `exec`; the unit that the course of the command says, where the
-- store tells, is of the first form; k is its status's low 8 bits; its output was put; its image was saved, and runs so.
pub record Exited (words : List Text) (files : StoreCall) (output : SinkCall) (k : ℕ) : Type 0 where
  pub command : ExecWords
  pub is_command : command_of words ≡ Some (exec_form command)
  pub image : HasImage files (course_of (command_of words) files.before) command.image
  pub status : k ≡ image.status % 256
  pub put : IsTrue output.told → output.after ≡ output.before ++ output_of image.puts

-- no count of faults rose
pub record AllWorked (files : StoreCall) (output line : SinkCall) : Type 0 where
  pub store_worked : ¬ StoreRose files
  pub output_worked : ¬ SinkRose output
  pub line_worked : ¬ SinkRose line

-- the words are `exec`; nothing refuses the command, whose one unit is of the first form; it is given steps
-- enough; and nothing failed
pub record IsGood (words : List Text) (files : StoreCall) (output line : SinkCall) (puts : List ℕ) (status : ℕ) : Type 0 where
  pub command : ExecWords
  pub is_command : command_of words ≡ Some (exec_form command)
  pub told : IsTrue files.told
  pub source : List ℕ
  pub course : course_of (command_of words) files.before ≡ Builds source
  pub reads : IsFirstForm puts status source
  pub enough : 8 * (length puts + 1) ≤ command.fuel
  pub worked : AllWorked files output line

-- the words are `check`; nothing refuses the units; and nothing failed
pub record IsSound (words : List Text) (files : StoreCall) (output line : SinkCall) : Type 0 where
  pub told : IsTrue files.told
  pub course : course_of (command_of words) files.before ≡ Checks
  pub worked : AllWorked files output line

-- the words are `gen` of this number and size, and nothing failed
pub record IsGenerating (words : List Text) (files : StoreCall) (output line : SinkCall) (number size : ℕ) : Type 0 where
  pub is_command : command_of words ≡ Some (gen number size)
  pub worked : AllWorked files output line

-- what stands after `generated`: the words are `gen`, and the text of their numbers was put
pub record Generated (words : List Text) (output : SinkCall) : Type 0 where
  pub number : ℕ
  pub size : ℕ
  pub is_command : command_of words ≡ Some (gen number size)
  pub put : IsTrue output.told → output.after ≡ output.before ++ unit_of number size

-- the words are `exec`
abbrev pub IsExec : Option Form → Type 0
IsExec None = ⊥
IsExec (Some (exec units image marks stack base fuel)) = Unit {0}
IsExec (Some other) = ⊥

-- the words are of a command that takes input
abbrev pub TakesInput : Option Form → Type 0
TakesInput None = ⊥
TakesInput (Some (interp units fuel)) = Unit {0}
TakesInput (Some (run_form name base fuel)) = Unit {0}
TakesInput (Some other) = ⊥

-- What stands after a meaning was told: the words are `interp`; the program that the units are, where the store
-- tells, was run with the units of work that the words give, or a hundred millions, on what the input had left.
pub record Interpreted (words : List Text) (files : StoreCall) (input : SourceCall) (output : SinkCall) (outcome : Outcome) (units peak : ℕ) : Type 0 where
  pub names : List Text
  pub fuel : ℕ
  pub is_command : command_of words ≡ Some (interp names fuel)
  pub program : Program
  pub wanted : IsTrue files.told → course_of (command_of words) files.before ≡ Interprets program
  pub meant : IsTrue input.told → IsMeant (source program input.before fuel) input output outcome units peak

-- the words are `interp`; nothing refuses the units; and nothing failed
pub record IsMeaningful (words : List Text) (files : StoreCall) (input : SourceCall) (output line : SinkCall) : Type 0 where
  pub names : List Text
  pub fuel : ℕ
  pub is_command : command_of words ≡ Some (interp names fuel)
  pub told : IsTrue files.told
  pub program : Program
  pub course : course_of (command_of words) files.before ≡ Interprets program
  pub worked : AllWorked files output line
  pub input_worked : ¬ SourceRose input

-- a meaning was told
abbrev pub TellsMeaning : Report → Type 0
TellsMeaning report = (outcome : Outcome) × (units : ℕ) × (peak : ℕ) × (report ≡ answer.Meant outcome units peak)

-- What stands after `run` told how its guest ended: the image that the file is, where the store tells, was run at the base
-- with so many steps, on what the input had left.
pub record Ran (name : Text) (base fuel : ℕ) (files : StoreCall) (input : SourceCall) (output : SinkCall) (outcome : Outcome) : Type 0 where
  pub image : Image
  pub wanted : IsTrue files.told → image_course files.before name base ≡ opened.runs image
  pub ran : IsTrue input.told → IsGuestRun (machine image base input.before fuel) (streams_of input output) outcome

-- the words are `run`; its file is an image that can be loaded at the base; and nothing failed
pub record IsRunning (words : List Text) (files : StoreCall) (input : SourceCall) (output line : SinkCall) : Type 0 where
  pub name : Text
  pub base : ℕ
  pub fuel : ℕ
  pub is_command : command_of words ≡ Some (run_form name base fuel)
  pub told : IsTrue files.told
  pub image : Image
  pub course : image_course files.before name base ≡ opened.runs image
  pub worked : AllWorked files output line
  pub input_worked : ¬ SourceRose input

-- an end of a guest was told
abbrev pub TellsOutcome : Report → Type 0
TellsOutcome report = (outcome : Outcome) × (report ≡ answer.Guest outcome)
