-- What the calls behind `ecc` answer before anything is saved.
use Rattle.std.specs.Prelude.{◌≡◌, ℕ, Bool, IsTrue, ◌≤◌, List, Contains, Option, Some, None, Result, Ok, Err}
use Rattle.std.specs.Global.{Vec}
use Rattle.hx_names.specs.declared.pieces.Side.{Side}
use Rattle.first_form.specs.declared.reading.FirstUnit.{FirstUnit}
use Rattle.first_form.specs.FirstForm.{IsFirstForm}
use Rattle.ec_words.specs.Table.{Text}
use Rattle.ec_words.specs.Commands.{Form, interp}
use Rattle.ec_words.specs.Markings.{Marks, sides_from, unknown_mark}
use Rattle.ec_report.specs.declared.reports.Report.{Report}
use Rattle.ec_report.specs.declared.reports.Report.TheVariants as answer
use Rattle.ec_units.specs.declared.refusals.UnitsRefusal.{UnitsRefusal}
use Rattle.ec_units.specs.declared.refusals.UnitsRefusal.TheVariants as refusal
use Rattle.machine_rules.specs.declared.ends.RunEnd.{RunEnd}
use Rattle.machine_rules.specs.declared.ends.RunEnd.TheVariants as ends
use Rattle.image_run.specs.declared.refusal.RunRefusal.{RunRefusal}
use Rattle.image_run.specs.declared.refusal.RunRefusal.TheVariants as unrun
use Rattle.ec_report.specs.declared.kinds.Outcome.TheVariants.{Exit, Trap, Budget, StackSpent, Stuck}
use Rattle.ec_driver.specs.Courses.{Course, Builds}
use Rattle.ec_driver.specs.Answers.{StoreCall, SinkCall, Follows, IsCaused, BuildLeaves, told_why}

-- the report of refused units
abbrev pub report_of : UnitsRefusal → Report
report_of (refusal.Missing name) = answer.Missing name
report_of (refusal.Limit which count) = answer.Limit which count
report_of (refusal.Unit number why) = answer.Unit number why
report_of refusal.StoreFault = answer.StoreFault
report_of refusal.NoMemory = answer.NoMemory

-- the reports of `exec` of these units before anything is saved
abbrev pub IsEarly : List Text → Report → Type 0
IsEarly units (answer.Missing unit) = Contains units unit.items
IsEarly units (answer.Limit which count) = Unit {0}
IsEarly units (answer.Unit number why) = Unit {0}
IsEarly units (answer.Mark name) = Unit {0}
IsEarly units answer.NotBuilt = Unit {0}
IsEarly units answer.StoreFault = Unit {0}
IsEarly units answer.NoMemory = Unit {0}
IsEarly units other = ⊥

-- those of them that come once the units are a program
abbrev pub IsOfProgram : Report → Type 0
IsOfProgram (answer.Mark name) = Unit {0}
IsOfProgram answer.NotBuilt = Unit {0}
IsOfProgram answer.NoMemory = Unit {0}
IsOfProgram other = ⊥

-- the sides of definitions with these names, or the report that one name of the marking is none of theirs
abbrev pub TellsSides : Marks → List (List ℕ) → Result (Vec Side) Report → Type 0
TellsSides marks names (Ok sides) = (sides.items ≡ sides_from marks 0 names) × (unknown_mark marks.turned names ≡ None)
TellsSides marks names (Err (answer.Mark name)) = unknown_mark marks.turned names ≡ Some name.items
TellsSides marks names (Err answer.NoMemory) = Unit {0}
TellsSides marks names (Err other) = ⊥

-- the unit of a program that is to be built, or the report in its place
abbrev pub Plans : Course → Result FirstUnit Report → Type 0
Plans course (Ok unit) = (source : List ℕ) × (course ≡ Builds source) × IsFirstForm unit.puts.items unit.status source
Plans course (Err report) = Follows course report × IsOfProgram report

-- the same of units of these names, where the files that the course goes by may be told
abbrev pub PlansWhere : List Text → Bool → Course → Result FirstUnit Report → Type 0
PlansWhere units told course (Ok unit) = (source : List ℕ) × (IsTrue told → course ≡ Builds source) × IsFirstForm unit.puts.items unit.status source
PlansWhere units told course (Err report) = (IsTrue told → Follows course report) × IsEarly units report

-- what stands after a unit was built, or was begun to be
pub record BuildStands (course : Course) (name : List ℕ) (fuel : ℕ) (files : StoreCall) (output : SinkCall) (report : Report) : Type 0 where
  pub leaves : BuildLeaves course name fuel files output report
  pub caused : IsCaused files output report

-- the reports of a program's run by its meaning
abbrev pub IsOfRun : Report → Type 0
IsOfRun (answer.Meant outcome units peak) = Unit {0}
IsOfRun answer.ReadFault = Unit {0}
IsOfRun answer.WriteFault = Unit {0}
IsOfRun answer.NoMemory = Unit {0}
IsOfRun other = ⊥

-- the units of work that `interp` is given are at most a million millions
abbrev pub IsWithinFuel : Option Form → Type 0
IsWithinFuel None = Unit {0}
IsWithinFuel (Some (interp units fuel)) = fuel ≤ 1000000000000
IsWithinFuel (Some other) = Unit {0}

-- the report of how the run of an image ended
abbrev pub report_of_end : RunEnd → Report
report_of_end (ends.Exit k) = answer.Guest (Exit k)
report_of_end (ends.Trap k) = answer.Guest (Trap k)
report_of_end ends.Budget = answer.Guest Budget
report_of_end ends.StackSpent = answer.Guest StackSpent
report_of_end (ends.Stuck reason pc) = answer.Guest (Stuck (told_why reason) pc)
report_of_end ends.ReadFault = answer.ReadFault
report_of_end ends.WriteFault = answer.WriteFault

-- the report that there is no file of the name, or that memory for this ran out
abbrev pub NamesFile : Text → Report → Type 0
NamesFile name (answer.Missing file) = file.items ≡ name
NamesFile name answer.NoMemory = Unit {0}
NamesFile name other = ⊥

-- the report of an image that isn't run
abbrev pub TellsRefusal : Text → RunRefusal → Report → Type 0
TellsRefusal name unrun.Missing report = NamesFile name report
TellsRefusal name unrun.StoreFault report = report ≡ answer.StoreFault
TellsRefusal name (unrun.Image why) report = report ≡ answer.Image why
TellsRefusal name (unrun.Load why) report = report ≡ answer.Load why
TellsRefusal name unrun.NoMemory report = report ≡ answer.NoMemory
