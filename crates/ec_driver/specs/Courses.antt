-- What a command comes to before it saves anything, by its words and the files alone: this project's own.
-- Refusals are looked for in one order, and the first is told. First the words must be a command, and then
-- one that is built yet. `run` asks for an image that can be loaded at its base (`image_run`). For the others the
-- units must be a program within the limits (`ec_units`). `check` asks no more. For `exec` the marking must name
-- definitions alone; and then, as long as no compiler stands behind the checker, there must be one unit, all
-- definitions x64, and the base 0x140000000.
use Rattle.std.specs.Prelude.{ℕ, Bool, true, false, ◌&&◌, ◌==◌, List, [], ◌∷◌, Option, Some, None}
use Rattle.std.specs.List.{list_all}
use Rattle.hx_io.specs.Files.{Files}
use Rattle.c_program.specs.declared.program.Program.{Program}
use Rattle.chpe_types.specs.declared.image.Image.{Image}
use Rattle.pe_read.specs.declared.refusal.ImageRefusal.{ImageRefusal as Unread}
use Rattle.image_run.specs.Courses.{LoadWhy, ImageCourse, image_course}
use Rattle.image_run.specs.Courses as opened
use Rattle.hx_names.specs.declared.pieces.Side.{Side}
use Rattle.hx_names.specs.declared.pieces.Side.TheVariants as side
use Rattle.ec_words.specs.Markings.{Marks, sides_from, unknown_mark}
use Rattle.case_gen.specs.Units.{unit_of}
use Rattle.ec_words.specs.Commands.{Form, check, interp, run as run_form, exec, gen}
use Rattle.ec_units.specs.Verdicts.{Reason, absent, Verdict, passes, refuses, verdict}
use Rattle.ec_driver.specs.Definitions.{defined_names}

-- why a command is refused
pub data Refusal : Type 0 where
  NoCommand : Refusal
  NotBuiltYet : Refusal
  BadFiles : Reason → Refusal
  UnknownMark : List ℕ → Refusal
  NoImage : Unread → Refusal
  NotLoaded : LoadWhy → Refusal

-- a command is refused; or it is `check` and nothing is wrong; or it is `interp`, and this program is to be run by
-- its meaning; or it is `run`, and this image is to be run; or it is `gen`, and this text is to be put; or it is `exec`,
-- and this one unit is to be built
pub data Course : Type 0 where
  Stops : Refusal → Course
  Checks : Course
  Interprets : Program → Course
  RunsImage : Image → Course
  Generates : List ℕ → Course
  Builds : List ℕ → Course

-- nothing but x64
abbrev pub is_x64 : Side → Bool
is_x64 side.X64 = true
is_x64 side.Ec = false

-- where an image stands unless the words say otherwise
abbrev pub default_base : ℕ
default_base = 0x140000000

abbrev pub built_course : Bool → List (List ℕ) → Course
built_course true (source ∷ []) = Builds source
built_course buildable sources = Stops NotBuiltYet

abbrev pub marked_course : Option (List ℕ) → Course → Course
marked_course (Some name) next = Stops (UnknownMark name)
marked_course None next = next

-- `exec` with this marking and base, of a program whose definitions have these names and whose units are these
abbrev pub program_course : Marks → ℕ → List (List ℕ) → List (List ℕ) → Course
program_course marks base names sources =
    marked_course (unknown_mark marks.turned names)
    (built_course (list_all is_x64 (sides_from marks 0 names) && (base == default_base)) sources)

abbrev pub exec_course : Marks → ℕ → Verdict → Course
exec_course marks base (refuses reason) = Stops (BadFiles reason)
exec_course marks base (passes program sources) = program_course marks base (defined_names program) sources

abbrev pub check_course : Verdict → Course
check_course (refuses reason) = Stops (BadFiles reason)
check_course (passes program sources) = Checks

abbrev pub interp_course : Verdict → Course
interp_course (refuses reason) = Stops (BadFiles reason)
interp_course (passes program sources) = Interprets program

-- `run` of the image in the file of a name
abbrev pub run_course : List ℕ → ImageCourse → Course
run_course name opened.absent = Stops (BadFiles (absent name))
run_course name (opened.unreadable why) = Stops (NoImage why)
run_course name (opened.unloadable why) = Stops (NotLoaded why)
run_course name (opened.runs image) = RunsImage image

-- the course of a command
abbrev pub course_of : Option Form → Files → Course
course_of None files = Stops NoCommand
course_of (Some (check units)) files = check_course (verdict files units true)
course_of (Some (exec units image marks stack base fuel)) files = exec_course marks base (verdict files units true)
course_of (Some (interp units fuel)) files = interp_course (verdict files units true)
course_of (Some (run_form name base fuel)) files = run_course name (image_course files name base)
course_of (Some (gen number size)) files = Generates (unit_of number size)
course_of (Some other) files = Stops NotBuiltYet
