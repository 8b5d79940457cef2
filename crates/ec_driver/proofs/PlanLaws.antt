-- The parts of what stands before any saving, together.
use Rattle.std.proofs.Common.{◌≡◌, ℕ, IsTrue, List, sym, subst, Some}
use Rattle.ec_words.specs.Table.{Text}
use Rattle.ec_words.specs.Markings.{Marks}
use Rattle.ec_words.specs.Commands.{Form, exec}
use Rattle.ec_report.specs.declared.reports.Report.{Report}
use Rattle.ec_report.specs.declared.reports.Report.TheVariants as answer
use Rattle.ec_driver.specs.Courses.{Course, Builds, course_of}
use Rattle.ec_driver.specs.Answers.{StoreCall, SourceCall, SinkCall, IsReadCaused, Follows, ExecLeaves, BuildLeaves, Stands}
use Rattle.ec_driver.specs.Plans.{BuildStands}

-- a unit that is built leaves what `exec` leaves
built_leaves : (units : List Text) (course : Course) (name : List ℕ) (fuel : ℕ) (files : StoreCall) (output : SinkCall) (r : Report) → BuildLeaves course name fuel files output r → ExecLeaves units course name fuel files output r
built_leaves units course name fuel files output answer.NotBuilt s = absurd s
built_leaves units course name fuel files output (answer.Missing unit) s = absurd s
built_leaves units course name fuel files output (answer.Limit which count) s = absurd s
built_leaves units course name fuel files output (answer.Unit number why) s = absurd s
built_leaves units course name fuel files output (answer.Mark definition) s = absurd s
built_leaves units course name fuel files output other s = s

built_follows : (course : Course) (source name : List ℕ) (fuel : ℕ) (files : StoreCall) (output : SinkCall) (r : Report) → course ≡ Builds source → BuildLeaves course name fuel files output r → Follows (Builds source) r
built_follows course source name fuel files output (answer.Guest outcome) is s = tt
built_follows course source name fuel files output answer.WriteFault is s = tt
built_follows course source name fuel files output answer.NoMemory is s = tt
built_follows course source name fuel files output answer.StoreFault is s = tt
built_follows course source name fuel files output other is s = absurd s

built_reads : (course : Course) (name : List ℕ) (fuel : ℕ) (files : StoreCall) (input : SourceCall) (output : SinkCall) (r : Report) → BuildLeaves course name fuel files output r → IsReadCaused input r
built_reads course name fuel files input output answer.ReadFault s = absurd s
built_reads course name fuel files input output other s = tt

pub built_stands : (units : List Text) (image : Text) (marks : Marks) (stack base fuel : ℕ) (source : List ℕ) (files : StoreCall) (input : SourceCall) (output : SinkCall) (r : Report)
    → (IsTrue files.told → course_of (Some (exec units image marks stack base fuel)) files.before ≡ Builds source)
    → BuildStands (course_of (Some (exec units image marks stack base fuel)) files.before) image fuel files output r
    → Stands (Some (exec units image marks stack base fuel)) files input output r
built_stands units image marks stack base fuel source files input output r wanted s =
    let course : Course = course_of (Some (exec units image marks stack base fuel)) files.before in
    record {
      follows = λ t. subst (λ (c : Course). Follows c r) (sym (wanted t)) (built_follows course source image fuel files output r (wanted t) s.leaves);
      caused = s.caused;
      read_caused = built_reads course image fuel files input output r s.leaves;
      leaves = built_leaves units course image fuel files output r s.leaves;
    }

pub same_form : (f h : Form) (files : StoreCall) (input : SourceCall) (output : SinkCall) (r : Report) → f ≡ h → Stands (Some f) files input output r → Stands (Some h) files input output r
same_form f h files input output r e s = subst (λ (x : Form). Stands (Some x) files input output r) e s
