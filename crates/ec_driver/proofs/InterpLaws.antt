-- What is left of a program's run by its meaning.
use Rattle.std.proofs.Common.{ℕ, List, inr}
use Rattle.ec_words.specs.Table.{Text}
use Rattle.ec_report.specs.declared.reports.Report.{Report}
use Rattle.ec_report.specs.declared.reports.Report.TheVariants as answer
use Rattle.ec_driver.specs.Courses.{Course}
use Rattle.ec_driver.specs.Answers.{StoreCall, SourceCall, SinkCall, HasRun, InterpPasses}
use Rattle.ec_driver.specs.Plans.{IsOfRun}

pub run_passes : (units : List Text) (fuel : ℕ) (course : Course) (files : StoreCall) (input : SourceCall) (output : SinkCall) (r : Report) → IsOfRun r → HasRun fuel files course input output r → InterpPasses units fuel course files input output r
run_passes units fuel course files input output (answer.Meant outcome paid peak) k h = h
run_passes units fuel course files input output answer.ReadFault k h = h
run_passes units fuel course files input output answer.WriteFault k h = h
run_passes units fuel course files input output answer.NoMemory k h = inr h
run_passes units fuel course files input output other k h = absurd k
