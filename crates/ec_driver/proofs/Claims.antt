-- What a user may rely on, from what stands.
use Rattle.std.proofs.Common.{◌≡◌, ℕ, ◌+◌, ◌*◌, ◌%◌, ◌≤◌, IsTrue, List, ◌++◌, length, refl, sym, ap, subst, ◌∙◌, inl, inr, Some, None, Option}
use Rattle.std.specs.Prelude.{◌⊎◌}
use Rattle.first_form.specs.FirstForm.{IsFirstForm}
use Rattle.first_form.proofs.UnitLaws.{IsFirstForm_unique}
use Rattle.flat_machine.specs.declared.ends.RunEnd.TheVariants.{Exit as ExitEnd}
use Rattle.flat_machine.specs.Steps.{Goes, Ends}
use Rattle.flat_machine.specs.Runs.{Run, flat_run}
use Rattle.ec_words.specs.Table.{Text}
use Rattle.case_gen.specs.Units.{unit_of}
use Rattle.ec_words.specs.Commands.{Form, check, interp, run as run_form, exec, gen, command_of}
use Rattle.ec_report.specs.declared.kinds.Outcome.{Outcome}
use Rattle.ec_report.specs.declared.kinds.Outcome.TheVariants.{Exit, Budget}
use Rattle.ec_report.specs.declared.reports.Report.{Report}
use Rattle.ec_report.specs.declared.reports.Report.TheVariants as answer
use Rattle.ec_driver.specs.Courses.{Course, Checks, Interprets, RunsImage, Builds, run_course, course_of}
use Rattle.ec_driver.specs.Answers.{StoreCall, SourceCall, SinkCall, SinkRose, Follows, IsCaused, HasImage, IsImage, IsOutcome, output_of, RunStands, ExecLeaves, Stands, Tells, Answers, ExecWords, exec_form, Exited, IsGood, IsSound, GenPuts, IsGenerating, Generated, IsReadCaused, HasRun, Interpreted, IsMeaningful, TellsMeaning, IsExec, HasGuestRun, Ran, IsRunning, TellsOutcome}
use Rattle.chpe_types.specs.declared.image.Image.{Image}
use Rattle.image_run.specs.Courses.{ImageCourse, image_course}
use Rattle.image_run.specs.Courses as opened
use Rattle.ec_driver.proofs.Ended.{image_ends, image_exits}

-- the report is that of the command, or memory ran out, or the sink of lines failed
report_is : (words : List Text) (files : StoreCall) (input : SourceCall) (output line : SinkCall) (r : Report) → (a : Answers words files input output line r) → (r ≡ a.own) ⊎ ((r ≡ answer.NoMemory) ⊎ ((r ≡ answer.WriteFault) × SinkRose line))
report_is words files input output line r a = by a.told_is a.tells
  where
    by : (a.told ≡ a.own) ⊎ (a.told ≡ answer.NoMemory) → Tells a.told line r → (r ≡ a.own) ⊎ ((r ≡ answer.NoMemory) ⊎ ((r ≡ answer.WriteFault) × SinkRose line))
    by (inl own) (inl told) = inl (told.0 ∙ own)
    by (inr none) (inl told) = inr (inl (told.0 ∙ none))
    by own (inr failed) = inr (inr (failed.0, failed.1))

-- ---- after `exit k`

exec_exited : (words : List Text) (files : StoreCall) (input : SourceCall) (output : SinkCall) (k : ℕ) (e : ExecWords) → command_of words ≡ Some (exec_form e) → Stands (Some (exec_form e)) files input output (answer.Guest (Exit k)) → Exited words files output k
exec_exited words files input output k e is s =
    let h : HasImage files (course_of (Some (exec_form e)) files.before) e.image = s.leaves.0 in
    let ran : RunStands (flat_run h.image e.fuel) output (answer.Guest (Exit k)) = s.leaves.1 in
    let ended : (flat_run h.image e.fuel).after ≡ Ends (ExitEnd k) = ran.0 in
    let exits : ExitEnd k ≡ ExitEnd (h.status % 256) = image_exits h.image h.puts h.status e.fuel (ExitEnd k) h.built.image_runs ended in
    let status : k ≡ h.status % 256 = cc in
    let put : IsTrue output.told → output.after ≡ output.before ++ output_of h.puts = λ t. ran.1 t ∙ ap (λ (r : Run). output.before ++ r.output) (image_ends h.image h.puts h.status e.fuel (ExitEnd k) h.built.image_runs ended) in
    subst (λ (c : Option Form). (i : HasImage files (course_of c files.before) e.image) → k ≡ i.status % 256 → (IsTrue output.told → output.after ≡ output.before ++ output_of i.puts) → Exited words files output k) is
    (λ i status put. record { command = e; is_command = is; image = i; status = status; put = put }) h status put

exited_by : (words : List Text) (files : StoreCall) (input : SourceCall) (output : SinkCall) (k : ℕ) (c : Option Form) → IsExec c → command_of words ≡ c → Stands c files input output (answer.Guest (Exit k)) → Exited words files output k
exited_by words files input output k None x is s = absurd x
exited_by words files input output k (Some (exec units image marks stack base fuel)) x is s = exec_exited words files input output k (record { units = units; image = image; marks = marks; stack = stack; base = base; fuel = fuel }) is s
exited_by words files input output k (Some other) x is s = absurd x

pub exited : (words : List Text) (files : StoreCall) (input : SourceCall) (output line : SinkCall) (r : Report) → Answers words files input output line r → IsExec (command_of words) → (k : ℕ) → r ≡ answer.Guest (Exit k) → Exited words files output k
exited words files input output line r a x k is = by (report_is words files input output line r a)
  where
    by : (r ≡ a.own) ⊎ ((r ≡ answer.NoMemory) ⊎ ((r ≡ answer.WriteFault) × SinkRose line)) → Exited words files output k
    by (inl own) = exited_by words files input output k (command_of words) x refl (subst (Stands (command_of words) files input output) (sym own ∙ is) a.stands)
    by (inr (inl none)) = absurd cc
    by (inr (inr failed)) = absurd (let e : r ≡ answer.WriteFault = failed.0 in cc)

-- ---- where all is good

-- a run with steps enough ends as the unit says
good_outcome : (image puts : List ℕ) (status fuel : ℕ) (outcome : Outcome) → IsImage image puts status → 8 * (length puts + 1) ≤ fuel → IsOutcome (flat_run image fuel) outcome → outcome ≡ Exit (status % 256)
good_outcome image puts status fuel (Exit k) runs enough is =
    let ends : Ends (ExitEnd k) ≡ Ends (ExitEnd (status % 256)) = sym is ∙ ap (λ (r : Run). r.after) (runs fuel enough) in
    let same : k ≡ status % 256 = cc in ap Exit same
good_outcome image puts status fuel Budget runs enough is =
    let ends : Goes is.0 ≡ Ends (ExitEnd (status % 256)) = sym is.1 ∙ ap (λ (r : Run). r.after) (runs fuel enough) in absurd (cc)
good_outcome image puts status fuel other runs enough is = absurd is

-- what the command's own report is then
good_own : (words : List Text) (files : StoreCall) (output line : SinkCall) (puts : List ℕ) (status : ℕ) (own : Report) → (g : IsGood words files output line puts status) → course_of (Some (exec_form g.command)) files.before ≡ Builds g.source
    → Follows (Builds g.source) own → IsCaused files output own → ExecLeaves g.command.units (course_of (Some (exec_form g.command)) files.before) g.command.image g.command.fuel files output own
    → (own ≡ answer.Guest (Exit (status % 256))) ⊎ (own ≡ answer.NoMemory)
good_own words files output line puts status (answer.Guest outcome) g course follows caused (h, ran) =
    let held : Builds h.built.source ≡ Builds g.source = sym (h.built.wanted g.told) ∙ course in
    let same : h.built.source ≡ g.source = cc in
    let reads : IsFirstForm h.puts h.status g.source = subst (IsFirstForm h.puts h.status) same h.built.reads in
    let one : (h.puts ≡ puts) × (h.status ≡ status) = IsFirstForm_unique h.puts puts h.status status g.source reads g.reads in
    let enough : 8 * (length h.puts + 1) ≤ g.command.fuel = subst (λ (xs : List ℕ). 8 * (length xs + 1) ≤ g.command.fuel) (sym one.0) g.enough in
    inl (ap answer.Guest (good_outcome h.image h.puts h.status g.command.fuel outcome h.built.image_runs enough ran.0 ∙ ap (λ s. Exit (s % 256)) one.1))
good_own words files output line puts status answer.WriteFault g course follows caused s = absurd (g.worked.output_worked caused)
good_own words files output line puts status answer.NoMemory g course follows caused s = inr refl
good_own words files output line puts status answer.StoreFault g course follows caused s = absurd (g.worked.store_worked caused)
good_own words files output line puts status answer.NotBuilt g course follows caused s = absurd (follows puts status g.reads)
good_own words files output line puts status other g course follows caused s = absurd follows

pub completes : (words : List Text) (files : StoreCall) (input : SourceCall) (output line : SinkCall) (r : Report) → Answers words files input output line r → (puts : List ℕ) (status : ℕ) → IsGood words files output line puts status → (r ≡ answer.Guest (Exit (status % 256))) ⊎ (r ≡ answer.NoMemory)
completes words files input output line r a puts status g = by (report_is words files input output line r a)
  where
    stands : Stands (Some (exec_form g.command)) files input output a.own
    stands = subst (λ (c : Option Form). Stands c files input output a.own) g.is_command a.stands

    course : course_of (Some (exec_form g.command)) files.before ≡ Builds g.source
    course = sym (ap (λ (c : Option Form). course_of c files.before) g.is_command) ∙ g.course

    follows : Follows (Builds g.source) a.own
    follows = subst (λ (c : Course). Follows c a.own) course (stands.follows g.told)

    own : (r ≡ a.own) → (a.own ≡ answer.Guest (Exit (status % 256))) ⊎ (a.own ≡ answer.NoMemory) → (r ≡ answer.Guest (Exit (status % 256))) ⊎ (r ≡ answer.NoMemory)
    own e (inl is) = inl (e ∙ is)
    own e (inr none) = inr (e ∙ none)

    by : (r ≡ a.own) ⊎ ((r ≡ answer.NoMemory) ⊎ ((r ≡ answer.WriteFault) × SinkRose line)) → (r ≡ answer.Guest (Exit (status % 256))) ⊎ (r ≡ answer.NoMemory)
    by (inl e) = own e (good_own words files output line puts status a.own g course follows stands.caused stands.leaves)
    by (inr (inl none)) = inr none
    by (inr (inr failed)) = absurd (g.worked.line_worked failed.1)

-- ---- where `check` has nothing against its units

sound_own : (words : List Text) (files : StoreCall) (output line : SinkCall) (own : Report) → IsSound words files output line → Follows Checks own → IsCaused files output own → (own ≡ answer.Checked) ⊎ (own ≡ answer.NoMemory)
sound_own words files output line answer.StoreFault g follows caused = absurd (g.worked.store_worked caused)
sound_own words files output line answer.NoMemory g follows caused = inr refl
sound_own words files output line other g follows caused = inl follows

pub checks : (words : List Text) (files : StoreCall) (input : SourceCall) (output line : SinkCall) (r : Report) → Answers words files input output line r → IsSound words files output line → (r ≡ answer.Checked) ⊎ (r ≡ answer.NoMemory)
checks words files input output line r a g = by (report_is words files input output line r a)
  where
    follows : Follows Checks a.own
    follows = subst (λ (c : Course). Follows c a.own) g.course (a.stands.follows g.told)

    own : (r ≡ a.own) → (a.own ≡ answer.Checked) ⊎ (a.own ≡ answer.NoMemory) → (r ≡ answer.Checked) ⊎ (r ≡ answer.NoMemory)
    own e (inl is) = inl (e ∙ is)
    own e (inr none) = inr (e ∙ none)

    by : (r ≡ a.own) ⊎ ((r ≡ answer.NoMemory) ⊎ ((r ≡ answer.WriteFault) × SinkRose line)) → (r ≡ answer.Checked) ⊎ (r ≡ answer.NoMemory)
    by (inl e) = own e (sound_own words files output line a.own g follows a.stands.caused)
    by (inr (inl none)) = inr none
    by (inr (inr failed)) = absurd (g.worked.line_worked failed.1)

-- ---- where the words are `gen`

text_own : (words : List Text) (files : StoreCall) (output line : SinkCall) (number size : ℕ) (own : Report) → IsGenerating words files output line number size → IsCaused files output own → GenPuts (unit_of number size) output own → (own ≡ answer.Generated) ⊎ (own ≡ answer.NoMemory)
text_own words files output line number size answer.Generated g caused puts = inl refl
text_own words files output line number size answer.WriteFault g caused puts = absurd (g.worked.output_worked caused)
text_own words files output line number size answer.NoMemory g caused puts = inr refl
text_own words files output line number size other g caused puts = absurd puts

pub generates : (words : List Text) (files : StoreCall) (input : SourceCall) (output line : SinkCall) (r : Report) → Answers words files input output line r → (number size : ℕ) → IsGenerating words files output line number size → (r ≡ answer.Generated) ⊎ (r ≡ answer.NoMemory)
generates words files input output line r a number size g = by (report_is words files input output line r a)
  where
    stands : Stands (Some (gen number size)) files input output a.own
    stands = subst (λ (c : Option Form). Stands c files input output a.own) g.is_command a.stands

    own : (r ≡ a.own) → (a.own ≡ answer.Generated) ⊎ (a.own ≡ answer.NoMemory) → (r ≡ answer.Generated) ⊎ (r ≡ answer.NoMemory)
    own e (inl is) = inl (e ∙ is)
    own e (inr none) = inr (e ∙ none)

    by : (r ≡ a.own) ⊎ ((r ≡ answer.NoMemory) ⊎ ((r ≡ answer.WriteFault) × SinkRose line)) → (r ≡ answer.Generated) ⊎ (r ≡ answer.NoMemory)
    by (inl e) = own e (text_own words files output line number size a.own g stands.caused stands.leaves.1)
    by (inr (inl none)) = inr none
    by (inr (inr failed)) = absurd (g.worked.line_worked failed.1)

generated_by : (words : List Text) (files : StoreCall) (input : SourceCall) (output : SinkCall) (c : Option Form) → command_of words ≡ c → Stands c files input output answer.Generated → Generated words output
generated_by words files input output None is s = absurd (neither s.leaves.1)
  where
    neither : (answer.Generated ≡ answer.Usage) ⊎ (answer.Generated ≡ answer.NoMemory) → ⊥
    neither (inl e) = cc
    neither (inr e) = cc
generated_by words files input output (Some (check units)) is s = absurd s.leaves.1
generated_by words files input output (Some (interp units fuel)) is s = absurd s.leaves.1
generated_by words files input output (Some (gen number size)) is s = record { number = number; size = size; is_command = is; put = s.leaves.1 }
generated_by words files input output (Some (run_form name base fuel)) is s = absurd s.leaves.1
generated_by words files input output (Some (exec units image marks stack base fuel)) is s = absurd s.leaves
generated_by words files input output (Some other) is s = absurd (neither s.leaves.1)
  where
    neither : (answer.Generated ≡ answer.NotBuilt) ⊎ (answer.Generated ≡ answer.NoMemory) → ⊥
    neither (inl e) = cc
    neither (inr e) = cc

pub generated : (words : List Text) (files : StoreCall) (input : SourceCall) (output line : SinkCall) (r : Report) → Answers words files input output line r → r ≡ answer.Generated → Generated words output
generated words files input output line r a is = by (report_is words files input output line r a)
  where
    by : (r ≡ a.own) ⊎ ((r ≡ answer.NoMemory) ⊎ ((r ≡ answer.WriteFault) × SinkRose line)) → Generated words output
    by (inl own) = generated_by words files input output (command_of words) refl (subst (Stands (command_of words) files input output) (sym own ∙ is) a.stands)
    by (inr (inl none)) = absurd cc
    by (inr (inr failed)) = absurd (let e : r ≡ answer.WriteFault = failed.0 in cc)

-- ---- where the words are `interp`

meaning_own : (words : List Text) (files : StoreCall) (input : SourceCall) (output line : SinkCall) (own : Report) → (g : IsMeaningful words files input output line) → Follows (Interprets g.program) own → IsCaused files output own → IsReadCaused input own → TellsMeaning own ⊎ (own ≡ answer.NoMemory)
meaning_own words files input output line (answer.Meant outcome units peak) g follows caused read = inl (outcome, units, peak, refl)
meaning_own words files input output line answer.ReadFault g follows caused read = absurd (g.input_worked read)
meaning_own words files input output line answer.WriteFault g follows caused read = absurd (g.worked.output_worked caused)
meaning_own words files input output line answer.StoreFault g follows caused read = absurd (g.worked.store_worked caused)
meaning_own words files input output line answer.NoMemory g follows caused read = inr refl
meaning_own words files input output line other g follows caused read = absurd follows

pub interprets : (words : List Text) (files : StoreCall) (input : SourceCall) (output line : SinkCall) (r : Report) → Answers words files input output line r → IsMeaningful words files input output line → TellsMeaning r ⊎ (r ≡ answer.NoMemory)
interprets words files input output line r a g = by (report_is words files input output line r a)
  where
    follows : Follows (Interprets g.program) a.own
    follows = subst (λ (c : Course). Follows c a.own) g.course (a.stands.follows g.told)

    own : (r ≡ a.own) → TellsMeaning a.own ⊎ (a.own ≡ answer.NoMemory) → TellsMeaning r ⊎ (r ≡ answer.NoMemory)
    own e (inl (outcome, units, peak, is)) = inl (outcome, units, peak, e ∙ is)
    own e (inr none) = inr (e ∙ none)

    by : (r ≡ a.own) ⊎ ((r ≡ answer.NoMemory) ⊎ ((r ≡ answer.WriteFault) × SinkRose line)) → TellsMeaning r ⊎ (r ≡ answer.NoMemory)
    by (inl e) = own e (meaning_own words files input output line a.own g follows a.stands.caused a.stands.read_caused)
    by (inr (inl none)) = inr none
    by (inr (inr failed)) = absurd (g.worked.line_worked failed.1)

told_by : (words : List Text) (files : StoreCall) (input : SourceCall) (output : SinkCall) (outcome : Outcome) (units peak : ℕ) (c : Option Form) → command_of words ≡ c → Stands c files input output (answer.Meant outcome units peak) → Interpreted words files input output outcome units peak
told_by words files input output outcome units peak None is s = absurd (neither s.leaves.1)
  where
    neither : (answer.Meant outcome units peak ≡ answer.Usage) ⊎ (answer.Meant outcome units peak ≡ answer.NoMemory) → ⊥
    neither (inl e) = cc
    neither (inr e) = cc
told_by words files input output outcome units peak (Some (check names)) is s = absurd s.leaves.1
told_by words files input output outcome units peak (Some (interp names fuel)) is s =
    let run : HasRun fuel files (course_of (Some (interp names fuel)) files.before) input output (answer.Meant outcome units peak) = s.leaves.1 in
    record {
      names = names;
      fuel = fuel;
      is_command = is;
      program = run.program;
      wanted = λ t. ap (λ (c : Option Form). course_of c files.before) is ∙ run.wanted t;
      meant = run.leaves;
    }
told_by words files input output outcome units peak (Some (run_form name base fuel)) is s = absurd s.leaves.1
told_by words files input output outcome units peak (Some (gen number size)) is s = absurd s.leaves.1
told_by words files input output outcome units peak (Some (exec names image marks stack base fuel)) is s = absurd s.leaves
told_by words files input output outcome units peak (Some other) is s = absurd (neither s.leaves.1)
  where
    neither : (answer.Meant outcome units peak ≡ answer.NotBuilt) ⊎ (answer.Meant outcome units peak ≡ answer.NoMemory) → ⊥
    neither (inl e) = cc
    neither (inr e) = cc

pub interpreted : (words : List Text) (files : StoreCall) (input : SourceCall) (output line : SinkCall) (r : Report) → Answers words files input output line r → (outcome : Outcome) (units peak : ℕ) → r ≡ answer.Meant outcome units peak → Interpreted words files input output outcome units peak
interpreted words files input output line r a outcome units peak is = by (report_is words files input output line r a)
  where
    by : (r ≡ a.own) ⊎ ((r ≡ answer.NoMemory) ⊎ ((r ≡ answer.WriteFault) × SinkRose line)) → Interpreted words files input output outcome units peak
    by (inl own) = told_by words files input output outcome units peak (command_of words) refl (subst (Stands (command_of words) files input output) (sym own ∙ is) a.stands)
    by (inr (inl none)) = absurd cc
    by (inr (inr failed)) = absurd (let e : r ≡ answer.WriteFault = failed.0 in cc)

-- ---- where the words are `run`

outcome_own : (words : List Text) (files : StoreCall) (input : SourceCall) (output line : SinkCall) (own : Report) → (g : IsRunning words files input output line) → Follows (RunsImage g.image) own → IsCaused files output own → IsReadCaused input own → TellsOutcome own ⊎ (own ≡ answer.NoMemory)
outcome_own words files input output line (answer.Guest outcome) g follows caused read = inl (outcome, refl)
outcome_own words files input output line answer.ReadFault g follows caused read = absurd (g.input_worked read)
outcome_own words files input output line answer.WriteFault g follows caused read = absurd (g.worked.output_worked caused)
outcome_own words files input output line answer.StoreFault g follows caused read = absurd (g.worked.store_worked caused)
outcome_own words files input output line answer.NoMemory g follows caused read = inr refl
outcome_own words files input output line other g follows caused read = absurd follows

pub runs_images : (words : List Text) (files : StoreCall) (input : SourceCall) (output line : SinkCall) (r : Report) → Answers words files input output line r → IsRunning words files input output line → TellsOutcome r ⊎ (r ≡ answer.NoMemory)
runs_images words files input output line r a g = by (report_is words files input output line r a)
  where
    course : course_of (command_of words) files.before ≡ RunsImage g.image
    course = ap (λ (c : Option Form). course_of c files.before) g.is_command ∙ ap (run_course g.name) g.course

    follows : Follows (RunsImage g.image) a.own
    follows = subst (λ (c : Course). Follows c a.own) course (a.stands.follows g.told)

    own : (r ≡ a.own) → TellsOutcome a.own ⊎ (a.own ≡ answer.NoMemory) → TellsOutcome r ⊎ (r ≡ answer.NoMemory)
    own e (inl (outcome, is)) = inl (outcome, e ∙ is)
    own e (inr none) = inr (e ∙ none)

    by : (r ≡ a.own) ⊎ ((r ≡ answer.NoMemory) ⊎ ((r ≡ answer.WriteFault) × SinkRose line)) → TellsOutcome r ⊎ (r ≡ answer.NoMemory)
    by (inl e) = own e (outcome_own words files input output line a.own g follows a.stands.caused a.stands.read_caused)
    by (inr (inl none)) = inr none
    by (inr (inr failed)) = absurd (g.worked.line_worked failed.1)

runs_course : (name : Text) (course : ImageCourse) (i : Image) → run_course name course ≡ RunsImage i → course ≡ opened.runs i
runs_course name opened.absent i e = absurd cc
runs_course name (opened.unreadable why) i e = absurd cc
runs_course name (opened.unloadable why) i e = absurd cc
runs_course name (opened.runs j) i e = let same : j ≡ i = cc in ap opened.runs same

run_told : (name : Text) (base fuel : ℕ) (files : StoreCall) (input : SourceCall) (output : SinkCall) (outcome : Outcome) → Stands (Some (run_form name base fuel)) files input output (answer.Guest outcome) → Ran name base fuel files input output outcome
run_told name base fuel files input output outcome s =
    let h : HasGuestRun base fuel files (course_of (Some (run_form name base fuel)) files.before) input output (answer.Guest outcome) = s.leaves.1 in
    record { image = h.image; wanted = λ t. runs_course name (image_course files.before name base) h.image (h.wanted t); ran = h.leaves }

pub ran : (words : List Text) (files : StoreCall) (input : SourceCall) (output line : SinkCall) (r : Report) → Answers words files input output line r → (name : Text) (base fuel : ℕ) (outcome : Outcome) → command_of words ≡ Some (run_form name base fuel) → r ≡ answer.Guest outcome → Ran name base fuel files input output outcome
ran words files input output line r a name base fuel outcome form is = by (report_is words files input output line r a)
  where
    stands : r ≡ a.own → Stands (Some (run_form name base fuel)) files input output (answer.Guest outcome)
    stands own = subst (λ (c : Option Form). Stands c files input output (answer.Guest outcome)) form (subst (Stands (command_of words) files input output) (sym own ∙ is) a.stands)

    by : (r ≡ a.own) ⊎ ((r ≡ answer.NoMemory) ⊎ ((r ≡ answer.WriteFault) × SinkRose line)) → Ran name base fuel files input output outcome
    by (inl own) = run_told name base fuel files input output outcome (stands own)
    by (inr (inl none)) = absurd cc
    by (inr (inr failed)) = absurd (let e : r ≡ answer.WriteFault = failed.0 in cc)
