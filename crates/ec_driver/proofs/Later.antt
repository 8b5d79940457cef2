-- What stands from before a call on that changed no file.
use Rattle.std.proofs.Common.{◌≡◌, ℕ, ◌≤◌, IsTrue, List, sym, ap, subst, ◌∙◌, inl, inr, Option}
use Rattle.hx_words.specs.Counts.{Rose}
use Rattle.hx_io.specs.Files.{Files, SameFiles, SameButAt, HoldsOldOrPrefix}
use Rattle.hx_io.proofs.FaultLaws.{Rose-later}
use Rattle.ec_report.specs.declared.reports.Report.{Report}
use Rattle.ec_report.specs.declared.reports.Report.TheVariants as answer
use Rattle.ec_driver.specs.Courses.{Course}
use Rattle.ec_driver.specs.Answers.{StoreCall, SinkCall, IsCaused, IsBuilt, NothingSaved, MaySave, HasImage, BuildLeaves}
use Rattle.ec_driver.specs.Plans.{BuildStands}

-- a store that was loaded from: its files are as before, and its count didn't fall
pub record Loaded (first later : StoreCall) : Type 0 where
  pub told : later.told ≡ first.told
  pub same : IsTrue first.told → SameFiles first.before later.before
  pub end : later.after ≡ first.after
  pub counted : first.faults_before ≤ later.faults_before
  pub faults : later.faults_after ≡ first.faults_after

told_later : (first later : StoreCall) → Loaded first later → IsTrue first.told → IsTrue later.told
told_later first later l t = subst IsTrue (sym l.told) t

nothing_later : (first later : StoreCall) → Loaded first later → NothingSaved later → NothingSaved first
nothing_later first later l nothing t name = sym (ap (λ (f : Files). f name) l.end) ∙ nothing (told_later first later l t) name ∙ l.same t name

built_later : (first later : StoreCall) (course : Course) (image puts : List ℕ) (status : ℕ) → Loaded first later → IsBuilt later.told course image puts status → IsBuilt first.told course image puts status
built_later first later course image puts status l b = record {
  source = b.source;
  wanted = λ t. b.wanted (told_later first later l t);
  reads = b.reads;
  image_runs = b.image_runs;
}

others_later : (first later : StoreCall) (name : List ℕ) → Loaded first later → (IsTrue later.told → SameButAt later.before name later.after) → IsTrue first.told → SameButAt first.before name first.after
others_later first later name l others t other apart = sym (ap (λ (f : Files). f other) l.end) ∙ others (told_later first later l t) other apart ∙ l.same t other

kept_later : (first later : StoreCall) (name image : List ℕ) → Loaded first later → (IsTrue later.told → HoldsOldOrPrefix (later.before name) image (later.after name)) → IsTrue first.told → HoldsOldOrPrefix (first.before name) image (first.after name)
kept_later first later name image l kept t =
    let here : HoldsOldOrPrefix (later.before name) image (later.after name) = kept (told_later first later l t) in
    subst (λ (f : Files). HoldsOldOrPrefix (first.before name) image (f name)) l.end (subst (λ (o : Option (List ℕ)). HoldsOldOrPrefix o image (later.after name)) (l.same t name) here)

may_later : (first later : StoreCall) (course : Course) (name : List ℕ) → Loaded first later → MaySave later course name → MaySave first course name
may_later first later course name l (inl nothing) = inl (nothing_later first later l nothing)
may_later first later course name l (inr (image, puts, status, built, partly)) =
    inr (
      image,
      puts,
      status,
      built_later first later course image puts status l built,
      record { others = others_later first later name l partly.others; kept = kept_later first later name image l partly.kept },
    )

image_later : (first later : StoreCall) (course : Course) (name : List ℕ) → Loaded first later → HasImage later course name → HasImage first course name
image_later first later course name l h = record {
  image = h.image;
  puts = h.puts;
  status = h.status;
  built = built_later first later course h.image h.puts h.status l h.built;
  saved = record {
    others = others_later first later name l h.saved.others;
    whole = λ t. sym (ap (λ (f : Files). f name) l.end) ∙ h.saved.whole (told_later first later l t);
  };
}

rose_later : (first later : StoreCall) → Loaded first later → Rose later.faults_before later.faults_after → Rose first.faults_before first.faults_after
rose_later first later l rose = subst (λ n. Rose first.faults_before n) l.faults (Rose-later _ _ _ l.counted rose)

-- what a building leaves, it leaves from before the loads on
pub leaves_later : (first later : StoreCall) (course : Course) (name : List ℕ) (fuel : ℕ) (output : SinkCall) (r : Report) → Loaded first later → BuildLeaves course name fuel later output r → BuildLeaves course name fuel first output r
unfolding image_later
leaves_later first later course name fuel output (answer.Guest outcome) l (h, ran) = (image_later first later course name l h, ran)
leaves_later first later course name fuel output answer.WriteFault l (h, ran) = (image_later first later course name l h, ran)
leaves_later first later course name fuel output answer.NoMemory l (may, put) = (may_later first later course name l may, put)
leaves_later first later course name fuel output answer.StoreFault l (may, put) = (may_later first later course name l may, put)
leaves_later first later course name fuel output other l s = absurd s

pub caused_later : (first later : StoreCall) (output : SinkCall) (r : Report) → Loaded first later → IsCaused later output r → IsCaused first output r
caused_later first later output answer.StoreFault l rose = rose_later first later l rose
caused_later first later output answer.WriteFault l rose = rose
caused_later first later output other l u = u

pub stands_later : (first later : StoreCall) (course : Course) (name : List ℕ) (fuel : ℕ) (output : SinkCall) (r : Report) → Loaded first later → BuildStands course name fuel later output r → BuildStands course name fuel first output r
stands_later first later course name fuel output r l s = record {
  leaves = leaves_later first later course name fuel output r l s.leaves;
  caused = caused_later first later output r l s.caused;
}
