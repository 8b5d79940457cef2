-- What stands once a unit is built.
use Rattle.std.proofs.Common.{◌≡◌, ℕ, ◌+◌, ◌*◌, ◌^◌, ◌<◌, Bool, IsTrue, List, [], length, append-nil, refl, sym, ap, subst, ◌∙◌, arith, inr, Some, Option}
use Rattle.hx_io.specs.Files.{HoldsOldOrPrefix}
use Rattle.first_form.specs.FirstForm.{IsFirstForm, AreBelow}
use Rattle.first_form.specs.FirstCode.{code_of}
use Rattle.first_form.proofs.LengthLaws.{IsFirstForm-below}
use Rattle.first_form.proofs.CodeLaws.{code_size}
use Rattle.flat_machine.specs.Runs.{flat_run}
use Rattle.ec_report.specs.declared.reports.Report.{Report}
use Rattle.ec_report.specs.declared.reports.Report.TheVariants as answer
use Rattle.ec_driver.specs.Courses.{Course, Builds}
use Rattle.ec_driver.specs.Answers.{StoreCall, SinkCall, StoreRose, SinkRose, IsImage, IsBuilt, IsPartlySaved, IsSaved, RunStands}
use Rattle.ec_driver.specs.Plans.{BuildStands}
use Rattle.ec_driver.proofs.FirstRuns.{code_is_image}

-- what is whole is a prefix of itself
whole_kept : (old new : Option (List ℕ)) (image : List ℕ) → new ≡ Some image → HoldsOldOrPrefix old image new
whole_kept old new image e = inr (image, ([], sym (append-nil image)), e)

partly : (files : StoreCall) (name image : List ℕ) → IsSaved files name image → IsPartlySaved files name image
partly files name image s = record { others = s.others; kept = λ t. whole_kept _ _ image (s.whole t) }

pub saved_and_run : (course : Course) (name : List ℕ) (fuel : ℕ) (files : StoreCall) (output : SinkCall) (image puts : List ℕ) (status : ℕ) (r : Report) → IsBuilt files.told course image puts status → IsSaved files name image → RunStands (flat_run image fuel) output r → (r ≡ answer.WriteFault → SinkRose output) → BuildStands course name fuel files output r
saved_and_run course name fuel files output image puts status (answer.Guest outcome) built saved s rose = record { leaves = (record { image = image; puts = puts; status = status; built = built; saved = saved }, s); caused = tt }
saved_and_run course name fuel files output image puts status answer.WriteFault built saved s rose = record { leaves = (record { image = image; puts = puts; status = status; built = built; saved = saved }, s); caused = rose refl }
saved_and_run course name fuel files output image puts status answer.NoMemory built saved s rose = record { leaves = (inr (image, puts, status, built, partly files name image saved), s); caused = tt }
saved_and_run course name fuel files output image puts status other built saved s rose = absurd s

pub save_refused : (course : Course) (name : List ℕ) (fuel : ℕ) (files : StoreCall) (output : SinkCall) (image puts : List ℕ) (status : ℕ) → IsBuilt files.told course image puts status → IsPartlySaved files name image → output.after ≡ output.before → StoreRose files → BuildStands course name fuel files output answer.StoreFault
save_refused course name fuel files output image puts status built partly same rose = record { leaves = (inr (image, puts, status, built, partly), same); caused = rose }

pub save_unheld : (course : Course) (name : List ℕ) (fuel : ℕ) (files : StoreCall) (output : SinkCall) (image puts : List ℕ) (status : ℕ) → IsBuilt files.told course image puts status → IsPartlySaved files name image → output.after ≡ output.before → BuildStands course name fuel files output answer.NoMemory
save_unheld course name fuel files output image puts status built partly same = record { leaves = (inr (image, puts, status, built, partly), λ t. same); caused = tt }

-- the code of a unit that was read is its image
pub built_from : (told : Bool) (course : Course) (source image puts : List ℕ) (status : ℕ) → (IsTrue told → course ≡ Builds source) → IsFirstForm puts status source → image ≡ code_of puts status → length image < 2 ^ 28 → IsBuilt told course image puts status
built_from told course source image puts status wanted reads coded short =
    let below : AreBelow puts × (status < 1000) = IsFirstForm-below puts status source reads in
    let size : length image ≡ 28 + 22 * length puts = ap (λ (xs : List ℕ). length xs) coded ∙ code_size puts status in
    let few : length puts < 2 ^ 24 = omega (arith, size, short) in
    record {
      source = source;
      wanted = wanted;
      reads = reads;
      image_runs = subst (λ (xs : List ℕ). IsImage xs puts status) (sym coded) (code_is_image puts status below.0 below.1 few);
    }
