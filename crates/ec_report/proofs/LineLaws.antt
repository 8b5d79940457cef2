-- A line tells the status: its first bytes do.
use Rattle.std.proofs.Common.{ℕ, List, [], ◌∷◌, ◌++◌, ◌≡◌, refl, sym, ◌∙◌, ap}
use Rattle.std.specs.Prelude.{◌==◌, if◌then◌else◌}
use Rattle.ec_report.specs.Reports.{line_of, status_number, outcome_text, outcome_status}
use Rattle.ec_report.specs.declared.reports.Report.{Report}
use Rattle.ec_report.specs.declared.reports.Report.TheVariants.{Built, Checked, Generated, Compared, Guest, Meant, Usage, Unit, Limit, Mark, Image, Load, Missing, NotBuilt, StoreFault, ReadFault, WriteFault, NoMemory}
use Rattle.ec_report.specs.declared.kinds.Outcome.{Outcome}
use Rattle.ec_report.specs.declared.kinds.Outcome.TheVariants.{Exit, Trap, Budget, StackSpent, Stuck}

abbrev pub first_of : List ℕ → ℕ
first_of [] = 0
first_of (x ∷ xs) = x

abbrev pub rest_of : List ℕ → List ℕ
rest_of [] = []
rest_of (x ∷ xs) = xs

abbrev pub third_of : List ℕ → ℕ
third_of xs = first_of (rest_of (rest_of xs))

abbrev pub second_of : List ℕ → ℕ
second_of xs = first_of (rest_of xs)

-- b: built or budget; s: stack spent, stuck or store fault; n: not built or no memory
abbrev pub by_third : ℕ → ℕ → ℕ
by_third c t =
    if c == 98 then (if t == 100 then 11 else 0)
    else if c == 115 then (if t == 97 then 12 else if t == 117 then 13 else 30)
    else if t == 116 then 29 else 33

-- u: usage or unit; l: limit or load; m: mark or missing
abbrev pub by_second : ℕ → ℕ → ℕ
by_second c t =
    if c == 117 then (if t == 115 then 2 else 20)
    else if c == 108 then (if t == 105 then 21 else 26)
    else if t == 97 then 22 else 27

-- t: trap; i: image; r: read fault; w: write fault; else a line of success
abbrev pub by_first : ℕ → List ℕ → ℕ
by_first c xs =
    if c == 98 then by_third c (third_of xs)
    else if c == 115 then by_third c (third_of xs)
    else if c == 110 then by_third c (third_of xs)
    else if c == 117 then by_second c (second_of xs)
    else if c == 108 then by_second c (second_of xs)
    else if c == 109 then by_second c (second_of xs)
    else if c == 116 then 10
    else if c == 105 then 25
    else if c == 114 then 31
    else if c == 119 then 32
    else 0

abbrev pub status_by : List ℕ → ℕ
status_by xs = by_first (first_of xs) xs

pub outcome_told : (outcome : Outcome) → (rest : List ℕ) → status_by (outcome_text outcome ++ rest) ≡ outcome_status outcome
outcome_told (Exit k) rest = refl
outcome_told (Trap k) rest = refl
outcome_told Budget rest = refl
outcome_told StackSpent rest = refl
outcome_told (Stuck why pc) rest = refl

pub told : (r : Report) → status_by (line_of r) ≡ status_number r
told Built = refl
told Checked = refl
told Generated = refl
told Compared = refl
told (Guest outcome) = outcome_told outcome (10 ∷ [])
told (Meant outcome units peak) = outcome_told outcome _
told Usage = refl
told (Unit i refusal) = refl
told (Limit which count) = refl
told (Mark name) = refl
told (Image why) = refl
told (Load why) = refl
told (Missing name) = refl
told NotBuilt = refl
told StoreFault = refl
told ReadFault = refl
told WriteFault = refl
told NoMemory = refl

pub same_status : (r s : Report) → line_of r ≡ line_of s → status_number r ≡ status_number s
same_status r s e = sym (told r) ∙ (ap status_by e ∙ told s)
