-- Which calls of a failing object fail.
use Rattle.std.specs.Prelude.{ℕ, ◌+◌, ◌^◌, ◌<◌, min, List, Contains, Option, Some, None, Bool, true, false, Result, Ok, Err}
use Rattle.hx_io.specs.declared.outside.StoreFail.{StoreFail}
use Rattle.hx_io.specs.declared.outside.StoreFail.TheVariants.{Failed, NoMemory}
use Rattle.hx_io.specs.Faults.{counted}

-- the numbers, from 0, of the calls that fail, how many calls there were, and how many failed.
-- Both counts stop at the end of what 64 bits number
pub record Plan : Type 0 where
  pub fails : List ℕ
  pub calls : ℕ
  pub faults : ℕ

-- the next call is one that fails. After call 2^64 - 1 none is
abbrev pub FailsNext : Plan → Type 0
FailsNext plan = (plan.calls < 2 ^ 64) × Contains plan.fails plan.calls

-- the plan after a call that failed or not
abbrev pub after_call : Plan → Bool → Plan
after_call plan failed = record {
  fails = plan.fails;
  calls = min (plan.calls + 1) (2 ^ 64);
  faults = counted plan.faults failed;
}

-- how many calls there were, by the number of the next one, where 64 bits have it
abbrev pub calls_before : Option ℕ → ℕ
calls_before None = 2 ^ 64
calls_before (Some number) = number

-- the plan of an object that is new
abbrev pub new_plan : List ℕ → Plan
new_plan fails = record { fails = fails; calls = 0; faults = 0 }

-- whether a store answered that it failed
abbrev pub is_failed : {A : Type 0} → Result A StoreFail → Bool
is_failed (Ok _) = false
is_failed (Err Failed) = true
is_failed (Err NoMemory) = false
