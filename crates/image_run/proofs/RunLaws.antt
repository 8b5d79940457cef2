-- What a run of the machine leaves, from what the machine's call answers.
use Rattle.std.proofs.Common.{◌≡◌, ℕ, ◌-◌, ◌<◌, Bool, true, false, IsTrue, List, ◌++◌, length, Option, Some, None, Ok, refl, sym, ap, subst, ◌∙◌}
use Rattle.hx_io.specs.Streams.{AppendsPrefix}
use Rattle.chpe_types.specs.declared.image.Image.{Image}
use Rattle.machine_rules.specs.declared.ends.GuestEnd.{GuestEnd}
use Rattle.machine_rules.specs.declared.ends.GuestEnd.TheVariants as guest
use Rattle.machine_rules.specs.declared.ends.RunEnd.{RunEnd}
use Rattle.machine_rules.specs.declared.ends.RunEnd.TheVariants.{Exit, Trap, Budget, StackSpent, Stuck, ReadFault, WriteFault}
use Rattle.machine_rules.specs.State.{Guest, Code, After, Goes}
use Rattle.machine_rules.specs.Loads.{start, code_in}
use Rattle.machine_rules.specs.Runs.{run_from, act_of, machine_of}
use Rattle.mixed_machine.specs.declared.machine.Machine.{Machine as Kept}
use Rattle.mixed_machine.specs.States.{guest_of, after_with, after_of}
use Rattle.mixed_machine.specs.Answers.{Tells, Runs, RunPuts}
use Rattle.image_run.specs.Courses.{ImageCourse, OpensFile}
use Rattle.image_run.specs.Runs.{HasRun, GoesOn, EndedAs, EndsAs, Streams, IsGone, IsWhole, IsUnread, IsUnwritten, Leaves}
use Rattle.image_run.proofs.TakenLaws.{Went, run_went, gone_of}

input_of : (kept : Option GuestEnd) (g : Guest) (rest : List ℕ) → (machine_of (after_with kept g rest)).input ≡ rest
input_of None g rest = refl
input_of (Some end) g rest = refl

module _ (code : Code) (a : After) (kept : Option GuestEnd) (g : Guest) (s : Streams) (l : (machine_of a).input ≡ s.left) where
  abbrev now : After
  now = after_with kept g s.rest

  -- what was taken
  gone_by : (n : ℕ) → now ≡ (run_from code n a).after → IsGone (run_from code n a) s
  gone_by n e =
      let there : (machine_of (run_from code n a).after).input ≡ s.rest = ap (λ (b : After). (machine_of b).input) (sym e) ∙ input_of kept g s.rest in
      let went : Went s.left s.rest = subst (λ (x : List ℕ). Went x s.rest) l (subst (λ (y : List ℕ). Went (machine_of a).input y) there (run_went code n a)) in
      told_gone n there (gone_of s.left s.rest went)
    where
      told_gone : (n : ℕ) → (machine_of (run_from code n a).after).input ≡ s.rest → ((gone : List ℕ) × (s.left ≡ gone ++ s.rest) × (length gone ≡ length s.left - length s.rest)) → IsGone (run_from code n a) s
      told_gone n there (gone, e, many) = (gone, e, many ∙ ap (λ (y : List ℕ). length s.left - length y) (sym there))

  -- the end
  ended_as : (end : GuestEnd) (after : After) → kept ≡ Some end → now ≡ after → EndedAs end after
  ended_as end after t e = (record { guest = g; input = s.rest }, sym e ∙ ap (λ o. after_with o g s.rest) t)

  goes_on : (after : After) → kept ≡ None → now ≡ after → GoesOn after
  goes_on after t e = (record { guest = g; input = s.rest }, sym e ∙ ap (λ o. after_with o g s.rest) t)

  whole : (n : ℕ) (end : RunEnd) → EndsAs end (run_from code n a).after → now ≡ (run_from code n a).after → (IsTrue s.told → s.new ≡ s.old ++ (run_from code n a).output) → IsWhole (run_from code n a) s end
  whole n end ends e put = record { ends = ends; put = put; gone = gone_by n e }

  unread : (n : ℕ) → kept ≡ None → (b : Bool) → s.told ≡ b → Runs ReadFault code n a now → (IsTrue s.told → RunPuts ReadFault code n a now s.old s.new) → (k : ℕ) × (k < n) × IsUnread (run_from code k a) s
  unread n t true e r p = made (p e)
    where
      made : RunPuts ReadFault code n a now s.old s.new → (k : ℕ) × (k < n) × IsUnread (run_from code k a) s
      made (k, less, same, put) = (k, less, record { goes = goes_on _ t same; put = λ told. put; gone = gone_by k same })
  unread n t false e r p = made r
    where
      made : Runs ReadFault code n a now → (k : ℕ) × (k < n) × IsUnread (run_from code k a) s
      made (k, less, same) = (k, less, record { goes = goes_on _ t same; put = λ told. absurd (let no : true ≡ false = sym told ∙ e in cc); gone = gone_by k same })

  unwritten : (n : ℕ) → kept ≡ None → (b : Bool) → s.told ≡ b → Runs WriteFault code n a now → (IsTrue s.told → RunPuts WriteFault code n a now s.old s.new) → (k : ℕ) × (k < n) × IsUnwritten code (run_from code k a) s
  unwritten n t true e r p = made (p e)
    where
      made : RunPuts WriteFault code n a now s.old s.new → (k : ℕ) × (k < n) × IsUnwritten code (run_from code k a) s
      made (k, less, same, put) = (
        k,
        less,
        record {
          goes = goes_on _ t same;
          put = λ told. subst (λ (b : After). AppendsPrefix (s.old ++ (run_from code k a).output) (act_of code b).put s.new) same put;
          gone = gone_by k same;
        },
      )
  unwritten n t false e r p = made r
    where
      made : Runs WriteFault code n a now → (k : ℕ) × (k < n) × IsUnwritten code (run_from code k a) s
      made (k, less, same) = (k, less, record { goes = goes_on _ t same; put = λ told. absurd (let no : true ≡ false = sym told ∙ e in cc); gone = gone_by k same })

  -- the same as `Leaves`, from this state
  abbrev pub LeavesFrom : ℕ → RunEnd → Type 0
  LeavesFrom n (Exit k) = IsWhole (run_from code n a) s (Exit k)
  LeavesFrom n (Trap k) = IsWhole (run_from code n a) s (Trap k)
  LeavesFrom n StackSpent = IsWhole (run_from code n a) s StackSpent
  LeavesFrom n (Stuck why pc) = IsWhole (run_from code n a) s (Stuck why pc)
  LeavesFrom n Budget = IsWhole (run_from code n a) s Budget
  LeavesFrom n ReadFault = (k : ℕ) × (k < n) × IsUnread (run_from code k a) s
  LeavesFrom n WriteFault = (k : ℕ) × (k < n) × IsUnwritten code (run_from code k a) s

  pub leaves_from : (n : ℕ) (end : RunEnd) → Tells end kept → Runs end code n a now → (IsTrue s.told → RunPuts end code n a now s.old s.new) → LeavesFrom n end
  leaves_from n (Exit k) t r p = whole n (Exit k) (ended_as (guest.Exit k) _ t r) r p
  leaves_from n (Trap k) t r p = whole n (Trap k) (ended_as (guest.Trap k) _ t r) r p
  leaves_from n StackSpent t r p = whole n StackSpent (ended_as guest.StackSpent _ t r) r p
  leaves_from n (Stuck why pc) t r p = whole n (Stuck why pc) (ended_as (guest.Stuck why pc) _ t r) r p
  leaves_from n Budget t r p = whole n Budget (goes_on _ t r) r p
  leaves_from n ReadFault t r p = unread n t s.told refl r p
  leaves_from n WriteFault t r p = unwritten n t s.told refl r p

same_leaves : (i : Image) (base n : ℕ) (kept : Option GuestEnd) (g : Guest) (s : Streams) (end : RunEnd) → LeavesFrom (code_in i base) (Goes (start i base s.left)) kept g s refl n end → Leaves i base n s end
same_leaves i base n kept g s (Exit k) h = h
same_leaves i base n kept g s (Trap k) h = h
same_leaves i base n kept g s StackSpent h = h
same_leaves i base n kept g s (Stuck why pc) h = h
same_leaves i base n kept g s Budget h = h
same_leaves i base n kept g s ReadFault h = h
same_leaves i base n kept g s WriteFault h = h

-- a run of a machine that stood at the start of an image
pub run_leaves : (i : Image) (base n : ℕ) (code : Code) (first : After) (kept : Option GuestEnd) (g : Guest) (s : Streams) (end : RunEnd) → code ≡ code_in i base → first ≡ Goes (start i base s.left)
    → Tells end kept → Runs end code n first (after_with kept g s.rest) → (IsTrue s.told → RunPuts end code n first (after_with kept g s.rest) s.old s.new) → Leaves i base n s end
run_leaves i base n code first kept g s end c f t r p =
    let runs : Runs end (code_in i base) n (Goes (start i base s.left)) (after_with kept g s.rest) =
    subst (λ (x : Code). Runs end x n (Goes (start i base s.left)) (after_with kept g s.rest)) c (subst (λ (x : After). Runs end code n x (after_with kept g s.rest)) f r) in
    let put : IsTrue s.told → RunPuts end (code_in i base) n (Goes (start i base s.left)) (after_with kept g s.rest) s.old s.new = λ told.
    subst (λ (x : Code). RunPuts end x n (Goes (start i base s.left)) (after_with kept g s.rest) s.old s.new) c (subst (λ (x : After). RunPuts end code n x (after_with kept g s.rest) s.old s.new) f (p told)) in
    same_leaves i base n kept g s end (leaves_from (code_in i base) (Goes (start i base s.left)) kept g s refl n end t runs put)

pub has_run : (told : Bool) (course : ImageCourse) (base n : ℕ) (input_told : Bool) (old new : Kept) (s : Streams) (end : RunEnd) → OpensFile told course base (Ok old) → Tells end new.end
    → (IsTrue input_told → Runs end old.code n (after_of old s.left) (after_of new s.rest))
    → (IsTrue s.told → IsTrue input_told → RunPuts end old.code n (after_of old s.left) (after_of new s.rest) s.old s.new) → HasRun told course base n input_told s end
has_run told course base n input_told old new s end (i, wanted, starts) t r p = record {
  image = i;
  wanted = wanted;
  leaves = λ it. run_leaves i base n old.code (after_of old s.left) new.end (guest_of new.guest) s end starts.code (starts.state s.left) t (r it) (λ st. p st it);
}
