-- From a file to a machine at its start.
use Rattle.std.proofs.Common.{◌≡◌, ℕ, ◌+◌, ◌<◌, List, length, Option, Some, None, Result, Err, refl, sym, ap, ap₂, subst, ◌∙◌, inl, inr}
use Rattle.std.specs.Prelude.{◌≢◌, ◌⊎◌, IfSome, IsSomeAnd}
use Rattle.std.proofs.lemmas.Bool.{lt-ltb, cond-true, cond-false}
use Rattle.hx_mem.specs.Space.{Space}
use Rattle.chpe_types.specs.declared.image.Image.{Image}
use Rattle.machine_rules.specs.State.{Guest, After, Goes}
use Rattle.machine_rules.specs.Loads.{start_registers, with_stack}
use Rattle.pe_read.specs.declared.refusal.ImageRefusal.{ImageRefusal as Unread}
use Rattle.pe_read.specs.declared.refusal.ImageRefusal.TheVariants as file
use Rattle.pe_read.specs.Refusals.{too_large}
use Rattle.pe_read.specs.Images.{image_of}
use Rattle.pe_loader.specs.declared.loader.Loaded.{Loaded}
use Rattle.pe_loader.specs.declared.refusal.LoadRefusal.{LoadRefusal as Unloaded}
use Rattle.pe_loader.specs.declared.refusal.LoadRefusal.TheVariants as loader
use Rattle.pe_loader.specs.Refusals.{Loads, Refuses as Bars}
use Rattle.pe_loader.specs.Loading.{IsLoadedOf}
use Rattle.mixed_machine.specs.declared.machine.Machine.{Machine}
use Rattle.mixed_machine.specs.Maps.{code_of}
use Rattle.mixed_machine.specs.States.{guest_of, after_with, IsStartOf}
use Rattle.ec_report.specs.declared.kinds.ImageRefusal.TheVariants as kind
use Rattle.image_run.specs.declared.refusal.RunRefusal.{RunRefusal}
use Rattle.image_run.specs.declared.refusal.RunRefusal.TheVariants as refusal
use Rattle.image_run.specs.Courses.{ImageCourse, unreadable, runs, by_import, by_site, load_course, read_course, found_course, course_in, Refuses, unread_course, TellsFile, TellsLoad, IsStart}

-- ---- the file

pub missing : (found : Option (List ℕ)) → found ≡ None → (base : ℕ) → Refuses (found_course found base) refusal.Missing
missing found e base = ap (λ f. found_course f base) e

is_too_large : (b : List ℕ) → 134217728 < length b → image_of b ≡ Err file.TooLarge
unfolding image_of too_large
is_too_large b more = rw (lt-ltb 134217728 (length b) more) refl

pub longer : (found : Option (List ℕ)) → IsSomeAnd found (λ bytes. 134217728 < length bytes) → (base : ℕ) → Refuses (found_course found base) (refusal.Image kind.TooLarge)
longer None h base = absurd h
longer (Some bytes) h base = ap (λ r. read_course r base) (is_too_large bytes h)

-- ---- the image

unread_known : (k : Unread) → ((k ≡ file.NoMemory) × (unread_course k ≡ None)) ⊎ ((k ≢ file.NoMemory) × (unread_course k ≡ Some (unreadable k)))
unread_known file.TooLarge = inr ((λ e. cc), refl)
unread_known file.Short = inr ((λ e. cc), refl)
unread_known file.DosMagic = inr ((λ e. cc), refl)
unread_known file.PeOffset = inr ((λ e. cc), refl)
unread_known file.PeMagic = inr ((λ e. cc), refl)
unread_known file.Machine = inr ((λ e. cc), refl)
unread_known file.OptionalSize = inr ((λ e. cc), refl)
unread_known file.OptionalMagic = inr ((λ e. cc), refl)
unread_known file.Alignment = inr ((λ e. cc), refl)
unread_known file.ImageSize = inr ((λ e. cc), refl)
unread_known file.StackSize = inr ((λ e. cc), refl)
unread_known file.SectionTable = inr ((λ e. cc), refl)
unread_known file.SectionRange = inr ((λ e. cc), refl)
unread_known file.Directory = inr ((λ e. cc), refl)
unread_known file.Import = inr ((λ e. cc), refl)
unread_known file.BaseRelocation = inr ((λ e. cc), refl)
unread_known file.LoadConfig = inr ((λ e. cc), refl)
unread_known file.Metadata = inr ((λ e. cc), refl)
unread_known file.Entry = inr ((λ e. cc), refl)
unread_known file.NoMemory = inl (refl, refl)

pub unread : (is : Result Image Unread) (k : Unread) (r : RunRefusal) → (k ≢ file.NoMemory → is ≡ Err k) → TellsFile k r → (base : ℕ) → Refuses (read_course is base) r
unread is k r h t base = by (unread_known k)
  where
    by : ((k ≡ file.NoMemory) × (unread_course k ≡ None)) ⊎ ((k ≢ file.NoMemory) × (unread_course k ≡ Some (unreadable k))) → Refuses (read_course is base) r
    by (inl (none, e)) = subst (λ (o : Option ImageCourse). IfSome o (λ c. read_course is base ≡ c)) (sym (t ∙ e)) tt
    by (inr (some, e)) = subst (λ (o : Option ImageCourse). IfSome o (λ c. read_course is base ≡ c)) (sym (t ∙ e)) (ap (λ x. read_course x base) (h some))

-- ---- the load

pub loads : (i : Image) (base : ℕ) → Loads i base → load_course i base ≡ runs i
loads i base l = cond-true _ _ _ l.allowed ∙ ap (by_import i) l.imports ∙ ap (by_site i) l.sites

tells : (course : ImageCourse) (o : Option ImageCourse) (r : RunRefusal) → course_in r ≡ o → IfSome o (λ c. course ≡ c) → Refuses course r
tells course o r e h = subst (λ (p : Option ImageCourse). IfSome p (λ c. course ≡ c)) (sym e) h

pub unloaded : (i : Image) (base : ℕ) (why : Unloaded) (r : RunRefusal) → Bars i base why → TellsLoad why r → Refuses (load_course i base) r
unloaded i base loader.BadBase r h t = tells (load_course i base) _ r t (cond-false _ _ _ h)
unloaded i base (loader.UnknownImport name) r h t = tells (load_course i base) _ r t (cond-true _ _ _ h.0 ∙ ap (by_import i) h.1)
unloaded i base (loader.BadRelocation rva) r h t = tells (load_course i base) _ r t (cond-true _ _ _ h.0 ∙ ap (by_import i) h.1 ∙ ap (by_site i) h.2)
unloaded i base loader.NoMemory r h t = tells (load_course i base) _ r t tt

-- ---- the machine

abbrev guest_at : ℕ → Space → ℕ → Guest
guest_at entry mem stack = record { cpu = start_registers entry; mem = with_stack mem stack }

abbrev goes_with : List ℕ → Guest → After
goes_with input g = Goes (record { guest = g; input = input })

pub is_start : (i : Image) (base : ℕ) (l : Loaded) (m : Machine) → IsLoadedOf i base l → IsStartOf l m → IsStart i base m
is_start i base l m of s = record {
  state = λ input.
      ap (λ o. after_with o (guest_of m.guest) input) s.end
      ∙ ap (goes_with input) (s.guest ∙ ap (λ e. guest_at e l.mem l.stack) of.entry ∙ ap₂ (guest_at (base + i.entry)) of.mem of.stack);
  code = s.code ∙ ap₂ code_of of.meta of.at;
}
