-- The files of a store after calls in a row.
use Rattle.std.proofs.Common.{List, ℕ, ◌∙◌, Option, Result, Ok, Err, inr}
use Rattle.hx_io.specs.declared.outside.StoreFail.{StoreFail}
use Rattle.hx_io.specs.Files.{Files, SameFiles, SameButAt, HoldsOldOrPrefix, Saves}
use Rattle.hx_io.proofs.StreamLaws.{IsPrefix-whole}

pub SameFiles-trans : (a b c : Files) → SameFiles a b → SameFiles b c → SameFiles a c
SameFiles-trans a b c h k name = k name ∙ h name

-- where no file changed, none of another name did
pub SameButAt-SameFiles : (a b : Files) (name : List ℕ) → SameFiles a b → SameButAt a name b
SameButAt-SameFiles a b name h other apart = h other

pub SameButAt-trans : (a b c : Files) (name : List ℕ) → SameButAt a name b → SameButAt b name c → SameButAt a name c
SameButAt-trans a b c name h k other apart = k other apart ∙ h other apart

-- whatever a call of `save` answered, the file holds what it held or a prefix of the bytes
pub HoldsOldOrPrefix-Saves : {A : Type 0} (old : Option (List ℕ)) (bytes : List ℕ) (result : Result A StoreFail) (new : Option (List ℕ)) → Saves old bytes result new → HoldsOldOrPrefix old bytes new
HoldsOldOrPrefix-Saves old bytes (Ok _) new h = inr (bytes, IsPrefix-whole bytes, h)
HoldsOldOrPrefix-Saves old bytes (Err _) new h = h
