use Rattle.std.proofs.Common.{◌≡◌, ℕ, List, ◌∷◌, refl}
use Rattle.std.specs.Prelude.{Bool, true, false, cond}
use Rattle.parse_stmt.specs.declared.state.Frame.{Frame}
use Rattle.parse_stmt.specs.declared.state.Frame.TheVariants as frame
use Rattle.parse_stmt.specs.StmtParts.{StmtPart}
use Rattle.parse_stmt.specs.StmtMachine.{frame_ends, frame_ended, settle}

-- what ends, frame by frame
pub settle_frame : (n : ℕ) (e : Bool) (x : StmtPart) (f : Frame) (fs : List Frame) → settle n e x (f ∷ fs) ≡ cond (frame_ends e f) (settle n e (frame_ended n f x) fs) (x, f ∷ fs)
settle_frame n true x (frame.Then s c) fs = refl
settle_frame n false x (frame.Then s c) fs = refl
settle_frame n e x (frame.Else s c y) fs = refl
settle_frame n e x (frame.While s c) fs = refl
settle_frame n e x (frame.For s h) fs = refl
settle_frame n e x (frame.Do s) fs = refl
settle_frame n e x (frame.Nested s d) fs = refl
