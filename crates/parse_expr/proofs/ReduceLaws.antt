use Rattle.std.proofs.Common.{◌≡◌, ℕ, List, ◌∷◌, refl}
use Rattle.std.specs.Prelude.{cond}
use Rattle.parse_expr.specs.declared.parts.Part.{Part}
use Rattle.parse_expr.specs.declared.state.Frame.{Frame}
use Rattle.parse_expr.specs.declared.state.Frame.TheVariants.{Prefix, Casting, Paren, Calling, Indexing, Left, Asking, Choosing, Assigning}
use Rattle.parse_expr.specs.ExprMachine.{binds, closed, reduce}

-- what is closed frame by frame
pub reduce_frame : (n q : ℕ) (p : Part) (f : Frame) (fs : List Frame) → reduce n q p (f ∷ fs) ≡ cond (binds q f) (reduce n q (closed n f p) fs) (p, f ∷ fs)
reduce_frame n q p (Prefix op s) fs = refl
reduce_frame n q p (Casting s i t) fs = refl
reduce_frame n q p (Left op s l) fs = refl
reduce_frame n q p (Choosing c s l) fs = refl
reduce_frame n q p (Assigning op s l) fs = refl
reduce_frame n q p (Paren s) fs = refl
reduce_frame n q p (Calling g s args) fs = refl
reduce_frame n q p (Indexing e s) fs = refl
reduce_frame n q p (Asking c s) fs = refl
