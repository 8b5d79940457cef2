use Rattle.std.proofs.Common.{ℕ, sym, subst}
use Rattle.std.specs.Prelude.{nat_le, IsTrue}
use Rattle.ir_core.specs.Valid.{StandOnce}
use Rattle.ir_core.proofs.LabelLaws.{number_tells}
use Rattle.ir_core.proofs.labels.stand_once.Goals as goal

pub returns-in-Some : goal.returns-in-Some
returns-in-Some c =
    let ops = c.args.ops.now in
    let n = c.in-Some.n in
    let labels = c.args.labels in
    let Tells : ℕ → Type 0 = λ k. (IsTrue (nat_le k n) → StandOnce labels ops) × (StandOnce labels ops → IsTrue (nat_le k n)) in
    subst Tells (sym c.from.ensures) (number_tells ops n labels c.in-Some.ensures)
