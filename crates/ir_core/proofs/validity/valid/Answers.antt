use Rattle.std.proofs.Common.{List, sym, ◌∙◌, subst}
use Rattle.std.specs.Prelude.{IsTrue}
use Rattle.ir_core.specs.declared.operations.IrOp.{IrOp}
use Rattle.ir_core.specs.Valid.{StandOnce}
use Rattle.ir_core.proofs.ValidLaws.{labels_tell}
use Rattle.ir_core.proofs.validity.valid.Goals as goal

pub returns-then-is_shaped : goal.returns-then-is_shaped
returns-then-is_shaped c =
    let f = c.args.f.now in
    let b = c.stand_once.result in
    let Tells : List IrOp → Type 0 = λ ops. (IsTrue b → StandOnce f.labels ops) × (StandOnce f.labels ops → IsTrue b) in
    labels_tell f b (sym c.if-is_shaped.true ∙ c.is_shaped.ensures) (subst Tells c.as_slice.ensures c.stand_once.ensures)
