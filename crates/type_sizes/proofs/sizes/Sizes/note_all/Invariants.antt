-- What is known is right.
use Rattle.type_sizes.specs.Known.{AreSizes}
use Rattle.type_sizes.proofs.sizes.Sizes.note_all.Given as goal

abbrev pub invariant-loop-part : goal.invariant-loop-part
invariant-loop-part l = AreSizes l.types l.self
