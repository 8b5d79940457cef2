-- The fixed arguments, and the words so far.
use Rattle.std.proofs.Common.{◌≡◌, ◌++◌}
use Rattle.std.proofs.Math.ListN.{replicate}
use Rattle.sig_core.specs.declared.classes.Class.TheVariants.{Word}
use Rattle.sig_core.proofs.slots.all_args.Given as goal

abbrev pub invariant-loop-extra : goal.invariant-loop-extra
invariant-loop-extra l = l.args.items ≡ l.s.args ++ replicate l._extra Word
