-- The codes so far.
use Rattle.std.proofs.Common.{◌≡◌, take}
use Rattle.std.specs.List.{flat_map}
use Rattle.sig_core.specs.Codes.{class_code}
use Rattle.sig_core.proofs.codes.args_code.Given as goal

abbrev pub invariant-loop-class : goal.invariant-loop-class
invariant-loop-class l = l.code.items ≡ flat_map class_code (take l.class-index l.args)
