use Rattle.std.proofs.Common.{◌≡◌, ◌++◌, take, drop}
use Rattle.c_typing.specs.Structs.{completed}
use Rattle.check_decls.proofs.structs.complete_each.Given as goal

abbrev pub invariant-loop-at : goal.invariant-loop-at
invariant-loop-at l = l.tags ≡ completed (take l.at l.initial.tags) l.name ++ drop l.at l.initial.tags
