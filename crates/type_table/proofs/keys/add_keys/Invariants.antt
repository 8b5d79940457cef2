use Rattle.std.proofs.Common.{◌≡◌, ◌++◌, take}
use Rattle.type_table.specs.TypeKeys.{keys_of}
use Rattle.type_table.proofs.keys.add_keys.Given as goal

abbrev pub invariant-loop-ty : goal.invariant-loop-ty
invariant-loop-ty l = l.key.items ≡ l.initial.key.items ++ keys_of (take l.ty-index l.tys)
