use Rattle.std.proofs.Common.{◌≡◌, drop}
use Rattle.std.specs.Option.{option_or}
use Rattle.c_typing.specs.Scopes.{in_blocks}
use Rattle.check_types.proofs.scopes.innermost.Given as goal

abbrev pub invariant-loop-block : goal.invariant-loop-block
invariant-loop-block l = option_or (in_blocks (drop l.block-index l.blocks) l.name) l.found ≡ in_blocks l.blocks l.name
