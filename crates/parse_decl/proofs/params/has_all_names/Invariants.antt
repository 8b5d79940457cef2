use Rattle.std.proofs.Common.{◌≡◌, drop}
use Rattle.parse_decl.specs.Params.{all_named}
use Rattle.parse_decl.proofs.params.has_all_names.Given as goal

abbrev pub invariant-loop-param : goal.invariant-loop-param
invariant-loop-param l = all_named l.list ≡ all_named (drop l.param-index l.list)
