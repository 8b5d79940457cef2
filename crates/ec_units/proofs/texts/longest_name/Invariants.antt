use Rattle.std.proofs.Common.{◌≡◌, drop}
use Rattle.std.specs.Prelude.{max}
use Rattle.ec_units.specs.Verdicts.{longest_in}
use Rattle.ec_units.proofs.texts.longest_name.Given as goal

abbrev pub invariant-loop-token : goal.invariant-loop-token
invariant-loop-token l = max l.most (longest_in (drop l.token-index l.tokens)) ≡ longest_in l.tokens
