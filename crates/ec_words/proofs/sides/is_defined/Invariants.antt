use Rattle.std.proofs.Common.{◌≡◌, drop, map}
use Rattle.ec_words.specs.Markings.{is_among}
use Rattle.ec_words.proofs.sides.is_defined.Given as goal

abbrev pub invariant-loop-n : goal.invariant-loop-n
invariant-loop-n l = is_among (map (λ n. n.now) (drop l.n-index l.names)) l.name ≡ is_among (map (λ n. n.now) l.names) l.name
