use Rattle.std.proofs.Common.{◌≡◌, drop, map}
use Rattle.ec_words.specs.Markings.{is_among}
use Rattle.ec_words.proofs.sides.is_turned.Given as goal

abbrev pub invariant-loop-n : goal.invariant-loop-n
invariant-loop-n l = is_among (map (λ n. n.items) (drop l.n-index l.turned)) l.name ≡ is_among (map (λ n. n.items) l.turned) l.name
