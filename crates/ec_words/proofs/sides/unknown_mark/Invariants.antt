use Rattle.std.proofs.Common.{◌≡◌, drop, map}
use Rattle.ec_words.specs.Markings.{unknown_mark}
use Rattle.ec_words.proofs.sides.unknown_mark.Given as goal

abbrev pub invariant-loop-name : goal.invariant-loop-name
invariant-loop-name l = unknown_mark (map (λ n. n.items) (drop l.name-index l.turned)) (map (λ n. n.now) l.names) ≡ unknown_mark (map (λ n. n.items) l.turned) (map (λ n. n.now) l.names)
