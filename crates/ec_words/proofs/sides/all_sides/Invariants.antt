use Rattle.std.proofs.Common.{◌≡◌, drop, map, ◌++◌}
use Rattle.ec_words.specs.Markings.{marks_of, sides_from}
use Rattle.ec_words.proofs.sides.all_sides.Given as goal

abbrev pub invariant-loop-number : goal.invariant-loop-number
invariant-loop-number l = l.sides.items ++ sides_from (marks_of l.marking) l.number (map (λ n. n.now) (drop l.number l.names)) ≡ sides_from (marks_of l.marking) 0 (map (λ n. n.now) l.names)
