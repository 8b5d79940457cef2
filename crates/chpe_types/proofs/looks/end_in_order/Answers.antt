use Rattle.std.proofs.Common.{rules}
use Rattle.std.proofs.lemmas.List.Sorted.{answers_always}
use Rattle.chpe_types.specs.Looks.{ends_by}
use Rattle.chpe_types.proofs.Neighbours.{answered}
use Rattle.chpe_types.proofs.looks.end_in_order.Goals as goal

pub returns : goal.returns
returns c = answered ends_by c.args.ranges.now c.is_sorted_by.result (c.is_sorted_by.ensures.cases ends_by (answers_always _ _ _ (λ f a r k q. search rules)))
