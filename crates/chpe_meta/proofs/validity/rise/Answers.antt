use Rattle.std.proofs.Common.{rules}
use Rattle.std.proofs.lemmas.List.Sorted.{answers_always}
use Rattle.chpe_types.proofs.Neighbours.{answered}
use Rattle.chpe_meta.specs.Allowed.{starts_by}
use Rattle.chpe_meta.proofs.validity.rise.Goals as goal

pub returns : goal.returns
returns c = answered starts_by c.args.rows.now c.is_sorted_by.result (c.is_sorted_by.ensures.cases starts_by (answers_always _ _ _ (λ f a r k q. search rules)))
