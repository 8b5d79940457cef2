use Rattle.std.proofs.Common.{rules}
use Rattle.std.proofs.lemmas.List.Sorted.{answers_always}
use Rattle.chpe_types.specs.Looks.{comes_before}
use Rattle.chpe_types.proofs.Neighbours.{answered}
use Rattle.chpe_types.proofs.looks.rise.Goals as goal

pub returns : goal.returns
returns c = answered comes_before c.args.redirects.now c.is_sorted_by.result (c.is_sorted_by.ensures.cases comes_before (answers_always _ _ _ (λ f a r k q. search rules)))
