use Rattle.hx_mem.proofs.Refused.{load_guard, store_guard, fetch_guard, load_unmapped, store_unmapped, fetch_unmapped, load_protected, store_protected, fetch_protected}
use Rattle.hx_mem.proofs.theorems.refusal_laws.Goals as goal

pub returns : goal.returns
returns c = record {
  load_guard = λ m a n b w. load_guard m a b w n;
  store_guard = λ m a n b w. store_guard m a b w n;
  fetch_guard = λ m a n b w. fetch_guard m a b w n;
  load_unmapped = λ m a n b w. load_unmapped m a b w n;
  store_unmapped = λ m a n b w. store_unmapped m a b w n;
  fetch_unmapped = λ m a n b w. fetch_unmapped m a b w n;
  load_protected = λ m a n b w. load_protected m a b w n;
  store_protected = λ m a n b w. store_protected m a b w n;
  fetch_protected = λ m a n b w. fetch_protected m a b w n;
}
