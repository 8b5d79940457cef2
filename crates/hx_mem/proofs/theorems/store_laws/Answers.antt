use Rattle.hx_words.specs.LittleEndian.{bytes_of}
use Rattle.hx_mem.proofs.Writes.{code_of-put}
use Rattle.hx_mem.proofs.Laws.{load_after_store, store_ok-writable, load_of-after_store, store_of-after_store, after_refused, fetch_of-after_store, load_lt}
use Rattle.hx_mem.proofs.Places.{IsMemory-after_store}
use Rattle.hx_mem.proofs.theorems.store_laws.Goals as goal

pub returns : goal.returns
returns c = record {
  loaded = λ m a n v h. load_after_store m a n v (store_ok-writable m a n h);
  kept = load_of-after_store;
  rights = store_of-after_store;
  refused = after_refused;
  code = λ m a n v b k. code_of-put m.regions a (bytes_of n v) b k;
  fetches = fetch_of-after_store;
  bound = load_lt;
  whole = IsMemory-after_store;
}
