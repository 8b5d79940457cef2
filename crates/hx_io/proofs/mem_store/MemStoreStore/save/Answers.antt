-- What the store holds under each name after the insertion.
use Rattle.std.proofs.Common.{arith}
use Rattle.std.proofs.lemmas.Map.Text.{text_keys}
use Rattle.hx_io.proofs.mem_store.MemStoreStore.save.Goals as goal

pub returns-in-Ok-clause-exact : goal.returns-in-Ok-clause-exact
returns-in-Ok-clause-exact c = (grind (arith, text_keys), λ other apart. grind (arith, text_keys))
