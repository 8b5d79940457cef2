use Rattle.std.proofs.Common.{◌≡◌, ℕ, ◌<◌, take, false, get_or, length}
use Rattle.std.specs.List.{list_any}
use Rattle.link_resolve.specs.Refusals.{stands_in}
use Rattle.link_resolve.proofs.keeping.named_sections.Given as goal

abbrev pub invariant-loop-symbol : goal.invariant-loop-symbol
invariant-loop-symbol l = record { long : length l.marks.items ≡ l.count; marks : (k : ℕ) → k < l.count → get_or l.marks.items k false ≡ list_any (stands_in k) (take l.symbol-index l.table) }
