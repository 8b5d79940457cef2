use Rattle.std.proofs.Common.{◌≡◌, ℕ, ◌<◌, take, false, get_or, length}
use Rattle.std.specs.List.{list_any}
use Rattle.link_resolve.specs.Symbols.{is_entry_of}
use Rattle.link_resolve.proofs.listing.entries_of.Given as goal

abbrev pub invariant-loop-row : goal.invariant-loop-row
invariant-loop-row l = record { long : length l.marks.items ≡ l.count; marks : (k : ℕ) → k < l.count → get_or l.marks.items k false ≡ list_any (is_entry_of k) (take l.row-index l.rows) }
