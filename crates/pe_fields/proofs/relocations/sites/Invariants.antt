use Rattle.std.proofs.Common.{◌≡◌, ◌≤◌}
use Rattle.file_words.specs.Below.{gathered}
use Rattle.pe_fields.specs.Relocations.{block_place, is_block, sites_in}
use Rattle.pe_fields.proofs.relocations.sites.Given as goal

abbrev pub invariant-loop-k : goal.invariant-loop-k
invariant-loop-k l = record {
  place_is : l.place ≡ block_place l.bytes l._k;
  found_is : l.found ≡ gathered (is_block l.bytes l.size) (sites_in l.bytes) l._k;
  within : l.place ≤ l.size;
}
