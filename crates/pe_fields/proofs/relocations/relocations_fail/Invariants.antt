use Rattle.std.proofs.Common.{◌≡◌, ◌≤◌, false}
use Rattle.file_words.specs.Below.{any_below}
use Rattle.pe_fields.specs.Relocations.{block_place, is_bad}
use Rattle.pe_fields.proofs.relocations.relocations_fail.Given as goal

abbrev pub invariant-loop-k : goal.invariant-loop-k
invariant-loop-k l = record {
  place_is : l.place ≡ block_place l.bytes l._k;
  none : any_below (is_bad l.bytes l.size) l._k ≡ false;
  within : l.place ≤ l.size;
}
