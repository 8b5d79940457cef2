-- The places so far, and what they took.
use Rattle.std.proofs.Common.{◌≡◌, ◌*◌, ◌≤◌, min, take}
use Rattle.sig_core.specs.Places.{placed_by}
use Rattle.sig_core.specs.Registers.{words_of, stack_words, ec_place}
use Rattle.sig_core.proofs.registers.placed_in_registers.Given as goal

abbrev pub invariant-loop-class : goal.invariant-loop-class
invariant-loop-class l = record {
  registers : l.taken.registers ≡ min 8 (words_of (take l.class-index l.args));
  bytes : l.taken.bytes ≡ 8 * stack_words l.args l.class-index;
  few : l.taken.bytes ≤ 16 * l.class-index;
  placed : l.placed ≡ placed_by (ec_place l.args) l.fn.back l.class-index;
}
