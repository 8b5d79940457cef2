use Rattle.std.proofs.Common.{◌*◌, take, ap, ◌∙◌, arith}
use Rattle.sig_core.specs.Places.{with_place}
use Rattle.sig_core.specs.Registers.{words_of, stack_words, argument, ec_place}
use Rattle.sig_core.proofs.Steps.{placed_more}
use Rattle.sig_core.proofs.Fitting.{place_same, argument_some, registers_more, bytes_more}
use Rattle.sig_core.proofs.registers.placed_in_registers.Goals as goal

pub loop-class-preserved : goal.loop-class-preserved
loop-class-preserved c =
    let args = c.args.args.now in
    let i = c.loop-class.class-index in
    record {
      registers = registers_more args i c.loop-class.taken.registers c.taken_with-taken.result.registers c.loop-class-test.true c.loop-class.invariant.registers c.taken_with-taken.ensures.registers;
      bytes = bytes_more args i c.loop-class.taken.registers c.loop-class.taken.bytes c.taken_with-taken.result.bytes c.requires.arguments c.loop-class-test.true c.loop-class.invariant.registers c.loop-class.invariant.bytes c.taken_with-taken.ensures.bytes;
      few = let more = c.taken_with-taken.ensures.few in let before = c.loop-class.invariant.few in omega arith;
      placed =
          c.in_ok-add_place.ensures ∙
          (ap (λ p. with_place p c.ec_place.result) c.loop-class.invariant.placed ∙
          placed_more (ec_place args) c.args.back i c.ec_place.result
          (c.ec_place.ensures ∙
          place_same (argument args i) (words_of (take i args)) c.loop-class.taken.registers c.loop-class.taken.bytes (8 * stack_words args i)
          (argument_some args i c.requires.arguments c.loop-class-test.true) c.loop-class.invariant.registers c.loop-class.invariant.bytes));
    }
