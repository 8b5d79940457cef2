use Rattle.std.proofs.Common.{◌≡◌, ◌≤◌, None, IsTrue}
use Rattle.mixed_machine.specs.States.{after_of}
use Rattle.mixed_machine.proofs.Running.{Progress}
use Rattle.mixed_machine.proofs.machine.Machine.run.Given as goal

abbrev pub invariant-loop-turn : goal.invariant-loop-turn
invariant-loop-turn g l = record {
  code : l.self.code ≡ l.fn.self.code;
  going : l.self.end ≡ None;
  input_told : g.I.Source.tells l.input ≡ g.I.Source.tells l.fn.input;
  out_told : g.O.Sink.tells l.out ≡ g.O.Sink.tells l.fn.out;
  input_counted : g.I.Source.faults l.fn.input ≤ g.I.Source.faults l.input;
  out_counted : g.O.Sink.faults l.fn.out ≤ g.O.Sink.faults l.out;
  ran : IsTrue (g.I.Source.tells l.fn.input) → Progress l.fn.self.code l.fn.budget l._turn (after_of l.fn.self (g.I.Source.left l.fn.input)) (after_of l.self (g.I.Source.left l.input)) (g.O.Sink.tells l.fn.out) (g.O.Sink.bytes l.fn.out) (g.O.Sink.bytes l.out);
}
