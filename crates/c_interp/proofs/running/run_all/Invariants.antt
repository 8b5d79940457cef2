use Rattle.std.proofs.Common.{◌≡◌, ℕ, ◌≤◌, List}
use Rattle.std.specs.Prelude.{IsTrue}
use Rattle.c_meaning.specs.Start.{setting_of}
use Rattle.c_meaning.specs.Source.{Stand}
use Rattle.c_interp_acts.specs.Going.{measure, Ties}
use Rattle.c_interp.proofs.running.run_all.Given as goal

abbrev pub invariant-loop-outcome : goal.invariant-loop-outcome
invariant-loop-outcome g l = record {
  left : l.machine.left ≤ l.fn.machine.left;
  told : g.I.Source.tells l.input ≡ g.I.Source.tells l.fn.input;
  sink : g.O.Sink.tells l.out ≡ g.O.Sink.tells l.fn.out;
  read : g.I.Source.faults l.fn.input ≤ g.I.Source.faults l.input;
  written : g.O.Sink.faults l.fn.out ≤ g.O.Sink.faults l.out;
  ties : IsTrue (g.I.Source.tells l.fn.input) → (run : Stand) (whole first : List ℕ) →
      Ties (setting_of l.p) run whole (g.I.Source.left l.fn.input) (g.O.Sink.tells l.fn.out) first (g.O.Sink.bytes l.fn.out) l.fn.start l.fn.machine →
      Ties (setting_of l.p) run whole (g.I.Source.left l.input) (g.O.Sink.tells l.out) first (g.O.Sink.bytes l.out) l.now l.machine;
}

abbrev pub decreases-loop-outcome : goal.decreases-loop-outcome
decreases-loop-outcome g l = measure l.now l.machine
