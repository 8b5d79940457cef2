use Rattle.std.proofs.Common.{◌≡◌, ◌≤◌, ◌-◌, length}
use Rattle.flat_machine.specs.Runs.{run_from, flat_run}
use Rattle.flat_machine.specs.States.{guest_of}
use Rattle.flat_machine.proofs.Running.{Progress}
use Rattle.flat_machine.proofs.run.run.Given as goal

abbrev pub invariant-loop-turn : goal.invariant-loop-turn
invariant-loop-turn g l = record {
  size : l.guest.size ≡ length l.fn.image;
  told : g.O.Sink.tells l.out ≡ g.O.Sink.tells l.fn.out;
  counted : g.O.Sink.faults l.fn.out ≤ g.O.Sink.faults l.out;
  ran : Progress (flat_run l.fn.image l.fn.budget) (run_from l.guest.size (l.fn.budget - l._turn) (guest_of l.guest)) (g.O.Sink.tells l.fn.out) (g.O.Sink.bytes l.fn.out) (g.O.Sink.bytes l.out);
}
