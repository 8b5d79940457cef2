use Rattle.std.proofs.Common.{◌≡◌, drop}
use Rattle.c_values.specs.Objects.{read_path}
use Rattle.c_values.proofs.objects.find.Given as goal

-- the rest of the path leads on from here
abbrev pub invariant-loop-step : goal.invariant-loop-step
invariant-loop-step l = read_path l.found (drop l.step-index l.path) ≡ read_path l.v l.path
