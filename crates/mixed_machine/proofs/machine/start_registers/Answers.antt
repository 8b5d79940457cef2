use Rattle.std.proofs.Common.{false}
use Rattle.mixed_machine.proofs.Starting.{start_values}
use Rattle.mixed_machine.proofs.machine.start_registers.Goals as goal

pub returns : goal.returns
returns c = λ i. record { value = λ n. start_values n i; pc = c.args.entry; xf = record { cf = false; zf = false; sf = false; of = false }; af = record { n = false; z = false; c = false; v = false } }
