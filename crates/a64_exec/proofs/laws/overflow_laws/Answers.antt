use Rattle.a64_exec.proofs.Signs.{overflow_of-adds, overflow_of-subs}
use Rattle.a64_exec.proofs.laws.overflow_laws.Goals as goal

pub returns-clause-adds : goal.returns-clause-adds
returns-clause-adds c = overflow_of-adds

pub returns-clause-subs : goal.returns-clause-subs
returns-clause-subs c = overflow_of-subs
