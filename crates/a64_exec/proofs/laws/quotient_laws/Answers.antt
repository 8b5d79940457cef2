use Rattle.a64_exec.proofs.Signs.{signed_quotient_of-int_div}
use Rattle.a64_exec.proofs.laws.quotient_laws.Goals as goal

pub returns : goal.returns
returns c = signed_quotient_of-int_div
