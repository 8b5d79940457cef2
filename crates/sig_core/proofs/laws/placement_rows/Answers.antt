use Rattle.std.proofs.Common.{refl}
use Rattle.std.specs.Fmt.{digits}
use Rattle.sig_core.proofs.laws.placement_rows.Goals as goal

pub returns-clause-fixed_code : goal.returns-clause-fixed_code
unfolding digits
returns-clause-fixed_code c = refl
