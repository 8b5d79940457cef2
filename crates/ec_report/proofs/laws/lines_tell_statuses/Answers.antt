use Rattle.ec_report.proofs.LineLaws.{same_status}
use Rattle.ec_report.proofs.laws.lines_tell_statuses.Goals as goal

pub returns : goal.returns
returns c = same_status
