-- The first tag of the name.
use Rattle.std.proofs.Common.{◌∙◌}
use Rattle.check_types.proofs.ScopeLaws.{found_tag}
use Rattle.check_types.proofs.scopes.find_tag.Goals as goal

pub returns : goal.returns
returns c = c.find_row.ensures ∙ found_tag c.args.unit.now.tags c.args.name.now
