use Rattle.check_types.proofs.forms.complete_or_void.Goals as goal
use Rattle.check_types.proofs.FormLaws.{result_complete, result_incomplete}

pub returns-then-complete : goal.returns-then-complete
returns-then-complete c = λ t. result_complete c.args.at c.args.ty c.args.complete t c.if-complete.true

pub returns-else-complete : goal.returns-else-complete
returns-else-complete c = λ t. rw c.refusal.ensures (result_incomplete c.args.at c.args.ty c.args.complete t c.if-complete.false)
