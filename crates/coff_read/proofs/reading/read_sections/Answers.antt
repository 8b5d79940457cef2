use Rattle.std.proofs.Common.{sym, ◌∙◌}
use Rattle.coff_read.proofs.StageLaws.{rows_refused}
use Rattle.coff_read.proofs.reading.read_sections.Goals as goal

pub returns-in-Some : goal.returns-in-Some
returns-in-Some c = λ ne. rows_refused c.args.bytes.now c.in-Some.refusal c.requires (sym c.in_ok-comdat_fails.ensures ∙ c.if-branch.false) c.in-Some.ensures
