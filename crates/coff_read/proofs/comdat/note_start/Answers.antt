use Rattle.std.proofs.Common.{◌≡◌, ◌≤◌, ◌-◌, length, arith, ◌∙◌}
use Rattle.file_words.proofs.BelowLaws.{table_long}
use Rattle.coff_fields.specs.Fields.{section_count}
use Rattle.coff_read.specs.Stages.{start_before}
use Rattle.coff_read.proofs.ComdatLaws.{past_noted}
use Rattle.coff_read.proofs.comdat.note_start.Goals as goal

pub returns-then-k-starts : goal.returns-then-k-starts
returns-then-k-starts c =
    let b = c.args.bytes.now in
    let long : length c.args.starts.now ≡ section_count b = table_long (start_before b c.args.j) (section_count b) c.args.starts.now c.requires.before in
    c.requires.before ∙ past_noted b c.args.j (section_count b) c.start_section-section.result c.start_section-section.ensures (omega (arith, long))
