use Rattle.std.proofs.Common.{◌≡◌, ap, arith, ◌∙◌}
use Rattle.file_words.specs.Below.{table}
use Rattle.coff_fields.specs.Fields.{symbol_count, site_count}
use Rattle.coff_read.specs.Stages.{named_until}
use Rattle.coff_read.proofs.KeptLaws.{marks_all}
use Rattle.coff_read.proofs.kept.mark_sites.Goals as goal

pub returns : goal.returns
returns c =
    let b = c.args.bytes.now in
    let end : c.loop-r.r ≡ site_count b c.args.i = omega (arith, c.site_count-r-end.ensures) in
    c.loop-r.invariant ∙ ap (λ r. table (named_until b c.args.i r) (symbol_count b)) end ∙ marks_all b c.args.i (symbol_count b) c.requires.kept
