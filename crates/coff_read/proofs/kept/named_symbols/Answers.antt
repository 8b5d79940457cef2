use Rattle.std.proofs.Common.{◌≡◌, ap, arith, ◌∙◌}
use Rattle.file_words.specs.Below.{table}
use Rattle.coff_fields.specs.Fields.{symbol_count, section_count}
use Rattle.coff_read.specs.Stages.{named_before}
use Rattle.coff_read.proofs.KeptLaws.{marks_named}
use Rattle.coff_read.proofs.kept.named_symbols.Goals as goal

pub returns : goal.returns
returns c =
    let b = c.args.bytes.now in
    let end : c.loop-i.i ≡ section_count b = omega (arith, c.section_count-i-end.ensures) in
    c.loop-i.invariant ∙ ap (λ i. table (named_before b i) (symbol_count b)) end ∙ marks_named b (symbol_count b)
