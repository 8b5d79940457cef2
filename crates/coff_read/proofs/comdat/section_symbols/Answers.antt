use Rattle.std.proofs.Common.{◌≡◌, ap, arith, ◌∙◌}
use Rattle.file_words.specs.Below.{table}
use Rattle.coff_fields.specs.Fields.{symbol_count, section_count}
use Rattle.coff_read.specs.Stages.{start_before}
use Rattle.coff_read.proofs.ComdatLaws.{starts_whole}
use Rattle.coff_read.proofs.comdat.section_symbols.Goals as goal

pub returns : goal.returns
returns c =
    let b = c.args.bytes.now in
    let end : c.loop-j.j ≡ symbol_count b = omega (arith, c.symbol_count-j-end.ensures) in
    c.loop-j.invariant.items_are ∙ ap (λ j. table (start_before b j) (section_count b)) end ∙ starts_whole b (section_count b)
