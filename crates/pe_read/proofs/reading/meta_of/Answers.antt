use Rattle.std.proofs.Common.{◌∙◌, ap, sym}
use Rattle.chpe_meta.specs.Reading.{meta_of}
use Rattle.pe_read.proofs.MetaLaws.{meta_read}
use Rattle.pe_read.proofs.reading.meta_of.Goals as goal

pub returns-else-code_fails : goal.returns-else-code_fails
returns-else-code_fails c =
    let at = c.header_rva-at.result in
    meta_read c.args.bytes.now c.args.sections.now at c.requires.known c.header_rva-at.ensures c.in-Ok.meta (ap (λ r. meta_of r at) (sym c.rest_at.ensures) ∙ c.in-Ok.ensures) (sym c.code_fails.ensures ∙ c.if-code_fails.false)
