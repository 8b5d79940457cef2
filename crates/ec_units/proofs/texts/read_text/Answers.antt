use Rattle.std.proofs.Common.{◌≡◌, Ok, Err, sym, ap, ◌∙◌, subst}
use Rattle.c_lex.specs.Reading.{tokens_of}
use Rattle.ec_units.specs.Verdicts.{longest_in}
use Rattle.ec_units.specs.Steps.{ReadsText}
use Rattle.ec_units.proofs.TextLaws.{read_lexical, read_syntactic, read_unit, read_longest}
use Rattle.ec_units.proofs.texts.read_text.Goals as goal

pub returns-in-Err : goal.returns-in-Err
returns-in-Err c = subst (λ r. ReadsText c.args.bytes.now (Err r)) (sym c.of_lexer.ensures) (read_lexical c.args.bytes.now c.in-Err.refusal c.in-Err.ensures.exact)

pub returns-in-Ok-parse : goal.returns-in-Ok-parse
returns-in-Ok-parse c =
    let lexed : tokens_of c.args.bytes.now ≡ Ok c.as_slice.result.now = c.in-Ok.ensures.exact ∙ ap Ok (sym c.as_slice.ensures.value) in (
      read_unit c.args.bytes.now c.as_slice.result.now c.in-Ok-parse.unit lexed c.in-Ok-parse.ensures.exact,
      read_longest c.args.bytes.now c.in-Ok.tokens.items c.in-Ok.ensures.exact ∙ ap longest_in (sym c.as_slice-in-Ok-parse.ensures.value) ∙ sym c.longest_name-longest_name.ensures,
    )

pub returns : goal.returns
returns c =
    let lexed : tokens_of c.args.bytes.now ≡ Ok c.as_slice.result.now = c.in-Ok.ensures.exact ∙ ap Ok (sym c.as_slice.ensures.value) in
    subst (λ r. ReadsText c.args.bytes.now (Err r)) (sym c.of_parser.ensures) (read_syntactic c.args.bytes.now c.as_slice.result.now c.in-Err-parse.refusal lexed c.in-Err-parse.ensures.exact)
