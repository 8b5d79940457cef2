use Rattle.std.proofs.Common.{◌∙◌, ap₂}
use Rattle.clap.specs.Simple.{with_rule}
use Rattle.ec_words.proofs.parse.line.Goals as goal

pub returns : goal.returns
returns c =
    c.in_ok-line-7.ensures ∙ ap₂ with_rule
    (c.in_ok-line-6.ensures ∙ ap₂ with_rule
    (c.in_ok-line-5.ensures ∙ ap₂ with_rule
    (c.in_ok-line-4.ensures ∙ ap₂ with_rule
    (c.in_ok-line-3.ensures ∙ ap₂ with_rule
    (c.in_ok-line-2.ensures ∙ ap₂ with_rule
    (c.in_ok-line.ensures ∙ ap₂ with_rule c.empty_line-line.ensures c.positional.ensures.rule)
    c.short_option.ensures.rule) c.short_option-2.ensures.rule) c.long_option.ensures.rule) c.long_option-2.ensures.rule)
    c.long_option-3.ensures.rule) c.long_option-4.ensures.rule
