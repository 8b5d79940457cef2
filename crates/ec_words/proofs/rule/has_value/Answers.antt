use Rattle.std.proofs.Common.{◌∙◌, string_bytes}
use Rattle.ec_words.proofs.RuleLemmas.{short_value}
use Rattle.ec_words.proofs.rule.has_value.Goals as goal

pub returns : goal.returns
returns c = short_value string_bytes c.args.name.now c.loop-rest.rest.now c.in_default.len_below ∙ c.loop-rest.invariant
