use Rattle.std.proofs.Common.{◌∙◌, ◌&&◌, Bool, ap₂, string_bytes}
use Rattle.ec_words.proofs.RuleLemmas.{line_is}
use Rattle.ec_words.proofs.rule.is_line.Goals as goal

pub returns : goal.returns
returns c =
    ap₂ (λ (a b : Bool). a && b) (ap₂ (λ (a b : Bool). a && b) c.takes_count.ensures c.are_options.ensures) c.has_required.ensures
    ∙ line_is string_bytes c.args.verb c.args.words.now c.count_operands-count.result c.count_operands-count.ensures.within c.count_operands-count.ensures.front c.count_operands-count.ensures.back
