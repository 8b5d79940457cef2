use Rattle.std.proofs.Common.{◌≡◌, ◌∙◌, ◌&&◌, true, false, ap, ap₂, sym, string_bytes, map}
use Rattle.ec_words.specs.Table.{options_of}
use Rattle.ec_words.specs.Rule.{are_options}
use Rattle.ec_words.proofs.RuleLemmas.{pair_options, pair_is, rest_after, short_options}
use Rattle.ec_words.proofs.rule.are_options.Goals as goal

pub returns : goal.returns
returns c = c.is_empty.ensures ∙ short_options string_bytes (options_of c.args.verb) c.loop-rest.rest.now c.in_default.len_below ∙ c.loop-rest.invariant

pub returns-then-not-is_option : goal.returns-then-not-is_option
returns-then-not-is_option c =
    let pair = pair_options string_bytes (options_of c.args.verb) c.loop-rest.rest.now c.name-item.result c.value-item.result c.in-len2-up.len_at_least c.name-item.is c.value-item.is in
    let fails : pair_is (options_of c.args.verb) (string_bytes c.name-item.result) (string_bytes c.value-item.result) (map string_bytes (rest_after c.loop-rest.rest.now)) ≡ false = ap₂ (λ n v. pair_is (options_of c.args.verb) n v (map string_bytes (rest_after c.loop-rest.rest.now))) (sym c.as_str.ensures.value) (sym c.as_str-in-len2-up.ensures.value) ∙ sym c.is_option.ensures ∙ c.if-not-is_option.true in
    ap (λ b. b && are_options (options_of c.args.verb) (map string_bytes (rest_after c.loop-rest.rest.now))) (sym fails) ∙ sym pair ∙ c.loop-rest.invariant

pub loop-rest-preserved : goal.loop-rest-preserved
loop-rest-preserved c =
    let pair = pair_options string_bytes (options_of c.args.verb) c.loop-rest.rest.now c.name-item.result c.value-item.result c.in-len2-up.len_at_least c.name-item.is c.value-item.is in
    let passes : pair_is (options_of c.args.verb) (string_bytes c.name-item.result) (string_bytes c.value-item.result) (map string_bytes (rest_after c.loop-rest.rest.now)) ≡ true = ap₂ (λ n v. pair_is (options_of c.args.verb) n v (map string_bytes (rest_after c.loop-rest.rest.now))) (sym c.as_str.ensures.value) (sym c.as_str-in-len2-up.ensures.value) ∙ sym c.is_option.ensures ∙ c.if-not-is_option.false in
    ap (λ b. b && are_options (options_of c.args.verb) (map string_bytes (rest_after c.loop-rest.rest.now))) (sym passes) ∙ sym pair ∙ c.loop-rest.invariant
