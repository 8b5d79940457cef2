use Rattle.std.proofs.Common.{◌≡◌, ◌∙◌, ◌++◌, true, false, ap, sym, arith, add-one, append-nil, string_bytes, take, map}
use Rattle.ec_words.specs.Rule.{is_operand}
use Rattle.ec_words.proofs.RuleLemmas.{front_more, back_more, front_end, back_end}
use Rattle.ec_words.proofs.rule.count_operands.Goals as goal

pub loop-count-preserved : goal.loop-count-preserved
loop-count-preserved c =
    let passes : is_operand (string_bytes c.index-words-count.result) ≡ true = ap is_operand (sym c.as_str.ensures.value) ∙ sym c.is_operand.ensures ∙ c.if-is_operand.true in
    record {
      within = omega arith;
      front = rw add-one (front_more string_bytes c.args.words.now c.loop-count.count c.index-words-count.result (omega arith) c.index-words-count.is passes ∙ c.loop-count.invariant.front);
      back = rw add-one (back_more string_bytes c.args.words.now c.loop-count.count c.index-words-count.result (omega arith) c.index-words-count.is passes ∙ c.loop-count.invariant.back);
    }

pub returns-else-is_operand-clause-front : goal.returns-else-is_operand-clause-front
returns-else-is_operand-clause-front c =
    let fails : is_operand (string_bytes c.index-words-count.result) ≡ false = ap is_operand (sym c.as_str.ensures.value) ∙ sym c.is_operand.ensures ∙ c.if-is_operand.false in
    let none = front_end string_bytes c.args.words.now c.loop-count.count c.index-words-count.result (omega arith) c.index-words-count.is fails in
    sym (append-nil _) ∙ ap (λ more. take c.loop-count.count (map string_bytes c.args.words.now) ++ more) (sym none) ∙ c.loop-count.invariant.front

pub returns-else-is_operand-clause-back : goal.returns-else-is_operand-clause-back
returns-else-is_operand-clause-back c =
    let fails : is_operand (string_bytes c.index-words-count.result) ≡ false = ap is_operand (sym c.as_str.ensures.value) ∙ sym c.is_operand.ensures ∙ c.if-is_operand.false in
    sym (back_end string_bytes c.args.words.now c.loop-count.count c.index-words-count.result (omega arith) c.index-words-count.is fails) ∙ c.loop-count.invariant.back
