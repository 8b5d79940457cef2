use Rattle.std.proofs.Common.{◌+◌, ◌*◌, ◌^◌, ◌<◌, ◌≤◌, length, drop, get_or, sym, ◌∙◌, arith, rules}
use Rattle.std.proofs.lemmas.List.{at_drop_more, at_drop_all}
use Rattle.std.specs.Char.{digit_value}
use Rattle.std.specs.Str.Parse.{digits_value_after, digits_value}
use Rattle.ec_words.specs.Numbers.{are_digits}
use Rattle.ec_words.proofs.NumberLemmas.{grows, number_is, number_large}
use Rattle.ec_words.proofs.numbers.number_in.Goals as goal

pub returns : goal.returns
returns c =
    let past : length c.args.digits.now ≤ c.loop-byte.byte-index = omega arith in
    let value = sym (at_drop_all (digits_value_after c.args.base c.loop-byte.value) c.args.digits.now c.loop-byte.byte-index past) ∙ c.loop-byte.invariant.value in
    let digits = sym (at_drop_all (are_digits c.args.base) c.args.digits.now c.loop-byte.byte-index past) ∙ c.loop-byte.invariant.digits in
    let some : 0 < length c.args.digits.now = search rules in
    number_is c.args.base c.loop-byte.value c.args.digits.now some (sym digits) (sym value) c.loop-byte.invariant.small

pub returns-in_err-checked_mul : goal.returns-in_err-checked_mul
returns-in_err-checked_mul c =
    let ds = c.args.digits.now in
    let i = c.loop-byte.byte-index in
    let step = at_drop_more (digits_value_after c.args.base c.loop-byte.value) ds i 0 (omega arith) in
    let more = grows c.args.base (c.loop-byte.value * c.args.base + digit_value (get_or ds i 0)) (drop (i + 1) ds) c.requires in
    let large : 2 ^ 64 ≤ digits_value c.args.base ds = grind arith in
    c.from_residual.ensures ∙ number_large c.args.base ds large

pub returns-in_err-value : goal.returns-in_err-value
returns-in_err-value c =
    let ds = c.args.digits.now in
    let i = c.loop-byte.byte-index in
    let step = at_drop_more (digits_value_after c.args.base c.loop-byte.value) ds i 0 (omega arith) in
    let more = grows c.args.base (c.loop-byte.value * c.args.base + digit_value (get_or ds i 0)) (drop (i + 1) ds) c.requires in
    let large : 2 ^ 64 ≤ digits_value c.args.base ds = grind arith in
    c.from_residual-in_err-value.ensures ∙ number_large c.args.base ds large
