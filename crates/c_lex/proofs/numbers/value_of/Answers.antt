-- where the digits so far pass 2^64, all of them do
use Rattle.std.proofs.Common.{◌+◌, arith}
use Rattle.std.proofs.lemmas.Int.Digits.{digits_value_more}
use Rattle.c_lex.proofs.NumberLaws.{digits_so_far}
use Rattle.c_lex.proofs.numbers.value_of.Goals as goal

pub returns-in_err-value-clause-large : goal.returns-in_err-value-clause-large
returns-in_err-value-clause-large c =
    let i = c.loop-digit.digit-index in
    let more = digits_value_more c.args.base c.args.digits.now i (omega arith) in
    let all = digits_so_far c.args.base (i + 1) c.args.digits.now c.requires in
    let past = rw c.loop-digit.invariant at c.in_err-value.ensures in
    rw c.from_residual.ensures (omega (arith, more, all, past))
