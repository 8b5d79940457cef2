-- A verdict on a body, with the state that comes of it, as an answer.
use Rattle.std.specs.Prelude.{◌≡◌, Result, Ok, Err}
use Rattle.parse_terms.specs.declared.answer.Answer.{Answer}
use Rattle.parse_terms.specs.declared.answer.Answer.TheVariants.{More, Done, Bad}
use Rattle.parse_terms.specs.declared.answer.Verdict.{Verdict}
use Rattle.parse_terms.specs.declared.answer.Verdict.TheVariants as verdict
use Rattle.parse_stmt.specs.declared.state.BodyState.{BodyState}
use Rattle.parse_stmt.specs.StmtParts.{Body}

abbrev pub AnswersAs : {E : Type 0} → Verdict Body → BodyState → Result (Answer BodyState Body) E → Type 0
AnswersAs verdict.More st r = r ≡ Ok (More st)
AnswersAs (verdict.Done d) st r = r ≡ Ok (Done d)
AnswersAs verdict.Bad st r = r ≡ Ok Bad

abbrev pub Answers : {E : Type 0} → Result (Verdict Body) E → BodyState → Result (Answer BodyState Body) E → Type 0
Answers (Ok v) st r = AnswersAs v st r
Answers (Err e) st r = r ≡ Err e
