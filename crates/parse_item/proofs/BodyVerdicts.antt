-- The answer made of a verdict is the machine's.
use Rattle.std.proofs.Common.{◌≡◌, Result, Ok, Err, IfOk, refl, sym, ap, subst, ◌∙◌}
use Rattle.parse_terms.specs.declared.answer.Answer.{Answer}
use Rattle.parse_terms.specs.declared.answer.Verdict.{Verdict}
use Rattle.parse_terms.specs.declared.answer.Verdict.TheVariants as verdict
use Rattle.parse_stmt.specs.declared.state.BodyState.{BodyState}
use Rattle.parse_stmt.specs.StmtParts.{Body}
use Rattle.parse_stmt.specs.StmtMachine.{Said, Says}
use Rattle.parse_item.specs.BodyVerdicts.{AnswersAs, Answers}

of_verdict : {E : Type 0} (v : Verdict Body) (o : Said) (st : BodyState) (r : Result (Answer BodyState Body) E) → Says v o st → AnswersAs v st r → r ≡ Ok o
of_verdict verdict.More o st r h a = a ∙ ap Ok (sym h)
of_verdict (verdict.Done d) o st r h a = a ∙ ap Ok (sym h)
of_verdict verdict.Bad o st r h a = a ∙ ap Ok (sym h)

pub answers : {E : Type 0} (v : Result (Verdict Body) E) (o : Said) (st : BodyState) (r : Result (Answer BodyState Body) E) → IfOk v (λ x. Says x o st) → Answers v st r → IfOk r (λ x. x ≡ o)
answers (Ok v) o st r h a = subst (λ y. IfOk y (λ x. x ≡ o)) (sym (of_verdict v o st r h a)) refl
answers (Err e) o st r h a = subst (λ y. IfOk y (λ x. x ≡ o)) (sym a) tt
