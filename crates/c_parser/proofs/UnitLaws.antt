-- The machine of units has the laws.
use Rattle.std.proofs.Common.{◌≡◌, ℕ, ◌≤◌, refl, sym, subst}
use Rattle.parse_terms.specs.declared.answer.Answer.{Answer}
use Rattle.parse_terms.specs.declared.terminal.Terminal.{Terminal}
use Rattle.parse_item.specs.declared.units.UnitState.{UnitState}
use Rattle.parse_item.specs.ItemParts.{UnitPart}
use Rattle.parse_item.specs.UnitMachine.{unit_start, unit_step, unit_finish}
use Rattle.parse_item.specs.UnitAnswers.{unit_answer}
use Rattle.item_laws.proofs.UnitLaws.{reads_complete, reads_sound, reads_on}
use Rattle.item_laws.proofs.Bodies.{bodies}
use Rattle.c_parser.proofs.MachineLaws.{Laws}

same_step : unit_answer ≡ unit_step
unfolding unit_answer
same_step = refl

step_laws : (n : ℕ) → 4 ≤ n → Laws n (unit_step n) (unit_finish n) unit_start
step_laws n low = record {
  complete = λ u a d. (let r = reads_complete bodies n low u a d in record { last = r.last; runs = r.runs; finishes = r.finishes });
  sound = λ st p a c e. reads_sound bodies n low st p a c e;
  closes = λ st a c. (
      let x = reads_on bodies n low st a c in
      record { tokens = x.tokens; part = x.part; reads = record { last = x.finishes.last; runs = x.finishes.runs; finishes = x.finishes.finishes } }
      );
}

pub unit_laws : (n : ℕ) → 4 ≤ n → Laws n (unit_answer n) (unit_finish n) unit_start
unit_laws n low = subst (λ (f : ℕ → Terminal → UnitState → Answer UnitState UnitPart). Laws n (f n) (unit_finish n) unit_start) (sym same_step) (step_laws n low)
