use Rattle.std.proofs.Common.{map, string_bytes, ap, ap₂, sym, ◌∙◌}
use Rattle.ec_words.specs.Markings.{marks_of}
use Rattle.ec_words.specs.Commands.{exec, form_of}
use Rattle.ec_driver.proofs.PlanLaws.{same_form}
use Rattle.ec_driver.proofs.driver.obey.Goals as goal

pub returns-in-Exec-clause-stands : goal.returns-in-Exec-clause-stands
returns-in-Exec-clause-stands g c = same_form _ _ _ _ _ c.exec.result
    (ap₂ (λ units image. exec (map string_bytes units) image (marks_of c.in-Exec.marking) c.in-Exec.stack c.in-Exec.base c.in-Exec.fuel) c.deref-in-Exec.ensures.value c.deref-in-Exec-2.ensures ∙ sym (ap form_of c.in-Exec.is))
    (c.exec.ensures c.in-Exec.stack _)
