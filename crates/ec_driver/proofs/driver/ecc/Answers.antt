use Rattle.ec_driver.proofs.Claims.{exited, completes, checks, generates, generated, interprets, interpreted, runs_images, ran}
use Rattle.ec_driver.proofs.driver.ecc.Goals as goal

pub returns-clause-answers : goal.returns-clause-answers
returns-clause-answers g c = record {
  own = c.answer-own.result;
  stands = c.answer-own.ensures.stands;
  told = c.tell.ensures.0;
  told_is = c.tell.ensures.1;
  tells = c.tell.ensures.2;
}

pub returns-clause-checks : goal.returns-clause-checks
returns-clause-checks g c = checks _ _ _ _ _ c.tell.result (returns-clause-answers g c)

pub returns-clause-interprets : goal.returns-clause-interprets
returns-clause-interprets g c = interprets _ _ _ _ _ c.tell.result (returns-clause-answers g c)

pub returns-clause-interpreted : goal.returns-clause-interpreted
returns-clause-interpreted g c = interpreted _ _ _ _ _ c.tell.result (returns-clause-answers g c)

pub returns-clause-generates : goal.returns-clause-generates
returns-clause-generates g c = generates _ _ _ _ _ c.tell.result (returns-clause-answers g c)

pub returns-clause-generated : goal.returns-clause-generated
returns-clause-generated g c = generated _ _ _ _ _ c.tell.result (returns-clause-answers g c)

pub returns-clause-exit : goal.returns-clause-exit
returns-clause-exit g c = exited _ _ _ _ _ c.tell.result (returns-clause-answers g c)

pub returns-clause-completes : goal.returns-clause-completes
returns-clause-completes g c = completes _ _ _ _ _ c.tell.result (returns-clause-answers g c)

pub returns-clause-runs : goal.returns-clause-runs
returns-clause-runs g c = runs_images _ _ _ _ _ c.tell.result (returns-clause-answers g c)

pub returns-clause-ran : goal.returns-clause-ran
returns-clause-ran g c = ran _ _ _ _ _ c.tell.result (returns-clause-answers g c)
