use Rattle.c_interp_steps.proofs.TurnLaws.{place-Local, place-Global, place-Target, place-Arrow, place-Field, place-Element}
use Rattle.c_interp_steps.proofs.places.enter_place.Goals as goal

pub returns-in-Local-clause-gives : goal.returns-in-Local-clause-gives
returns-in-Local-clause-gives c m ps s k = place-Local m ps s k _ _ c.in-Local.is

pub returns-in-Global-clause-gives : goal.returns-in-Global-clause-gives
returns-in-Global-clause-gives c m ps s k = place-Global m ps s k _ _ _ c.new.ensures c.in-Global.is

pub returns-in-Target-clause-gives : goal.returns-in-Target-clause-gives
returns-in-Target-clause-gives c m ps s k = place-Target m ps s k _ _ _ _ c.get.ensures c.in-Target.is

pub returns-in-Arrow-clause-gives : goal.returns-in-Arrow-clause-gives
returns-in-Arrow-clause-gives c m ps s k = place-Arrow m ps s k _ _ _ _ _ c.get-in-Arrow.ensures c.in-Arrow.is

pub returns-in-Field-clause-gives : goal.returns-in-Field-clause-gives
returns-in-Field-clause-gives c m ps s k = place-Field m ps s k _ _ _ _ _ c.get-in-Field.ensures c.in-Field.is

pub returns-in-Element-clause-gives : goal.returns-in-Element-clause-gives
returns-in-Element-clause-gives c m ps s k = place-Element m ps s k _ _ _ _ _ _ _ c.get-in-Element-2.ensures c.get-in-Element.ensures c.in-Element.is
