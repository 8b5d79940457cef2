use Rattle.std.proofs.Common.{◌∙◌}
use Rattle.c_interp_wakes.proofs.WakeLaws.{flow-Items, flow-Declares, flow-Begin, flow-Again, flow-Do}
use Rattle.c_interp_wakes.proofs.flowing.wake_flow.Goals as goal

pub returns-in-Items-clause-gives : goal.returns-in-Items-clause-gives
returns-in-Items-clause-gives c m ps s k = c.after_item.ensures.gives m ps s k ∙ flow-Items m ps s k _ _ _ c.in-Items.is

pub returns-in-Declares-clause-gives : goal.returns-in-Declares-clause-gives
returns-in-Declares-clause-gives c m ps s k = c.enter_declares.ensures.gives m ps s k ∙ flow-Declares m ps s k _ _ _ c.in-Declares.is

pub returns-in-Begin-clause-gives : goal.returns-in-Begin-clause-gives
returns-in-Begin-clause-gives c m ps s k = flow-Begin m ps s k _ _ _ c.in-Begin.is

pub returns-in-Again-clause-gives : goal.returns-in-Again-clause-gives
returns-in-Again-clause-gives c m ps s k = c.after_body.ensures.gives m ps s k ∙ flow-Again m ps s k _ _ _ c.in-Again.is

pub returns-in-Do-clause-gives : goal.returns-in-Do-clause-gives
returns-in-Do-clause-gives c m ps s k = c.after_first.ensures.gives m ps s k ∙ flow-Do m ps s k _ _ _ _ c.in-Do.is
