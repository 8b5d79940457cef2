use Rattle.std.proofs.Common.{inl}
use Rattle.c_interp_acts.proofs.TieLaws.{takes_one}
use Rattle.c_interp_acts.proofs.serving.get_byte.Goals as goal

pub returns-in-Ok-clause-takes : goal.returns-in-Ok-clause-takes
returns-in-Ok-clause-takes g c told = inl (c.in-Ok-Some.byte, takes_one _ _ _ _ c.in-Ok-Some.field-0-is (c.in-Ok-Some.ensures.takes told), c.byte_value.ensures, λ h. c.in-Ok.ensures h (g.I.Source.left c.next.new.self))
