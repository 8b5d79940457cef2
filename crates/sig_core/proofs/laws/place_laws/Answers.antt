use Rattle.sig_core.proofs.Spans.{places_count, place_at}
use Rattle.sig_core.proofs.laws.place_laws.Goals as goal

pub returns-clause-count : goal.returns-clause-count
returns-clause-count c = λ place back n. places_count place n

pub returns-clause-each : goal.returns-clause-each
returns-clause-each c = λ place back n i h. place_at place n i h
