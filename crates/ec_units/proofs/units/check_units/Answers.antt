use Rattle.std.specs.Prelude.{string_bytes}
use Rattle.ec_units.specs.Steps.{texts_in}
use Rattle.ec_units.proofs.VerdictLaws.{verdict_many, verdict_left, verdict_fits, verdict_read}
use Rattle.ec_units.proofs.units.check_units.Goals as goal

pub returns-then-names-gt-MOST_UNITS-clause-exact :
    goal.returns-then-names-gt-MOST_UNITS-clause-exact
returns-then-names-gt-MOST_UNITS-clause-exact g c = λ told. verdict_many string_bytes (g.S.Store.file c.args.store.now) c.args.names.now c.args.whole c.if-names-gt-MOST_UNITS.true

pub returns-in-Ok-clause-exact : goal.returns-in-Ok-clause-exact
returns-in-Ok-clause-exact g c = λ told. verdict_fits string_bytes (g.S.Store.file c.args.store.now) c.args.names.now c.args.whole (texts_in c.add_units.new.loaded) c.judge.result c.if-names-gt-MOST_UNITS.false
    (c.in-Ok.ensures.exact told) c.judge.ensures.exact

pub returns-in-Ok-clause-read : goal.returns-in-Ok-clause-read
returns-in-Ok-clause-read g c = verdict_read string_bytes c.args.names.now (texts_in c.add_units.new.loaded) c.args.whole c.judge.result c.if-names-gt-MOST_UNITS.false
    c.in-Ok.ensures.read c.judge.ensures.exact c.judge.ensures.sources

pub returns-in-Err-clause-exact : goal.returns-in-Err-clause-exact
returns-in-Err-clause-exact g c = λ told. verdict_left string_bytes (g.S.Store.file c.args.store.now) c.args.names.now c.args.whole c.in-Err.refusal (texts_in c.add_units.new.loaded) c.if-names-gt-MOST_UNITS.false
    (c.in-Err.ensures.exact told)
