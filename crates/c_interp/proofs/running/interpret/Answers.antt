use Rattle.std.proofs.Common.{refl, ◌∙◌, arith}
use Rattle.c_meaning.specs.Start.{setting_of}
use Rattle.c_meaning.specs.Source.{stand_of}
use Rattle.c_interp_acts.proofs.TieLaws.{ties_break}
use Rattle.c_interp.proofs.RunLaws.{starts, ends_means, ends_puts, ends_takes, broke_puts, broke_takes}
use Rattle.c_interp.proofs.running.interpret.Goals as goal

pub returns-in-Err-clause-puts : goal.returns-in-Err-clause-puts
returns-in-Err-clause-puts g c told put = let p = c.args.p.now in let whole = g.I.Source.left c.args.input.now in let first = g.O.Sink.bytes c.args.out.now in let k = c.args.units in let at = c.at_start-machine in
    let t = starts p whole first (g.O.Sink.tells c.args.out.now) at.result c.in-Ok.globals c.in-Ok-main_of.main c.new.result c.in-Ok.ensures c.in-Ok-main_of.ensures c.new.ensures at.ensures.stack at.ensures.store k at.ensures.left in
    let left = g.I.Source.left c.run_all.new.input in let bytes = g.O.Sink.bytes c.run_all.new.out in let shown = g.O.Sink.tells c.run_all.new.out in
    let b = c.in-Err.ensures.breaks told (stand_of p whole k) whole first t in
    broke_puts (stand_of p whole k) whole left first bytes shown b (c.run_all.ensures.sink ∙ put)

pub returns-in-Err-clause-takes : goal.returns-in-Err-clause-takes
returns-in-Err-clause-takes g c told = let p = c.args.p.now in let whole = g.I.Source.left c.args.input.now in let first = g.O.Sink.bytes c.args.out.now in let k = c.args.units in let at = c.at_start-machine in
    let t = starts p whole first (g.O.Sink.tells c.args.out.now) at.result c.in-Ok.globals c.in-Ok-main_of.main c.new.result c.in-Ok.ensures c.in-Ok-main_of.ensures c.new.ensures at.ensures.stack at.ensures.store k at.ensures.left in
    let left = g.I.Source.left c.run_all.new.input in let bytes = g.O.Sink.bytes c.run_all.new.out in let shown = g.O.Sink.tells c.run_all.new.out in
    let b = c.in-Err.ensures.breaks told (stand_of p whole k) whole first t in
    broke_takes (stand_of p whole k) whole left first bytes shown b

pub returns-in_default-checked_add-clause-puts : goal.returns-in_default-checked_add-clause-puts
returns-in_default-checked_add-clause-puts g c told put = let p = c.args.p.now in let whole = g.I.Source.left c.args.input.now in let first = g.O.Sink.bytes c.args.out.now in let k = c.args.units in let at = c.at_start-machine in
    let t = starts p whole first (g.O.Sink.tells c.args.out.now) at.result c.in-Ok.globals c.in-Ok-main_of.main c.new.result c.in-Ok.ensures c.in-Ok-main_of.ensures c.new.ensures at.ensures.stack at.ensures.store k at.ensures.left in
    let left = g.I.Source.left c.run_all.new.input in let bytes = g.O.Sink.bytes c.run_all.new.out in let shown = g.O.Sink.tells c.run_all.new.out in
    let e = c.in-Ok-run_all.ensures.ties told (stand_of p whole k) whole first t in
    let b = ties_break (setting_of p) (stand_of p whole k) whole left shown first bytes _ c.run_all.new.machine e in
    broke_puts (stand_of p whole k) whole left first bytes shown b (c.run_all.ensures.sink ∙ put)

pub returns-in_default-checked_add-clause-takes : goal.returns-in_default-checked_add-clause-takes
returns-in_default-checked_add-clause-takes g c told = let p = c.args.p.now in let whole = g.I.Source.left c.args.input.now in let first = g.O.Sink.bytes c.args.out.now in let k = c.args.units in let at = c.at_start-machine in
    let t = starts p whole first (g.O.Sink.tells c.args.out.now) at.result c.in-Ok.globals c.in-Ok-main_of.main c.new.result c.in-Ok.ensures c.in-Ok-main_of.ensures c.new.ensures at.ensures.stack at.ensures.store k at.ensures.left in
    let left = g.I.Source.left c.run_all.new.input in let bytes = g.O.Sink.bytes c.run_all.new.out in let shown = g.O.Sink.tells c.run_all.new.out in
    let e = c.in-Ok-run_all.ensures.ties told (stand_of p whole k) whole first t in
    let b = ties_break (setting_of p) (stand_of p whole k) whole left shown first bytes _ c.run_all.new.machine e in
    broke_takes (stand_of p whole k) whole left first bytes shown b

pub returns-clause-means : goal.returns-clause-means
returns-clause-means g c told = let p = c.args.p.now in let whole = g.I.Source.left c.args.input.now in let first = g.O.Sink.bytes c.args.out.now in let k = c.args.units in let at = c.at_start-machine in
    let t = starts p whole first (g.O.Sink.tells c.args.out.now) at.result c.in-Ok.globals c.in-Ok-main_of.main c.new.result c.in-Ok.ensures c.in-Ok-main_of.ensures c.new.ensures at.ensures.stack at.ensures.store k at.ensures.left in
    let left = g.I.Source.left c.run_all.new.input in let bytes = g.O.Sink.bytes c.run_all.new.out in let shown = g.O.Sink.tells c.run_all.new.out in
    let e = c.in-Ok-run_all.ensures.ties told (stand_of p whole k) whole first t in
    ends_means p whole left first bytes shown k c.run_all.new.machine c.in-Ok-run_all.outcome e _ refl refl (omega (arith, c.in-Some.ensures, c.peak.ensures e.unseen)) (c.taken.ensures e.unseen)

pub returns-clause-puts : goal.returns-clause-puts
returns-clause-puts g c told put = let p = c.args.p.now in let whole = g.I.Source.left c.args.input.now in let first = g.O.Sink.bytes c.args.out.now in let k = c.args.units in let at = c.at_start-machine in
    let t = starts p whole first (g.O.Sink.tells c.args.out.now) at.result c.in-Ok.globals c.in-Ok-main_of.main c.new.result c.in-Ok.ensures c.in-Ok-main_of.ensures c.new.ensures at.ensures.stack at.ensures.store k at.ensures.left in
    let left = g.I.Source.left c.run_all.new.input in let bytes = g.O.Sink.bytes c.run_all.new.out in let shown = g.O.Sink.tells c.run_all.new.out in
    let e = c.in-Ok-run_all.ensures.ties told (stand_of p whole k) whole first t in
    ends_puts p whole left first bytes shown k c.run_all.new.machine c.in-Ok-run_all.outcome e (c.run_all.ensures.sink ∙ put)

pub returns-clause-takes : goal.returns-clause-takes
returns-clause-takes g c told = let p = c.args.p.now in let whole = g.I.Source.left c.args.input.now in let first = g.O.Sink.bytes c.args.out.now in let k = c.args.units in let at = c.at_start-machine in
    let t = starts p whole first (g.O.Sink.tells c.args.out.now) at.result c.in-Ok.globals c.in-Ok-main_of.main c.new.result c.in-Ok.ensures c.in-Ok-main_of.ensures c.new.ensures at.ensures.stack at.ensures.store k at.ensures.left in
    let left = g.I.Source.left c.run_all.new.input in let bytes = g.O.Sink.bytes c.run_all.new.out in let shown = g.O.Sink.tells c.run_all.new.out in
    let e = c.in-Ok-run_all.ensures.ties told (stand_of p whole k) whole first t in
    ends_takes p whole left first bytes shown k c.run_all.new.machine c.in-Ok-run_all.outcome e
