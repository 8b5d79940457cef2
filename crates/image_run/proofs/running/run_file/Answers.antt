use Rattle.image_run.proofs.RunLaws.{has_run}
use Rattle.image_run.proofs.running.run_file.Goals as goal

pub returns-in-Ok-clause-ran : goal.returns-in-Ok-clause-ran
returns-in-Ok-clause-ran g c = has_run _ _ c.args.base c.args.fuel _ c.in-Ok.machine c.run.new.self _ c.run.result c.in-Ok.ensures.opens c.run.ensures.answer c.run.ensures.runs c.run.ensures.puts
