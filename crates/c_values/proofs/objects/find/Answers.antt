use Rattle.std.proofs.Common.{◌+◌, ap, ◌∙◌, sym, drop}
use Rattle.c_program.specs.declared.program.PathStep.TheVariants as step
use Rattle.c_values.specs.Objects.{read_path}
use Rattle.c_values.proofs.ValueLaws.{read_on, read_all, read_nothing}
use Rattle.c_values.proofs.objects.find.Goals as goal

pub returns-in-None : goal.returns-in-None
returns-in-None c = let st = c.loop-step in let ps = c.args.path.now in
    sym st.invariant ∙ read_on st.found.now ps st.step-index (step.Field 0) c.loop-step-test.true
    ∙ ap (λ v. read_path v (drop (st.step-index + 1) ps)) c.in-None.ensures ∙ read_nothing (drop (st.step-index + 1) ps)

pub loop-step-preserved : goal.loop-step-preserved
loop-step-preserved c = let st = c.loop-step in let ps = c.args.path.now in
    ap (λ v. read_path v (drop (st.step-index + 1) ps)) c.in-Some.ensures
    ∙ sym (read_on st.found.now ps st.step-index (step.Field 0) c.loop-step-test.true) ∙ st.invariant

pub returns : goal.returns
returns c = let st = c.loop-step in
    sym (read_all st.found.now c.args.path.now st.step-index c.loop-step-test.false) ∙ st.invariant
