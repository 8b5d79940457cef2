use Rattle.std.proofs.Common.{◌≡◌, ◌<◌, ◌∙◌, sym, subst, length, List, ℕ, Ok, Err, arith}
use Rattle.std.specs.Prelude.{IsTrue, string_bytes}
use Rattle.hx_io.proofs.FileLaws.{SameFiles-trans}
use Rattle.ec_units.specs.Verdicts.{add_file}
use Rattle.ec_units.specs.Steps.{texts_in, LeavesTexts, AddsFile}
use Rattle.ec_units.proofs.UnitLaws.{exact_next, exact_left, exact_end, read_next}
use Rattle.ec_units.proofs.loading.add_units.Goals as goal

pub loop-number-preserved : goal.loop-number-preserved
loop-number-preserved g c =
    let h : c.loop-number.number < length c.args.names.now = omega arith in
    record {
      told = c.in-Ok.ensures.told ∙ c.loop-number.invariant.told;
      counted = omega (arith, c.in-Ok.ensures.counted, c.loop-number.invariant.counted);
      files = λ told. SameFiles-trans (g.S.Store.file c.args.store.now) (g.S.Store.file c.loop-number.store) (g.S.Store.file c.add_unit.new.store) (c.loop-number.invariant.files told)
          (c.in-Ok.ensures.files (subst IsTrue (sym c.loop-number.invariant.told) told));
      exact = λ told. exact_next string_bytes (g.S.Store.file c.args.store.now) (g.S.Store.file c.loop-number.store) c.args.names.now c.loop-number.number c.index-names-number.result
          (texts_in c.loop-number.loaded) (texts_in c.add_unit.new.loaded) _ h c.index-names-number.is (c.loop-number.invariant.files told)
          (subst (λ (n : List ℕ). add_file c.loop-number.number (texts_in c.loop-number.loaded) n (g.S.Store.file c.loop-number.store n) ≡ Ok (texts_in c.add_unit.new.loaded)) c.as_str.ensures.value
          (c.in-Ok.ensures.exact (subst IsTrue (sym c.loop-number.invariant.told) told)))
          (c.loop-number.invariant.exact told);
      read = read_next string_bytes c.args.names.now c.loop-number.number c.index-names-number.result (texts_in c.loop-number.loaded) (texts_in c.add_unit.new.loaded) h c.index-names-number.is
          c.loop-number.invariant.read
          (subst (λ (n : List ℕ). AddsFile c.loop-number.number (texts_in c.loop-number.loaded) n (texts_in c.add_unit.new.loaded)) c.as_str.ensures.value c.in-Ok.ensures.read);
    }

pub returns-clause-exact : goal.returns-clause-exact
returns-clause-exact g c = λ told. exact_end string_bytes (g.S.Store.file c.args.store.now) c.args.names.now c.loop-number.number (texts_in c.loop-number.loaded) _ c.loop-number-test.false (c.loop-number.invariant.exact told)

pub returns-in-Err-clause-exact : goal.returns-in-Err-clause-exact
returns-in-Err-clause-exact g c = λ told.
    let h : c.loop-number.number < length c.args.names.now = omega arith in
    exact_left string_bytes (g.S.Store.file c.args.store.now) (g.S.Store.file c.loop-number.store) c.args.names.now c.loop-number.number c.index-names-number.result
    (texts_in c.loop-number.loaded) (texts_in c.add_unit.new.loaded) (texts_in c.add_unit.new.loaded) c.in-Err.refusal _ h c.index-names-number.is (c.loop-number.invariant.files told)
    (subst (λ (n : List ℕ). LeavesTexts (add_file c.loop-number.number (texts_in c.loop-number.loaded) n (g.S.Store.file c.loop-number.store n)) (Err c.in-Err.refusal) (texts_in c.add_unit.new.loaded)) c.as_str.ensures.value
    (c.in-Err.ensures.exact (subst IsTrue (sym c.loop-number.invariant.told) told)))
    (c.loop-number.invariant.exact told)
