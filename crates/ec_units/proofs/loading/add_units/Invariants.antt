use Rattle.std.proofs.Common.{◌≡◌, ◌≤◌, map, take, drop}
use Rattle.std.specs.Prelude.{IsTrue, string_bytes}
use Rattle.hx_io.specs.Files.{SameFiles}
use Rattle.ec_units.specs.Verdicts.{no_texts, add_units, named_in}
use Rattle.ec_units.specs.Steps.{texts_in, AreRead}
use Rattle.ec_units.proofs.loading.add_units.Given as goal

abbrev pub invariant-loop-number : goal.invariant-loop-number
invariant-loop-number g l = record {
  told : g.S.Store.tells l.store ≡ g.S.Store.tells l.initial.store;
  counted : g.S.Store.faults l.initial.store ≤ g.S.Store.faults l.store;
  files : IsTrue (g.S.Store.tells l.initial.store) → SameFiles (g.S.Store.file l.initial.store) (g.S.Store.file l.store);
  exact : IsTrue (g.S.Store.tells l.initial.store) →
      add_units l.number (texts_in l.loaded) (named_in (g.S.Store.file l.initial.store) (map string_bytes (drop l.number l.names)))
      ≡ add_units 0 no_texts (named_in (g.S.Store.file l.initial.store) (map string_bytes l.names));
  read : AreRead (map string_bytes (take l.number l.names)) (texts_in l.loaded);
}
