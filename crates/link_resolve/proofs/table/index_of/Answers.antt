-- One more symbol: it defines nothing, or is one more definition of its name.
use Rattle.std.proofs.Common.{◌≡◌, ℕ, ◌+◌, ◌++◌, ◌∷◌, [], take, length, List, Option, Some, Bool, ap, sym, subst, ◌∙◌, arith}
use Rattle.std.proofs.lemmas.List.{take_more, length-take-le}
use Rattle.std.specs.Str.{bytes_eq}
use Rattle.std.specs.HashMap.{UpdatesBy, get_by}
use Rattle.link_resolve.specs.declared.table.Known.{Known}
use Rattle.link_resolve.specs.Symbols.{Symbol}
use Rattle.link_resolve.specs.Index.{Indexes, known, known_with}
use Rattle.link_resolve.proofs.IndexLaws.{Index, passed, added}
use Rattle.link_resolve.proofs.table.index_of.Goals as goal
use Rattle.link_resolve.proofs.table.index_of.Goals.{then-is_definition+in_ok-insert, else-is_definition}

pub loop-i-preserved : goal.loop-i-preserved
loop-i-preserved c =
    let front : List Symbol = take c.loop-i.i c.args.list.now in
    let s : Symbol = c.index-list-i.result in
    let taken : take (c.loop-i.i + 1) c.args.list.now ≡ take c.loop-i.i c.args.list.now ++ c.index-list-i.result ∷ [] =
    take_more c.args.list.now c.loop-i.i c.index-list-i.result (omega arith)
    ∙ ap (λ (x : Symbol). take c.loop-i.i c.args.list.now ++ x ∷ []) (sym c.index-list-i.is) in
    let long : c.loop-i.i ≡ length (take c.loop-i.i c.args.list.now) = sym (length-take-le c.loop-i.i c.args.list.now (omega arith)) in
    subst (λ (xs : List Symbol). Indexes c.if-is_definition.index xs) (sym taken)
    (elim c.if-is_definition.branch [
      | then-is_definition+in_ok-insert w ↦
          let before : w.copied.result ≡ known (take c.loop-i.i c.args.list.now) c.index-list-i.result.symbol.name =
          w.copied.ensures ∙ w.get.ensures.value ∙ ap (λ (n : List ℕ). get_by (λ q. bytes_eq n q.now) c.loop-i.index) w.name-name.ensures ∙ c.loop-i.invariant c.index-list-i.result.symbol.name in
          let is : w.known_with-known.result ≡ known_with (known (take c.loop-i.i c.args.list.now) c.index-list-i.result.symbol.name) (length (take c.loop-i.i c.args.list.now)) c.index-list-i.result.comdat =
          w.known_with-known.ensures ∙ (λ j. known_with (before j) (long j) (w.is_comdat.ensures j)) in
          let u : UpdatesBy (λ x y. bytes_eq x.now y.now) (λ q. bytes_eq c.index-list-i.result.symbol.name q.now) c.loop-i.index w.insert.new.self (Some w.known_with-known.result) =
          subst (λ (n : List ℕ). UpdatesBy (λ x y. bytes_eq x.now y.now) (λ q. bytes_eq n q.now) c.loop-i.index w.insert.new.self (Some w.known_with-known.result)) w.name-name.ensures w.in_ok-insert.ensures.updates in
          subst (λ (m : Index _). Indexes m (take c.loop-i.i c.args.list.now ++ c.index-list-i.result ∷ [])) (sym w.index-is)
          (added c.loop-i.index w.insert.new.self (take c.loop-i.i c.args.list.now) c.index-list-i.result w.known_with-known.result c.loop-i.invariant (sym c.is_definition.ensures ∙ w.if-is_definition.true) is u)
      | else-is_definition w ↦
          subst (λ (m : Index _). Indexes m (take c.loop-i.i c.args.list.now ++ c.index-list-i.result ∷ [])) (sym w.index-is)
          (passed c.loop-i.index (take c.loop-i.i c.args.list.now) c.index-list-i.result c.loop-i.invariant (sym c.is_definition.ensures ∙ w.if-is_definition.false))
    ])
