-- One more section.
use Rattle.std.proofs.Common.{◌≡◌, ℕ, ◌+◌, ◌<◌, ◌∷◌, ◌++◌, [], List, false, length, get_or, drop, refl, ap, sym, ◌∙◌, arith}
use Rattle.link_resolve.specs.declared.listing.Section.{Section}
use Rattle.link_resolve.specs.declared.resolved.SectionId.{SectionId}
use Rattle.link_resolve.specs.Resolution.{kept_from}
use Rattle.link_resolve.proofs.KeepingLaws.{kept_yes, kept_no}
use Rattle.link_resolve.proofs.keeping.kept_sections.Goals as goal
use Rattle.link_resolve.proofs.keeping.kept_sections.Goals.{then-not-is_marked+in_ok-push, else-not-is_marked}

pub loop-n-preserved : goal.loop-n-preserved
loop-n-preserved c =
    let none : Section = record { id = record { object = 0; section = 0 }; comdat = false } in
    let s : Section = get_or c.args.sections.now c.loop-n.n none in
    let low : c.loop-n.n < length c.args.sections.now = omega arith in
    elim c.if-not-is_marked.branch [
      | then-not-is_marked+in_ok-push w ↦
          ap (λ (k : List SectionId). k ++ kept_from c.args.left.now (c.loop-n.n + 1) (drop (c.loop-n.n + 1) c.args.sections.now)) (w.kept-is ∙ w.in_ok-push.ensures.ok)
          ∙ kept_yes c.args.left.now c.loop-n.n c.args.sections.now s none c.loop-n.kept (sym c.is_marked.ensures ∙ w.if-not-is_marked.true) low refl
          ∙ c.loop-n.invariant
      | else-not-is_marked w ↦
          ap (λ (k : List SectionId). k ++ kept_from c.args.left.now (c.loop-n.n + 1) (drop (c.loop-n.n + 1) c.args.sections.now)) w.kept-is
          ∙ kept_no c.args.left.now c.loop-n.n c.args.sections.now s none c.loop-n.kept (sym c.is_marked.ensures ∙ w.if-not-is_marked.false) low refl
          ∙ c.loop-n.invariant
    ]
