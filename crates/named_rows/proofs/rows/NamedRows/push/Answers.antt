-- One more row: the index gets its name, or has it already.
use Rattle.std.proofs.Common.{◌≡◌, ℕ, false, List, Option, Some, None, IsSome, length, ap, sym, subst, ◌∙◌}
use Rattle.std.specs.Prelude.{nat_eq}
use Rattle.std.specs.Global.{Vec}
use Rattle.std.specs.HashMap.{Updates, spare}
use Rattle.std.specs.Cmp.Lexicographic.{pointwise}
use Rattle.named_rows.specs.Places.{look_up, KeyFor, IsIndexed}
use Rattle.named_rows.proofs.PlaceLaws.{indexed_new, indexed_again}
use Rattle.named_rows.proofs.rows.NamedRows.push.Goals as goal

pub invariant_of-self-in-Some : goal.invariant_of-self-in-Some
invariant_of-self-in-Some g c =
    let told : KeyFor (look_up nat_eq c.self.inside.places c.name.result.now) c.name.result.now (spare c.key_for.new.places) (Some c.in-Some.key) =
    subst (λ (o : Option (Vec ℕ)). KeyFor (look_up nat_eq c.self.inside.places c.name.result.now) c.name.result.now (spare c.key_for.new.places) o) c.in-Some.is c.in_ok-key.ensures.key in
    let none : look_up nat_eq c.self.inside.places (g.T.Named.name c.args.row) ≡ None = ap (look_up nat_eq c.self.inside.places) (sym c.name.ensures) ∙ told.0 in
    let u : Updates (λ x y. pointwise nat_eq x.items y.items) c.key_for.new.places c.put_key.new.places c.in-Some.key (Some (length c.self.inside.rows)) =
    subst (λ (n : ℕ). Updates (λ x y. pointwise nat_eq x.items y.items) c.key_for.new.places c.put_key.new.places c.in-Some.key (Some n)) c.len-at.ensures c.put_key.ensures in
    subst (λ (xs : List g.row.T.Denot). IsIndexed g.T.Named.name c.put_key.new.places c.self.inside.distinct xs) (sym c.in_ok-push-in-Some.ensures.ok)
    (indexed_new g.T.Named.name c.self.inside.places c.key_for.new.places c.put_key.new.places c.in-Some.key c.self.inside.distinct c.self.inside.rows c.args.row c.self.invariant c.in_ok-key.ensures.stays none
    (told.1 ∙ c.name.ensures) u)

pub invariant_of-self-in-None : goal.invariant_of-self-in-None
invariant_of-self-in-None g c =
    let told : KeyFor (look_up nat_eq c.self.inside.places c.name.result.now) c.name.result.now (spare c.key_for.new.places) None =
    subst (λ (o : Option (Vec ℕ)). KeyFor (look_up nat_eq c.self.inside.places c.name.result.now) c.name.result.now (spare c.key_for.new.places) o) c.in-None.is c.in_ok-key.ensures.key in
    let some : IsSome (look_up nat_eq c.self.inside.places (g.T.Named.name c.args.row)) = subst (λ (n : List ℕ). IsSome (look_up nat_eq c.self.inside.places n)) c.name.ensures told in
    subst (λ (xs : List g.row.T.Denot). IsIndexed g.T.Named.name c.key_for.new.places false xs) (sym c.in_ok-push-in-None.ensures.ok)
    (indexed_again g.T.Named.name c.self.inside.places c.key_for.new.places c.self.inside.distinct c.self.inside.rows c.args.row c.self.invariant c.in_ok-key.ensures.stays some)
