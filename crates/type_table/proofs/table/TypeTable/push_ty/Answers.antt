-- One more row: its index gets its numbers, or has them already.
use Rattle.std.proofs.Common.{ℕ, List, Option, Some, None, length, sym, subst}
use Rattle.std.specs.Prelude.{nat_eq}
use Rattle.std.specs.Global.{Vec}
use Rattle.std.specs.HashMap.{Updates, spare}
use Rattle.std.specs.Cmp.Lexicographic.{pointwise}
use Rattle.c_types.specs.declared.types.Ty.{Ty}
use Rattle.named_rows.specs.Places.{look_up, KeyFor}
use Rattle.type_table.specs.TypeKeys.{IsIndexed}
use Rattle.type_table.proofs.TableLaws.{tys_pushed, tys_repeated}
use Rattle.type_table.proofs.table.TypeTable.push_ty.Goals as goal

pub invariant_of-self-in-Some : goal.invariant_of-self-in-Some
invariant_of-self-in-Some c =
    let told : KeyFor (look_up nat_eq c.self.inside.ty_places c.key_of.result) c.key_of.result (spare c.key_for.new.places) (Some c.in-Some.key) =
    subst (λ (o : Option (Vec ℕ)). KeyFor (look_up nat_eq c.self.inside.ty_places c.key_of.result) c.key_of.result (spare c.key_for.new.places) o) c.in-Some.is c.in_ok-key.ensures.key in
    let u : Updates (λ x y. pointwise nat_eq x.items y.items) c.key_for.new.places c.put_key.new.places c.in-Some.key (Some (length c.self.inside.types.tys)) =
    subst (λ (n : ℕ). Updates (λ x y. pointwise nat_eq x.items y.items) c.key_for.new.places c.put_key.new.places c.in-Some.key (Some n)) c.len-at.ensures c.put_key.ensures in
    subst (λ (xs : List Ty). IsIndexed (record c.self.inside.types { tys = xs }) c.put_key.new.places c.self.inside.fun_places c.self.inside.struct_places c.self.inside.tags_known) (sym c.in_ok-push-in-Some.ensures.ok)
    (tys_pushed c.self.inside.types c.self.inside.ty_places c.self.inside.fun_places c.self.inside.struct_places c.key_for.new.places c.put_key.new.places c.self.inside.tags_known c.in-Some.key c.args.ty c.key_of.result (spare c.key_for.new.places) c.self.invariant c.in_ok-key.ensures.stays c.key_of.ensures told u)

pub invariant_of-self-in-Continue-branch-3 : goal.invariant_of-self-in-Continue-branch-3
invariant_of-self-in-Continue-branch-3 c =
    let told : KeyFor (look_up nat_eq c.self.inside.ty_places c.key_of.result) c.key_of.result (spare c.key_for.new.places) None =
    subst (λ (o : Option (Vec ℕ)). KeyFor (look_up nat_eq c.self.inside.ty_places c.key_of.result) c.key_of.result (spare c.key_for.new.places) o) c.in-None.is c.in_ok-key.ensures.key in
    subst (λ (xs : List Ty). IsIndexed (record c.self.inside.types { tys = xs }) c.key_for.new.places c.self.inside.fun_places c.self.inside.struct_places c.self.inside.tags_known) (sym c.in_ok-push-in-None.ensures.ok)
    (tys_repeated c.self.inside.types c.self.inside.ty_places c.self.inside.fun_places c.self.inside.struct_places c.key_for.new.places c.self.inside.tags_known c.args.ty c.key_of.result (spare c.key_for.new.places) c.self.invariant c.in_ok-key.ensures.stays c.key_of.ensures told)
