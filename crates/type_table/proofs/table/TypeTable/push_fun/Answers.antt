-- One more row: its index gets its numbers, or has them already.
use Rattle.std.proofs.Common.{ℕ, List, Option, Some, None, length, sym, subst, ◌∙◌}
use Rattle.std.specs.Prelude.{nat_eq}
use Rattle.std.specs.Global.{Vec}
use Rattle.std.specs.HashMap.{Updates, spare}
use Rattle.std.specs.Cmp.Lexicographic.{pointwise}
use Rattle.c_types.specs.declared.types.FunTy.{FunTy}
use Rattle.named_rows.specs.Places.{look_up, KeyFor}
use Rattle.type_table.specs.TypeKeys.{IsIndexed}
use Rattle.type_table.proofs.TableLaws.{funs_pushed, funs_repeated}
use Rattle.type_table.proofs.table.TypeTable.push_fun.Goals as goal

pub invariant_of-self-in-Some : goal.invariant_of-self-in-Some
invariant_of-self-in-Some c =
    let told : KeyFor (look_up nat_eq c.self.inside.fun_places c.as_slice.result.now) c.as_slice.result.now (spare c.key_for.new.places) (Some c.in-Some.key) =
    subst (λ (o : Option (Vec ℕ)). KeyFor (look_up nat_eq c.self.inside.fun_places c.as_slice.result.now) c.as_slice.result.now (spare c.key_for.new.places) o) c.in-Some.is c.in_ok-key.ensures.key in
    let u : Updates (λ x y. pointwise nat_eq x.items y.items) c.key_for.new.places c.put_key.new.places c.in-Some.key (Some (length c.self.inside.types.funs)) =
    subst (λ (n : ℕ). Updates (λ x y. pointwise nat_eq x.items y.items) c.key_for.new.places c.put_key.new.places c.in-Some.key (Some n)) c.len-at.ensures c.put_key.ensures in
    subst (λ (xs : List FunTy). IsIndexed (record c.self.inside.types { funs = xs }) c.self.inside.ty_places c.put_key.new.places c.self.inside.struct_places c.self.inside.tags_known) (sym c.in_ok-push-in-Some.ensures.ok)
    (funs_pushed c.self.inside.types c.self.inside.ty_places c.self.inside.fun_places c.self.inside.struct_places c.key_for.new.places c.put_key.new.places c.self.inside.tags_known c.in-Some.key c.args.f c.as_slice.result.now (spare c.key_for.new.places) c.self.invariant c.in_ok-key.ensures.stays (c.as_slice.ensures.value ∙ c.in_ok-numbers.ensures) told u)

pub invariant_of-self-in-Continue-branch-4 : goal.invariant_of-self-in-Continue-branch-4
invariant_of-self-in-Continue-branch-4 c =
    let told : KeyFor (look_up nat_eq c.self.inside.fun_places c.as_slice.result.now) c.as_slice.result.now (spare c.key_for.new.places) None =
    subst (λ (o : Option (Vec ℕ)). KeyFor (look_up nat_eq c.self.inside.fun_places c.as_slice.result.now) c.as_slice.result.now (spare c.key_for.new.places) o) c.in-None.is c.in_ok-key.ensures.key in
    subst (λ (xs : List FunTy). IsIndexed (record c.self.inside.types { funs = xs }) c.self.inside.ty_places c.key_for.new.places c.self.inside.struct_places c.self.inside.tags_known) (sym c.in_ok-push-in-None.ensures.ok)
    (funs_repeated c.self.inside.types c.self.inside.ty_places c.self.inside.fun_places c.self.inside.struct_places c.key_for.new.places c.self.inside.tags_known c.args.f c.as_slice.result.now (spare c.key_for.new.places) c.self.invariant c.in_ok-key.ensures.stays (c.as_slice.ensures.value ∙ c.in_ok-numbers.ensures) told)
