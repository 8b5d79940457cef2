-- Tags stay known where the struct has the tag of the one in whose place it stands.
use Rattle.std.proofs.Common.{◌≡◌, List, true, slice_get, sym, subst, ◌∙◌}
use Rattle.std.proofs.lemmas.Bool.{false≢true}
use Rattle.c_types.specs.declared.types.StructDef.{StructDef}
use Rattle.type_table.specs.TypeKeys.{keeps_tag, IsIndexed}
use Rattle.type_table.proofs.TableLaws.{struct_set}
use Rattle.type_table.proofs.table.TypeTable.set_struct.Goals as goal
use Rattle.type_table.proofs.table.TypeTable.set_struct.Goals.{then-self, else-self}

pub invariant_of-self : goal.invariant_of-self
invariant_of-self c =
    let kept : c.keeps_tag-kept.result ≡ keeps_tag (slice_get c.self.inside.types.structs c.args.place) c.args.definition.tag =
    c.keeps_tag-kept.ensures ∙ (λ j. keeps_tag (slice_get (c.as_slice.ensures j) c.args.place) (c.as_slice-2.ensures j)) in
    let told : c.if-self.self ≡ true → (c.self.inside.tags_known ≡ true) × (keeps_tag (slice_get c.self.inside.types.structs c.args.place) c.args.definition.tag ≡ true) =
    λ t. elim c.if-self.branch [
      | then-self w ↦ (w.if-self.true, sym kept ∙ sym w.self-is ∙ t)
      | else-self w ↦ absurd (false≢true (sym w.if-self.false ∙ sym w.self-is ∙ t))
    ] in
    subst (λ (xs : List StructDef). IsIndexed (record c.self.inside.types { structs = xs }) c.self.inside.ty_places c.self.inside.fun_places c.self.inside.struct_places c.if-self.self) (sym c.put_struct.ensures)
    (struct_set c.self.inside.types c.self.inside.ty_places c.self.inside.fun_places c.self.inside.struct_places c.self.inside.tags_known c.if-self.self c.args.place c.args.definition told c.self.invariant)
