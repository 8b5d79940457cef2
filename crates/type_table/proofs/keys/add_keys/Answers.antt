-- One more type: its numbers stand behind those of the types before it.
use Rattle.std.proofs.Common.{ℕ, ◌+◌, ◌<◌, ◌++◌, List, length, get_or, take, ap, sym, ◌∙◌, arith}
use Rattle.std.proofs.lemmas.List.{take_more}
use Rattle.c_types.specs.declared.types.Ty.{Ty}
use Rattle.c_types.specs.declared.types.Ty.TheVariants.{Void}
use Rattle.type_table.specs.TypeKeys.{ty_key, keys_of}
use Rattle.type_table.proofs.KeyLaws.{keys_more}
use Rattle.type_table.proofs.keys.add_keys.Goals as goal

pub loop-ty-preserved : goal.loop-ty-preserved
loop-ty-preserved c =
    let there : c.loop-ty.ty-index < length c.args.tys.now = omega arith in
    c.in_ok-add_key.ensures
    ∙ ap (λ (ks : List ℕ). ks ++ ty_key (get_or c.args.tys.now c.loop-ty.ty-index Void)) c.loop-ty.invariant
    ∙ keys_more c.args.key.now.items (take c.loop-ty.ty-index c.args.tys.now) (get_or c.args.tys.now c.loop-ty.ty-index Void)
    ∙ ap (λ (ts : List Ty). c.args.key.now.items ++ keys_of ts) (sym (take_more c.args.tys.now c.loop-ty.ty-index Void there))
