-- All but the labels, and the labels.
use Rattle.std.proofs.Common.{◌≡◌, Bool, true, false, refl, sym}
use Rattle.std.specs.Prelude.{◌&&◌, IsTrue}
use Rattle.std.specs.List.{list_all}
use Rattle.ir_core.specs.declared.program.IrFn.{IrFn}
use Rattle.ir_core.specs.Operands.{is_signature, fits}
use Rattle.ir_core.specs.Valid.{is_slot, are_parameters, is_ending, last_of, StandOnce, is_shaped, IsValid}

pub first_of : (a b : Bool) → IsTrue (a && b) → IsTrue a
first_of true b h = refl
first_of false b h = cc

pub second_of : (a b : Bool) → IsTrue (a && b) → IsTrue b
second_of true b h = h
second_of false b h = cc

both_of : (a b : Bool) → IsTrue a → IsTrue b → IsTrue (a && b)
both_of true b h k = k
both_of false b h k = cc

pub shaped_is_valid : (f : IrFn) → IsTrue (is_shaped f) → StandOnce f.labels f.ops → IsValid f
shaped_is_valid f h labels =
    let s = is_signature f.sig in
    let l = list_all is_slot f.slots in
    let p = are_parameters f.slots 0 f.sig.args in
    let o = list_all (fits f) f.ops in
    let e = is_ending (last_of f.ops) in
    let second = second_of s (l && (p && (o && e))) h in
    let third = second_of l (p && (o && e)) second in
    let fourth = second_of p (o && e) third in
    record {
      signature = first_of s (l && (p && (o && e))) h;
      slots = first_of l (p && (o && e)) second;
      parameters = first_of p (o && e) third;
      operations = first_of o e fourth;
      ending = second_of o e fourth;
      labels = labels;
    }

pub valid_is_shaped : (f : IrFn) → IsValid f → IsTrue (is_shaped f)
valid_is_shaped f v =
    let s = is_signature f.sig in
    let l = list_all is_slot f.slots in
    let p = are_parameters f.slots 0 f.sig.args in
    let o = list_all (fits f) f.ops in
    let e = is_ending (last_of f.ops) in
    both_of s (l && (p && (o && e))) v.signature (both_of l (p && (o && e)) v.slots (both_of p (o && e) v.parameters (both_of o e v.operations v.ending)))

-- the shape is as it should be, so the labels tell
pub labels_tell : (f : IrFn) (b : Bool) → true ≡ is_shaped f → (IsTrue b → StandOnce f.labels f.ops) × (StandOnce f.labels f.ops → IsTrue b) → (IsTrue b → IsValid f) × (IsValid f → IsTrue b)
labels_tell f b e tells = (λ h. shaped_is_valid f (sym e) (tells.0 h), λ v. tells.1 v.labels)
