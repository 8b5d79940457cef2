use Rattle.std.proofs.Common.{rules, w32, arith, ◌∙◌, ap, sym, subst, take, drop}
use Rattle.std.proofs.lemmas.List.{take-take}
use Rattle.std.proofs.lemmas.Int.{to_z-of_z}
use mir.Val.{SFits}
use Rattle.hx_words.specs.LittleEndian.{number_of}
use Rattle.fast_forward.proofs.Parts.{found, has_front, has_back, has_length, differs, differs_not}
use Rattle.fast_forward.specs.Sequence.{front, back, Jumps}
use Rattle.hx_bits.proofs.LowBytes.{AreBytes-from_items}
use Rattle.fast_forward.proofs.shape.jump_of.Goals as goal
use Rattle.fast_forward.proofs.shape.jump_of.Goals.{then-bytes-lt16-via-then-bytes-lt16, then-bytes-lt16-via-else-bytes-lt16+then-ne, then-bytes-lt16-via-else-bytes-lt16+else-ne+then-ne-2}

pub returns-then-bytes-lt16-clause-none : goal.returns-then-bytes-lt16-clause-none
returns-then-bytes-lt16-clause-none c = λ z h.
    elim c.then-bytes-lt16.branch [
      | then-bytes-lt16-via-then-bytes-lt16 w ↦ omega (arith, has_length c.args.bytes.now z h, w.if-bytes-lt16.true)
      | then-bytes-lt16-via-else-bytes-lt16+then-ne w ↦ differs (take 10 c.args.bytes.now) front w.ne.result w.ne.ensures w.if-ne.true (has_front c.args.bytes.now z h)
      | then-bytes-lt16-via-else-bytes-lt16+else-ne+then-ne-2 w ↦ differs (take 2 (drop 14 c.args.bytes.now)) back w.ne-else-ne.result w.ne-else-ne.ensures w.if-ne-2.true (has_back c.args.bytes.now z h)
    ]

pub returns-clause-found : goal.returns-clause-found
returns-clause-found c =
    let are = AreBytes-from_items c.args.bytes.now (λ k. omega (arith, c.type_inv.bytes k)) in
    let h = found c.args.bytes.now c.read_number.result are c.if-bytes-lt16.false (differs_not (take 10 c.args.bytes.now) front c.ne.result c.ne.ensures c.if-ne.false) (differs_not (take 2 (drop 14 c.args.bytes.now)) back c.ne-else-ne.result c.ne-else-ne.ensures c.if-ne-2.false) c.read_number.ensures.bound (c.read_number.ensures.value ∙ ap number_of (take-take 4 4 (drop 10 c.args.bytes.now) (omega arith))) in
    let fits : SFits w32 c.signed.result = search rules in
    subst (λ z. Jumps c.args.bytes.now z) (sym (to_z-of_z w32 c.signed.result fits ∙ c.signed.ensures)) h
