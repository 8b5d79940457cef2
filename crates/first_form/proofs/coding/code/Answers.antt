use Rattle.std.proofs.Common.{◌≡◌, ◌++◌, length, get_or, ap, sym, ◌∙◌, arith, pos}
use Rattle.reg_map.specs.declared.registers.X64Reg.TheVariants.{Rsp}
use Rattle.x64_isa.specs.declared.instruction.XInstr.TheVariants.{SubImm}
use Rattle.x64_isa.specs.Spelling.{spell_of}
use Rattle.first_form.specs.FirstCode.{body_of, spelled, code_of}
use Rattle.first_form.proofs.CodeLaws.{code_begins, put_more, code_ends}
use Rattle.first_form.proofs.coding.code.Goals as goal

pub loop-put-init : goal.loop-put-init
loop-put-init c =
    let u = c.args.unit.now in
    let code : c.append.new.code.items ≡ spell_of (SubImm Rsp (pos 32)) = c.in_ok-append.ensures ∙ ap (λ xs. xs ++ spell_of (SubImm Rsp (pos 32))) c.new-code.ensures.items in
    ap (λ xs. xs ++ spelled (body_of u.puts.items u.status)) code ∙ sym (code_begins u.puts.items u.status)

pub loop-put-preserved : goal.loop-put-preserved
loop-put-preserved c =
    let u = c.args.unit.now in
    let items = c.deref-put-items.ensures.value in
    put_more c.loop-put.code.items c.append_call.new.code.items (code_of u.puts.items u.status) u.puts.items u.status _ c.loop-put.put-index
    c.in_ok-append_call.ensures
    (omega (arith, c.loop-put-test.true, ap length items))
    (ap (λ xs. get_or xs c.loop-put.put-index 0) items)
    c.loop-put.invariant

pub returns : goal.returns
returns c =
    let u = c.args.unit.now in
    let items = c.deref-put-items.ensures.value in
    code_ends c.loop-put.code.items c.append_call-2.new.code.items c.append-2.new.code.items u.puts.items u.status c.loop-put.put-index
    c.in_ok-append_call-2.ensures c.in_ok-append-2.ensures
    (omega (arith, c.loop-put-test.false, c.loop-put.auto.put-index-end, ap length items))
    c.loop-put.invariant
