use Rattle.std.proofs.Common.{◌≡◌, Some, slice_get, false, arith}
use Rattle.c_typing.specs.TypeForms.{same_type}
use Rattle.c_typing.specs.Externals.{global_named}
use Rattle.check_decls.proofs.TakenLaws.{global_differs}
use Rattle.check_decls.proofs.globals.enter.Goals as goal

pub returns-else-is_same_type : goal.returns-else-is_same_type
returns-else-is_same_type c =
    let found : global_named c.args.state.now.globals c.args.name.now.text ≡ Some c.in-Some.place = grind arith in
    let there : slice_get c.args.state.now.globals c.in-Some.place ≡ Some c.in-Some-get.d.now = grind arith in
    let other : same_type c.in-Some-get.d.now.ty c.args.ty ≡ false = grind arith in
    rw c.refusal.ensures (global_differs c.args.name.now c.args.ty c.args.state.now c.in-Some.place c.in-Some-get.d.now found there other)
