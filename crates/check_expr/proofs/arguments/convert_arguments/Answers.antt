use Rattle.std.proofs.Common.{◌≡◌, length, Some, None}
use Rattle.std.specs.Prelude.{slice_get}
use Rattle.c_typing.specs.Expressions.{converted_arguments}
use Rattle.check_expr.specs.Calls.{argument_in}
use Rattle.check_expr.proofs.arguments.convert_arguments.Goals as goal
use Rattle.check_expr.proofs.ArgumentLaws.{arguments_kept, arguments_none, arguments_done}

pub returns-in_default-2 : goal.returns-in_default-2
returns-in_default-2 c =
    let a : argument_in (slice_get c.args.params.now (length c.loop-value.arguments)) c.in-Some.value ≡ None = cc (c.in_ok-argument.ensures, c.in_default-2.is, c.len-place.ensures) in
    arguments_none c.args.params.now c.loop-value.left c.pop.new.self c.in-Some.value c.loop-value.arguments (converted_arguments c.args.params.now c.args.values) c.in-Some.ensures a c.loop-value.invariant

pub loop-value-preserved : goal.loop-value-preserved
loop-value-preserved c =
    let a : argument_in (slice_get c.args.params.now (length c.loop-value.arguments)) c.in-Some.value ≡ Some c.into_inner.result =
    cc (c.in_ok-argument.ensures, c.in-Some-2.is, c.len-place.ensures, c.into_inner.ensures) in
    arguments_kept c.args.params.now c.loop-value.left c.pop.new.self c.in-Some.value c.loop-value.arguments c.push.new.self c.into_inner.result (converted_arguments c.args.params.now c.args.values) c.in-Some.ensures a c.in_ok-push.ensures.ok c.loop-value.invariant

pub returns : goal.returns
returns c = arguments_done c.args.params.now c.loop-value.left c.loop-value.arguments (length c.loop-value.arguments) (converted_arguments c.args.params.now c.args.values) c.in_default.ensures.0 c.loop-value.invariant
