use Rattle.std.proofs.Common.{◌≡◌, drop, map}
use Rattle.c_typing.specs.Statements.{in_scopes, scoped_behind, visit_block, visit_block_item}
use Rattle.check_stmt.proofs.statements.+statements.Given as goal

abbrev pub invariant-type_items-loop-item : goal.invariant-type_items-loop-item
invariant-type_items-loop-item l = record {
  left : scoped_behind l.typed (in_scopes (map (λ x. visit_block_item l.unit l.f x l.in_loop) (drop l.item-index l.items)) l.locals l.tables) ≡ visit_block l.unit l.f l.in_loop l.items l.initial.locals l.initial.tables;
  outer : l.locals.outer ≡ l.initial.locals.outer;
}
