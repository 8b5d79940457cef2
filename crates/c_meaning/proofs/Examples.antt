-- The worked programs.
use Rattle.std.proofs.Common.{◌≡◌, ℕ, zero, suc, ◌+◌, ◌-◌, ◌*◌, ◌≤◌, Bool, true, List, [], ◌∷◌, refl, ap, ◌∙◌, arith}
use Rattle.std.specs.Prelude.{Some, None, ℤ, pos, codes, sum_by}
use Rattle.c_types.specs.declared.types.IntTy.TheVariants.{I32}
use Rattle.c_types.specs.declared.types.Ty.TheVariants as ty
use Rattle.c_program.specs.declared.expressions.TypedExpr.TheVariants.{outs-Number}
use Rattle.c_program.specs.declared.expressions.Place.TheOpen.{TypedExpr-F}
use Rattle.c_program.specs.declared.expressions.Target.TheVariants as to
use Rattle.c_program.specs.declared.statements.TypedItem.{TypedItem}
use Rattle.c_program.specs.declared.statements.TypedItem.TheVariants as item
use Rattle.c_program.specs.declared.statements.TypedItem.TheVariants.{outs-Stmt}
use Rattle.c_program.specs.declared.statements.TypedStmt.{TypedStmt}
use Rattle.c_program.specs.declared.statements.TypedStmt.TheVariants as stmt
use Rattle.c_program.specs.declared.statements.TypedStmt.TheVariants.{outs-Return, outs-While, outs-Empty}
use Rattle.c_program.specs.declared.statements.TypedItem.TheOpen.{TypedStmt-F}
use Rattle.c_program.specs.Nodes.{item_nodes, stmt_nodes}
use Rattle.c_program.specs.FrameBytes.{item_bytes, stmt_bytes}
use Rattle.c_program.proofs.NodeLaws.{item_nodes-Stmt, stmt_nodes-Return, stmt_nodes-While, stmt_nodes-Empty, expr_nodes-Number}
use Rattle.c_program.proofs.ByteLaws.{item_bytes-Stmt, stmt_bytes-Return, stmt_bytes-While, stmt_bytes-Empty, expr_bytes-Number}
use Rattle.c_types.specs.Layout.{extent_within}
use Rattle.c_types.specs.declared.types.Types.{Types}
use Rattle.c_values.specs.declared.value.Value.TheVariants as value
use Rattle.c_values.specs.declared.value.Value.TheVariants.{outs-Number as outs-Value-Number}
use Rattle.c_values.specs.declared.value.Value.TheOpen.{Value-F}
use Rattle.c_values.specs.Numbers.{low_bits, wrapped}
use Rattle.c_values.specs.Objects.{number_in, number_at, truth, truth_at}
use Rattle.c_meaning.specs.declared.outcome.SourceEnd.TheVariants as ends
use Rattle.c_meaning.specs.Charge.{charge_of}
use Rattle.c_meaning.specs.States.{State, opened, closed}
use Rattle.c_meaning.specs.Rules.{Done, Spent, Act, Flow, Normal, Gave, pure, ◌>>=◌, choose, Setting, Body, meaning, call_rule, block_rule, items_rule, item_rule, then_run, leave, again, effect, holds}
use Rattle.c_meaning.specs.Start.{setting_of, start, callee_in}
use Rattle.c_meaning.specs.Source.{source, stand_of, stand, run_of}
use Rattle.c_meaning.specs.Worked.{int_main, main_block, only_main, number, give_number, gives_seven, endless, seven_run, endless_run}
use Rattle.c_meaning.proofs.Steady.{loop_is, call_is}
use Rattle.c_meaning.proofs.Steps.{paid, bind_done, bind_spent, value_step, statement_step, value_unpaid}

main_is : (xs : List TypedItem) → callee_in (only_main xs) (to.Function 0) ≡ Body int_main (main_block xs)
unfolding callee_in
main_is xs = refl

abbrev begun : (xs : List TypedItem) → ℕ → State
begun xs c = opened (to.Function 0) c [] [] (start (only_main xs) [])

-- main's block, from the state in which it begins
entered : (xs : List TypedItem) (n : ℕ) → stand_of (only_main xs) [] n ≡ stand ((block_rule (only_main xs).types (meaning (setting_of (only_main xs))) xs >>= leave (only_main xs).types (ty.Int I32)) (begun xs (charge_of (only_main xs) (to.Function 0))) n)
unfolding stand_of
entered xs n = let m = setting_of (only_main xs) in
    ap stand (call_is m (to.Function 0) [] (start (only_main xs) []) n)
    ∙ ap (λ c. stand (call_rule m (meaning m) c (to.Function 0) [] (start (only_main xs) []) n)) (main_is xs)

module _ (m : Setting) where
  number_done : (n : ℕ) (s : State) (k : ℕ) → 1 ≤ k → (meaning m).value (number n) s k ≡ Done (value.Number (wrapped I32 (pos n))) s (k - 1)
  number_done n s k le = value_step m (number n) (TypedExpr-F.Number I32 n) (outs-Number I32 n) s k le

  give_done : (n : ℕ) (s : State) (k : ℕ) → 2 ≤ k → (meaning m).statement (stmt.Return (Some (number n))) s k ≡ Done (Gave (value.Number (wrapped I32 (pos n)))) s (k - 2)
  give_done n s k le =
      statement_step m _ (TypedStmt-F.Return (Some (number n))) (outs-Return (Some (number n))) s k (omega arith)
      ∙ bind_done ((meaning m).value (number n)) (λ v. pure (Gave v)) (number_done n s (k - 1) (omega arith))
      ∙ ap (Done (Gave (value.Number (wrapped I32 (pos n)))) s) (omega arith)

  first_item : (x : TypedStmt) (xs : List TypedItem) (s : State) (k : ℕ) → items_rule m.types (meaning m) (item.Stmt x ∷ xs) s k ≡ ((meaning m).statement x >>= then_run (items_rule m.types (meaning m) xs)) s k
  first_item x xs s k = ap (λ f. (item_rule m.types (meaning m) f >>= then_run (items_rule m.types (meaning m) xs)) s k) (outs-Stmt x)

  give_items : (n : ℕ) (xs : List TypedItem) (s : State) (k : ℕ) → 2 ≤ k → items_rule m.types (meaning m) (give_number n ∷ xs) s k ≡ Done (Gave (value.Number (wrapped I32 (pos n)))) s (k - 2)
  give_items n xs s k le = first_item (stmt.Return (Some (number n))) xs s k
      ∙ bind_done ((meaning m).statement (stmt.Return (Some (number n)))) (then_run (items_rule m.types (meaning m) xs)) (give_done n s k le)

number_of : (z : ℤ) → number_in (value.Number z) ≡ z
unfolding number_in
number_of z = ap number_at (outs-Value-Number z)

true_of : (z : ℤ) → truth (value.Number z) ≡ truth_at (Value-F.Number z)
unfolding truth
true_of z = ap truth_at (outs-Value-Number z)

one_is_true : truth (value.Number (wrapped I32 (pos 1))) ≡ true
unfolding wrapped low_bits
one_is_true = true_of (wrapped I32 (pos 1))

module _ (m : Setting) where
  abbrev round : Act Flow
  round = (meaning m).loop (Some (number 1)) None stmt.Empty

  abbrev next_round : Act Flow
  next_round = effect (meaning m).value None >>= (λ flow. round)

  abbrev body_of : Bool → Act Flow
  body_of go = choose go ((meaning m).statement stmt.Empty >>= again next_round) (pure Normal)

  one_holds : (s : State) (k : ℕ) → 1 ≤ k → holds (meaning m).value (Some (number 1)) s k ≡ Done true s (k - 1)
  one_holds s k le = bind_done ((meaning m).value (number 1)) (λ v. pure (truth v)) (number_done m 1 s k le) ∙ ap (λ b. Done b s (k - 1)) one_is_true

  empty_done : (s : State) (k : ℕ) → 1 ≤ k → (meaning m).statement stmt.Empty s k ≡ Done Normal s (k - 1)
  empty_done s k le = statement_step m stmt.Empty TypedStmt-F.Empty outs-Empty s k le

  -- a turn pays 2 units and changes nothing
  turn : (s : State) (k : ℕ) → 2 ≤ k → round s k ≡ round s (k - 2)
  turn s k le = loop_is m (Some (number 1)) None stmt.Empty s k
      ∙ bind_done (holds (meaning m).value (Some (number 1))) body_of (one_holds s k (omega arith))
      ∙ bind_done ((meaning m).statement stmt.Empty) (again next_round) (empty_done s (k - 1) (omega arith))
      ∙ bind_done (effect (meaning m).value None) (λ flow. round) refl
      ∙ ap (round s) (omega arith)

  turns : (j : ℕ) (s : State) (k : ℕ) → k ≡ 2 * j → round s k ≡ Spent s 0
  turns zero s k e = let z : k ≡ 0 = omega (arith, e) in ap (round s) z ∙ loop_is m (Some (number 1)) None stmt.Empty s 0
      ∙ bind_spent (holds (meaning m).value (Some (number 1))) body_of (bind_spent ((meaning m).value (number 1)) (λ v. pure (truth v)) (value_unpaid m (number 1) (TypedExpr-F.Number I32 1) (outs-Number I32 1) s 0 (omega arith)))
  turns (suc j) s k e = turn s k (omega arith) ∙ turns j s (k - 2) (omega arith)

  endless_items : (xs : List TypedItem) (s : State) → items_rule m.types (meaning m) (item.Stmt (stmt.While (number 1) stmt.Empty) ∷ xs) s 999 ≡ Spent s 0
  endless_items xs s = first_item m (stmt.While (number 1) stmt.Empty) xs s 999
      ∙ bind_spent ((meaning m).statement (stmt.While (number 1) stmt.Empty)) (then_run (items_rule m.types (meaning m) xs))
      (statement_step m _ (TypedStmt-F.While (number 1) stmt.Empty) (outs-While (number 1) stmt.Empty) s 999 (omega arith) ∙ turns 499 s 998 refl)

main_charge : (xs : List TypedItem) (n : ℕ) → sum_by item_nodes xs ≡ n → sum_by (item_bytes (only_main xs).types) xs ≡ 0 → charge_of (only_main xs) (to.Function 0) ≡ 1184 + 64 * n
unfolding charge_of extent_within
main_charge xs n e b = omega (arith, e, b)

number_264 : low_bits 8 (number_in (value.Number (wrapped I32 (pos 263)))) ≡ 7
unfolding wrapped low_bits
number_264 = ap (low_bits 8) (number_of (wrapped I32 (pos 263)))

give_nodes : (n : ℕ) → item_nodes (give_number n) ≡ 2
give_nodes n = item_nodes-Stmt _ ∙ stmt_nodes-Return _ ∙ ap (λ i. i + 1) (expr_nodes-Number I32 n)

give_bytes : (t : Types) (n : ℕ) → item_bytes t (give_number n) ≡ 0
give_bytes t n = item_bytes-Stmt t _ ∙ stmt_bytes-Return t _ ∙ expr_bytes-Number t I32 n

while_nodes : item_nodes (item.Stmt (stmt.While (number 1) stmt.Empty)) ≡ 3
while_nodes = item_nodes-Stmt _ ∙ stmt_nodes-While _ _ ∙ ap (λ i. i + stmt_nodes stmt.Empty + 1) (expr_nodes-Number I32 1) ∙ ap (λ i. 1 + i + 1) stmt_nodes-Empty

while_bytes : (t : Types) → item_bytes t (item.Stmt (stmt.While (number 1) stmt.Empty)) ≡ 0
while_bytes t = item_bytes-Stmt t _ ∙ stmt_bytes-While t _ _ ∙ ap (λ i. i + stmt_bytes t stmt.Empty) (expr_bytes-Number t I32 1) ∙ ap (λ i. 0 + i) (stmt_bytes-Empty t)

seven_charge : charge_of gives_seven (to.Function 0) ≡ 1312
seven_charge = main_charge (give_number 263 ∷ []) 2 (let a = give_nodes 263 in omega (arith, a)) (let b = give_bytes gives_seven.types 263 in omega (arith, b))

endless_charge : charge_of endless (to.Function 0) ≡ 1504
endless_charge = main_charge _ 5 (let a = while_nodes in let b = give_nodes 0 in omega (arith, a, b)) (let a = while_bytes endless.types in let b = give_bytes endless.types 0 in omega (arith, a, b))

seven_stand : (n : ℕ) → 3 ≤ n → stand_of gives_seven [] n ≡ record { outcome = ends.Exit 7; state = closed (begun (give_number 263 ∷ []) 1312); left = n - 3 }
seven_stand n le =
    let m = setting_of gives_seven in let xs = give_number 263 ∷ [] in let s = begun xs (charge_of gives_seven (to.Function 0)) in
    entered xs n
    ∙ ap stand (bind_done (block_rule m.types (meaning m) xs) (leave m.types (ty.Int I32)) (paid 1 (items_rule m.types (meaning m) xs) s n (omega arith) ∙ give_items m 263 [] s (n - 1) (omega arith)))
    ∙ ap (λ c. record { outcome = ends.Exit c; state = closed s; left = n - 1 - 2 }) number_264
    ∙ ap (λ c. record { outcome = ends.Exit 7; state = closed (begun xs c); left = n - 1 - 2 }) seven_charge
    ∙ ap (λ j. record { outcome = ends.Exit 7; state = closed (begun xs 1312); left = j }) (omega arith)

endless_stand : stand_of endless [] 1000 ≡ record { outcome = ends.Running; state = begun (item.Stmt (stmt.While (number 1) stmt.Empty) ∷ give_number 0 ∷ []) 1504; left = 0 }
endless_stand =
    let m = setting_of endless in let xs = item.Stmt (stmt.While (number 1) stmt.Empty) ∷ give_number 0 ∷ [] in let s = begun xs (charge_of endless (to.Function 0)) in
    entered xs 1000
    ∙ ap stand (bind_spent (block_rule m.types (meaning m) xs) (leave m.types (ty.Int I32)) (paid 1 (items_rule m.types (meaning m) xs) s 1000 (omega arith) ∙ endless_items m (give_number 0 ∷ []) s))
    ∙ ap (λ c. record { outcome = ends.Running; state = begun xs c; left = 0 }) endless_charge

pub seven_runs : (n : ℕ) → 3 ≤ n → source gives_seven [] n ≡ seven_run
seven_runs n le = ap (run_of gives_seven n) (seven_stand n le) ∙ ap (λ u. record { output = []; outcome = ends.Exit 7; taken = 0; units = u; peak = 5408; walk = codes "main" ∷ [] }) (omega arith)

pub endless_runs : source endless [] 1000 ≡ endless_run
endless_runs = ap (run_of endless 1000) endless_stand
