-- The units of work that one evaluation of a part of a program pays, all at once and before any part
-- of it is evaluated. This measure is the project's own.
use Rattle.std.specs.Prelude.{ℕ, ◌+◌, List, length}
use Rattle.c_types.specs.declared.types.Types.{Types}
use Rattle.c_types.specs.Layout.{size_of}
use Rattle.c_program.specs.declared.expressions.Place.TheOpen.{TypedExpr-F}
use Rattle.c_program.specs.declared.statements.Declared.{Declared}
use Rattle.c_program.specs.FrameBytes.{struct_bytes}

-- a call's: 1, 8, and 1 for each argument
abbrev pub call_cost : {A : Type 0} → List A → ℕ
call_cost args = 9 + length args

-- an expression's: 1, what a call pays, and the bytes of a struct that is its value. Reading a place
-- pays what the place does, which is 1, and the bytes
abbrev pub expr_cost : {P E : Type 0} → Types → TypedExpr-F P E → ℕ
expr_cost t (TypedExpr-F.Number i n) = 1
expr_cost t (TypedExpr-F.Char z) = 1
expr_cost t (TypedExpr-F.Null a) = 1
expr_cost t (TypedExpr-F.Function a f) = 1
expr_cost t (TypedExpr-F.Load a p) = 1 + struct_bytes t a
expr_cost t (TypedExpr-F.Address a p) = 1
expr_cost t (TypedExpr-F.Same e) = 1
expr_cost t (TypedExpr-F.Negate i e) = 1
expr_cost t (TypedExpr-F.Complement i e) = 1
expr_cost t (TypedExpr-F.Not e) = 1
expr_cost t (TypedExpr-F.Convert i e) = 1
expr_cost t (TypedExpr-F.Binary o i l r) = 1
expr_cost t (TypedExpr-F.Compare c a l r) = 1
expr_cost t (TypedExpr-F.And l r) = 1
expr_cost t (TypedExpr-F.Or l r) = 1
expr_cost t (TypedExpr-F.Conditional a c l r) = 1 + struct_bytes t a
expr_cost t (TypedExpr-F.Assign a p e) = 1 + struct_bytes t a
expr_cost t (TypedExpr-F.Update o i j p e) = 1
expr_cost t (TypedExpr-F.Before i up p) = 1
expr_cost t (TypedExpr-F.After i up p) = 1
expr_cost t (TypedExpr-F.Call a f args) = call_cost args + struct_bytes t a
expr_cost t (TypedExpr-F.CallPointer a k e args) = call_cost args + struct_bytes t a
expr_cost t (TypedExpr-F.CallService s args) = call_cost args
expr_cost t (TypedExpr-F.VaArg i) = 1
expr_cost t (TypedExpr-F.FieldOf a e s f) = 1 + struct_bytes t a
expr_cost t (TypedExpr-F.ElementOf a e i n) = 1 + struct_bytes t a

-- a declarator's: 1, and the size of its local
abbrev pub declarator_cost : Types → Declared → ℕ
declarator_cost t d = 1 + size_of t d.ty
