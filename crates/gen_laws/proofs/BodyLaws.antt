-- What the rules of types give for the block of each line.
use Rattle.std.proofs.Common.{◌≡◌, ℕ, false, List, [], ◌∷◌, ◌++◌, Some, None, Ok, refl}
use Rattle.std.specs.Prelude.{codes}
use Rattle.c_types.specs.declared.types.Span.{Span}
use Rattle.c_types.specs.declared.types.IntTy.TheVariants.{I32, I64, U64}
use Rattle.c_types.specs.declared.types.Ty.{Ty}
use Rattle.c_types.specs.declared.types.Ty.TheVariants.{Int, Fun, Array}
use Rattle.c_tree.specs.declared.operators.BinaryOp.TheVariants as op
use Rattle.c_tree.specs.declared.operators.AssignOp.TheVariants as set
use Rattle.c_tree.specs.declared.expressions.Base.TheVariants as base
use Rattle.c_tree.specs.declared.expressions.Expr.TheVariants as expr
use Rattle.c_tree.specs.declared.statements.Local.TheVariants as local
use Rattle.c_tree.specs.declared.statements.ForStart.TheVariants as start
use Rattle.c_tree.specs.declared.statements.BlockItem.TheVariants as block_item
use Rattle.c_tree.specs.declared.statements.Stmt.TheVariants as stmt
use Rattle.c_program.specs.declared.expressions.Target.{Target}
use Rattle.c_typing.specs.declared.scopes.UnitScope.{UnitScope}
use Rattle.c_typing.specs.declared.scopes.LocalScope.{LocalScope}
use Rattle.c_typing.specs.declared.scopes.LocalMeaning.TheVariants.{Variable}
use Rattle.c_typing.specs.declared.scopes.Meaning.{Meaning}
use Rattle.c_typing.specs.declared.scopes.Meaning.TheVariants.{Typedef, Global}
use Rattle.c_typing.specs.declared.operands.Designated.TheVariants as designated
use Rattle.c_typing.specs.declared.tables.Tables.{Tables}
use Rattle.c_typing.specs.declared.tables.Enclosing.{Enclosing}
use Rattle.c_typing.specs.Conversions.{converted, as_value, as_effect, as_scalar, converted_to, joined}
use Rattle.c_typing.specs.Expressions.{computed, ordered, cast, called, called_by_name, called_by_pointer, called_service, passed, stored, as_place, integer_place, stepped_after, indexed, visit_values}
use Rattle.c_typing.specs.Heads.{function_type}
use Rattle.c_typing.specs.Scopes.{named, is_taken, meaning_in, of_unit, no_locals}
use Rattle.c_typing.specs.Statements.{enter_local, free_name, visit_initial, visit_declarator, visit_declarators, visit_block, visit_body, in_scopes}
use Rattle.c_typing.specs.UnitVisits.{with_scope}
use Rattle.c_typing.specs.TypeForms.{enter_type, enter_function, pointer_type, starred, formed_type, result_type, object_type, array_type, array_types, declared_type}
use Rattle.c_typing.specs.Visits.{followed, give, refuse, judged, looked, changed, each_in_order}
use Rattle.c_typing.proofs.ExprLaws.{expr_visits}
use Rattle.c_typing.proofs.StmtLaws.{stmt_visits, block_item_visits}
use Rattle.parse_terms.specs.Terminals.{name_of}
use Rattle.parse_terms.specs.Declarators.{literal, decl}
use Rattle.parse_stmt.specs.StmtGrammar.{local_decl}
use Rattle.gen_units.specs.Trees.{f_name}
use Rattle.gen_laws.specs.Programs.{long_type, call_type, line_block, main_block, returned, first, second}
use Rattle.gen_tokens.specs.UnitPieces.{Added, Multiplied, Pointed}
use Rattle.c_program.specs.declared.expressions.Arithmetic.TheVariants as arithmetic
use Rattle.c_program.specs.declared.expressions.TypedExpr.TheVariants as typed

-- the tables while the lines are visited
abbrev pub tables : List Ty → Tables
tables locals = record { types = record { tys = []; structs = []; funs = call_type ∷ [] }; locals = locals; has_list = false; extras = 0 }

-- inside a function of the one type
abbrev pub enclosing : Enclosing
enclosing = record { result = long_type; parameters = 2; variadic = false }

-- its parameters
abbrev pub parameters : LocalScope
parameters = record { own = record { name = codes "a"; meaning = Variable 0 long_type } ∷ record { name = codes "b"; meaning = Variable 1 long_type } ∷ []; outer = [] }

abbrev pub two : List Ty
two = long_type ∷ long_type ∷ []

pub zero_body : (unit : UnitScope) (s13 s14 s15 s16 : Span) → visit_body unit enclosing parameters (block_item.Stmt (stmt.Return s13 (Some (expr.Binary op.Add s15 (expr.Name (name_of (codes "a") s14)) (expr.Name (name_of (codes "b") s16))))) ∷ []) (tables two) ≡ Ok (record { part = returned (typed.Binary arithmetic.Add I64 first second) ∷ []; locals = parameters }, tables two)
unfolding give followed refuse judged looked changed each_in_order converted as_value as_effect as_scalar converted_to joined computed ordered cast called called_by_name called_by_pointer called_service passed stored as_place integer_place stepped_after indexed named is_taken enter_local free_name visit_initial visit_declarator visit_declarators visit_block in_scopes with_scope enter_type enter_function pointer_type starred formed_type result_type object_type array_type array_types declared_type visit_values
zero_body unit s13 s14 s15 s16 = simp (expr_visits, stmt_visits, block_item_visits) refl

pub added_body : (unit : UnitScope) (j c : ℕ) (m : Meaning) (f : Target) (s13 s14 s15 s16 s17 s18 s20 s22 s23 : Span) → meaning_in unit.names (f_name j) ≡ Some m → of_unit m ≡ designated.Function 0 f →
    visit_body unit enclosing parameters (block_item.Stmt (stmt.Return s13 (Some (expr.Binary op.Subtract s22 (expr.Call (expr.Name (name_of (f_name j) s14)) s15 (expr.Binary op.Add s17 (expr.Name (name_of (codes "a") s16)) (expr.Number (literal c I32 s18)) ∷ (expr.Name (name_of (codes "b") s20)) ∷ [])) (expr.Name (name_of (codes "b") s23))))) ∷ []) (tables two) ≡ Ok (record { part = line_block Added f c; locals = parameters }, tables two)
unfolding give followed refuse judged looked changed each_in_order converted as_value as_effect as_scalar converted_to joined computed ordered cast called called_by_name called_by_pointer called_service passed stored as_place integer_place stepped_after indexed named is_taken enter_local free_name visit_initial visit_declarator visit_declarators visit_block in_scopes with_scope enter_type enter_function pointer_type starred formed_type result_type object_type array_type array_types declared_type visit_values
added_body unit j c m f s13 s14 s15 s16 s17 s18 s20 s22 s23 means is = simp (expr_visits, stmt_visits, block_item_visits, means, is) refl

pub multiplied_body : (unit : UnitScope) (j c : ℕ) (m : Meaning) (f : Target) (s13 s14 s15 s16 s17 s18 s19 s20 s22 : Span) → meaning_in unit.names (f_name j) ≡ Some m → of_unit m ≡ designated.Function 0 f →
    visit_body unit enclosing parameters (block_item.Stmt (stmt.Return s13 (Some (expr.Binary op.Add s17 (expr.Binary op.Multiply s15 (expr.Name (name_of (codes "a") s14)) (expr.Number (literal c I32 s16))) (expr.Call (expr.Name (name_of (f_name j) s18)) s19 ((expr.Name (name_of (codes "b") s20)) ∷ (expr.Name (name_of (codes "a") s22)) ∷ []))))) ∷ []) (tables two) ≡ Ok (record { part = line_block Multiplied f c; locals = parameters }, tables two)
unfolding give followed refuse judged looked changed each_in_order converted as_value as_effect as_scalar converted_to joined computed ordered cast called called_by_name called_by_pointer called_service passed stored as_place integer_place stepped_after indexed named is_taken enter_local free_name visit_initial visit_declarator visit_declarators visit_block in_scopes with_scope enter_type enter_function pointer_type starred formed_type result_type object_type array_type array_types declared_type visit_values
multiplied_body unit j c m f s13 s14 s15 s16 s17 s18 s19 s20 s22 means is = simp (expr_visits, stmt_visits, block_item_visits, means, is) refl

-- the parameters and the pointer
abbrev pub with_pointer : LocalScope
with_pointer = record { own = parameters.own ++ record { name = codes "p"; meaning = Variable 2 (Fun 0) } ∷ []; outer = [] }

abbrev pub three : List Ty
three = long_type ∷ long_type ∷ Fun 0 ∷ []

pub pointed_body : (unit : UnitScope) (j c : ℕ) (m : Meaning) (f : Target) (s13 s14 s16 s18 s19 s20 s21 s22 s23 s25 : Span) → meaning_in unit.names (f_name j) ≡ Some m → of_unit m ≡ designated.Function 0 f →
    meaning_in unit.names (codes "fn") ≡ Some (Typedef 0) → meaning_in unit.names (codes "p") ≡ None →
    visit_body unit enclosing parameters (block_item.Local (local.Declared (base.Named (name_of (codes "fn") s13)) (local_decl (decl [] (name_of (codes "p") s14) []) (Some (expr.Name (name_of (f_name j) s16))) ∷ [])) ∷ block_item.Stmt (stmt.Return s18 (Some (expr.Call (expr.Name (name_of (codes "p") s19)) s20 (expr.Binary op.BitXor s22 (expr.Name (name_of (codes "a") s21)) (expr.Number (literal c I32 s23)) ∷ (expr.Name (name_of (codes "b") s25)) ∷ [])))) ∷ []) (tables two) ≡ Ok (record { part = line_block Pointed f c; locals = with_pointer }, tables three)
unfolding give followed refuse judged looked changed each_in_order converted as_value as_effect as_scalar converted_to joined computed ordered cast called called_by_name called_by_pointer called_service passed stored as_place integer_place stepped_after indexed named is_taken enter_local free_name visit_initial visit_declarator visit_declarators visit_block in_scopes with_scope enter_type enter_function pointer_type starred formed_type result_type object_type array_type array_types declared_type visit_values
pointed_body unit j c m f s13 s14 s16 s18 s19 s20 s21 s22 s23 s25 means is pointer free = simp (expr_visits, stmt_visits, block_item_visits, means, is, pointer, free) refl

-- the tables while `main` is visited, behind the table of functions
abbrev pub main_tables : List Ty → Tables
main_tables locals = record { types = record { tys = Fun 0 ∷ []; structs = []; funs = call_type ∷ function_type (Int I32) [] false ∷ [] }; locals = locals; has_list = false; extras = 0 }

abbrev pub main_enclosing : Enclosing
main_enclosing = record { result = Int I32; parameters = 0; variadic = false }

abbrev pub main_locals : LocalScope
main_locals = record { own = record { name = codes "i"; meaning = Variable 0 (Int I32) } ∷ record { name = codes "v"; meaning = Variable 1 long_type } ∷ []; outer = [] }

pub main_body : (unit : UnitScope) (n : ℕ) (s6 s7 s9 s11 s13 s15 s17 s18 s19 s21 s22 s23 s25 s26 s28 s29 s30 s31 s32 s33 s35 s36 s38 s40 s41 s43 s44 s45 s46 s47 s48 s50 s51 s52 s56 s57 s58 s63 s64 : Span) → meaning_in unit.names (codes "i") ≡ None → meaning_in unit.names (codes "v") ≡ None → meaning_in unit.names (codes "put_byte") ≡ None → meaning_in unit.names (codes "table") ≡ Some (Global 0 (Array 0 n)) →
    visit_body unit main_enclosing no_locals (block_item.Local (local.Declared (base.Int I32 s6) (local_decl (decl [] (name_of (codes "i") s7) []) None ∷ [])) ∷ block_item.Local (local.Declared (base.Int I64 s9) (local_decl (decl [] (name_of (codes "v") s11) []) (Some (expr.Number (literal 1 I32 s13))) ∷ [])) ∷ block_item.Stmt (stmt.For s15 (start.Effect (expr.Assign set.Set s18 (expr.Name (name_of (codes "i") s17)) (expr.Number (literal 0 I32 s19)))) (Some (expr.Binary op.Less s22 (expr.Name (name_of (codes "i") s21)) (expr.Number (literal n I32 s23)))) (Some (expr.PostIncrement (expr.Name (name_of (codes "i") s25)) s26)) (stmt.Block s28 (block_item.Stmt (stmt.Effect (expr.Assign set.Set s30 (expr.Name (name_of (codes "v") s29)) (expr.Binary op.Remainder s40 (expr.Call (expr.Index (expr.Name (name_of (codes "table") s31)) s32 (expr.Name (name_of (codes "i") s33))) s35 ((expr.Name (name_of (codes "v") s36)) ∷ (expr.Name (name_of (codes "i") s38)) ∷ [])) (expr.Number (literal 1000000 I32 s41))))) ∷ block_item.Stmt (stmt.Effect (expr.Call (expr.Name (name_of (codes "put_byte") s43)) s44 (expr.Binary op.Add s46 (expr.Number (literal 65 I32 s45)) (expr.Cast s47 I32 s48 (expr.Paren s50 (expr.Binary op.Remainder s57 (expr.Cast s51 U64 s52 (expr.Name (name_of (codes "v") s56))) (expr.Number (literal 26 I32 s58))))) ∷ []))) ∷ []))) ∷ block_item.Stmt (stmt.Return s63 (Some (expr.Number (literal 0 I32 s64)))) ∷ []) (main_tables []) ≡ Ok (record { part = main_block n; locals = main_locals }, main_tables (Int I32 ∷ long_type ∷ []))
unfolding give followed refuse judged looked changed each_in_order converted as_value as_effect as_scalar converted_to joined computed ordered cast called called_by_name called_by_pointer called_service passed stored as_place integer_place stepped_after indexed named is_taken enter_local free_name visit_initial visit_declarator visit_declarators visit_block in_scopes with_scope enter_type enter_function pointer_type starred formed_type result_type object_type array_type array_types declared_type visit_values
main_body unit n s6 s7 s9 s11 s13 s15 s17 s18 s19 s21 s22 s23 s25 s26 s28 s29 s30 s31 s32 s33 s35 s36 s38 s40 s41 s43 s44 s45 s46 s47 s48 s50 s51 s52 s56 s57 s58 s63 s64 i v service table = simp (expr_visits, stmt_visits, block_item_visits, i, v, service, table) refl
