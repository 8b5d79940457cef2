-- Each line of a unit is read as its item.
use Rattle.std.proofs.Common.{ℕ, List, [], ◌∷◌, Some, None, refl, arith}
use Rattle.std.specs.Prelude.{codes}
use Rattle.c_types.specs.declared.types.Span.{Span}
use Rattle.c_types.specs.declared.types.IntTy.TheVariants.{I32, I64, U64}
use Rattle.c_lex.specs.declared.words.Word.TheVariants as w
use Rattle.c_lex.specs.declared.marks.Mark.TheVariants as m
use Rattle.c_tree.specs.declared.operators.BinaryOp.TheVariants as op
use Rattle.c_tree.specs.declared.operators.AssignOp.TheVariants as set
use Rattle.c_tree.specs.declared.expressions.Base.TheVariants as base
use Rattle.c_tree.specs.declared.expressions.Expr.TheVariants as expr
use Rattle.c_tree.specs.declared.statements.Local.TheVariants as local
use Rattle.c_tree.specs.declared.statements.ForStart.TheVariants as start
use Rattle.c_tree.specs.declared.statements.BlockItem.TheVariants as block_item
use Rattle.c_tree.specs.declared.statements.Stmt.TheVariants as stmt
use Rattle.c_tree.specs.declared.declarations.Item.TheVariants as item
use Rattle.parse_terms.specs.declared.terminal.Terminal.{Terminal}
use Rattle.parse_terms.specs.Terminals.{word, mark, named, name_of}
use Rattle.parse_terms.specs.Integers.{int, long_long, plain, with_unsigned}
use Rattle.parse_terms.specs.TypeNames.{type_name, integer, typedef, no_stars, type_named}
use Rattle.parse_terms.specs.Declarators.{literal, number, decl, no_lengths, declared}
use Rattle.parse_expr.specs.ExprGrammar as eg
use Rattle.parse_expr.proofs.PartLaws.{effect-Assign, effect-PostIncrement, effect-Call}
use Rattle.parse_stmt.specs.StmtGrammar as sg
use Rattle.parse_stmt.specs.StmtGrammar.{local_decl}
use Rattle.parse_decl.specs.Params.{param, params, unnamed, with_name, first_param, next_param, only_void, listed}
use Rattle.parse_item.specs.ItemGrammar as ig
use Rattle.parse_item.specs.ItemGrammar.{IsItem, head_of}
use Rattle.gen_units.specs.Trees.{f_name, function_head}
use Rattle.gen_units.specs.Trees.{long_long as long_long_name}

pub zero_item_reads : {s0 s1 s2 s3 s4 s5 s6 s7 s8 s9 s10 s11 s12 s13 s14 s15 s16 s17 s18 : Span} {rest : List Terminal} → IsItem (item.Define (function_head 0 s0 s2 s4 s6 s8 s10) s12 (block_item.Stmt (stmt.Return s13 (Some (expr.Binary op.Add s15 (expr.Name (name_of (codes "a") s14)) (expr.Name (name_of (codes "b") s16))))) ∷ [])) (word w.Long s0 ∷ word w.Long s1 ∷ named (f_name 0) s2 ∷ mark m.OpenParen s3 ∷ word w.Long s4 ∷ word w.Long s5 ∷ named (codes "a") s6 ∷ mark m.Comma s7 ∷ word w.Long s8 ∷ word w.Long s9 ∷ named (codes "b") s10 ∷ mark m.CloseParen s11 ∷ mark m.OpenBrace s12 ∷ word w.Return s13 ∷ named (codes "a") s14 ∷ mark m.Plus s15 ∷ named (codes "b") s16 ∷ mark m.Semicolon s17 ∷ mark m.CloseBrace s18 ∷ rest) rest
zero_item_reads = ig.a_definition (ig.a_head (type_named (integer (plain long_long)) no_stars) (listed (next_param (first_param (with_name (type_named (integer (plain long_long)) no_stars))) (with_name (type_named (integer (plain long_long)) no_stars))) refl)) refl (sg.stmt_item sg.no_items (sg.return_stmt (sg.a_value (eg.plain (eg.simple (eg.joined op.Add (omega arith) (eg.operand (eg.postfix eg.name)) (eg.operand (eg.postfix eg.name))))))))

pub added_item_reads : (k j c : ℕ) {s0 s1 s2 s3 s4 s5 s6 s7 s8 s9 s10 s11 s12 s13 s14 s15 s16 s17 s18 s19 s20 s21 s22 s23 s24 s25 : Span} {rest : List Terminal} → IsItem (item.Define (function_head k s0 s2 s4 s6 s8 s10) s12 (block_item.Stmt (stmt.Return s13 (Some (expr.Binary op.Subtract s22 (expr.Call (expr.Name (name_of (f_name j) s14)) s15 (expr.Binary op.Add s17 (expr.Name (name_of (codes "a") s16)) (expr.Number (literal c I32 s18)) ∷ (expr.Name (name_of (codes "b") s20)) ∷ [])) (expr.Name (name_of (codes "b") s23))))) ∷ [])) (word w.Long s0 ∷ word w.Long s1 ∷ named (f_name k) s2 ∷ mark m.OpenParen s3 ∷ word w.Long s4 ∷ word w.Long s5 ∷ named (codes "a") s6 ∷ mark m.Comma s7 ∷ word w.Long s8 ∷ word w.Long s9 ∷ named (codes "b") s10 ∷ mark m.CloseParen s11 ∷ mark m.OpenBrace s12 ∷ word w.Return s13 ∷ named (f_name j) s14 ∷ mark m.OpenParen s15 ∷ named (codes "a") s16 ∷ mark m.Plus s17 ∷ number c I32 s18 ∷ mark m.Comma s19 ∷ named (codes "b") s20 ∷ mark m.CloseParen s21 ∷ mark m.Minus s22 ∷ named (codes "b") s23 ∷ mark m.Semicolon s24 ∷ mark m.CloseBrace s25 ∷ rest) rest
added_item_reads k j c = ig.a_definition (ig.a_head (type_named (integer (plain long_long)) no_stars) (listed (next_param (first_param (with_name (type_named (integer (plain long_long)) no_stars))) (with_name (type_named (integer (plain long_long)) no_stars))) refl)) refl (sg.stmt_item sg.no_items (sg.return_stmt (sg.a_value (eg.plain (eg.simple (eg.joined op.Subtract (omega arith) (eg.operand (eg.postfix (eg.call eg.name (eg.argument eg.no_arguments (eg.plain (eg.simple (eg.joined op.Add (omega arith) (eg.operand (eg.postfix eg.name)) (eg.operand (eg.postfix eg.number_of)))))) (eg.plain (eg.simple (eg.operand (eg.postfix eg.name))))))) (eg.operand (eg.postfix eg.name))))))))

pub multiplied_item_reads : (k j c : ℕ) {s0 s1 s2 s3 s4 s5 s6 s7 s8 s9 s10 s11 s12 s13 s14 s15 s16 s17 s18 s19 s20 s21 s22 s23 s24 s25 : Span} {rest : List Terminal} → IsItem (item.Define (function_head k s0 s2 s4 s6 s8 s10) s12 (block_item.Stmt (stmt.Return s13 (Some (expr.Binary op.Add s17 (expr.Binary op.Multiply s15 (expr.Name (name_of (codes "a") s14)) (expr.Number (literal c I32 s16))) (expr.Call (expr.Name (name_of (f_name j) s18)) s19 ((expr.Name (name_of (codes "b") s20)) ∷ (expr.Name (name_of (codes "a") s22)) ∷ []))))) ∷ [])) (word w.Long s0 ∷ word w.Long s1 ∷ named (f_name k) s2 ∷ mark m.OpenParen s3 ∷ word w.Long s4 ∷ word w.Long s5 ∷ named (codes "a") s6 ∷ mark m.Comma s7 ∷ word w.Long s8 ∷ word w.Long s9 ∷ named (codes "b") s10 ∷ mark m.CloseParen s11 ∷ mark m.OpenBrace s12 ∷ word w.Return s13 ∷ named (codes "a") s14 ∷ mark m.Star s15 ∷ number c I32 s16 ∷ mark m.Plus s17 ∷ named (f_name j) s18 ∷ mark m.OpenParen s19 ∷ named (codes "b") s20 ∷ mark m.Comma s21 ∷ named (codes "a") s22 ∷ mark m.CloseParen s23 ∷ mark m.Semicolon s24 ∷ mark m.CloseBrace s25 ∷ rest) rest
multiplied_item_reads k j c = ig.a_definition (ig.a_head (type_named (integer (plain long_long)) no_stars) (listed (next_param (first_param (with_name (type_named (integer (plain long_long)) no_stars))) (with_name (type_named (integer (plain long_long)) no_stars))) refl)) refl (sg.stmt_item sg.no_items (sg.return_stmt (sg.a_value (eg.plain (eg.simple (eg.joined op.Add (omega arith) (eg.joined op.Multiply (omega arith) (eg.operand (eg.postfix eg.name)) (eg.operand (eg.postfix eg.number_of))) (eg.operand (eg.postfix (eg.call eg.name (eg.argument eg.no_arguments (eg.plain (eg.simple (eg.operand (eg.postfix eg.name))))) (eg.plain (eg.simple (eg.operand (eg.postfix eg.name)))))))))))))

pub pointed_item_reads : (k j c : ℕ) {s0 s1 s2 s3 s4 s5 s6 s7 s8 s9 s10 s11 s12 s13 s14 s15 s16 s17 s18 s19 s20 s21 s22 s23 s24 s25 s26 s27 s28 : Span} {rest : List Terminal} → IsItem (item.Define (function_head k s0 s2 s4 s6 s8 s10) s12 (block_item.Local (local.Declared (base.Named (name_of (codes "fn") s13)) (local_decl (decl [] (name_of (codes "p") s14) []) (Some (expr.Name (name_of (f_name j) s16))) ∷ [])) ∷ block_item.Stmt (stmt.Return s18 (Some (expr.Call (expr.Name (name_of (codes "p") s19)) s20 (expr.Binary op.BitXor s22 (expr.Name (name_of (codes "a") s21)) (expr.Number (literal c I32 s23)) ∷ (expr.Name (name_of (codes "b") s25)) ∷ [])))) ∷ [])) (word w.Long s0 ∷ word w.Long s1 ∷ named (f_name k) s2 ∷ mark m.OpenParen s3 ∷ word w.Long s4 ∷ word w.Long s5 ∷ named (codes "a") s6 ∷ mark m.Comma s7 ∷ word w.Long s8 ∷ word w.Long s9 ∷ named (codes "b") s10 ∷ mark m.CloseParen s11 ∷ mark m.OpenBrace s12 ∷ named (codes "fn") s13 ∷ named (codes "p") s14 ∷ mark m.Equal s15 ∷ named (f_name j) s16 ∷ mark m.Semicolon s17 ∷ word w.Return s18 ∷ named (codes "p") s19 ∷ mark m.OpenParen s20 ∷ named (codes "a") s21 ∷ mark m.Caret s22 ∷ number c I32 s23 ∷ mark m.Comma s24 ∷ named (codes "b") s25 ∷ mark m.CloseParen s26 ∷ mark m.Semicolon s27 ∷ mark m.CloseBrace s28 ∷ rest) rest
pointed_item_reads k j c = ig.a_definition (ig.a_head (type_named (integer (plain long_long)) no_stars) (listed (next_param (first_param (with_name (type_named (integer (plain long_long)) no_stars))) (with_name (type_named (integer (plain long_long)) no_stars))) refl)) refl (sg.stmt_item (sg.local_item sg.no_items (sg.declared_local (sg.variables typedef (sg.local_decls sg.no_decls (sg.initialized (declared no_stars no_lengths) (eg.plain (eg.simple (eg.operand (eg.postfix eg.name))))))))) (sg.return_stmt (sg.a_value (eg.plain (eg.simple (eg.operand (eg.postfix (eg.call eg.name (eg.argument eg.no_arguments (eg.plain (eg.simple (eg.joined op.BitXor (omega arith) (eg.operand (eg.postfix eg.name)) (eg.operand (eg.postfix eg.number_of)))))) (eg.plain (eg.simple (eg.operand (eg.postfix eg.name))))))))))))

pub adjusted_item_reads : (k j c : ℕ) {s0 s1 s2 s3 s4 s5 s6 s7 s8 : Span} {rest : List Terminal} → IsItem (item.Adjustor s0 (name_of (f_name k) s1) (name_of (f_name j) s3) (literal 1 I32 s5) None (literal c I32 s7)) (word w.Adjustor s0 ∷ named (f_name k) s1 ∷ mark m.Equal s2 ∷ named (f_name j) s3 ∷ mark m.Comma s4 ∷ number 1 I32 s5 ∷ mark m.Comma s6 ∷ number c I32 s7 ∷ mark m.Semicolon s8 ∷ rest) rest
adjusted_item_reads k j c = ig.raised

pub typedef_item_reads : {s0 s1 s2 s3 s4 s5 s6 s7 s8 s9 s10 s11 s12 s13 s14 : Span} {rest : List Terminal} → IsItem (item.Typedef s0 (head_of (long_long_name s1) (name_of (codes "fn") s5) (params (param (long_long_name s8) None ∷ param (long_long_name s11) None ∷ []) None))) (word w.Typedef s0 ∷ word w.Long s1 ∷ word w.Long s2 ∷ mark m.OpenParen s3 ∷ mark m.Star s4 ∷ named (codes "fn") s5 ∷ mark m.CloseParen s6 ∷ mark m.OpenParen s7 ∷ word w.Long s8 ∷ word w.Long s9 ∷ mark m.Comma s10 ∷ word w.Long s11 ∷ word w.Long s12 ∷ mark m.CloseParen s13 ∷ mark m.Semicolon s14 ∷ rest) rest
typedef_item_reads = ig.a_typedef (ig.a_pointer_head (type_named (integer (plain long_long)) no_stars) (listed (next_param (first_param (unnamed (type_named (integer (plain long_long)) no_stars))) (unnamed (type_named (integer (plain long_long)) no_stars))) refl))

pub main_item_reads : (n : ℕ) {s0 s1 s2 s3 s4 s5 s6 s7 s8 s9 s10 s11 s12 s13 s14 s15 s16 s17 s18 s19 s20 s21 s22 s23 s24 s25 s26 s27 s28 s29 s30 s31 s32 s33 s34 s35 s36 s37 s38 s39 s40 s41 s42 s43 s44 s45 s46 s47 s48 s49 s50 s51 s52 s53 s54 s55 s56 s57 s58 s59 s60 s61 s62 s63 s64 s65 s66 : Span} {rest : List Terminal} → IsItem (item.Define (head_of (type_name (base.Int I32 s0) []) (name_of (codes "main") s1) (params [] None)) s5 (block_item.Local (local.Declared (base.Int I32 s6) (local_decl (decl [] (name_of (codes "i") s7) []) None ∷ [])) ∷ block_item.Local (local.Declared (base.Int I64 s9) (local_decl (decl [] (name_of (codes "v") s11) []) (Some (expr.Number (literal 1 I32 s13))) ∷ [])) ∷ block_item.Stmt (stmt.For s15 (start.Effect (expr.Assign set.Set s18 (expr.Name (name_of (codes "i") s17)) (expr.Number (literal 0 I32 s19)))) (Some (expr.Binary op.Less s22 (expr.Name (name_of (codes "i") s21)) (expr.Number (literal n I32 s23)))) (Some (expr.PostIncrement (expr.Name (name_of (codes "i") s25)) s26)) (stmt.Block s28 (block_item.Stmt (stmt.Effect (expr.Assign set.Set s30 (expr.Name (name_of (codes "v") s29)) (expr.Binary op.Remainder s40 (expr.Call (expr.Index (expr.Name (name_of (codes "table") s31)) s32 (expr.Name (name_of (codes "i") s33))) s35 ((expr.Name (name_of (codes "v") s36)) ∷ (expr.Name (name_of (codes "i") s38)) ∷ [])) (expr.Number (literal 1000000 I32 s41))))) ∷ block_item.Stmt (stmt.Effect (expr.Call (expr.Name (name_of (codes "put_byte") s43)) s44 (expr.Binary op.Add s46 (expr.Number (literal 65 I32 s45)) (expr.Cast s47 I32 s48 (expr.Paren s50 (expr.Binary op.Remainder s57 (expr.Cast s51 U64 s52 (expr.Name (name_of (codes "v") s56))) (expr.Number (literal 26 I32 s58))))) ∷ []))) ∷ []))) ∷ block_item.Stmt (stmt.Return s63 (Some (expr.Number (literal 0 I32 s64)))) ∷ [])) (word w.Int s0 ∷ named (codes "main") s1 ∷ mark m.OpenParen s2 ∷ word w.Void s3 ∷ mark m.CloseParen s4 ∷ mark m.OpenBrace s5 ∷ word w.Int s6 ∷ named (codes "i") s7 ∷ mark m.Semicolon s8 ∷ word w.Long s9 ∷ word w.Long s10 ∷ named (codes "v") s11 ∷ mark m.Equal s12 ∷ number 1 I32 s13 ∷ mark m.Semicolon s14 ∷ word w.For s15 ∷ mark m.OpenParen s16 ∷ named (codes "i") s17 ∷ mark m.Equal s18 ∷ number 0 I32 s19 ∷ mark m.Semicolon s20 ∷ named (codes "i") s21 ∷ mark m.Less s22 ∷ number n I32 s23 ∷ mark m.Semicolon s24 ∷ named (codes "i") s25 ∷ mark m.PlusPlus s26 ∷ mark m.CloseParen s27 ∷ mark m.OpenBrace s28 ∷ named (codes "v") s29 ∷ mark m.Equal s30 ∷ named (codes "table") s31 ∷ mark m.OpenBracket s32 ∷ named (codes "i") s33 ∷ mark m.CloseBracket s34 ∷ mark m.OpenParen s35 ∷ named (codes "v") s36 ∷ mark m.Comma s37 ∷ named (codes "i") s38 ∷ mark m.CloseParen s39 ∷ mark m.Percent s40 ∷ number 1000000 I32 s41 ∷ mark m.Semicolon s42 ∷ named (codes "put_byte") s43 ∷ mark m.OpenParen s44 ∷ number 65 I32 s45 ∷ mark m.Plus s46 ∷ mark m.OpenParen s47 ∷ word w.Int s48 ∷ mark m.CloseParen s49 ∷ mark m.OpenParen s50 ∷ mark m.OpenParen s51 ∷ word w.Unsigned s52 ∷ word w.Long s53 ∷ word w.Long s54 ∷ mark m.CloseParen s55 ∷ named (codes "v") s56 ∷ mark m.Percent s57 ∷ number 26 I32 s58 ∷ mark m.CloseParen s59 ∷ mark m.CloseParen s60 ∷ mark m.Semicolon s61 ∷ mark m.CloseBrace s62 ∷ word w.Return s63 ∷ number 0 I32 s64 ∷ mark m.Semicolon s65 ∷ mark m.CloseBrace s66 ∷ rest) rest
main_item_reads n = ig.a_definition (ig.a_head (type_named (integer (plain int)) no_stars) only_void) refl (sg.stmt_item (sg.stmt_item (sg.local_item (sg.local_item sg.no_items (sg.declared_local (sg.variables (integer (plain int)) (sg.local_decls sg.no_decls (sg.uninitialized (declared no_stars no_lengths)))))) (sg.declared_local (sg.variables (integer (plain long_long)) (sg.local_decls sg.no_decls (sg.initialized (declared no_stars no_lengths) (eg.plain (eg.simple (eg.operand (eg.postfix eg.number_of))))))))) (sg.for_stmt (sg.start_effect (effect-Assign _ _ _ _) (eg.assigned set.Set (eg.postfix eg.name) (eg.plain (eg.simple (eg.operand (eg.postfix eg.number_of)))))) (sg.a_value (eg.plain (eg.simple (eg.joined op.Less (omega arith) (eg.operand (eg.postfix eg.name)) (eg.operand (eg.postfix eg.number_of)))))) (sg.a_step (effect-PostIncrement _ _) (eg.plain (eg.simple (eg.operand (eg.postfix (eg.incremented eg.name)))))) (sg.block_stmt (sg.stmt_item (sg.stmt_item sg.no_items (sg.effect_stmt (effect-Assign _ _ _ _) (eg.assigned set.Set (eg.postfix eg.name) (eg.plain (eg.simple (eg.joined op.Remainder (omega arith) (eg.operand (eg.postfix (eg.call (eg.index eg.name (eg.plain (eg.simple (eg.operand (eg.postfix eg.name))))) (eg.argument eg.no_arguments (eg.plain (eg.simple (eg.operand (eg.postfix eg.name))))) (eg.plain (eg.simple (eg.operand (eg.postfix eg.name))))))) (eg.operand (eg.postfix eg.number_of)))))))) (sg.effect_stmt (effect-Call _ _ _) (eg.plain (eg.simple (eg.operand (eg.postfix (eg.call eg.name eg.no_arguments (eg.plain (eg.simple (eg.joined op.Add (omega arith) (eg.operand (eg.postfix eg.number_of)) (eg.operand (eg.cast (plain int) (eg.postfix (eg.parenthesis (eg.plain (eg.simple (eg.joined op.Remainder (omega arith) (eg.operand (eg.cast (with_unsigned long_long) (eg.postfix eg.name))) (eg.operand (eg.postfix eg.number_of)))))))))))))))))))))) (sg.return_stmt (sg.a_value (eg.plain (eg.simple (eg.operand (eg.postfix eg.number_of)))))))
