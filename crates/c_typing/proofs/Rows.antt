-- What the rules say of the examples.
use Rattle.std.proofs.Common.{◌≡◌, [], ◌∷◌, true, Ok, Err, refl}
use Rattle.c_typing.specs.declared.faults.TypeKind.TheVariants.{NoMain, NoAddress, VariadicCount}
use Rattle.c_typing.specs.Conversions.{converted, as_value, as_effect, as_scalar, converted_to, joined}
use Rattle.c_typing.specs.Expressions.{addressed, passed, called_by_name, called, visit_values}
use Rattle.c_typing.specs.Externals.{no_function, unless_taken, typed_where, declare, enter_program_function, declare_function, no_new_function, begin_body, define_function, visit_definition}
use Rattle.c_typing.specs.Heads.{visit_parameter, visit_parameters, head_type, check_variadic}
use Rattle.c_typing.specs.Items.{visit_items, visit_unit}
use Rattle.c_typing.specs.Scopes.{named, is_taken}
use Rattle.c_typing.specs.Statements.{enter_local, free_name, visit_initial, visit_declarator, visit_declarators, visit_block, in_scopes}
use Rattle.c_typing.specs.UnitVisits.{with_scope}
use Rattle.c_typing.specs.TypeForms.{enter_type, enter_function, pointer_type, starred, formed_type, result_type, object_type, array_type, array_types, declared_type}
use Rattle.c_typing.specs.Units.{visit_units, missing, typed, unit_fault}
use Rattle.c_typing.specs.Visits.{followed, give, refuse, judged, looked, changed, each_in_order}
use Rattle.c_typing.specs.Examples.{empty_unit, least_unit, least_program, address_unit, count_unit}
use Rattle.c_typing.proofs.ExprLaws.{expr_visits}
use Rattle.c_typing.proofs.StmtLaws.{stmt_visits, block_item_visits}

pub empty_row : typed (empty_unit ∷ []) true ≡ Err (unit_fault NoMain 0 0)
unfolding typed visit_units missing visit_unit visit_items give
empty_row = refl

pub address_row : typed (address_unit ∷ []) true ≡ Err (unit_fault NoAddress 0 27)
unfolding typed visit_units missing visit_unit visit_items give followed refuse judged looked changed each_in_order converted as_value as_effect as_scalar converted_to joined addressed no_function unless_taken typed_where declare enter_program_function declare_function no_new_function begin_body define_function visit_definition visit_parameter visit_parameters head_type check_variadic named is_taken enter_local free_name visit_initial visit_declarator visit_declarators visit_block in_scopes with_scope enter_type enter_function pointer_type starred formed_type result_type object_type array_type array_types declared_type
address_row = simp (expr_visits, stmt_visits, block_item_visits) refl

pub least_row : typed (least_unit ∷ []) true ≡ Ok least_program
unfolding typed visit_units missing visit_unit visit_items give followed refuse judged looked changed each_in_order converted as_value as_effect as_scalar converted_to joined addressed no_function unless_taken typed_where declare enter_program_function declare_function no_new_function begin_body define_function visit_definition visit_parameter visit_parameters head_type check_variadic named is_taken enter_local free_name visit_initial visit_declarator visit_declarators visit_block in_scopes with_scope enter_type enter_function pointer_type starred formed_type result_type object_type array_type array_types declared_type
least_row = simp (expr_visits, stmt_visits, block_item_visits) refl

pub count_row : typed (count_unit ∷ []) true ≡ Err (unit_fault VariadicCount 0 50)
unfolding typed visit_units missing visit_unit visit_items give followed refuse judged looked changed each_in_order converted as_value as_effect as_scalar converted_to joined addressed no_function unless_taken typed_where declare enter_program_function declare_function no_new_function begin_body define_function visit_definition visit_parameter visit_parameters head_type check_variadic named is_taken enter_local free_name visit_initial visit_declarator visit_declarators visit_block in_scopes with_scope enter_type enter_function pointer_type starred formed_type result_type object_type array_type array_types declared_type passed called_by_name called visit_values
count_row = simp (expr_visits, stmt_visits, block_item_visits) refl
