-- The heads of functions (C11, 6.7.6.3): parameters and the type of a function.
use Rattle.std.specs.Prelude.{ℕ, ◌-◌, Bool, true, false, not, ◌&&◌, ◌||◌, ◌==◌, List, [], ◌∷◌, map, length, Option, Some, None, is_some, Ok, Err, slice_get, if◌then◌else◌}
use Rattle.c_types.specs.declared.types.IntTy.TheVariants.{I32}
use Rattle.c_types.specs.declared.types.Ty.{Ty}
use Rattle.c_types.specs.declared.types.Ty.TheVariants.{Int}
use Rattle.c_types.specs.declared.types.FunTy.{FunTy}
use Rattle.c_types.specs.declared.types.Types.{Types}
use Rattle.c_types.specs.Layout.{size_of}
use Rattle.c_tree.specs.declared.expressions.Name.{Name}
use Rattle.c_tree.specs.declared.expressions.Base.{Base}
use Rattle.c_tree.specs.declared.expressions.Base.TheVariants as base
use Rattle.c_tree.specs.declared.declarations.Param.{Param}
use Rattle.c_tree.specs.declared.declarations.FunctionHead.{FunctionHead}
use Rattle.c_typing.specs.declared.faults.TypeKind.TheVariants as kind
use Rattle.c_typing.specs.declared.scopes.UnitScope.{UnitScope}
use Rattle.c_typing.specs.declared.scopes.LocalMeaning.TheVariants as meaning
use Rattle.c_typing.specs.declared.scopes.LocalScope.{LocalScope}
use Rattle.c_typing.specs.declared.tables.Tables.{Tables}
use Rattle.c_typing.specs.Visits.{Visit, fault, ◌>>=◌, give, refuse, each_in_order}
use Rattle.c_typing.specs.Scopes.{no_locals, with_local, service_named}
use Rattle.c_typing.specs.TypeForms.{same_type, is_struct, enter_function, result_type, object_type}
use Rattle.c_typing.specs.Statements.{Scoped, ScopeVisit, in_scopes, enter_local, free_name}

-- the first byte of a base
abbrev pub base_at : Base → ℕ
base_at (base.Void s) = s.start
base_at (base.Int i s) = s.start
base_at (base.Struct s tag) = s.start
base_at (base.Named n) = n.span.start

abbrev pub name_or_base : Base → Option Name → ℕ
name_or_base b None = base_at b
name_or_base b (Some n) = n.span.start

-- the place of a parameter's faults
abbrev pub param_at : Param → ℕ
param_at p = name_or_base p.base p.name

abbrev pub param_type : UnitScope → Param → Visit Tables Ty
param_type unit p = object_type unit (param_at p) p.base p.stars

abbrev pub is_service : Option Name → Bool
is_service None = false
is_service (Some n) = is_some (service_named n.text)

-- without a body the name of a parameter is in no scope, but it isn't a service's
abbrev pub bare_param_type : UnitScope → Param → Visit Tables Ty
bare_param_type unit p = if is_service p.name then refuse kind.Redeclared (param_at p) else param_type unit p

unfoldable pub param_types : UnitScope → List Param → Visit Tables (List Ty)
param_types unit ps = each_in_order (map (bare_param_type unit) ps)

abbrev pub free_param : UnitScope → LocalScope → Option Name → Visit Tables (Unit {0})
free_param unit locals None = give tt
free_param unit locals (Some n) = free_name unit locals n

abbrev pub with_param : Option Name → ℕ → Ty → LocalScope → LocalScope
with_param None n ty locals = locals
with_param (Some name) n ty locals = with_local name.text (meaning.Variable n ty) locals

-- a parameter of a definition is a local of the body's block (6.2.1p4)
unfoldable pub visit_parameter : UnitScope → Param → ScopeVisit Ty
visit_parameter unit p locals =
    free_param unit locals p.name >>= (λ u.
    param_type unit p >>= (λ ty.
    enter_local ty >>= (λ n.
    give (record { part = ty ∷ []; locals = with_param p.name n ty locals }))))

unfoldable pub visit_parameters : UnitScope → List Param → Visit Tables (Scoped (List Ty))
visit_parameters unit ps = in_scopes (map (visit_parameter unit) ps) no_locals

abbrev pub function_type : Ty → List Ty → Bool → FunTy
function_type result params variadic = record { result = result; params = params; variadic = variadic }

-- the place of the type of a function with these parameters
unfoldable pub head_type : UnitScope → FunctionHead → List Ty → Visit Tables ℕ
head_type unit h params = result_type unit h.name.span.start h.result >>= (λ result. enter_function (function_type result params (is_some h.params.ellipsis)))

abbrev pub is_int : Option Ty → Bool
is_int None = false
is_int (Some ty) = same_type ty (Int I32)

abbrev pub is_register_size : ℕ → Bool
is_register_size n = n == 1 || n == 2 || n == 4 || n == 8

abbrev pub gives_word : Types → Ty → Bool
gives_word t ty = not (is_struct ty) || is_register_size (size_of t ty)

-- the last fixed parameter of a variadic function is an int, and its result is no struct that a
-- register doesn't hold (this project's own)
abbrev pub may_be_variadic : Types → FunTy → Bool
may_be_variadic t f = is_int (slice_get f.params (length f.params - 1)) && gives_word t f.result

abbrev pub variadic_fits : Types → Option FunTy → Bool
variadic_fits t None = true
variadic_fits t (Some f) = if f.variadic then may_be_variadic t f else true

-- the function type at a place of the table keeps the rule of variadic functions
unfoldable pub check_variadic : ℕ → ℕ → Visit Tables (Unit {0})
check_variadic at k t = if variadic_fits t.types (slice_get t.types.funs k) then Ok (tt, t) else Err (fault kind.Variadic at)
