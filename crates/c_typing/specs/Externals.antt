-- Declarations and definitions of globals, functions, adjustors and typedefs (C11, 6.7, 6.9). A name of
-- the first three sorts means the same in the whole program (6.2.2p2), and each unit declares what it
-- uses; a typedef belongs to its unit. A fault lies at the declared name. That a name can't be declared,
-- or stands already with another type, comes before the faults of its type.
use Rattle.std.specs.Prelude.{ℕ, ◌+◌, Bool, true, false, ◌||◌, ◌==◌, List, [], ◌∷◌, ◌++◌, length, Option, Some, None, is_some, Result, Ok, Err, slice_get, slice_set, position, bytes_eq, if◌then◌else◌}
use Rattle.c_types.specs.declared.types.Ty.{Ty}
use Rattle.c_types.specs.declared.types.Ty.TheVariants.{Void}
use Rattle.c_types.specs.declared.types.FunTy.{FunTy}
use Rattle.c_tree.specs.declared.expressions.Name.{Name}
use Rattle.c_tree.specs.declared.expressions.Base.{Base}
use Rattle.c_tree.specs.declared.declarations.Decl.{Decl}
use Rattle.c_tree.specs.declared.declarations.GlobalDecl.{GlobalDecl}
use Rattle.c_tree.specs.declared.declarations.FunctionHead.{FunctionHead}
use Rattle.c_tree.specs.declared.statements.BlockItem.{BlockItem}
use Rattle.c_program.specs.declared.statements.TypedItem.{TypedItem}
use Rattle.c_program.specs.declared.program.Constant.{Constant}
use Rattle.c_program.specs.declared.program.GlobalBody.{GlobalBody}
use Rattle.c_program.specs.declared.program.GlobalDef.{GlobalDef}
use Rattle.c_program.specs.declared.program.FunctionBody.{FunctionBody}
use Rattle.c_program.specs.declared.program.FunDef.{FunDef}
use Rattle.c_program.specs.declared.program.AdjustDef.{AdjustDef}
use Rattle.c_typing.specs.declared.faults.Fault.{Fault}
use Rattle.c_typing.specs.declared.faults.TypeKind.{TypeKind}
use Rattle.c_typing.specs.declared.faults.TypeKind.TheVariants as kind
use Rattle.c_typing.specs.declared.scopes.Meaning.{Meaning}
use Rattle.c_typing.specs.declared.scopes.Meaning.TheVariants.{Typedef, Function, Global}
use Rattle.c_typing.specs.declared.scopes.UnitScope.{UnitScope}
use Rattle.c_typing.specs.declared.tables.Enclosing.{Enclosing}
use Rattle.c_typing.specs.declared.tables.Progress.{Progress}
use Rattle.c_typing.specs.Visits.{Visit, fault, ◌>>=◌, give, looked, changed}
use Rattle.c_typing.specs.Scopes.{meaning_in, service_named, is_import_slot, is_typedef, with_name}
use Rattle.c_typing.specs.TypeForms.{same_type, declared_type}
use Rattle.c_typing.specs.Statements.{visit_body}
use Rattle.c_typing.specs.Initials.{visit_optional_init}
use Rattle.c_typing.specs.Heads.{param_types, visit_parameters, head_type, check_variadic}
use Rattle.c_typing.specs.UnitVisits.{with_scope}

abbrev pub global_named : List GlobalDef → List ℕ → Option ℕ
global_named gs name = position (λ g. bytes_eq g.name name) gs

abbrev pub function_named : List FunDef → List ℕ → Option ℕ
function_named fs name = position (λ f. bytes_eq f.name name) fs

abbrev pub adjustor_named : List AdjustDef → List ℕ → Option ℕ
adjustor_named as' name = position (λ a. bytes_eq a.name name) as'

-- no function, adjustor or global can have the name
abbrev pub is_reserved : UnitScope → List ℕ → Bool
is_reserved unit name = is_some (service_named name) || is_import_slot name || is_typedef (meaning_in unit.names name)

unfoldable pub no_global : Progress → List ℕ → Bool
no_global p name = is_reserved p.scope name || is_some (function_named p.functions name) || is_some (adjustor_named p.adjustors name)

unfoldable pub no_function : Progress → List ℕ → Bool
no_function p name = is_reserved p.scope name || is_some (global_named p.globals name) || is_some (adjustor_named p.adjustors name)

-- an adjustor is declared by its definition alone
unfoldable pub no_adjustor : Progress → List ℕ → Bool
no_adjustor p name = is_reserved p.scope name || is_some (global_named p.globals name) || is_some (function_named p.functions name) || is_some (adjustor_named p.adjustors name)

unfoldable pub no_typedef : Progress → List ℕ → Bool
no_typedef p name = is_some (service_named name) || is_some (meaning_in p.scope.names name)

-- a name that stands already has a type that there is; a type that isn't known isn't told from it
abbrev pub standing : Bool → TypeKind → TypeKind
standing true kind.BadType = kind.Redeclared
standing stands k = k

abbrev pub typed_standing : {A : Type 0} → Bool → Result A Fault → Result A Fault
typed_standing stands (Ok x) = Ok x
typed_standing stands (Err e) = Err (fault (standing stands e.kind) e.at)

-- the type of a name that may stand already
unfoldable pub typed_where : {A : Type 0} → (Progress → Bool) → Visit Progress A → Visit Progress A
typed_where stands v p = typed_standing (stands p) (v p)

unfoldable pub unless_taken : (Progress → List ℕ → Bool) → Name → Visit Progress (Unit {0})
unless_taken taken n p = if taken p n.text then Err (fault kind.Redeclared n.span.start) else Ok (tt, p)

-- the name in the unit, from here on (6.2.1p7)
unfoldable pub declare : List ℕ → Meaning → Visit Progress (Unit {0})
declare name m = changed (λ (p : Progress). record p { scope = with_name name m p.scope })

-- Globals

abbrev pub with_globals : List GlobalDef → Progress → Progress
with_globals gs p = record p { globals = gs }

abbrev pub entered_global : Name → Ty → Option ℕ → Option GlobalDef → Progress → Result (ℕ × Progress) Fault
entered_global n ty (Some g) (Some d) p = if same_type d.ty ty then Ok (g, p) else Err (fault kind.Redeclared n.span.start)
entered_global n ty g d p = Ok (length p.globals, with_globals (p.globals ++ (record { name = n.text; ty = ty; body = None }) ∷ []) p)

abbrev pub found_global : Progress → Option ℕ → Option GlobalDef
found_global p None = None
found_global p (Some g) = slice_get p.globals g

-- the place of a global of this type in the program
unfoldable pub enter_global : Name → Ty → Visit Progress ℕ
enter_global n ty p = let g = global_named p.globals n.text in entered_global n ty g (found_global p g) p

-- a global's declarator, as `extern` has it too (6.2.2p4)
unfoldable pub declare_global : (Progress → List ℕ → Bool) → Base → Decl → Visit Progress (ℕ × Ty)
declare_global taken b d =
    unless_taken taken d.name >>= (λ u.
    typed_where (λ p. is_some (global_named p.globals d.name.text)) (with_scope (λ unit. declared_type unit b d)) >>= (λ ty.
    enter_global d.name ty >>= (λ g.
    declare d.name.text (Global g ty) >>= (λ w.
    give (g, ty)))))

abbrev pub has_global_body : Option GlobalDef → Bool
has_global_body None = false
has_global_body (Some g) = is_some g.body

-- each definition without `extern` is one (6.9.2, without tentative ones)
unfoldable pub no_new_global : Progress → List ℕ → Bool
no_new_global p name = no_global p name || has_global_body (found_global p (global_named p.globals name))

abbrev pub defined_global : Option GlobalBody → Option GlobalDef → List GlobalDef → ℕ → List GlobalDef
defined_global body None gs g = gs
defined_global body (Some d) gs g = slice_set gs g (record d { body = body })

unfoldable pub define_global : ℕ → ℕ → Constant → Visit Progress (Unit {0})
define_global unit g c = changed (λ (p : Progress). with_globals (defined_global (Some (record { unit = unit; init = c })) (slice_get p.globals g) p.globals g) p)

unfoldable pub visit_global : ℕ → Base → GlobalDecl → Visit Progress (Unit {0})
visit_global unit b d =
    declare_global no_new_global b d.decl >>= (λ g.
    looked (λ p. visit_optional_init p.scope p.tables.types d.init g.1) >>= (λ c.
    define_global unit g.0 c))

unfoldable pub visit_globals : ℕ → Base → List GlobalDecl → Visit Progress (Unit {0})
visit_globals unit b [] = give tt
visit_globals unit b (d ∷ ds) = visit_global unit b d >>= (λ u. visit_globals unit b ds)

unfoldable pub visit_extern : Base → Decl → Visit Progress (Unit {0})
visit_extern b d = declare_global no_global b d >>= (λ g. give tt)

-- Typedefs and functions

-- the type of a head with these parameters, and the rule of variadic functions
unfoldable pub visit_typedef : FunctionHead → Visit Progress (Unit {0})
visit_typedef h =
    with_scope (λ unit. param_types unit h.params.list) >>= (λ params.
    unless_taken no_typedef h.name >>= (λ u.
    with_scope (λ unit. head_type unit h params) >>= (λ k.
    with_scope (λ unit. check_variadic h.name.span.start k) >>= (λ w.
    declare h.name.text (Typedef k)))))

abbrev pub with_functions : List FunDef → Progress → Progress
with_functions fs p = record p { functions = fs }

abbrev pub entered_function : Name → ℕ → Option ℕ → Option FunDef → Progress → Result (ℕ × Progress) Fault
entered_function n k (Some f) (Some d) p = if d.ty == k then Ok (f, p) else Err (fault kind.Redeclared n.span.start)
entered_function n k f d p = Ok (length p.functions, with_functions (p.functions ++ (record { name = n.text; ty = k; body = None }) ∷ []) p)

abbrev pub found_function : Progress → Option ℕ → Option FunDef
found_function p None = None
found_function p (Some f) = slice_get p.functions f

-- the place of a function of this type in the program
unfoldable pub enter_program_function : Name → ℕ → Visit Progress ℕ
enter_program_function n k p = let f = function_named p.functions n.text in entered_function n k f (found_function p f) p

-- a function's declarator behind its parameters: its place and its type's
unfoldable pub declare_function : (Progress → List ℕ → Bool) → FunctionHead → List Ty → Visit Progress (ℕ × ℕ)
declare_function taken h params =
    unless_taken taken h.name >>= (λ u.
    typed_where (λ p. is_some (function_named p.functions h.name.text)) (with_scope (λ unit. head_type unit h params)) >>= (λ k.
    enter_program_function h.name k >>= (λ f.
    with_scope (λ unit. check_variadic h.name.span.start k) >>= (λ w.
    declare h.name.text (Function f k) >>= (λ v.
    give (f, k))))))

unfoldable pub visit_declaration : FunctionHead → Visit Progress (Unit {0})
visit_declaration h =
    with_scope (λ unit. param_types unit h.params.list) >>= (λ params.
    declare_function no_function h params >>= (λ f. give tt))

abbrev pub has_body : Option FunDef → Bool
has_body None = false
has_body (Some f) = is_some f.body

unfoldable pub no_new_function : Progress → List ℕ → Bool
no_new_function p name = no_function p name || has_body (found_function p (function_named p.functions name))

-- a body begins without locals
unfoldable pub begin_body : Visit Progress (Unit {0})
begin_body = changed (λ (p : Progress). record p { tables = record p.tables { locals = []; has_list = false } })

abbrev pub enclosing_in : Option FunTy → Enclosing
enclosing_in None = record { result = Void; parameters = 0; variadic = false }
enclosing_in (Some f) = record { result = f.result; parameters = length f.params; variadic = f.variadic }

abbrev pub with_body : Option FunctionBody → Option FunDef → List FunDef → ℕ → List FunDef
with_body body None fs f = fs
with_body body (Some d) fs f = slice_set fs f (record d { body = body })

-- a definition gets the next number of the order of definition
abbrev pub body_of : ℕ → List TypedItem → Progress → FunctionBody
body_of unit block p = record { unit = unit; number = p.defined; locals = p.tables.locals; block = block }

abbrev pub with_definition : ℕ → ℕ → List TypedItem → Progress → Progress
with_definition unit f block p = record p { functions = with_body (Some (body_of unit block p)) (slice_get p.functions f) p.functions f; defined = p.defined + 1 }

unfoldable pub define_function : ℕ → ℕ → List TypedItem → Visit Progress (Unit {0})
define_function unit f block = changed (with_definition unit f block)

-- a function's own name is declared before its body is visited (6.2.1p7)
unfoldable pub visit_definition : ℕ → FunctionHead → List BlockItem → Visit Progress (Unit {0})
visit_definition unit h items =
    begin_body >>= (λ u.
    with_scope (λ s. visit_parameters s h.params.list) >>= (λ ps.
    declare_function no_new_function h ps.part >>= (λ f.
    looked (λ p. Ok (enclosing_in (slice_get p.tables.types.funs f.1))) >>= (λ e.
    with_scope (λ s. visit_body s e ps.locals items) >>= (λ block.
    define_function unit f.0 block.part)))))
