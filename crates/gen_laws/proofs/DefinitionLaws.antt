-- What a line gives, behind lines of which none has its name.
use Rattle.std.proofs.Common.{◌≡◌, ℕ, ◌+◌, true, List, [], ◌∷◌, ◌++◌, length, Some, None, Ok, refl, subst}
use Rattle.std.specs.Prelude.{pos, nat_le, codes}
use Rattle.c_types.specs.declared.types.Span.{Span}
use Rattle.c_types.specs.declared.types.IntTy.TheVariants.{I32}
use Rattle.c_types.specs.declared.types.Ty.{Ty}
use Rattle.c_tree.specs.declared.statements.BlockItem.{BlockItem}
use Rattle.c_program.specs.declared.expressions.Target.{Target}
use Rattle.c_program.specs.declared.statements.TypedItem.{TypedItem}
use Rattle.c_program.specs.declared.program.FunDef.{FunDef}
use Rattle.c_program.specs.declared.program.AdjustDef.{AdjustDef}
use Rattle.c_typing.specs.declared.scopes.LocalScope.{LocalScope}
use Rattle.c_typing.specs.declared.scopes.Meaning.{Meaning}
use Rattle.c_typing.specs.declared.scopes.Meaning.TheVariants as meaning
use Rattle.c_typing.specs.declared.scopes.UnitName.{UnitName}
use Rattle.c_typing.specs.Scopes.{meaning_in, is_taken}
use Rattle.c_typing.specs.Statements.{enter_local, free_name, visit_body, in_scopes}
use Rattle.c_typing.specs.UnitVisits.{with_scope}
use Rattle.c_typing.specs.TypeForms.{enter_function, starred, formed_type, result_type, object_type}
use Rattle.c_typing.specs.Heads.{visit_parameter, visit_parameters, head_type, check_variadic}
use Rattle.c_typing.specs.Externals.{function_named, adjustor_named, no_function, no_adjustor, typed_where, unless_taken, declare, enter_program_function, declare_function, no_new_function, begin_body, define_function, visit_definition}
use Rattle.c_typing.specs.Adjustors.{target_in, define_adjustor, visit_adjustor}
use Rattle.c_typing.specs.Visits.{followed, give, refuse, judged, looked, changed}
use Rattle.parse_terms.specs.Terminals.{name_of}
use Rattle.parse_terms.specs.Declarators.{literal}
use Rattle.gen_units.specs.Trees.{f_name, function_head}
use Rattle.gen_laws.specs.Programs.{progress_of}
use Rattle.gen_laws.proofs.BodyLaws.{tables, enclosing, parameters, two}
use Rattle.gen_laws.proofs.ListLaws.{slice_get_end, slice_set_end}

-- a unit's names with one more function
abbrev pub with_function : List UnitName → ℕ → ℕ → List UnitName
with_function ns k n = ns ++ record { name = f_name k; meaning = meaning.Function n 0 } ∷ []

abbrev pub with_adjustor : List UnitName → ℕ → ℕ → List UnitName
with_adjustor ns k n = ns ++ record { name = f_name k; meaning = meaning.Adjustor n 0 } ∷ []

function-defined : (k : ℕ) (s0 s2 s4 s6 s8 s10 : Span) (items : List BlockItem) (block : List TypedItem) (inner : LocalScope) (locals before : List Ty) (fs : List FunDef) (as' : List AdjustDef) (d : ℕ) (ns : List UnitName) →
    meaning_in ns (f_name k) ≡ None → meaning_in ns (codes "a") ≡ None → meaning_in ns (codes "b") ≡ None → function_named fs (f_name k) ≡ None → adjustor_named as' (f_name k) ≡ None →
    visit_body (record { names = with_function ns k (length fs); tags = [] }) enclosing parameters items (tables two) ≡ Ok (record { part = block; locals = inner }, tables locals) →
    visit_definition 0 (function_head k s0 s2 s4 s6 s8 s10) items (progress_of before fs as' d ns) ≡ Ok (tt, progress_of locals (fs ++ record { name = f_name k; ty = 0; body = Some (record { unit = 0; number = d; locals = locals; block = block }) } ∷ []) as' (d + 1) (with_function ns k (length fs)))
unfolding visit_definition begin_body with_scope visit_parameters visit_parameter in_scopes free_name is_taken object_type formed_type starred enter_local declare_function unless_taken no_new_function no_function typed_where head_type result_type enter_function enter_program_function check_variadic declare define_function followed give refuse judged looked changed
function-defined k s0 s2 s4 s6 s8 s10 items block inner locals before fs as' d ns new a b function adjustor body = simp (new, a, b, function, adjustor, body, slice_get_end, slice_set_end) refl

pub function_defined : (k : ℕ) (s0 s2 s4 s6 s8 s10 : Span) (items : List BlockItem) (block : List TypedItem) (inner : LocalScope) (locals before : List Ty) (fs : List FunDef) (as' : List AdjustDef) (d : ℕ) (ns : List UnitName) (n : ℕ) → length fs ≡ n →
    meaning_in ns (f_name k) ≡ None → meaning_in ns (codes "a") ≡ None → meaning_in ns (codes "b") ≡ None → function_named fs (f_name k) ≡ None → adjustor_named as' (f_name k) ≡ None →
    visit_body (record { names = with_function ns k n; tags = [] }) enclosing parameters items (tables two) ≡ Ok (record { part = block; locals = inner }, tables locals) →
    visit_definition 0 (function_head k s0 s2 s4 s6 s8 s10) items (progress_of before fs as' d ns) ≡ Ok (tt, progress_of locals (fs ++ record { name = f_name k; ty = 0; body = Some (record { unit = 0; number = d; locals = locals; block = block }) } ∷ []) as' (d + 1) (with_function ns k n))
function_defined k s0 s2 s4 s6 s8 s10 items block inner locals before fs as' d ns n count new a b function adjustor body =
    subst (λ m.
    visit_body (record { names = with_function ns k m; tags = [] }) enclosing parameters items (tables two) ≡ Ok (record { part = block; locals = inner }, tables locals) →
    visit_definition 0 (function_head k s0 s2 s4 s6 s8 s10) items (progress_of before fs as' d ns) ≡ Ok (tt, progress_of locals (fs ++ record { name = f_name k; ty = 0; body = Some (record { unit = 0; number = d; locals = locals; block = block }) } ∷ []) as' (d + 1) (with_function ns k m)))
    count (function-defined k s0 s2 s4 s6 s8 s10 items block inner locals before fs as' d ns new a b function adjustor) body

adjustor-defined : (k j c : ℕ) (m : Meaning) (f : Target) (s1 s3 s5 s7 : Span) (before : List Ty) (fs : List FunDef) (as' : List AdjustDef) (d : ℕ) (ns : List UnitName) →
    meaning_in ns (f_name k) ≡ None → function_named fs (f_name k) ≡ None → adjustor_named as' (f_name k) ≡ None → meaning_in ns (f_name j) ≡ Some m → target_in s1.start (Some m) ≡ Ok (f, 0) → nat_le c 32767 ≡ true →
    visit_adjustor 0 (name_of (f_name k) s1) (name_of (f_name j) s3) (literal 1 I32 s5) None (literal c I32 s7) (progress_of before fs as' d ns) ≡ Ok (tt, progress_of before fs (as' ++ record { name = f_name k; ty = 0; unit = 0; number = d; target = f; parameter = 0; amount = pos c } ∷ []) (d + 1) (with_adjustor ns k (length as')))
unfolding visit_adjustor unless_taken no_adjustor define_adjustor declare followed give refuse judged looked changed
adjustor-defined k j c m f s1 s3 s5 s7 before fs as' d ns new function adjustor means is small = simp (new, function, adjustor, means, is, small) refl

pub adjustor_defined : (k j c : ℕ) (m : Meaning) (f : Target) (s1 s3 s5 s7 : Span) (before : List Ty) (fs : List FunDef) (as' : List AdjustDef) (d : ℕ) (ns : List UnitName) (n : ℕ) → length as' ≡ n →
    meaning_in ns (f_name k) ≡ None → function_named fs (f_name k) ≡ None → adjustor_named as' (f_name k) ≡ None → meaning_in ns (f_name j) ≡ Some m → target_in s1.start (Some m) ≡ Ok (f, 0) → nat_le c 32767 ≡ true →
    visit_adjustor 0 (name_of (f_name k) s1) (name_of (f_name j) s3) (literal 1 I32 s5) None (literal c I32 s7) (progress_of before fs as' d ns) ≡ Ok (tt, progress_of before fs (as' ++ record { name = f_name k; ty = 0; unit = 0; number = d; target = f; parameter = 0; amount = pos c } ∷ []) (d + 1) (with_adjustor ns k n))
adjustor_defined k j c m f s1 s3 s5 s7 before fs as' d ns n count new function adjustor means is small =
    subst (λ m. visit_adjustor 0 (name_of (f_name k) s1) (name_of (f_name j) s3) (literal 1 I32 s5) None (literal c I32 s7) (progress_of before fs as' d ns) ≡ Ok (tt, progress_of before fs (as' ++ record { name = f_name k; ty = 0; unit = 0; number = d; target = f; parameter = 0; amount = pos c } ∷ []) (d + 1) (with_adjustor ns k m)))
    count (adjustor-defined k j c m f s1 s3 s5 s7 before fs as' d ns new function adjustor means is small)
