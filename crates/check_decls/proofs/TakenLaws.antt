-- A name's test is made before the rest of its declaration.
use Rattle.std.proofs.Common.{◌≡◌, ◌≢◌, ◌==◌, ℕ, Bool, false, if◌then◌else◌, List, Some, Ok, Err, slice_get, refl, sym, ap, ◌∙◌, subst, arith}
use Rattle.std.proofs.lemmas.Bool.Decides.{nat_tests}
use Rattle.c_tree.specs.declared.expressions.Name.{Name}
use Rattle.c_program.specs.declared.program.GlobalDef.{GlobalDef}
use Rattle.c_program.specs.declared.program.FunDef.{FunDef}
use Rattle.c_typing.specs.declared.faults.TypeKind.TheVariants.{Redeclared}
use Rattle.c_typing.specs.TypeForms.{same_type}
use Rattle.c_tree.specs.declared.expressions.Base.{Base}
use Rattle.c_tree.specs.declared.declarations.Decl.{Decl}
use Rattle.c_tree.specs.declared.declarations.FunctionHead.{FunctionHead}
use Rattle.c_types.specs.declared.types.Ty.{Ty}
use Rattle.c_typing.specs.declared.tables.Progress.{Progress}
use Rattle.c_typing.specs.declared.faults.Refusal.{Refusal}
use Rattle.c_typing.specs.declared.faults.Refusal.TheVariants as refusal
use Rattle.c_typing.specs.Visits.{Visit, Leaves, followed, fault}
use Rattle.check_decls.specs.Steps.{refused_standing}
use Rattle.c_typing.specs.Externals.{typed_standing, typed_where, unless_taken, declare_global, declare_function, global_named, found_global, entered_global, enter_global, function_named, found_function, entered_function, enter_program_function}

global-tested : (taken : Progress → List ℕ → Bool) (b : Base) (d : Decl) (p : Progress) → declare_global (λ q n. taken p d.name.text) b d p ≡ declare_global taken b d p
unfolding declare_global unless_taken followed
global-tested taken b d p = refl

pub global_tested : (taken : Progress → List ℕ → Bool) (t : Bool) (b : Base) (d : Decl) (p : Progress) → t ≡ taken p d.name.text → declare_global (λ q n. t) b d p ≡ declare_global taken b d p
global_tested taken t b d p e = subst (λ (x : Bool). declare_global (λ q n. x) b d p ≡ declare_global taken b d p) (sym e) (global-tested taken b d p)

function-tested : (taken : Progress → List ℕ → Bool) (h : FunctionHead) (params : List Ty) (p : Progress) → declare_function (λ q n. taken p h.name.text) h params p ≡ declare_function taken h params p
unfolding declare_function unless_taken followed
function-tested taken h params p = refl

pub function_tested : (taken : Progress → List ℕ → Bool) (t : Bool) (h : FunctionHead) (params : List Ty) (p : Progress) → t ≡ taken p h.name.text → declare_function (λ q n. t) h params p ≡ declare_function taken h params p
function_tested taken t h params p e = subst (λ (x : Bool). declare_function (λ q n. x) h params p ≡ declare_function taken h params p) (sym e) (function-tested taken h params p)

-- a name stands with another type

pub global_differs : (n : Name) (ty : Ty) (p : Progress) (g : ℕ) (d : GlobalDef) → global_named p.globals n.text ≡ Some g → slice_get p.globals g ≡ Some d → same_type d.ty ty ≡ false → enter_global n ty p ≡ Err (fault Redeclared n.span.start)
unfolding enter_global
global_differs n ty p g d e h s =
    ap (λ o. entered_global n ty o (found_global p o) p) e ∙ ap (λ o. entered_global n ty (Some g) o p) h
    ∙ ap (λ b. if b then Ok (g, p) else Err (fault Redeclared n.span.start)) s

pub function_differs : (n : Name) (k : ℕ) (p : Progress) (f : ℕ) (d : FunDef) → function_named p.functions n.text ≡ Some f → slice_get p.functions f ≡ Some d → d.ty ≢ k → enter_program_function n k p ≡ Err (fault Redeclared n.span.start)
unfolding enter_program_function
function_differs n k p f d e h s =
    let other : (d.ty == k) ≡ false = grind (arith, nat_tests) in
    ap (λ o. entered_function n k o (found_function p o) p) e ∙ ap (λ o. entered_function n k (Some f) o p) h
    ∙ ap (λ b. if b then Ok (f, p) else Err (fault Redeclared n.span.start)) other

-- the type of a name that may stand

where-refused : {A : Type 0} (stands : Progress → Bool) (v : Visit Progress A) (p p' : Progress) (r : Refusal) →
    Leaves (v p) (Err r) p' → Leaves (typed_where stands v p) (Err (refused_standing (stands p) r)) p'
unfolding typed_where
where-refused stands v p p' (refusal.Fault f) h = ap (typed_standing (stands p)) h
where-refused stands v p p' refusal.NoMemory h = tt

pub where_refused : {A : Type 0} (stands : Progress → Bool) (v : Visit Progress A) (p p' : Progress) (b : Bool) (r r' : Refusal) →
    b ≡ stands p → Leaves (v p) (Err r) p' → r' ≡ refused_standing b r → Leaves (typed_where stands v p) (Err r') p'
where_refused {A = A} stands v p p' b r r' e h n =
    subst (λ (x : Refusal). Leaves {A = A} (typed_where stands v p) (Err x) p') (sym (n ∙ ap (λ x. refused_standing x r) e)) (where-refused stands v p p' r h)
