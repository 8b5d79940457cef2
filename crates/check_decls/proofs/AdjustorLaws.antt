-- An adjustor whose name is free, whose target is found and whose change fits.
use Rattle.std.proofs.Common.{◌≡◌, ℕ, ◌-◌, Bool, true, false, Ok, Option, refl, sym, ap, ◌∙◌}
use Rattle.std.specs.Prelude.{ℤ}
use Rattle.c_types.specs.declared.types.Span.{Span}
use Rattle.c_tree.specs.declared.expressions.Name.{Name}
use Rattle.c_tree.specs.declared.expressions.Literal.{Literal}
use Rattle.c_program.specs.declared.expressions.Target.{Target}
use Rattle.c_typing.specs.declared.tables.Progress.{Progress}
use Rattle.c_typing.specs.Visits.{followed, looked}
use Rattle.c_typing.specs.Externals.{no_adjustor, unless_taken}
use Rattle.c_typing.specs.Adjustors.{target_named, fits, amount_of, define_adjustor, visit_adjustor}
use Rattle.check_decls.specs.Steps.{unless, placed_adjustor}

untaken : (x : Bool) (n : Name) → unless x n ≡ Ok tt → x ≡ false
untaken true n h = cc
untaken false n h = refl

placed : (unit : ℕ) (a b : Name) (p : Literal) (m : Option Span) (n : Literal) (s : Progress) (f : Target × ℕ) →
    no_adjustor s a.text ≡ false → target_named a.span.start s.scope b.text ≡ Ok f → fits a.span.start s.tables.types f.1 p m n ≡ Ok tt →
    visit_adjustor unit a b p m n s ≡ placed_adjustor unit a.text f (p.value - 1, amount_of m n.value) s
unfolding visit_adjustor unless_taken followed looked define_adjustor
placed unit a b p m n s f free found fit = rw (free, found, fit) refl

pub adjustor_placed : (unit : ℕ) (a b : Name) (p : Literal) (m : Option Span) (n : Literal) (s : Progress) (f : Target × ℕ) (change : ℕ × ℤ) (t : Bool) →
    t ≡ no_adjustor s a.text → unless t a ≡ Ok tt → target_named a.span.start s.scope b.text ≡ Ok f → fits a.span.start s.tables.types f.1 p m n ≡ Ok tt →
    change ≡ (p.value - 1, amount_of m n.value) → visit_adjustor unit a b p m n s ≡ placed_adjustor unit a.text f change s
adjustor_placed unit a b p m n s f change t test free found fit e =
    placed unit a b p m n s f (sym test ∙ untaken t a free) found fit ∙ ap (λ (x : ℕ × ℤ). placed_adjustor unit a.text f x s) (sym e)
