-- What each initial value gives, from its parts.
use Rattle.std.proofs.Common.{◌≡◌, ℕ, List, map, Option, sym, ap, ◌∙◌}
use Rattle.std.specs.Prelude.{ℤ}
use Rattle.c_types.specs.declared.types.Span.{Span}
use Rattle.c_types.specs.declared.types.Ty.{Ty}
use Rattle.c_types.specs.declared.types.Types.{Types}
use Rattle.c_tree.specs.declared.expressions.Name.{Name}
use Rattle.c_tree.specs.declared.expressions.Literal.{Literal}
use Rattle.c_tree.specs.declared.declarations.Step.{Step}
use Rattle.c_tree.specs.declared.declarations.Init.{Init, fold-Init, fold-roll-Init}
use Rattle.c_tree.specs.declared.declarations.Init.TheOpen.{Init-F}
use Rattle.c_tree.specs.declared.declarations.Init.TheVariants as init
use Rattle.c_tree.specs.declared.declarations.Init.TheVariants.{rolls-Number as rolls-Init-Number, rolls-Char as rolls-Init-Char, rolls-Text as rolls-Init-Text, rolls-Name as rolls-Init-Name, rolls-List as rolls-Init-List}
use Rattle.c_typing.specs.declared.scopes.UnitScope.{UnitScope}
use Rattle.c_typing.specs.Initials.{InitVisit, for_type, visit_init_at, visit_init, number_at, char_at, text_at, name_at, list_at, start_or}

pub visit_init-Number : (unit : UnitScope) (t : Types) (m : Option Span) (n : Literal) (ty : Option Ty) → visit_init unit t (init.Number m n) ty ≡ for_type (number_at (start_or m n.span.start) m n) ty
unfolding visit_init
visit_init-Number unit t m n ty = ap (λ (v : InitVisit). v ty) (ap (fold-Init InitVisit (visit_init_at unit t)) (sym (rolls-Init-Number m n)) ∙ fold-roll-Init InitVisit (visit_init_at unit t) (Init-F.Number m n))

pub visit_init-Char : (unit : UnitScope) (t : Types) (c : ℤ) (s : Span) (ty : Option Ty) → visit_init unit t (init.Char c s) ty ≡ for_type (char_at s.start c) ty
unfolding visit_init
visit_init-Char unit t c s ty = ap (λ (v : InitVisit). v ty) (ap (fold-Init InitVisit (visit_init_at unit t)) (sym (rolls-Init-Char c s)) ∙ fold-roll-Init InitVisit (visit_init_at unit t) (Init-F.Char c s))

pub visit_init-Text : (unit : UnitScope) (t : Types) (bytes : List ℕ) (s : Span) (ty : Option Ty) → visit_init unit t (init.Text bytes s) ty ≡ for_type (text_at s.start t bytes) ty
unfolding visit_init
visit_init-Text unit t bytes s ty = ap (λ (v : InitVisit). v ty) (ap (fold-Init InitVisit (visit_init_at unit t)) (sym (rolls-Init-Text bytes s)) ∙ fold-roll-Init InitVisit (visit_init_at unit t) (Init-F.Text bytes s))

pub visit_init-Name : (unit : UnitScope) (t : Types) (a : Option Span) (n : Name) (xs : List Step) (ty : Option Ty) → visit_init unit t (init.Name a n xs) ty ≡ name_at (start_or a n.span.start) unit t a n xs ty
unfolding visit_init
visit_init-Name unit t a n xs ty = ap (λ (v : InitVisit). v ty) (ap (fold-Init InitVisit (visit_init_at unit t)) (sym (rolls-Init-Name a n xs)) ∙ fold-roll-Init InitVisit (visit_init_at unit t) (Init-F.Name a n xs))

pub visit_init-List : (unit : UnitScope) (t : Types) (s : Span) (vs : List Init) (ty : Option Ty) → visit_init unit t (init.List s vs) ty ≡ list_at s.start t (map (visit_init unit t) vs) ty
unfolding visit_init
visit_init-List unit t s vs ty = ap (λ (v : InitVisit). v ty) (ap (fold-Init InitVisit (visit_init_at unit t)) (sym (rolls-Init-List s vs)) ∙ fold-roll-Init InitVisit (visit_init_at unit t) (Init-F.List s vs))

pub ruleset init_visits = (visit_init-Number, visit_init-Char, visit_init-Text, visit_init-Name, visit_init-List)
