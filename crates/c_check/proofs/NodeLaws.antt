-- The nodes of each form of initial value, from those of its parts.
use Rattle.std.proofs.Common.{◌≡◌, ℕ, ◌+◌, sum_by, List, Option, sym, ap, ◌∙◌}
use Rattle.std.specs.Prelude.{ℤ}
use Rattle.std.proofs.lemmas.List.Sums.{sum-map}
use Rattle.c_types.specs.declared.types.Span.{Span}
use Rattle.c_tree.specs.declared.expressions.Name.{Name}
use Rattle.c_tree.specs.declared.expressions.Literal.{Literal}
use Rattle.c_tree.specs.declared.declarations.Step.{Step}
use Rattle.c_tree.specs.declared.declarations.Init.{Init, fold-Init, fold-roll-Init}
use Rattle.c_tree.specs.declared.declarations.Init.TheOpen.{Init-F}
use Rattle.c_tree.specs.declared.declarations.Init.TheVariants as init
use Rattle.c_tree.specs.declared.declarations.Init.TheVariants.{rolls-Number, rolls-Char, rolls-Text, rolls-Name, rolls-List}
use Rattle.c_typing.specs.Items.{init_nodes_at, init_nodes}

pub init_nodes-Number : (m : Option Span) (n : Literal) → init_nodes (init.Number m n) ≡ 1
unfolding init_nodes
init_nodes-Number m n = ap (fold-Init ℕ init_nodes_at) (sym (rolls-Number m n)) ∙ fold-roll-Init ℕ init_nodes_at (Init-F.Number m n)

pub init_nodes-Char : (c : ℤ) (s : Span) → init_nodes (init.Char c s) ≡ 1
unfolding init_nodes
init_nodes-Char c s = ap (fold-Init ℕ init_nodes_at) (sym (rolls-Char c s)) ∙ fold-roll-Init ℕ init_nodes_at (Init-F.Char c s)

pub init_nodes-Text : (t : List ℕ) (s : Span) → init_nodes (init.Text t s) ≡ 1
unfolding init_nodes
init_nodes-Text t s = ap (fold-Init ℕ init_nodes_at) (sym (rolls-Text t s)) ∙ fold-roll-Init ℕ init_nodes_at (Init-F.Text t s)

pub init_nodes-Name : (a : Option Span) (n : Name) (ps : List Step) → init_nodes (init.Name a n ps) ≡ 1
unfolding init_nodes
init_nodes-Name a n ps = ap (fold-Init ℕ init_nodes_at) (sym (rolls-Name a n ps)) ∙ fold-roll-Init ℕ init_nodes_at (Init-F.Name a n ps)

pub init_nodes-List : (s : Span) (xs : List Init) → init_nodes (init.List s xs) ≡ sum_by init_nodes xs + 1
unfolding init_nodes
init_nodes-List s xs = ap (fold-Init ℕ init_nodes_at) (sym (rolls-List s xs)) ∙ fold-roll-Init ℕ init_nodes_at (Init-F.List s xs) ∙ ap (λ m. m + 1) (sum-map init_nodes xs)

pub ruleset init_counts = (init_nodes-Number, init_nodes-Char, init_nodes-Text, init_nodes-Name, init_nodes-List)
