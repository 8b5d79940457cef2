-- Steps of a path and constants of a list, one more at a time.
use Rattle.std.proofs.Common.{◌≡◌, ℕ, ◌+◌, ◌<◌, ◌≤◌, Bool, true, false, ◌&&◌, List, [], ◌∷◌, ◌++◌, map, drop, length, get_or, Option, Result, Ok, Err, refl, sym, ap, ◌∙◌, append_assoc, append-nil}
use Rattle.std.proofs.lemmas.List.{drop_all}
use Rattle.c_types.specs.declared.types.Ty.{Ty}
use Rattle.c_types.specs.declared.types.Types.{Types}
use Rattle.c_tree.specs.declared.declarations.Step.{Step}
use Rattle.c_tree.specs.declared.declarations.Init.{Init}
use Rattle.c_program.specs.declared.program.PathStep.{PathStep}
use Rattle.c_program.specs.declared.program.Constant.{Constant}
use Rattle.c_typing.specs.declared.faults.Fault.{Fault}
use Rattle.c_typing.specs.declared.faults.Refusal.{Refusal}
use Rattle.c_typing.specs.declared.faults.Refusal.TheVariants as refusal
use Rattle.c_typing.specs.Visits.{and_then, Tells}
use Rattle.c_typing.specs.Initials.{InitVisit, Part, one_step, part_by_steps, part_type, listed, for_parts}
use Rattle.c_typing.proofs.LoopLaws.{rest_is}
use Rattle.check_decls.specs.Steps.{step_of, path_behind, list_behind}
use Rattle.check_decls.specs.declared.paths.FoundStep.{FoundStep}

-- Paths

within-both : (a b c : Bool) → (a && (b && c)) ≡ ((a && b) && c)
within-both true b c = refl
within-both false b c = refl

path-cons : (front : List PathStep) (inside within : Bool) (x : PathStep) (r : Result Part Fault) →
    path_behind front inside (and_then r (λ q. Ok (record { ty = q.ty; steps = x ∷ [] ++ q.steps; inside = within && q.inside }))) ≡ path_behind (front ++ x ∷ []) (inside && within) r
path-cons front inside within x (Ok q) =
    ap (λ ys. Ok (record { ty = q.ty; steps = ys; inside = inside && (within && q.inside) })) (sym (append_assoc front (x ∷ []) q.steps))
    ∙ ap (λ b. Ok (record { ty = q.ty; steps = (front ++ x ∷ []) ++ q.steps; inside = b })) (within-both inside within q.inside)
path-cons front inside within x (Err e) = refl

path-next : (t : Types) (front : List PathStep) (inside : Bool) (x : Step) (xs : List Step) (ty : Ty) (y : FoundStep) →
    one_step t x ty ≡ Ok (step_of y) →
    path_behind front inside (part_by_steps t (x ∷ xs) ty) ≡ path_behind (front ++ y.step ∷ []) (inside && y.inside) (part_by_steps t xs y.ty)
unfolding part_by_steps
path-next t front inside x xs ty y e =
    ap (λ r. path_behind front inside (and_then r (λ p. and_then (part_by_steps t xs p.ty) (λ q. Ok (record { ty = q.ty; steps = p.steps ++ q.steps; inside = p.inside && q.inside }))))) e
    ∙ path-cons front inside y.inside y.step (part_by_steps t xs y.ty)

-- one more step
pub path_more : (t : Types) (steps : List Step) (i : ℕ) (x : Step) (front next : List PathStep) (inside within : Bool) (ty : Ty) (y : FoundStep) →
    i < length steps → x ≡ get_or steps i x → one_step t x ty ≡ Ok (step_of y) → next ≡ front ++ y.step ∷ [] → within ≡ (inside && y.inside) →
    path_behind next within (part_by_steps t (drop (i + 1) steps) y.ty) ≡ path_behind front inside (part_by_steps t (drop i steps) ty)
path_more t steps i x front next inside within ty y h e v n w =
    ap (λ b. path_behind next b (part_by_steps t (drop (i + 1) steps) y.ty)) w
    ∙ ap (λ ys. path_behind ys (inside && y.inside) (part_by_steps t (drop (i + 1) steps) y.ty)) n
    ∙ sym (ap (λ ys. path_behind front inside (part_by_steps t ys ty)) (rest_is steps i x h e) ∙ path-next t front inside x (drop (i + 1) steps) ty y v)

path-failed : (t : Types) (front : List PathStep) (inside : Bool) (x : Step) (xs : List Step) (ty : Ty) (f : Fault) →
    one_step t x ty ≡ Err f → path_behind front inside (part_by_steps t (x ∷ xs) ty) ≡ Err f
unfolding part_by_steps
path-failed t front inside x xs ty f e =
    ap (λ r. path_behind front inside (and_then r (λ p. and_then (part_by_steps t xs p.ty) (λ q. Ok (record { ty = q.ty; steps = p.steps ++ q.steps; inside = p.inside && q.inside }))))) e

-- a step finds no part
pub path_failed : (t : Types) (steps : List Step) (i : ℕ) (x : Step) (front : List PathStep) (inside : Bool) (ty : Ty) (f : Fault) →
    i < length steps → x ≡ get_or steps i x → one_step t x ty ≡ Err f →
    path_behind front inside (part_by_steps t (drop i steps) ty) ≡ Err f
path_failed t steps i x front inside ty f h e v =
    ap (λ ys. path_behind front inside (part_by_steps t ys ty)) (rest_is steps i x h e) ∙ path-failed t front inside x (drop (i + 1) steps) ty f v

pub path_begun : (r : Result Part Fault) → path_behind [] true r ≡ r
path_begun (Ok p) = refl
path_begun (Err e) = refl

inside-alone : (b : Bool) → (b && true) ≡ b
inside-alone true = refl
inside-alone false = refl

-- all steps have been made
pub path_ended : (t : Types) (steps : List Step) (i : ℕ) (front : List PathStep) (inside : Bool) (ty : Ty) → length steps ≤ i →
    path_behind front inside (part_by_steps t (drop i steps) ty) ≡ Ok (record { ty = ty; steps = front; inside = inside })
unfolding part_by_steps
path_ended t steps i front inside ty h =
    ap (λ ys. path_behind front inside (part_by_steps t ys ty)) (drop_all i steps h)
    ∙ ap (λ ys. Ok (record { ty = ty; steps = ys; inside = inside && true })) (append-nil front)
    ∙ ap (λ b. Ok (record { ty = ty; steps = front; inside = b })) (inside-alone inside)

-- Lists

list-cons : (front : List Constant) (c : Constant) (r : Result (List Constant) Fault) → list_behind front (listed (Ok c) r) ≡ list_behind (front ++ c ∷ []) r
list-cons front c (Ok cs) = ap Ok (sym (append_assoc front (c ∷ []) cs))
list-cons front c (Err e) = refl

pub list_begun : (r : Result (List Constant) Fault) → list_behind [] r ≡ r
list_begun (Ok cs) = refl
list_begun (Err e) = refl

-- one more value
pub parts_more : (t : Types) (ty : Option Ty) (visit : Init → InitVisit) (vs : List Init) (i : ℕ) (v : Init) (front next : List Constant) (c : Constant) →
    i < length vs → v ≡ get_or vs i v → visit v (part_type t i ty) ≡ Ok c → next ≡ front ++ c ∷ [] →
    list_behind next (for_parts t ty (i + 1) (map visit (drop (i + 1) vs))) ≡ list_behind front (for_parts t ty i (map visit (drop i vs)))
unfolding for_parts
parts_more t ty visit vs i v front next c k w r m =
    ap (λ ys. list_behind ys (for_parts t ty (i + 1) (map visit (drop (i + 1) vs)))) m
    ∙ sym (ap (λ ys. list_behind front (for_parts t ty i (map visit ys))) (rest_is vs i v k w)
    ∙ ap (λ q. list_behind front (listed q (for_parts t ty (i + 1) (map visit (drop (i + 1) vs))))) r
    ∙ list-cons front c (for_parts t ty (i + 1) (map visit (drop (i + 1) vs))))

parts-failed : (t : Types) (ty : Option Ty) (visit : Init → InitVisit) (vs : List Init) (i : ℕ) (v : Init) (front : List Constant) (x : Fault) →
    i < length vs → v ≡ get_or vs i v → visit v (part_type t i ty) ≡ Err x →
    list_behind front (for_parts t ty i (map visit (drop i vs))) ≡ Err x
unfolding for_parts
parts-failed t ty visit vs i v front x k w r =
    ap (λ ys. list_behind front (for_parts t ty i (map visit ys))) (rest_is vs i v k w)
    ∙ ap (λ q. list_behind front (listed q (for_parts t ty (i + 1) (map visit (drop (i + 1) vs))))) r

pub parts_ended : (t : Types) (ty : Option Ty) (visit : Init → InitVisit) (vs : List Init) (i : ℕ) (front : List Constant) → length vs ≤ i →
    list_behind front (for_parts t ty i (map visit (drop i vs))) ≡ Ok front
unfolding for_parts
parts_ended t ty visit vs i front h =
    ap (λ ys. list_behind front (for_parts t ty i (map visit ys))) (drop_all i vs h) ∙ ap Ok (append-nil front)

-- a call for a value refused: so does the whole
pub parts_left : (t : Types) (ty : Option Ty) (visit : Init → InitVisit) (vs : List Init) (i : ℕ) (v : Init) (front : List Constant) (e : Refusal) (whole : Result (List Constant) Fault) →
    i < length vs → v ≡ get_or vs i v → Tells (visit v (part_type t i ty)) (Err e) →
    list_behind front (for_parts t ty i (map visit (drop i vs))) ≡ whole → Tells whole (Err e)
parts_left t ty visit vs i v front (refusal.Fault x) whole k u r inv = sym inv ∙ parts-failed t ty visit vs i v front x k u r
parts_left t ty visit vs i v front refusal.NoMemory whole k u r inv = tt
