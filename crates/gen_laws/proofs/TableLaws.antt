-- What the table of functions holds.
use Rattle.std.proofs.Common.{◌≡◌, ℕ, zero, suc, ◌+◌, ◌*◌, ◌<◌, ◌≤◌, Bool, true, false, List, [], ◌∷◌, ◌++◌, map, length, Option, Some, None, Result, Ok, Err, refl, sym, ap, subst, ◌∙◌, arith}
use Rattle.std.specs.Prelude.{codes, ◌==◌, nat_lt, nat_le, if◌then◌else◌}
use Rattle.std.proofs.lemmas.List.{map-append, length_push}
use Rattle.c_types.specs.declared.types.Ty.{Ty}
use Rattle.c_types.specs.declared.types.Ty.TheVariants.{Fun, Array}
use Rattle.c_types.specs.declared.types.Types.{Types}
use Rattle.c_types.specs.Layout.{extent_within}
use Rattle.c_lex.specs.declared.token.Token.{Token}
use Rattle.c_tree.specs.declared.declarations.Init.{Init}
use Rattle.c_program.specs.declared.expressions.Target.TheVariants as target
use Rattle.c_program.specs.declared.program.Constant.{Constant}
use Rattle.c_program.specs.declared.program.Constant.TheVariants as constant
use Rattle.c_program.specs.declared.program.FunDef.{FunDef}
use Rattle.c_program.specs.declared.program.AdjustDef.{AdjustDef}
use Rattle.c_typing.specs.declared.faults.Fault.{Fault}
use Rattle.c_typing.specs.declared.scopes.Meaning.TheVariants as meaning
use Rattle.c_typing.specs.declared.scopes.UnitName.{UnitName}
use Rattle.c_typing.specs.declared.scopes.UnitScope.{UnitScope}
use Rattle.c_typing.specs.Visits.{followed, give, refuse, looked, changed, and_then}
use Rattle.c_typing.specs.Scopes.{meaning_in}
use Rattle.c_typing.specs.UnitVisits.{with_scope}
use Rattle.c_typing.specs.TypeForms.{enter_type, starred, formed_type, object_type, array_type, array_types, declared_type}
use Rattle.c_typing.specs.Externals.{function_named, adjustor_named, no_global, no_new_global, typed_where, unless_taken, declare, enter_global, declare_global, define_global, visit_global, visit_globals}
use Rattle.c_typing.specs.Initials.{InitVisit, name_means, part_type, listed, for_parts, visit_init}
use Rattle.c_typing.specs.Items.{visit_item}
use Rattle.c_typing.proofs.InitLaws.{init_visits}
use Rattle.gen_tokens.specs.Pieces.{joined, tokens_at}
use Rattle.gen_tokens.specs.UnitPieces.{entry_pieces, entries_pieces}
use Rattle.gen_units.specs.Trees.{f_name, span_at, entry_init, entry_inits, table_global}
use Rattle.gen_laws.specs.Programs.{call_type, adjusts, functions_before, adjustors_before, meaning_at, callee_at, progress_of, entries_up, table_name, progress_behind}

-- values behind values

behind_by : (rest : Result (List Constant) Fault) → rest ≡ and_then (Ok []) (λ (cs : List Constant). and_then rest (λ ds. Ok (cs ++ ds)))
behind_by (Ok ds) = refl
behind_by (Err e) = refl

listed_by : (first : Result Constant Fault) (here rest all : Result (List Constant) Fault) → all ≡ and_then here (λ cs. and_then rest (λ ds. Ok (cs ++ ds))) →
    listed first all ≡ and_then (listed first here) (λ cs. and_then rest (λ ds. Ok (cs ++ ds)))
listed_by (Err e) here rest all h = refl
listed_by (Ok c) (Err e) rest all h = rw h refl
listed_by (Ok c) (Ok cs) (Err e) all h = rw h refl
listed_by (Ok c) (Ok cs) (Ok ds) all h = rw h refl

parts_behind : (t : Types) (ty : Option Ty) (n m : ℕ) (vs ws : List InitVisit) → m ≡ n + length vs → for_parts t ty n (vs ++ ws) ≡ and_then (for_parts t ty n vs) (λ cs. and_then (for_parts t ty m ws) (λ ds. Ok (cs ++ ds)))
unfolding for_parts
parts_behind t ty n m [] ws h =
    let same : n ≡ m = omega (arith, h) in
    subst (λ x. for_parts t ty n ws ≡ and_then (Ok []) (λ (cs : List Constant). and_then (for_parts t ty x ws) (λ ds. Ok (cs ++ ds)))) same (behind_by (for_parts t ty n ws))
parts_behind t ty n m (v ∷ vs) ws h =
    listed_by (v (part_type t n ty)) (for_parts t ty (n + 1) vs) (for_parts t ty m ws) (for_parts t ty (n + 1) (vs ++ ws)) (parts_behind t ty (n + 1) m vs ws (omega (arith, h)))

one_more : (t : Types) (ty : Option Ty) (m : ℕ) (vs : List InitVisit) (v : InitVisit) (cs : List Constant) (c : Constant) → m ≡ length vs → for_parts t ty 0 vs ≡ Ok cs → v (part_type t m ty) ≡ Ok c → for_parts t ty 0 (vs ++ v ∷ []) ≡ Ok (cs ++ c ∷ [])
unfolding for_parts
one_more t ty m vs v cs c count front last = parts_behind t ty 0 m vs (v ∷ []) (omega (arith, count)) ∙ rw front (single t ty m v cs c last)
  where
    single : (t : Types) (ty : Option Ty) (m : ℕ) (v : InitVisit) (cs : List Constant) (c : Constant) → v (part_type t m ty) ≡ Ok c → and_then (for_parts t ty m (v ∷ [])) (λ ds. Ok (cs ++ ds)) ≡ Ok (cs ++ c ∷ [])
    single t ty m v cs c last = rw last refl

-- an entry

abbrev table_types : Types
table_types = record { tys = Fun 0 ∷ []; structs = []; funs = call_type ∷ [] }

entry_means : (b : Bool) (at n m : ℕ) → name_means at table_types None [] (Some (if b then meaning.Adjustor n 0 else meaning.Function m 0)) (Some (Fun 0)) ≡ Ok (constant.Function (if b then target.Adjustor n else target.Function m))
entry_means true at n m = refl
entry_means false at n m = refl

entry_visited : (number k : ℕ) (unit : UnitScope) (ts : List Token) → meaning_in unit.names (f_name k) ≡ Some (meaning_at number k) → visit_init unit table_types (entry_init k ts) (Some (Fun 0)) ≡ Ok (constant.Function (callee_at number k))
entry_visited number zero unit ts means = simp (init_visits, means) (entry_means (adjusts number 0) (span_at 0 ts).start (adjustors_before number 0) (functions_before number 0))
entry_visited number (suc k) unit ts means = simp (init_visits, means) (entry_means (adjusts number (suc k)) (span_at 1 ts).start (adjustors_before number (suc k)) (functions_before number (suc k)))

inits_length : (at n : ℕ) → length (entry_inits at n) ≡ n
inits_length at zero = refl
inits_length at (suc n) = length_push (entry_inits at n) (entry_init n (tokens_at (at + length (joined (entries_pieces n))) (entry_pieces n))) ∙ omega (arith, inits_length at n)

part_below : (n l : ℕ) → n < l → part_type table_types n (Some (Array 0 l)) ≡ Some (Fun 0)
part_below n l h = rw (below n l h) refl
  where
    below : (n l : ℕ) → n < l → nat_lt n l ≡ true
    below n l h = grind arith

length-map : {A B : Type 0} (f : A → B) (xs : List A) → length (map f xs) ≡ length xs
length-map f [] = refl
length-map f (x ∷ xs) = ap suc (length-map f xs)

pub entries_visited : (number l at k : ℕ) (unit : UnitScope) → k ≤ l → ((j : ℕ) → j < k → meaning_in unit.names (f_name j) ≡ Some (meaning_at number j)) →
    for_parts table_types (Some (Array 0 l)) 0 (map (visit_init unit table_types) (entry_inits at k)) ≡ Ok (entries_up number k)
unfolding for_parts
entries_visited number l at zero unit h means = refl
entries_visited number l at (suc k) unit h means =
    let ts = tokens_at (at + length (joined (entries_pieces k))) (entry_pieces k) in
    rw (map-append (visit_init unit table_types) (entry_inits at k) (entry_init k ts ∷ []))
    (one_more table_types (Some (Array 0 l)) k (map (visit_init unit table_types) (entry_inits at k)) (visit_init unit table_types (entry_init k ts)) (entries_up number k) (constant.Function (callee_at number k))
    (sym (length-map (visit_init unit table_types) (entry_inits at k) ∙ inits_length at k))
    (entries_visited number l at k unit (omega (arith, h)) (λ j less. means j (omega (arith, less))))
    (rw (part_below k l (omega (arith, h))) (entry_visited number k unit ts (means k (omega arith)))))

-- the table, behind lines of which none has its name
pub table_defined : (n : ℕ) (inits : List Init) (cs : List Constant) (ts : List Token) (locals : List Ty) (fs : List FunDef) (as' : List AdjustDef) (d : ℕ) (ns : List UnitName) →
    meaning_in ns (codes "fn") ≡ Some (meaning.Typedef 0) → meaning_in ns (codes "table") ≡ None → function_named fs (codes "table") ≡ None → adjustor_named as' (codes "table") ≡ None → (n == 0) ≡ false → nat_lt 33554432 (n * 8) ≡ false →
    for_parts table_types (Some (Array 0 n)) 0 (map (visit_init (record { names = ns ++ table_name n ∷ []; tags = [] }) table_types) inits) ≡ Ok cs → nat_le (length cs) n ≡ true →
    visit_item 0 (table_global n inits ts) (progress_of locals fs as' d ns) ≡ Ok (tt, progress_behind (call_type ∷ []) locals (record { name = codes "table"; ty = Array 0 n; body = Some (record { unit = 0; init = constant.List cs }) } ∷ []) fs as' d (ns ++ table_name n ∷ []))
unfolding visit_globals visit_global declare_global unless_taken no_new_global no_global typed_where with_scope declared_type object_type formed_type starred array_types array_type enter_type enter_global declare define_global extent_within followed give refuse looked changed
table_defined n inits cs ts locals fs as' d ns pointer new function adjustor some small parts few = simp (init_visits, pointer, new, function, adjustor, some, small, parts, few) refl
