-- The parameters of a function: params = [ "void" | param { "," param } [ "," "..." ] ].
use Rattle.std.specs.Prelude.{◌≡◌, ℕ, Bool, true, false, cond, List, [], ◌∷◌, ◌++◌, Option, Some, None}
use Rattle.c_types.specs.declared.types.Span.{Span}
use Rattle.c_tree.specs.declared.expressions.Name.{Name}
use Rattle.c_tree.specs.declared.expressions.Base.{Base}
use Rattle.c_tree.specs.declared.expressions.Base.TheVariants as base
use Rattle.c_tree.specs.declared.expressions.TypeName.{TypeName}
use Rattle.c_tree.specs.declared.declarations.Param.{Param}
use Rattle.c_tree.specs.declared.declarations.Params.{Params}
use Rattle.c_lex.specs.declared.words.Word.TheVariants as w
use Rattle.c_lex.specs.declared.marks.Mark.{Mark}
use Rattle.c_lex.specs.declared.marks.Mark.TheVariants as m
use Rattle.parse_terms.specs.declared.answer.Answer.{Answer}
use Rattle.parse_terms.specs.declared.answer.Answer.TheVariants.{More, Done, Bad}
use Rattle.parse_terms.specs.declared.terminal.Sort.{Sort}
use Rattle.parse_terms.specs.declared.terminal.Sort.TheVariants as sort
use Rattle.parse_terms.specs.declared.terminal.Terminal.{Terminal}
use Rattle.parse_terms.specs.declared.types.TypeState.{TypeState}
use Rattle.parse_terms.specs.declared.types.TypeState.TheVariants as type_state
use Rattle.parse_terms.specs.Terminals.{word, mark, named, name_of}
use Rattle.parse_terms.specs.TypeNames.{IsTypeName, type_step}
use Rattle.parse_decl.specs.declared.params.ParamsState.{ParamsState}
use Rattle.parse_decl.specs.declared.params.ParamsState.TheVariants.{Opening, Typing, Behind, Comma, Ending}

abbrev pub param : TypeName → Option Name → Param
param n x = record { base = n.base; stars = n.stars; name = x }

abbrev pub params : List Param → Option Span → Params
params ps e = record { list = ps; ellipsis = e }

-- ---- the grammar

-- param = base {"*"} [ID]
pub data IsParam : Param → List Terminal → List Terminal → Type 0 where
  unnamed : {n : TypeName} {a b : List Terminal} → IsTypeName n a b → IsParam (param n None) a b
  with_name : {n : TypeName} {x : List ℕ} {s : Span} {a b : List Terminal} → IsTypeName n a (named x s ∷ b) → IsParam (param n (Some (name_of x s))) a b

-- param { "," param }
pub data IsParamList : List Param → List Terminal → List Terminal → Type 0 where
  first_param : {p : Param} {a b : List Terminal} → IsParam p a b → IsParamList (p ∷ []) a b
  next_param : {ps : List Param} {p : Param} {s : Span} {a b c : List Terminal} → IsParamList ps a (mark m.Comma s ∷ b) → IsParam p b c → IsParamList (ps ++ p ∷ []) a c

abbrev pub is_void : Base → Bool
is_void (base.Void s) = true
is_void _ = false

abbrev pub none_of : {A : Type 0} → Option A → Bool
none_of None = true
none_of (Some x) = false

abbrev pub no_items : {A : Type 0} → List A → Bool
no_items [] = true
no_items (x ∷ xs) = false

-- `void` alone
abbrev pub void_alone : List Param → Bool
void_alone (p ∷ ps) = cond (is_void p.base) (cond (no_items p.stars) (cond (none_of p.name) (no_items ps) false) false) false
void_alone [] = false

-- what stands between ( and )
pub data IsParams : Params → List Terminal → List Terminal → Type 0 where
  no_params : {a : List Terminal} → IsParams (params [] None) a a
  only_void : {s : Span} {a : List Terminal} → IsParams (params [] None) (word w.Void s ∷ a) a
  listed : {ps : List Param} {a b : List Terminal} → IsParamList ps a b → void_alone ps ≡ false → IsParams (params ps None) a b
  variadic : {ps : List Param} {s u : Span} {a b : List Terminal} → IsParamList ps a (mark m.Comma s ∷ mark m.Ellipsis u ∷ b) → IsParams (params ps (Some u)) a b

-- each parameter has its name, as a definition's have
abbrev pub all_named : List Param → Bool
all_named [] = true
all_named (p ∷ ps) = cond (none_of p.name) false (all_named ps)

-- ---- what a token does; it starts after ( and is over at )

abbrev pub closed : List Param → Params
closed ps = params (cond (void_alone ps) [] ps) None

abbrev pub behind_mark : Mark → List Param → Answer ParamsState Params
behind_mark m.Comma ps = More (Comma ps)
behind_mark m.CloseParen ps = Done (closed ps)
behind_mark _ ps = Bad

-- after a parameter
abbrev pub behind_step : Sort → List Param → Answer ParamsState Params
behind_step (sort.Mark k) ps = behind_mark k ps
behind_step _ ps = Bad

-- a parameter's type is over
abbrev pub typed_step : Sort → Span → List Param → TypeName → Answer ParamsState Params
typed_step (sort.Name x) s ps n = More (Behind (ps ++ param n (Some (name_of x s)) ∷ []))
typed_step k s ps n = behind_step k (ps ++ param n None ∷ [])

abbrev pub typing_of : Sort → Span → List Param → Answer TypeState TypeName → Answer ParamsState Params
typing_of k s ps (More x) = More (Typing ps x)
typing_of k s ps (Done n) = typed_step k s ps n
typing_of k s ps Bad = Bad

abbrev pub typing_step : Terminal → List Param → TypeState → Answer ParamsState Params
typing_step t ps x = typing_of t.sort t.span ps (type_step t x)

abbrev pub opening_mark : Mark → Answer ParamsState Params
opening_mark m.CloseParen = Done (params [] None)
opening_mark _ = Bad

-- a parameter or ) is to come
abbrev pub opening_at : Sort → Terminal → Answer ParamsState Params
opening_at (sort.Mark k) t = opening_mark k
opening_at _ t = typing_step t [] type_state.Opening

abbrev pub comma_mark : Mark → Span → List Param → Answer ParamsState Params
comma_mark m.Ellipsis s ps = More (Ending ps s)
comma_mark _ s ps = Bad

-- a parameter or ... is to come
abbrev pub comma_at : Sort → Terminal → List Param → Answer ParamsState Params
comma_at (sort.Mark k) t ps = comma_mark k t.span ps
comma_at _ t ps = typing_step t ps type_state.Opening

abbrev pub ending_mark : Mark → Span → List Param → Answer ParamsState Params
ending_mark m.CloseParen e ps = Done (params ps (Some e))
ending_mark _ e ps = Bad

abbrev pub ending_step : Sort → Span → List Param → Answer ParamsState Params
ending_step (sort.Mark k) e ps = ending_mark k e ps
ending_step _ e ps = Bad

abbrev pub params_step : Terminal → ParamsState → Answer ParamsState Params
params_step t Opening = opening_at t.sort t
params_step t (Typing ps x) = typing_step t ps x
params_step t (Behind ps) = behind_step t.sort ps
params_step t (Comma ps) = comma_at t.sort t ps
params_step t (Ending ps e) = ending_step t.sort e ps
