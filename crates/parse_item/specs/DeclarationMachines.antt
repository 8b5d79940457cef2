-- What a token does to the fields of a struct, to the head of a typedef, to an adjustor and to globals
-- that are being read. The number n is the cap on heights.
use Rattle.std.specs.Prelude.{◌≡◌, ℕ, Bool, true, false, cond, List, [], ◌∷◌, ◌++◌, Option, Some, None}
use Rattle.c_types.specs.declared.types.Span.{Span}
use Rattle.c_tree.specs.declared.expressions.Name.{Name}
use Rattle.c_tree.specs.declared.expressions.Literal.{Literal}
use Rattle.c_tree.specs.declared.expressions.Base.{Base}
use Rattle.c_tree.specs.declared.expressions.TypeName.{TypeName}
use Rattle.c_tree.specs.declared.declarations.Decl.{Decl}
use Rattle.c_tree.specs.declared.declarations.Field.{Field}
use Rattle.c_tree.specs.declared.declarations.Params.{Params}
use Rattle.c_tree.specs.declared.declarations.FunctionHead.{FunctionHead}
use Rattle.c_tree.specs.declared.declarations.Item.{Item}
use Rattle.c_tree.specs.declared.declarations.Item.TheVariants as item
use Rattle.c_lex.specs.declared.marks.Mark.{Mark}
use Rattle.c_lex.specs.declared.marks.Mark.TheVariants as m
use Rattle.parse_terms.specs.declared.answer.Answer.{Answer}
use Rattle.parse_terms.specs.declared.answer.Answer.TheVariants.{More, Done, Bad}
use Rattle.parse_terms.specs.declared.terminal.Sort.{Sort}
use Rattle.parse_terms.specs.declared.terminal.Sort.TheVariants as sort
use Rattle.parse_terms.specs.declared.terminal.Terminal.{Terminal}
use Rattle.parse_terms.specs.declared.types.TypeState.{TypeState}
use Rattle.parse_terms.specs.declared.types.TypeState.TheVariants as type_state
use Rattle.parse_terms.specs.declared.declarators.DeclState.{DeclState}
use Rattle.parse_terms.specs.declared.declarators.DeclState.TheVariants as decl_state
use Rattle.parse_terms.specs.Terminals.{name_of}
use Rattle.parse_terms.specs.TypeNames.{type_step}
use Rattle.parse_terms.specs.Declarators.{literal, decl_step}
use Rattle.parse_decl.specs.declared.params.ParamsState.{ParamsState}
use Rattle.parse_decl.specs.declared.params.ParamsState.TheVariants as params_state
use Rattle.parse_decl.specs.declared.inits.InitPart.{InitPart}
use Rattle.parse_decl.specs.declared.inits.InitState.{InitState}
use Rattle.parse_decl.specs.Params.{params_step, no_items as is_empty}
use Rattle.parse_decl.specs.Inits.{init_start, init_step}
use Rattle.parse_item.specs.declared.fields.FieldsState.{FieldsState}
use Rattle.parse_item.specs.declared.fields.FieldsState.TheVariants as fields
use Rattle.parse_item.specs.declared.typedefs.TypedefState.{TypedefState}
use Rattle.parse_item.specs.declared.typedefs.TypedefState.TheVariants as typedef
use Rattle.parse_item.specs.declared.adjustors.AdjustorState.{AdjustorState}
use Rattle.parse_item.specs.declared.adjustors.AdjustorState.TheVariants as adjustor
use Rattle.parse_item.specs.declared.globals.GlobalsState.{GlobalsState}
use Rattle.parse_item.specs.declared.globals.GlobalsState.TheVariants as globals
use Rattle.parse_item.specs.ItemGrammar.{field_of, head_of}
use Rattle.parse_item.specs.ItemParts.{GlobalsPart, without_init, with_init}

-- ---- the fields of a struct, from behind { up to }

abbrev pub FieldsSaid : Type 0
FieldsSaid = Answer FieldsState (List Field)

abbrev pub field_mark : Mark → List Field → Base → List Decl → FieldsSaid
field_mark m.Comma fs y ds = More (fields.Declaring fs y ds (decl_state.Stars []))
field_mark m.Semicolon fs y ds = More (fields.Between (fs ++ field_of y ds ∷ []))
field_mark _ fs y ds = Bad

-- a declarator of a field is over
abbrev pub field_end : Sort → List Field → Base → List Decl → FieldsSaid
field_end (sort.Mark k) fs y ds = field_mark k fs y ds
field_end _ fs y ds = Bad

abbrev pub field_declared : Sort → List Field → Base → List Decl → Answer DeclState Decl → FieldsSaid
field_declared k fs y ds (More x) = More (fields.Declaring fs y ds x)
field_declared k fs y ds (Done d) = field_end k fs y (ds ++ d ∷ [])
field_declared k fs y ds Bad = Bad

-- behind the base the stars are those of the first declarator
abbrev pub field_typed : Terminal → List Field → Answer TypeState TypeName → FieldsSaid
field_typed t fs (More x) = More (fields.Typing fs x)
field_typed t fs (Done n) = field_declared t.sort fs n.base [] (decl_step t (decl_state.Stars n.stars))
field_typed t fs Bad = Bad

-- The first token of a field's type. This word doesn't compute by itself: the term that a machine computes to
-- at a token that isn't known is long.
unfoldable pub begin_field : Terminal → List Field → FieldsSaid
begin_field t fs = field_typed t fs (type_step t type_state.Opening)

abbrev pub between_mark : Mark → List Field → FieldsSaid
between_mark m.CloseBrace fs = cond (is_empty fs) Bad (Done fs)
between_mark _ fs = Bad

-- a field is to begin, or the fields end
abbrev pub between_step : Terminal → Sort → List Field → FieldsSaid
between_step t (sort.Mark k) fs = between_mark k fs
between_step t _ fs = begin_field t fs

abbrev pub fields_step : Terminal → FieldsState → FieldsSaid
fields_step t (fields.Between fs) = between_step t t.sort fs
fields_step t (fields.Typing fs x) = field_typed t fs (type_step t x)
fields_step t (fields.Declaring fs y ds x) = field_declared t.sort fs y ds (decl_step t x)

-- ---- the head of a typedef, from behind the word up to ;

abbrev pub TypedefSaid : Type 0
TypedefSaid = Answer TypedefState FunctionHead

-- a mark that leads on
abbrev pub typedef_open : Sort → TypedefState → TypedefSaid
typedef_open (sort.Mark m.OpenParen) st = More st
typedef_open _ st = Bad

abbrev pub typedef_star : Sort → TypedefState → TypedefSaid
typedef_star (sort.Mark m.Star) st = More st
typedef_star _ st = Bad

abbrev pub typedef_name : Sort → Span → TypeName → TypedefSaid
typedef_name (sort.Name x) s n = More (typedef.Closing n (name_of x s))
typedef_name _ s n = Bad

abbrev pub typedef_close : Sort → TypedefState → TypedefSaid
typedef_close (sort.Mark m.CloseParen) st = More st
typedef_close _ st = Bad

abbrev pub typedef_typed : Sort → Answer TypeState TypeName → TypedefSaid
typedef_typed k (More x) = More (typedef.Typing x)
typedef_typed k (Done n) = typedef_open k (typedef.Star n)
typedef_typed k Bad = Bad

-- the ) behind the parameters is taken
abbrev pub typedef_params : TypeName → Name → Answer ParamsState Params → TypedefSaid
typedef_params n x (More y) = More (typedef.Params n x y)
typedef_params n x (Done ps) = More (typedef.Ended (head_of n x ps))
typedef_params n x Bad = Bad

abbrev pub typedef_end : Sort → FunctionHead → TypedefSaid
typedef_end (sort.Mark m.Semicolon) h = Done h
typedef_end _ h = Bad

abbrev pub typedef_step : Terminal → TypedefState → TypedefSaid
typedef_step t (typedef.Typing x) = typedef_typed t.sort (type_step t x)
typedef_step t (typedef.Star n) = typedef_star t.sort (typedef.Naming n)
typedef_step t (typedef.Naming n) = typedef_name t.sort t.span n
typedef_step t (typedef.Closing n x) = typedef_close t.sort (typedef.Opening n x)
typedef_step t (typedef.Opening n x) = typedef_open t.sort (typedef.Params n x params_state.Opening)
typedef_step t (typedef.Params n x y) = typedef_params n x (params_step t y)
typedef_step t (typedef.Ended h) = typedef_end t.sort h

-- ---- an adjustor, from behind the word at s up to ;

abbrev pub AdjustorSaid : Type 0
AdjustorSaid = Answer AdjustorState Item

abbrev pub adjustor_name : Sort → Span → AdjustorSaid
adjustor_name (sort.Name x) s = More (adjustor.Equal (name_of x s))
adjustor_name _ s = Bad

abbrev pub adjustor_equal : Sort → Name → AdjustorSaid
adjustor_equal (sort.Mark m.Equal) x = More (adjustor.Target x)
adjustor_equal _ x = Bad

abbrev pub adjustor_target : Sort → Span → Name → AdjustorSaid
adjustor_target (sort.Name y) s x = More (adjustor.Comma x (name_of y s))
adjustor_target _ s x = Bad

abbrev pub adjustor_comma : Sort → AdjustorState → AdjustorSaid
adjustor_comma (sort.Mark m.Comma) st = More st
adjustor_comma _ st = Bad

abbrev pub adjustor_parameter : Sort → Span → Name → Name → AdjustorSaid
adjustor_parameter (sort.Number v i) s x y = More (adjustor.NextComma x y (literal v i s))
adjustor_parameter _ s x y = Bad

abbrev pub adjustor_amount : Sort → Span → Name → Name → Literal → AdjustorSaid
adjustor_amount (sort.Number v i) s x y p = More (adjustor.Ended x y p None (literal v i s))
adjustor_amount (sort.Mark m.Minus) s x y p = More (adjustor.Negated x y p s)
adjustor_amount _ s x y p = Bad

abbrev pub adjustor_negated : Sort → Span → Name → Name → Literal → Span → AdjustorSaid
adjustor_negated (sort.Number v i) s x y p d = More (adjustor.Ended x y p (Some d) (literal v i s))
adjustor_negated _ s x y p d = Bad

abbrev pub adjustor_end : Sort → Item → AdjustorSaid
adjustor_end (sort.Mark m.Semicolon) z = Done z
adjustor_end _ z = Bad

abbrev pub adjustor_step : Span → Terminal → AdjustorState → AdjustorSaid
adjustor_step s t adjustor.Opening = adjustor_name t.sort t.span
adjustor_step s t (adjustor.Equal x) = adjustor_equal t.sort x
adjustor_step s t (adjustor.Target x) = adjustor_target t.sort t.span x
adjustor_step s t (adjustor.Comma x y) = adjustor_comma t.sort (adjustor.Parameter x y)
adjustor_step s t (adjustor.Parameter x y) = adjustor_parameter t.sort t.span x y
adjustor_step s t (adjustor.NextComma x y p) = adjustor_comma t.sort (adjustor.Amount x y p)
adjustor_step s t (adjustor.Amount x y p) = adjustor_amount t.sort t.span x y p
adjustor_step s t (adjustor.Negated x y p d) = adjustor_negated t.sort t.span x y p d
adjustor_step s t (adjustor.Ended x y p o k) = adjustor_end t.sort (item.Adjustor s x y p o k)

-- ---- globals of one base, from behind it up to ;

abbrev pub GlobalsSaid : Type 0
GlobalsSaid = Answer GlobalsState GlobalsPart

-- a global is over
abbrev pub global_end : Sort → GlobalsPart → GlobalsSaid
global_end (sort.Mark m.Comma) gs = More (globals.Declaring gs (decl_state.Stars []))
global_end (sort.Mark m.Semicolon) gs = Done gs
global_end _ gs = Bad

abbrev pub declared_end : Sort → GlobalsPart → Decl → GlobalsSaid
declared_end (sort.Mark m.Equal) gs d = More (globals.Valued gs d init_start)
declared_end k gs d = global_end k (without_init gs d)

abbrev pub global_declared : Sort → GlobalsPart → Answer DeclState Decl → GlobalsSaid
global_declared k gs (More x) = More (globals.Declaring gs x)
global_declared k gs (Done d) = declared_end k gs d
global_declared k gs Bad = Bad

abbrev pub global_valued : Sort → GlobalsPart → Decl → Answer InitState InitPart → GlobalsSaid
global_valued k gs d (More x) = More (globals.Valued gs d x)
global_valued k gs d (Done i) = global_end k (with_init gs d i)
global_valued k gs d Bad = Bad

abbrev pub globals_step : ℕ → Terminal → GlobalsState → GlobalsSaid
globals_step n t (globals.Declaring gs x) = global_declared t.sort gs (decl_step t x)
globals_step n t (globals.Valued gs d x) = global_valued t.sort gs d (init_step n t x)
