-- What a token does to a unit that is being read. The number n is the cap on heights.
use Rattle.std.specs.Prelude.{◌≡◌, ℕ, ◌+◌, Bool, true, false, cond, List, [], ◌∷◌, Option, Some, None}
use Rattle.c_types.specs.declared.types.Span.{Span}
use Rattle.c_tree.specs.declared.expressions.Name.{Name}
use Rattle.c_tree.specs.declared.expressions.Base.{Base}
use Rattle.c_tree.specs.declared.expressions.Base.TheVariants as base
use Rattle.c_tree.specs.declared.expressions.TypeName.{TypeName}
use Rattle.c_tree.specs.declared.declarations.Decl.{Decl}
use Rattle.c_tree.specs.declared.declarations.Field.{Field}
use Rattle.c_tree.specs.declared.declarations.Params.{Params}
use Rattle.c_tree.specs.declared.declarations.FunctionHead.{FunctionHead}
use Rattle.c_tree.specs.declared.declarations.Item.{Item}
use Rattle.c_tree.specs.declared.declarations.Item.TheVariants as item
use Rattle.c_lex.specs.declared.words.Word.{Word}
use Rattle.c_lex.specs.declared.words.Word.TheVariants as w
use Rattle.c_lex.specs.declared.marks.Mark.{Mark}
use Rattle.c_lex.specs.declared.marks.Mark.TheVariants as m
use Rattle.parse_terms.specs.declared.answer.Answer.{Answer}
use Rattle.parse_terms.specs.declared.answer.Answer.TheVariants.{More, Done, Bad}
use Rattle.parse_terms.specs.declared.terminal.Sort.{Sort}
use Rattle.parse_terms.specs.declared.terminal.Sort.TheVariants as sort
use Rattle.parse_terms.specs.declared.terminal.Terminal.{Terminal}
use Rattle.parse_terms.specs.declared.types.TypeState.{TypeState}
use Rattle.parse_terms.specs.declared.types.TypeState.TheVariants as type_state
use Rattle.parse_terms.specs.declared.declarators.DeclState.{DeclState}
use Rattle.parse_terms.specs.declared.declarators.DeclState.TheVariants as decl_state
use Rattle.parse_terms.specs.Terminals.{name_of}
use Rattle.parse_terms.specs.TypeNames.{type_name, type_step}
use Rattle.parse_terms.specs.Declarators.{decl, decl_step}
use Rattle.parse_decl.specs.declared.params.ParamsState.{ParamsState}
use Rattle.parse_decl.specs.declared.params.ParamsState.TheVariants as params_state
use Rattle.parse_decl.specs.Params.{params_step, all_named}
use Rattle.c_tree.specs.Height.{params_height}
use Rattle.parse_stmt.specs.declared.parts.Capped.TheVariants.{Built}
use Rattle.parse_stmt.specs.declared.state.BodyState.{BodyState}
use Rattle.parse_stmt.specs.StmtParts.{Body}
use Rattle.parse_stmt.specs.StmtMachine.{body_start}
use Rattle.parse_item.specs.BodyAnswers.{body_answer}
use Rattle.parse_item.specs.declared.fields.FieldsState.{FieldsState}
use Rattle.parse_item.specs.declared.fields.FieldsState.TheVariants as fields
use Rattle.parse_item.specs.declared.typedefs.TypedefState.{TypedefState}
use Rattle.parse_item.specs.declared.typedefs.TypedefState.TheVariants as typedef
use Rattle.parse_item.specs.declared.adjustors.AdjustorState.{AdjustorState}
use Rattle.parse_item.specs.declared.adjustors.AdjustorState.TheVariants as adjustor
use Rattle.parse_item.specs.declared.globals.GlobalsState.{GlobalsState}
use Rattle.parse_item.specs.declared.globals.GlobalsState.TheVariants as globals
use Rattle.parse_item.specs.declared.items.ItemState.{ItemState}
use Rattle.parse_item.specs.declared.items.ItemState.TheVariants.{Typedef, Tag, Tagged, Fields, FieldsEnded, ExternType, ExternDecl, Adjustor, Typing, Named, Globals, Params as InParams, Head, Body as InBody}
use Rattle.parse_item.specs.declared.units.UnitState.{UnitState}
use Rattle.parse_item.specs.ItemGrammar.{head_of}
use Rattle.parse_item.specs.ItemParts.{GlobalsPart, ItemPart, ItemsPart, UnitPart, no_globals, no_items, globals_part, define_part, with_item, unit_part}
use Rattle.parse_item.specs.DeclarationMachines.{fields_step, typedef_step, adjustor_step, globals_step}

abbrev pub ItemSaid : Type 0
ItemSaid = Answer ItemState ItemPart

abbrev pub typedef_said : Span → Answer TypedefState FunctionHead → ItemSaid
typedef_said s (More x) = More (Typedef s x)
typedef_said s (Done h) = Done (Built (item.Typedef s h) (params_height h.params + 1))
typedef_said s Bad = Bad

abbrev pub adjustor_said : Span → Answer AdjustorState Item → ItemSaid
adjustor_said s (More x) = More (Adjustor s x)
adjustor_said s (Done z) = Done (Built z 1)
adjustor_said s Bad = Bad

-- the } behind the fields is taken
abbrev pub fields_said : Span → Name → Answer FieldsState (List Field) → ItemSaid
fields_said s x (More y) = More (Fields s x y)
fields_said s x (Done fs) = More (FieldsEnded s x fs)
fields_said s x Bad = Bad

abbrev pub fields_ended : Sort → Span → Name → List Field → ItemSaid
fields_ended (sort.Mark m.Semicolon) s x fs = Done (Built (item.Struct s x fs) 3)
fields_ended _ s x fs = Bad

abbrev pub extern_end : Sort → Span → Base → Decl → ItemSaid
extern_end (sort.Mark m.Semicolon) s y d = Done (Built (item.Extern s y d) 2)
extern_end _ s y d = Bad

abbrev pub extern_declared : Sort → Span → Base → Answer DeclState Decl → ItemSaid
extern_declared k s y (More x) = More (ExternDecl s y x)
extern_declared k s y (Done d) = extern_end k s y d
extern_declared k s y Bad = Bad

abbrev pub extern_typed : Terminal → Span → Answer TypeState TypeName → ItemSaid
extern_typed t s (More x) = More (ExternType s x)
extern_typed t s (Done n) = extern_declared t.sort s n.base (decl_step t (decl_state.Stars n.stars))
extern_typed t s Bad = Bad

-- behind a type: the name of a global or a function
abbrev pub name_step : Sort → Span → TypeName → ItemSaid
name_step (sort.Name x) s n = More (Named n.base n.stars (name_of x s))
name_step _ s n = Bad

abbrev pub typed : Sort → Span → Answer TypeState TypeName → ItemSaid
typed k s (More x) = More (Typing x)
typed k s (Done n) = name_step k s n
typed k s Bad = Bad

abbrev pub globals_said : ℕ → Base → Answer GlobalsState GlobalsPart → ItemSaid
globals_said n y (More x) = More (Globals y x)
globals_said n y (Done gs) = Done (globals_part n y gs)
globals_said n y Bad = Bad

-- The first global, whose name has been read. Words like this one don't compute by themselves: the terms that
-- a machine computes to at a token that isn't known are long.
unfoldable pub first_global : ℕ → Terminal → Base → List Span → Name → ItemSaid
first_global n t y ss x = globals_said n y (globals_step n t (globals.Declaring no_globals (decl_state.Named (decl ss x []))))

abbrev pub named_mark : ℕ → Terminal → Mark → Base → List Span → Name → ItemSaid
named_mark n t m.OpenParen y ss x = More (InParams (type_name y ss) x params_state.Opening)
named_mark n t k y ss x = first_global n t y ss x

-- a ( makes it a function
abbrev pub named_step : ℕ → Terminal → Sort → Base → List Span → Name → ItemSaid
named_step n t (sort.Mark k) y ss x = named_mark n t k y ss x
named_step n t k y ss x = first_global n t y ss x

-- the ) behind the parameters is taken
abbrev pub params_said : TypeName → Name → Answer ParamsState Params → ItemSaid
params_said r x (More y) = More (InParams r x y)
params_said r x (Done ps) = More (Head (head_of r x ps))
params_said r x Bad = Bad

abbrev pub head_mark : Mark → Span → FunctionHead → ItemSaid
head_mark m.Semicolon s h = Done (Built (item.Declare h) (params_height h.params + 1))
head_mark m.OpenBrace s h = cond (all_named h.params.list) (More (InBody h s body_start)) Bad
head_mark _ s h = Bad

abbrev pub head_step : Sort → Span → FunctionHead → ItemSaid
head_step (sort.Mark k) s h = head_mark k s h
head_step _ s h = Bad

abbrev pub body_said : ℕ → FunctionHead → Span → Answer BodyState Body → ItemSaid
body_said n h s (More x) = More (InBody h s x)
body_said n h s (Done xs) = Done (define_part n h s xs)
body_said n h s Bad = Bad

abbrev pub tag_step : Sort → Span → Span → ItemSaid
tag_step (sort.Name x) s u = More (Tagged u (name_of x s))
tag_step _ s u = Bad

-- behind `struct ID`, as the type of globals or a function
unfoldable pub tagged_type : Terminal → Span → Name → ItemSaid
tagged_type t s x = typed t.sort t.span (type_step t (type_state.Stars (base.Struct s x) []))

abbrev pub tagged_mark : Terminal → Mark → Span → Name → ItemSaid
tagged_mark t m.OpenBrace s x = More (Fields s x (fields.Between []))
tagged_mark t k s x = tagged_type t s x

-- a { makes it a definition
abbrev pub tagged_step : Terminal → Sort → Span → Name → ItemSaid
tagged_step t (sort.Mark k) s x = tagged_mark t k s x
tagged_step t k s x = tagged_type t s x

-- the first token of a type of globals or a function
unfoldable pub begin_typed : Terminal → ItemSaid
begin_typed t = typed t.sort t.span (type_step t type_state.Opening)

abbrev pub item_word : Terminal → Word → ItemSaid
item_word t w.Typedef = More (Typedef t.span (typedef.Typing type_state.Opening))
item_word t w.Struct = More (Tag t.span)
item_word t w.Extern = More (ExternType t.span type_state.Opening)
item_word t w.Adjustor = More (Adjustor t.span adjustor.Opening)
item_word t v = begin_typed t

-- the first token of an item
abbrev pub item_begin : Terminal → Sort → ItemSaid
item_begin t (sort.Word v) = item_word t v
item_begin t k = begin_typed t

-- a token of an item; where the item is over, the token is its last
abbrev pub item_step : ℕ → Terminal → ItemState → ItemSaid
item_step n t (Typedef s x) = typedef_said s (typedef_step t x)
item_step n t (Tag s) = tag_step t.sort t.span s
item_step n t (Tagged s x) = tagged_step t t.sort s x
item_step n t (Fields s x y) = fields_said s x (fields_step t y)
item_step n t (FieldsEnded s x fs) = fields_ended t.sort s x fs
item_step n t (ExternType s x) = extern_typed t s (type_step t x)
item_step n t (ExternDecl s y x) = extern_declared t.sort s y (decl_step t x)
item_step n t (Adjustor s x) = adjustor_said s (adjustor_step s t x)
item_step n t (Typing x) = typed t.sort t.span (type_step t x)
item_step n t (Named y ss x) = named_step n t t.sort y ss x
item_step n t (Globals y x) = globals_said n y (globals_step n t x)
item_step n t (InParams r x y) = params_said r x (params_step t y)
item_step n t (Head h) = head_step t.sort t.span h
item_step n t (InBody h s x) = body_said n h s (body_answer n t x)

-- ---- units

abbrev pub unit_state : ItemsPart → Option ItemState → UnitState
unit_state xs x = record { items = xs; current = x }

abbrev pub unit_start : UnitState
unit_start = unit_state no_items None

abbrev pub unit_said : ItemsPart → ItemSaid → Answer UnitState UnitPart
unit_said xs (More x) = More (unit_state xs (Some x))
unit_said xs (Done p) = More (unit_state (with_item xs p) None)
unit_said xs Bad = Bad

abbrev pub said_of : ℕ → Terminal → Option ItemState → ItemSaid
said_of n t None = item_begin t t.sort
said_of n t (Some x) = item_step n t x

-- a unit isn't over before the tokens are
abbrev pub unit_step : ℕ → Terminal → UnitState → Answer UnitState UnitPart
unit_step n t st = unit_said st.items (said_of n t st.current)

-- the unit that the tokens were
abbrev pub finish_of : ℕ → ItemsPart → Option ItemState → Option UnitPart
finish_of n xs None = Some (unit_part n xs)
finish_of n xs (Some x) = None

abbrev pub unit_finish : ℕ → UnitState → Option UnitPart
unit_finish n st = finish_of n st.items st.current

-- the state is the one that comes of the token, and there is none where no text goes on so
abbrev pub Takes : Option UnitState → Answer UnitState UnitPart → Type 0
Takes (Some st) o = o ≡ More st
Takes None o = o ≡ Bad
