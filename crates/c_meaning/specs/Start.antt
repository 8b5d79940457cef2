-- What a program is to the rules, and the state in which it begins.
use Rattle.std.specs.Prelude.{ℕ, ◌+◌, Bool, true, false, if◌then◌else◌, nat_eq, ◌&&◌, List, [], ◌∷◌, map, slice_get, Option, Some, None, pos, codes}
use Rattle.c_types.specs.declared.types.FunTy.{FunTy}
use Rattle.c_types.specs.declared.types.Types.{Types}
use Rattle.c_program.specs.declared.expressions.Target.{Target}
use Rattle.c_program.specs.declared.expressions.Target.TheVariants as to
use Rattle.c_program.specs.declared.program.Constant.{Constant, fold-Constant}
use Rattle.c_program.specs.declared.program.Constant.TheOpen.{Constant-F}
use Rattle.c_program.specs.declared.program.GlobalBody.{GlobalBody}
use Rattle.c_program.specs.declared.program.GlobalDef.{GlobalDef}
use Rattle.c_program.specs.declared.program.FunctionBody.{FunctionBody}
use Rattle.c_program.specs.declared.program.FunDef.{FunDef}
use Rattle.c_program.specs.declared.program.AdjustDef.{AdjustDef}
use Rattle.c_program.specs.declared.program.Program.{Program}
use Rattle.c_values.specs.declared.value.Root.TheVariants as root
use Rattle.c_values.specs.declared.value.Value.{Value}
use Rattle.c_values.specs.declared.value.Value.TheVariants as value
use Rattle.c_values.specs.Numbers.{wrapped}
use Rattle.c_values.specs.Objects.{zero_of, parts_of}
use Rattle.c_meaning.specs.Charge.{charge_of}
use Rattle.c_meaning.specs.States.{State}
use Rattle.c_meaning.specs.Rules.{Callee, Body, Adjusts, Elsewhere, Setting}

abbrev pub defined_body : Option FunTy → Option FunctionBody → Callee
defined_body None b = Elsewhere
defined_body (Some f) None = Elsewhere
defined_body (Some f) (Some b) = Body f b

abbrev pub function_callee : Types → Option FunDef → Callee
function_callee t None = Elsewhere
function_callee t (Some f) = defined_body (slice_get t.funs f.ty) f.body

abbrev pub typed_adjustor : AdjustDef → Option FunTy → Callee
typed_adjustor a None = Elsewhere
typed_adjustor a (Some f) = Adjusts f a

abbrev pub adjustor_callee : Types → Option AdjustDef → Callee
adjustor_callee t None = Elsewhere
adjustor_callee t (Some a) = typed_adjustor a (slice_get t.funs a.ty)

-- what a target is in a program
unfoldable pub callee_in : Program → Target → Callee
callee_in p (to.Function k) = function_callee p.types (slice_get p.functions k)
callee_in p (to.Adjustor k) = adjustor_callee p.types (slice_get p.adjustors k)

abbrev pub setting_of : Program → Setting
setting_of p = record { types = p.types; callee = callee_in p; charge = charge_of p }

-- the first parts by what makes them of their zeros, and the others zero
abbrev pub filled : List (Value → Value) → List Value → List Value
filled [] vs = vs
filled (f ∷ fs) [] = []
filled (f ∷ fs) (v ∷ vs) = f v ∷ filled fs vs

-- what a constant makes of the zero of its type
abbrev pub constant_value : Constant-F (Value → Value) → Value → Value
constant_value Constant-F.Zero z = z
constant_value (Constant-F.Number i n) z = value.Number (wrapped i (pos n))
constant_value (Constant-F.Address g ps) z = value.Pointer (record { root = root.Global g; path = ps })
constant_value (Constant-F.Function t) z = value.Function t
constant_value (Constant-F.List fs) z = value.Aggregate (filled fs (parts_of z))

unfoldable pub initial : Constant → Value → Value
initial = fold-Constant (Value → Value) constant_value

abbrev pub global_body_value : Option GlobalBody → Value → Value
global_body_value None z = z
global_body_value (Some b) z = initial b.init z

abbrev pub global_value : Types → GlobalDef → Value
global_value t g = global_body_value g.body (zero_of t g.ty)

abbrev pub start : Program → List ℕ → State
start p input = record {
  globals = map (global_value p.types) p.globals;
  frames = [];
  world = record { input = input; taken = 0; output = []; asks = false; replies = [] };
  peak = 0;
  walk = [];
}

abbrev pub same_name : List ℕ → List ℕ → Bool
same_name [] [] = true
same_name (a ∷ as') (b ∷ bs) = nat_eq a b && same_name as' bs
same_name [] (b ∷ bs) = false
same_name (a ∷ as') [] = false

-- the place of the first function of a name, counted from a number on
abbrev pub named : List ℕ → ℕ → List FunDef → ℕ
named name k [] = k
named name k (f ∷ fs) = if same_name name f.name then k else named name (k + 1) fs

abbrev pub main_of : Program → Target
main_of p = to.Function (named (codes "main") 0 p.functions)
