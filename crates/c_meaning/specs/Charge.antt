-- The stack that an active call is charged with: 1,024 bytes, 64 for each node of the function, and 8
-- for each byte that it keeps. This measure is the project's own; it is wide enough for a frame on
-- either side and for the thunks before it.
use Rattle.std.specs.Prelude.{ℕ, ◌+◌, ◌*◌, slice_get, Option, Some, None}
use Rattle.c_program.specs.declared.expressions.Target.{Target}
use Rattle.c_program.specs.declared.expressions.Target.TheVariants as to
use Rattle.c_program.specs.declared.program.FunDef.{FunDef}
use Rattle.c_program.specs.declared.program.AdjustDef.{AdjustDef}
use Rattle.c_program.specs.declared.program.Program.{Program}
use Rattle.c_program.specs.Nodes.{function_nodes}
use Rattle.c_program.specs.FrameBytes.{function_bytes, adjustor_bytes}

abbrev pub charge : (nodes bytes : ℕ) → ℕ
charge nodes bytes = 1024 + 64 * nodes + 8 * bytes

abbrev pub function_charge : Program → Option FunDef → ℕ
function_charge p None = 0
function_charge p (Some f) = charge (function_nodes p.types.funs f) (function_bytes p f)

-- an adjustor is one node
abbrev pub adjustor_charge : Program → Option AdjustDef → ℕ
adjustor_charge p None = 0
adjustor_charge p (Some a) = charge 1 (adjustor_bytes p (Some a))

-- of a function or an adjustor; nothing where the program has no such one
unfoldable pub charge_of : Program → Target → ℕ
charge_of p (to.Function k) = function_charge p (slice_get p.functions k)
charge_of p (to.Adjustor k) = adjustor_charge p (slice_get p.adjustors k)
