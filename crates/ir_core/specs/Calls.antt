-- Entering and leaving functions, adjustors, services, and what isn't here.
use Rattle.std.specs.Prelude.{ℕ, ◌+◌, ◌*◌, if◌then◌else◌, List, [], ◌∷◌, ◌++◌, length, take, drop, slice_get, Option, Some, None, ℤ, pos, ◌+ℤ◌}
use Rattle.std.specs.List.{slice_index_or}
use Rattle.std.specs.Option.{option_map, option_and_then}
use Rattle.hx_words.specs.LittleEndian.{number_of, bytes_of}
use Rattle.sig_core.specs.declared.classes.Signature.{Signature}
use Rattle.ir_core.specs.declared.program.IrSlot.{IrSlot}
use Rattle.ir_core.specs.declared.program.IrFn.{IrFn}
use Rattle.ir_core.specs.declared.program.IrAdjust.{IrAdjust}
use Rattle.ir_core.specs.Integers.{low_bits}
use Rattle.ir_core.specs.Cells.{Cell, Inside, Function, Word, Number, Address, byte_cells, plain, fitted}
use Rattle.ir_core.specs.Worlds.{Frame, Def, Body, Adjusts, Codes, Calls, Serves, Reply, Gives, Changes, Ends, World, Active, Caller, Waits, Passes, Gave, Exited, Asks, Config, Going, Passing, Ended, Wrong, with_slot, in_frame, shown, same_signature}

-- ---- entering

abbrev pub no_slot : IrSlot
no_slot = record { size = 0; align = 1 }

abbrev pub slot_bytes : IrFn → ℕ → ℕ
slot_bytes f k = (slice_index_or f.slots k no_slot).size

-- the parameters stand in the first slots, and nothing has set the others
unfoldable pub frame_of : IrFn → List (List Cell) → Frame
frame_of f args k = fitted (slot_bytes f k) (slice_index_or (take (length f.sig.args) args) k [])

abbrev pub active_of : IrFn → List (List Cell) → Active
active_of f args = record { name = f.name; code = f.ops; frame = frame_of f args; extras = drop (length f.sig.args) args; next = None }

-- ---- leaving

-- a value into a slot, by the slot's bytes
abbrev pub kept : Option ℕ → List Cell → Active → Active
kept None v here = here
kept (Some k) v here = in_frame here (with_slot here.frame k (fitted (length (here.frame k)) v))

-- a result goes to the caller, past the adjustors; that of the first function ends the run
abbrev pub returned : List Caller → List Cell → World → Config
returned [] v w = Ended (Gave v) w
returned (Waits rest here to ∷ cs) v w = Going rest (kept to v here) cs w
returned (Passes name ∷ cs) v w = returned cs v w

-- ---- replies

abbrev pub with_replies : List Reply → World → World
with_replies rs w = record w { replies = rs }

-- the next reply, for those that wait
unfoldable pub replied : List Reply → List Caller → World → Config
replied [] cs w = Ended Asks w
replied (Gives v ∷ rs) cs w = returned cs v (with_replies rs w)
replied (Changes v g ∷ rs) cs w = returned cs v (record w { globals = g; replies = rs })
replied (Ends code ∷ rs) cs w = Ended (Exited code) (with_replies rs w)

-- ---- calls

abbrev pub if_same : (s t : Signature) → Config → World → Config
if_same s t go w = if same_signature s t then go else Wrong w

-- the signature of the call is that of the function or the adjustor; what isn't here answers from the replies
abbrev pub entered_as : Option Def → Signature → List (List Cell) → List Caller → World → Config
entered_as None sig args cs w = replied w.replies cs w
entered_as (Some (Body f)) sig args cs w = if_same f.sig sig (Going f.ops (active_of f args) cs w) w
entered_as (Some (Adjusts a)) sig args cs w = if_same a.sig sig (Passing a args cs w) w

unfoldable pub entered : Codes → (name : List ℕ) → Signature → List (List Cell) → List Caller → World → Config
entered p name sig args cs w = entered_as (p name) sig args cs (shown (Calls name args) w)

-- a call through a slot's address, which is that of a function or an adjustor
abbrev pub entered_at : Codes → Option Word → Signature → List (List Cell) → List Caller → World → Config
entered_at p None sig args cs w = Wrong w
entered_at p (Some (Number n)) sig args cs w = Wrong w
entered_at p (Some (Address (Inside r at))) sig args cs w = Wrong w
entered_at p (Some (Address (Function name))) sig args cs w = entered p name sig args cs w

-- a service shows its name and its arguments, and its reply is the next
unfoldable pub served : (name : List ℕ) → List (List Cell) → List Caller → World → Config
served name args cs w = replied w.replies cs (shown (Serves name args) w)

-- ---- adjustors

-- a number of some bytes with a number added, wrapping
abbrev pub added : ℤ → List Cell → Option (List Cell)
added z cs = option_map (λ bs. byte_cells (bytes_of (length cs) (low_bits (8 * length cs) (pos (number_of bs) +ℤ z)))) (plain cs)

-- the arguments with that of the number k changed; none where there is no such argument, or it is no number
abbrev pub with_added : ℤ → ℕ → List (List Cell) → Option (List (List Cell))
with_added z k args = option_and_then (λ a. option_map (λ b. take k args ++ (b ∷ drop (k + 1) args)) (added z a)) (slice_get args k)

-- the target is entered in the adjustor's place, and the adjustor is active until it returns
abbrev pub passed_on : Codes → IrAdjust → Option (List (List Cell)) → List Caller → World → Config
passed_on p a None cs w = Wrong w
passed_on p a (Some args) cs w = entered p a.target a.sig args (Passes a.name ∷ cs) w

unfoldable pub adjusted : Codes → IrAdjust → List (List Cell) → List Caller → World → Config
adjusted p a args cs w = passed_on p a (with_added a.add a.param args) cs w
