-- A program's names, what its globals hold at first, and the configuration in which a function begins.
use Rattle.std.specs.Prelude.{ℕ, ◌-◌, Bool, true, false, nat_eq, if◌then◌else◌, is_some, List, [], ◌∷◌, ◌++◌, length, take, drop, replicate, Option, Some, None}
use Rattle.std.specs.List.{find, fold}
use Rattle.std.specs.Option.{option_map, option_or}
use Rattle.std.specs.Str.{bytes_eq}
use Rattle.hx_words.specs.LittleEndian.{number_of}
use Rattle.sig_core.specs.declared.classes.Signature.{Signature}
use Rattle.ir_core.specs.declared.program.IrAddress.{IrAddress}
use Rattle.ir_core.specs.declared.program.IrGlobal.{IrGlobal}
use Rattle.ir_core.specs.declared.program.IrProgram.{IrProgram}
use Rattle.ir_core.specs.Cells.{Cell, Byte, Global, Inside, Function, byte_cells, blanks, plain, symbol_cells, with_cells}
use Rattle.ir_core.specs.Worlds.{Globals, Body, Adjusts, Codes, Reply, World, Config}
use Rattle.ir_core.specs.Calls.{entered}

-- the function of a name, or else the adjustor
abbrev pub codes_of : IrProgram → Codes
codes_of p name =
    option_or (option_map Body (find (λ f. bytes_eq f.name name) p.functions))
    (option_map Adjusts (find (λ a. bytes_eq a.name name) p.adjustors))

-- the address of a name with a number added; there is no function's address but that of its start
abbrev pub named_cells : Bool → List ℕ → Option (List ℕ) → List Cell
named_cells function name None = blanks 8
named_cells true name (Some bs) = if nat_eq (number_of bs) 0 then symbol_cells (Function name) else blanks 8
named_cells false name (Some bs) = symbol_cells (Inside (Global name) (number_of bs))

abbrev pub or_else : {A : Type 0} → A → Option A → A
or_else a None = a
or_else a (Some b) = b

-- the cells of a global with the address of a name added to eight of them
abbrev pub with_address : IrProgram → List Cell → IrAddress → List Cell
with_address p cs a =
    or_else cs (with_cells cs a.at (named_cells (is_some (codes_of p a.name)) a.name (plain (take 8 (drop a.at cs)))))

-- its bytes, then zeros, with its addresses
abbrev pub global_cells : IrProgram → IrGlobal → List Cell
global_cells p g = fold (with_address p) (byte_cells g.bytes ++ replicate (g.size - length g.bytes) (Byte 0)) g.addresses

abbrev pub cells_of : IrProgram → Option IrGlobal → List Cell
cells_of p None = []
cells_of p (Some g) = global_cells p g

unfoldable pub first_globals : IrProgram → Globals
first_globals p name = cells_of p (find (λ g. bytes_eq g.name name) p.globals)

abbrev pub world_of : IrProgram → List Reply → World
world_of p replies = record { globals = first_globals p; events = []; replies = replies }

-- a function that is entered with these arguments and has no caller
abbrev pub begun : Codes → (name : List ℕ) → Signature → List (List Cell) → World → Config
begun p name sig args w = entered p name sig args [] w

-- `main`, which takes nothing, with what answers it
abbrev pub started : IrProgram → Signature → List Reply → Config
started p sig replies = begun (codes_of p) (109 ∷ 97 ∷ 105 ∷ 110 ∷ []) sig [] (world_of p replies)
