use Rattle.std.proofs.Common.{◌≡◌, drop}
use Rattle.pe_loader.specs.Refusals.{unknown_import}
use Rattle.pe_loader.proofs.services.unknown_import.Given as goal

abbrev pub invariant-loop-slot : goal.invariant-loop-slot
invariant-loop-slot l = unknown_import l.fn.imports ≡ unknown_import (drop l.slot-index l.imports)
