-- The text of each number and size passes the checker.
use Rattle.std.proofs.Common.{◌≡◌, ℕ, ◌≤◌, max, true, List, [], ◌∷◌, Option, Some, Ok, ap, ◌∙◌, arith}
use Rattle.hx_io.specs.Files.{Files}
use Rattle.case_gen.specs.Units.{unit_of}
use Rattle.c_program.specs.declared.program.Program.{Program}
use Rattle.c_typing.specs.Units.{typed}
use Rattle.ec_units.specs.Verdicts.{longest_in, judged, verdict, passes}
use Rattle.gen_tokens.specs.UnitPieces.{unit_tokens}
use Rattle.gen_tokens.proofs.UnitLaws.{reads_unit}
use Rattle.gen_units.specs.Trees.{unit_tree}
use Rattle.gen_units.proofs.UnitLaws.{tree_answered}
use Rattle.gen_laws.specs.Programs.{program_at}
use Rattle.gen_laws.proofs.LengthLaws.{unit_names, unit_length}
use Rattle.gen_laws.proofs.LimitLaws.{unit_program, unit_within}
use Rattle.gen_laws.proofs.UnitLaws.{unit_typed}
use Rattle.gen_laws.proofs.VerdictLaws.{one_passes}

pub generated_typed : (number size : ℕ) → 1 ≤ size → size ≤ 1000 → typed (unit_tree number size ∷ []) true ≡ Ok (program_at number size)
generated_typed number size h most = unit_typed number size h most ∙ ap (λ (p : Program). Ok p) (unit_program number size most)

pub generated_passes : (name : List ℕ) (number size : ℕ) → 1 ≤ size → size ≤ 1000 → judged true (record { name = name; file = Some (unit_of number size) } ∷ []) ≡ passes (program_at number size) (unit_of number size ∷ [])
generated_passes name number size h most =
    let tokens = unit_tokens number size in
    one_passes name (unit_of number size) tokens (unit_tree number size) (program_at number size) (unit_length number size most) (reads_unit number size most) (tree_answered number size h) (generated_typed number size h most)
    (unit_within number size (max 0 (longest_in tokens)) most (omega (arith, unit_names number size most)))

pub generated_verdict : (files : Files) (name : List ℕ) (number size : ℕ) → 1 ≤ size → size ≤ 1000 → files name ≡ Some (unit_of number size) → verdict files (name ∷ []) true ≡ passes (program_at number size) (unit_of number size ∷ [])
generated_verdict files name number size h most found =
    ap (λ (file : Option (List ℕ)). judged true (record { name = name; file = file } ∷ [])) found ∙ generated_passes name number size h most
