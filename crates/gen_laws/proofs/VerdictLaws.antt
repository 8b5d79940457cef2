-- The verdict on a text that is read, parsed and typed.
use Rattle.std.proofs.Common.{◌≡◌, ℕ, ◌+◌, ◌≤◌, max, true, false, List, [], ◌∷◌, length, Some, None, Ok, refl, arith}
use Rattle.std.specs.Prelude.{nat_lt}
use Rattle.c_lex.specs.declared.token.Token.{Token}
use Rattle.c_lex.specs.Reading.{tokens_of}
use Rattle.c_tree.specs.declared.declarations.Unit.{Unit as Unit'}
use Rattle.c_parser.specs.Answers.{answer_of}
use Rattle.c_program.specs.declared.program.Program.{Program}
use Rattle.c_typing.specs.Units.{typed}
use Rattle.ec_limits.specs.Limits.{passed}
use Rattle.ec_units.specs.Verdicts.{text_of, longest_in, longest_of, add_units, passes, judged}

within : (n most : ℕ) → n ≤ 1048576 → 1048576 ≤ most → nat_lt most n ≡ false
within n most h more = grind arith

-- one unit, whose text is these tokens, this tree and this program
pub one_passes : (name text : List ℕ) (tokens : List Token) (tree : Unit') (p : Program) → length text ≤ 1048576 → tokens_of text ≡ Ok tokens → answer_of tokens ≡ Ok tree → typed (tree ∷ []) true ≡ Ok p → passed p (max 0 (longest_in tokens)) ≡ None →
    judged true (record { name = name; file = Some text } ∷ []) ≡ passes p (text ∷ [])
unfolding judged add_units text_of longest_of
one_passes name text tokens tree p short lexed parsed types limits =
    simp (within (length text) 1048576 short (omega arith), within (0 + length text) 4194304 (omega (arith, short)) (omega arith), lexed, parsed, types, limits) refl
