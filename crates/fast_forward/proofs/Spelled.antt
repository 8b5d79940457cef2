-- A sequence is the spelling of its instructions.
use Rattle.std.proofs.Common.{◌≡◌, ℤ, refl, arith}
use Rattle.std.proofs.lemmas.Int.{ints}
use Rattle.hx_words.specs.TwosComplement.{IsSigned}
use Rattle.x64_isa.specs.Fields.{number_of_register, low, high, rex, modrm, fits8, place_high, place_mode, place_rm, place_tail, register_bytes, place_bytes, IsPlace}
use Rattle.x64_isa.specs.Spelling.{Valid, spell_of, wide, rex_if_needed}
use Rattle.hx_words.specs.LittleEndian.{bytes_of}
use Rattle.fast_forward.specs.Sequence.{sequence_of, instructions, spelled, AllValid}

pub spells : (z : ℤ) → sequence_of z ≡ spelled (instructions z)
unfolding sequence_of bytes_of spell_of wide rex_if_needed number_of_register low high rex modrm fits8 place_high place_mode place_rm place_tail register_bytes place_bytes
spells z = refl

pub all_valid : (z : ℤ) → IsSigned 32 z → AllValid (instructions z)
unfolding Valid IsPlace
all_valid z h = (tt, ((omega (arith, ints), omega (arith, ints)), (tt, (tt, (h, (tt, (tt, tt)))))))
