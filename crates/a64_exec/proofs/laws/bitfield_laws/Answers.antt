use Rattle.a64_exec.proofs.Parts.{bitfield_of-right, signed_bitfield_of-right, bitfield_of-left, bitfield_of-byte, bitfield_of-half, bitfield_of-word, signed_bitfield_of-byte, signed_bitfield_of-half, signed_bitfield_of-word}
use Rattle.a64_exec.proofs.laws.bitfield_laws.Goals as goal

pub returns-clause-right : goal.returns-clause-right
returns-clause-right c = bitfield_of-right

pub returns-clause-right_signed : goal.returns-clause-right_signed
returns-clause-right_signed c = signed_bitfield_of-right

pub returns-clause-left : goal.returns-clause-left
returns-clause-left c = bitfield_of-left

pub returns-clause-byte : goal.returns-clause-byte
returns-clause-byte c = bitfield_of-byte

pub returns-clause-half : goal.returns-clause-half
returns-clause-half c = bitfield_of-half

pub returns-clause-word : goal.returns-clause-word
returns-clause-word c = bitfield_of-word

pub returns-clause-signed_byte : goal.returns-clause-signed_byte
returns-clause-signed_byte c = signed_bitfield_of-byte

pub returns-clause-signed_half : goal.returns-clause-signed_half
returns-clause-signed_half c = signed_bitfield_of-half

pub returns-clause-signed_word : goal.returns-clause-signed_word
returns-clause-signed_word c = signed_bitfield_of-word
