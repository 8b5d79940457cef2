use Rattle.std.proofs.Common.{refl}
use Rattle.x64_laws.proofs.Extensions.{extended_byte, extended_half, extended_word}
use Rattle.x64_laws.proofs.extension_laws.Goals as goal

pub returns-clause-byte : goal.returns-clause-byte
returns-clause-byte c = λ v. refl

pub returns-clause-half : goal.returns-clause-half
returns-clause-half c = λ v. refl

pub returns-clause-signed_byte : goal.returns-clause-signed_byte
returns-clause-signed_byte c = extended_byte

pub returns-clause-signed_half : goal.returns-clause-signed_half
returns-clause-signed_half c = extended_half

pub returns-clause-signed_word : goal.returns-clause-signed_word
returns-clause-signed_word c = extended_word
