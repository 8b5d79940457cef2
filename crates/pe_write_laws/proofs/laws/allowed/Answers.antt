use Rattle.pe_write_laws.specs.Format.{image_bytes}
use Rattle.pe_write_laws.proofs.Room.{allowed_is}
use Rattle.pe_write_laws.proofs.Back.{read_back}
use Rattle.pe_write_laws.proofs.FileBytes.{file_bytes}
use Rattle.pe_write_laws.proofs.ReadAllowed.{read_allowed}
use Rattle.pe_write_laws.proofs.laws.allowed.Goals as goal

pub returns : goal.returns
returns c = λ i. ((λ h. read_allowed h.0 i h.1 h.2), (λ h. (image_bytes i, (let a = allowed_is i h in file_bytes i a.placed), read_back i h)))
