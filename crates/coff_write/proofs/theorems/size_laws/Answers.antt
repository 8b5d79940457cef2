use Rattle.coff_write.proofs.SizeLaws.{length-object_bytes}
use Rattle.coff_write.proofs.theorems.size_laws.Goals as goal

pub returns : goal.returns
returns c = length-object_bytes
