use Rattle.pe_write_laws.proofs.Back.{read_back}
use Rattle.pe_write_laws.proofs.laws.reads_back.Goals as goal

pub returns : goal.returns
returns c = read_back
