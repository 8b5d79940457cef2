use Rattle.a64_isa.proofs.TableLaws.{decode_of-encode_of, encode_of-decode_of}
use Rattle.a64_isa.proofs.words.round_trips.Goals as goal

pub returns-clause-again : goal.returns-clause-again
returns-clause-again c = decode_of-encode_of

pub returns-clause-back : goal.returns-clause-back
returns-clause-back c = encode_of-decode_of
