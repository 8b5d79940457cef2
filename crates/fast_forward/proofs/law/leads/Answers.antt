use Rattle.fast_forward.specs.Sequence.{distance}
use Rattle.fast_forward.proofs.Parts.{length-sequence_of, one_distance, leads_back}
use Rattle.fast_forward.proofs.Spelled.{spells, all_valid}
use Rattle.fast_forward.proofs.law.leads.Goals as goal

pub returns : goal.returns
returns c = record {
  back = λ at target rest h. leads_back (distance at target) rest h;
  one = one_distance;
  spelled_as = spells;
  valid = all_valid;
  size = length-sequence_of;
}
