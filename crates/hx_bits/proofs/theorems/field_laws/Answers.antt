use Rattle.hx_bits.proofs.FieldLaws.{field_of-with_field, field_of-with_field_apart, with_field-field_of, with_field-with_field, field_of-field_of, with_field_lt}
use Rattle.hx_bits.proofs.theorems.field_laws.Goals as goal

pub returns : goal.returns
returns c = record {
  read_back = field_of-with_field;
  kept = λ lo len w v at n h d. field_of-with_field_apart lo len w v h at n d;
  unchanged = with_field-field_of;
  last = λ lo len w u v h. with_field-with_field lo len w u h v;
  nested = field_of-field_of;
  whole = with_field_lt;
}
