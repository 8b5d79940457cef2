use Rattle.std.proofs.Common.{◌≡◌, ◌*◌, ◌+◌, take, map}
use Rattle.c_values.specs.Objects.{zero_field, zero_within}
use Rattle.c_values.proofs.zeros.+zero.Given as goal

-- one type within its depth, and then the lists of parts that it reads one level below
abbrev pub decreases-zero_at : goal.decreases-zero_at
decreases-zero_at l = 3 * l.depth

abbrev pub decreases-zero_fields : goal.decreases-zero_fields
decreases-zero_fields l = 3 * l.depth + 1

abbrev pub decreases-zero_parts : goal.decreases-zero_parts
decreases-zero_parts l = 3 * l.depth + 2

abbrev pub decreases-zero_row : goal.decreases-zero_row
decreases-zero_row l = 3 * l.depth + 1

abbrev pub invariant-zero_fields-loop-field : goal.invariant-zero_fields-loop-field
invariant-zero_fields-loop-field l = l.parts ≡ map (zero_field (zero_within l.depth l.types)) (take l.field-index l.fields)
