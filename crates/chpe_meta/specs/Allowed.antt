-- The metadata that some bytes stand for, by tests on its values.
use Rattle.std.specs.Prelude.{ℕ, ◌%◌, Bool, not, ◌&&◌, ◌==◌, nat_le, nat_lt}
use Rattle.std.specs.List.{list_all}
use Rattle.chpe_types.specs.declared.image.CodeRange.{CodeRange}
use Rattle.chpe_types.specs.declared.image.Redirect.{Redirect}
use Rattle.chpe_types.specs.declared.image.FnRow.{FnRow}
use Rattle.chpe_types.specs.declared.image.Meta.{Meta}
use Rattle.chpe_types.specs.Looks.{all_neighbours, valid_meta_of}

-- a row starts by the start of the next
abbrev pub starts_by : FnRow → FnRow → Bool
starts_by r next = nat_le r.start next.start

-- the ranges, the redirections and the function rows are in order
abbrev pub in_order : Meta → Bool
in_order m = valid_meta_of m && all_neighbours starts_by m.rows

-- a number of 32 bits
abbrev pub fits : ℕ → Bool
fits n = nat_lt n 4294967296

-- the two low bits of a start are those of the kind
abbrev pub has_range_row : CodeRange → Bool
has_range_row r = (r.start % 4 == 0) && (fits r.start && fits r.length)

abbrev pub has_redirect_row : Redirect → Bool
has_redirect_row r = fits r.source && fits r.destination

abbrev pub is_letter : ℕ → Bool
is_letter c = not (c == 0)

-- no zero in the name
abbrev pub has_function_row : FnRow → Bool
has_function_row r = list_all is_letter r.name && (fits r.kind && (fits r.start && fits r.end))

-- each row has its bytes
abbrev pub has_rows : Meta → Bool
has_rows m = list_all has_range_row m.ranges && (list_all has_redirect_row m.redirects && list_all has_function_row m.rows)

unfoldable pub is_allowed : Meta → Bool
is_allowed m = in_order m && has_rows m
