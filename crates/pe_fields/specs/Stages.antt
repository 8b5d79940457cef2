-- One walk over the code map that tells whether two kinds stand on one page.
use Rattle.std.specs.Prelude.{Bool, false, ◌||◌, List, [], ◌∷◌, nat_lt, if◌then◌else◌, Option, Some, None}
use Rattle.chpe_types.specs.declared.image.CodeRange.{CodeRange}
use Rattle.chpe_types.specs.Looks.{range_end}
use Rattle.pe_fields.specs.Hybrid.{shares_page}

-- the last range with bytes so far, and one after it
abbrev pub shares_with : Option CodeRange → CodeRange → Bool
shares_with None r = false
shares_with (Some before) r = shares_page before r

abbrev pub walk : Option CodeRange → List CodeRange → Bool
walk last [] = false
walk last (r ∷ rs) = if nat_lt r.start (range_end r) then shares_with last r || walk (Some r) rs else walk last rs
