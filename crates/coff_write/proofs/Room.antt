-- What validity says of the sizes.
use Rattle.std.proofs.Common.{◌≡◌, ℕ, ◌≤◌, true, ◌&&◌, arith}
use Rattle.std.specs.Prelude.{nat_le, min, ◌+◌, ◌*◌}
use Rattle.std.proofs.lemmas.Bool.{leb-true, and_parts}
use Rattle.coff_write.specs.declared.object.Object.{Object}
use Rattle.coff_write.specs.Format.{section_count, file_size, section_names_size}
use Rattle.coff_write.specs.Valid.{is_valid, fits, limit, short_places, HasRoom}

fits_room : (o : Object) → fits o ≡ true → HasRoom o
unfolding fits
fits_room o e =
    let h = and_parts (nat_le (section_count o) 65535) (nat_le (file_size o) limit && short_places 4 o.sections) e in
    let k = and_parts (nat_le (file_size o) limit) (short_places 4 o.sections) h.1 in
    record { count = leb-true (section_count o) 65535 h.0; size = leb-true (file_size o) limit k.0 }

pub valid_room : (o : Object) → is_valid o ≡ true → HasRoom o
unfolding is_valid
valid_room o e = fits_room o (and_parts (fits o) _ e).0

-- sums counted up to the limit
pub same_sum : (n a h r k m : ℕ) → min (24 + 40 * n + min a 134217729 + 12 * min h 134217729 + 10 * min r 134217729 + 18 * min k 134217729 + min m 134217729) 134217729 ≡ min (24 + 40 * n + a + 12 * h + 10 * r + 18 * k + m) 134217729
same_sum n a h r k m = omega arith

pub names_room : (o : Object) → min (file_size o) 134217729 ≤ 134217728 → section_names_size o.sections ≤ 134217729
names_room o h = omega (arith, h)
