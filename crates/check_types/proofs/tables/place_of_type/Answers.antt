-- The place by the type's numbers.
use Rattle.std.proofs.Common.{◌∙◌}
use Rattle.check_types.proofs.TypePlaces.{type_place}
use Rattle.check_types.proofs.tables.place_of_type.Goals as goal

pub returns : goal.returns
returns c = c.find_ty.ensures ∙ type_place c.args.ty c.args.types.now.tys
