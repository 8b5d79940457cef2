-- What is known of a table's sizes is right: this project's own note beside the layout of types, which stands in c_types
-- with its sources.
use Rattle.c_types.specs.declared.types.Types.{Types}
use Rattle.measured_types.specs.Measures.{AreMeasures}
use Rattle.type_sizes.specs.declared.sizes.Sizes.{Sizes}

abbrev pub AreSizes : Types → Sizes → Type 0
AreSizes t s = AreMeasures t s.elements.items s.structs.items
