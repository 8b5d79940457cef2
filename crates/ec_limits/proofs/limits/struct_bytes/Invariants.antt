use Rattle.std.proofs.Common.{◌≡◌}
use Rattle.c_types.specs.Layout.{size_of}
use Rattle.c_types.specs.declared.types.Ty.TheVariants.{Struct}
use Rattle.ec_limits.specs.Limits.{greatest_below}
use Rattle.ec_limits.proofs.limits.struct_bytes.Given as goal

abbrev pub invariant-loop-place : goal.invariant-loop-place
invariant-loop-place l = l.most ≡ greatest_below l.place (λ k. size_of l.types (Struct k))
