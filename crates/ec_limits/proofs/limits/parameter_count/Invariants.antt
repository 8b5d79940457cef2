use Rattle.std.proofs.Common.{◌≡◌, length, drop}
use Rattle.std.specs.Prelude.{max}
use Rattle.c_types.specs.declared.types.FunTy.{FunTy}
use Rattle.ec_limits.specs.Limits.{greatest_by}
use Rattle.ec_limits.proofs.limits.parameter_count.Given as goal

abbrev pub invariant-loop-f : goal.invariant-loop-f
invariant-loop-f l = max l.most (greatest_by (λ (f : FunTy). length f.params) (drop l.f-index l.funs)) ≡ greatest_by (λ (f : FunTy). length f.params) l.funs
