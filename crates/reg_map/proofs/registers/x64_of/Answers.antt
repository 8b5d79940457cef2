use Rattle.std.proofs.Common.{◌≡◌, ◌≢◌, ◌↔◌, Option, Some, IsNone, subst, sym}
use Rattle.reg_map.specs.declared.registers.X64Reg.{X64Reg}
use Rattle.reg_map.specs.Table.{arm_number}
use Rattle.reg_map.proofs.TableLaws.{x64_at-exact, x64_at-outside}
use Rattle.reg_map.proofs.registers.x64_of.Goals as goal

pub returns-clause-exact : goal.returns-clause-exact
returns-clause-exact c q =
    subst (λ (o : Option X64Reg). (o ≡ Some q) ↔ (arm_number q ≡ c.args.r.0)) (sym c.x64_numbered.ensures)
    (x64_at-exact c.args.r.0 q)

pub returns-clause-outside : goal.returns-clause-outside
returns-clause-outside c =
    subst (λ (o : Option X64Reg). IsNone o ↔ ((q : X64Reg) → arm_number q ≢ c.args.r.0)) (sym c.x64_numbered.ensures)
    (x64_at-outside c.args.r.0)
